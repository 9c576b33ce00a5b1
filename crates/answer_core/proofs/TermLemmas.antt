-- Terms of a layout by their numbers.
use Rattle.std.proofs.Common.{◌≡◌, ℕ, ◌<◌, List, [], ◌∷◌, length, get_or, All, Contains, slice_get, Some, subst, sym}
use Rattle.std.specs.List.{AllZip}
use Rattle.std.proofs.lemmas.List.Elements.{All-cons, All-nil}
use Rattle.std.proofs.lemmas.Option.{slice_get_within}
use Rattle.dl_base.specs.Query.{Question, IsQuery, terms}
use Rattle.dl_base.specs.declared.query.Term.{Term}
use Rattle.dl_base.specs.declared.query.Term.TheVariants as term
use Rattle.query_shape.specs.Shape.{AreFirsts}
use Rattle.query_shape.proofs.NumberingLemmas.{firsts_into}
use Rattle.answer_core.specs.Binding.{IsKnownTerm}
use Rattle.answer_core.proofs.ListLemmas.{at_place}

-- what holds of the first so many terms
abbrev pub AllBefore : (Term → Type 0) → List Term → ℕ → Type 0
AllBefore P ts n = (k : ℕ) (t : Term) → k < n → slice_get ts k ≡ Some t → P t

pub known_names : (names : List (List ℕ)) (ts : List Term) → AllBefore (IsKnownTerm names) ts (length ts) → (a : List ℕ) → Contains ts (term.Named a) → Contains names a
known_names names ts all a there = let place = at_place ts (term.Named a) there in all place.0 (term.Named a) place.1 place.2

-- each answer variable has a number
pub answers_occur : (q : Question) (ts : List Term) → IsQuery q → AreFirsts (terms q) ts → (vs : List (List ℕ)) → vs ≡ q.answers → All (λ v. Contains ts (term.Var v)) vs
answers_occur q ts query occur vs is k d below =
    firsts_into occur (term.Var (get_or vs k d)) (subst (λ (names : List (List ℕ)). All (λ v. Contains (terms q) (term.Var v)) names) (sym is) query.safe k d below)

-- the numbers are of terms
pub numbers_within : (ts : List Term) (vs : List (List ℕ)) (ns : List ℕ) → AllZip (λ v n. slice_get ts n ≡ Some (term.Var v)) vs ns → All (λ n. n < length ts) ns
numbers_within ts [] [] zip = All-nil (λ n. n < length ts)
numbers_within ts [] (n ∷ ns) zip = absurd zip
numbers_within ts (v ∷ vs) [] zip = absurd zip
numbers_within ts (v ∷ vs) (n ∷ ns) zip = All-cons (λ n. n < length ts) n ns (slice_get_within ts n (term.Var v) zip.0) (numbers_within ts vs ns zip.1)
