-- What is asked of a query beside its text: a query of the language is not too large and no answer variable of it is in no atom.
use Rattle.std.proofs.Common.{◌≡◌, ℕ, List, ◌∷◌, Contains, sym, ◌∙◌, subst}
use Rattle.std.proofs.lemmas.List.Elements.{All-contains, Contains-append_right}
use Rattle.dl_base.specs.Query.{Question, IsQuery}
use Rattle.dl_base.proofs.DerivationLemmas.{all-by}
use Rattle.dl_base.proofs.RisingLemmas.{contains_first}
use Rattle.cq_reader.specs.QueryLimits.{IsBoundVariable, IsFirstUnbound, IsTooLarge}
use Rattle.cq_reader.proofs.TermCounts.{small_not_too_large}
use Rattle.script_reader.proofs.ListLemmas.{first_once}

pub not_large : (q : Question) → IsQuery q → IsTooLarge q → ⊥
not_large q is = small_not_too_large q (record { atoms = is.atoms; answers = is.answers; terms = is.distinct })

pub not_unsafe : (q : Question) (v : List ℕ) → IsQuery q → IsFirstUnbound q v → ⊥
not_unsafe q v is first =
    first.here (All-contains (IsBoundVariable q) q.answers v is.safe
    (subst (λ (vs : List (List ℕ)). Contains vs v) (sym first.parts) (Contains-append_right first.before (v ∷ first.after) v (contains_first v first.after))))

-- the first of them is one
pub unbound_once : (q : Question) (v w : List ℕ) → IsFirstUnbound q v → IsFirstUnbound q w → v ≡ w
unbound_once q v w a b =
    first_once (IsBoundVariable q) a.before b.before v w a.after b.after (sym a.parts ∙ b.parts) (all-by (IsBoundVariable q) a.before a.bound) (all-by (IsBoundVariable q) b.before b.bound) a.here b.here
