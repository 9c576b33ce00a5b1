-- The distinct terms of a query, and the first unbound variable.
use Rattle.std.proofs.Common.{◌≡◌, ◌≢◌, ℕ, ◌+◌, ◌<◌, List, [], ◌∷◌, ◌++◌, length, take, get_or, drop, All, Contains, sym, ap, subst, ◌∙◌, append_assoc, arith, inr}
use Rattle.std.specs.Prelude.{flat_map, HoldsAt, ◌≤◌, Result, Ok, Err, IfOk, IfErr}
use Rattle.std.proofs.lemmas.List.{get_or_default, at_drop_more, take-append-drop, append-nil, take_more}
use Rattle.std.proofs.lemmas.List.Elements.{All-push, All-weaker, All-nil, All-contains, Contains-append_left, Contains-push}
use Rattle.std.proofs.lemmas.List.Quantifiers.{all_pairs_push}
use Rattle.std.proofs.lemmas.Grind.{flat_map-append}
use Rattle.dl_base.specs.Query.{Question, HasBareVariables, IsQuery, terms, terms_of}
use Rattle.dl_base.specs.declared.query.Term.TheVariants.{Var}
use Rattle.dl_base.specs.declared.query.Term.{Term}
use Rattle.dl_base.specs.declared.query.Atom.{Atom}
use Rattle.grammar.proofs.Exact.{IsValueOf}
use Rattle.cq_reader.specs.declared.query.QueryError.{QueryError}
use Rattle.cq_reader.specs.declared.query.QueryError.TheVariants.{Syntax, TooLarge, Unsafe, NoMemory}
use Rattle.cq_reader.specs.QueryText.{query}
use Rattle.cq_reader.specs.QueryFault.{MeansQuery, IsUnfit, IsRefused}
use Rattle.cq_reader.specs.QueryLimits.{AreDistinctOf, IsSmall, IsTooLarge, IsFirstUnbound}

pub distinct_none : AreDistinctOf [] []
distinct_none = record { distinct = λ i j d lt below. absurd (omega (arith, below)); within = All-nil _; each = All-nil _ }

pub distinct_known : (all found : List Term) (t : Term) → Contains found t → AreDistinctOf all found → AreDistinctOf (all ++ t ∷ []) found
distinct_known all found t there a = record {
  distinct = a.distinct;
  within = All-weaker (Contains all) (Contains (all ++ t ∷ [])) (λ x c. Contains-append_left all (t ∷ []) x c) found a.within;
  each = All-push (Contains found) all t a.each there;
}

pub distinct_added : (all found : List Term) (t : Term) → (Contains found t → ⊥) → AreDistinctOf all found → AreDistinctOf (all ++ t ∷ []) (found ++ t ∷ [])
distinct_added all found t absent a = record {
  distinct = all_pairs_push (λ x y. x ≢ y) found t a.distinct (λ k d below e. absent (k, below, same k d below ∙ e));
  within = All-push (Contains (all ++ t ∷ [])) found t (All-weaker (Contains all) (Contains (all ++ t ∷ [])) (λ x c. Contains-append_left all (t ∷ []) x c) found a.within) (Contains-push all t);
  each = All-push (Contains (found ++ t ∷ [])) all t (All-weaker (Contains found) (Contains (found ++ t ∷ [])) (λ x c. Contains-append_left found (t ∷ []) x c) all a.each) (Contains-push found t);
}
  where
    same : (k : ℕ) (d : Term) → k < length found → get_or found k t ≡ get_or found k d
    same k d below = get_or_default found k t d below

pub distinct_two : (all found : List Term) (s t : Term) → AreDistinctOf ((all ++ s ∷ []) ++ t ∷ []) found → AreDistinctOf (all ++ s ∷ t ∷ []) found
distinct_two all found s t a = rw (sym (append_assoc all (s ∷ []) (t ∷ []))) a

pub ruleset adding = (distinct_none, distinct_two)

pub terms_more : (atoms : List Atom) (i : ℕ) (d : Atom) → i < length atoms → flat_map terms_of (take (i + 1) atoms) ≡ flat_map terms_of (take i atoms) ++ terms_of (get_or atoms i d)
terms_more atoms i d below =
    ap (λ (a : List Atom). flat_map terms_of a) (take_more atoms i d below)
    ∙ flat_map-append terms_of (take i atoms) (get_or atoms i d ∷ [])
    ∙ ap (λ (a : List Term). flat_map terms_of (take i atoms) ++ a) (append-nil (terms_of (get_or atoms i d)))

-- ---- what is asked of a query, by its distinct terms

module _ (q : Question) (found : List Term) (a : AreDistinctOf (terms q) found) where
  pub too_large_of : 24 < length found → IsTooLarge q
  too_large_of more = inr (inr record { some = found; distinct = a.distinct; within = a.within; more = more })

  pub small_of : length q.atoms ≤ 24 → length q.answers ≤ 24 → length found ≤ 24 → IsSmall q
  small_of atoms answers few = record { atoms = atoms; answers = answers; terms = record { few = found; count = few; each = a.each } }

  bound_of : (v : List ℕ) → Contains found (Var v) → Contains (terms q) (Var v)
  bound_of v there = All-contains (Contains (terms q)) found (Var v) a.within there

  pub query_of : IsSmall q → 1 ≤ length q.atoms → HasBareVariables q → All (λ v. Contains found (Var v)) q.answers → IsQuery q
  query_of small some bare bound = record {
    some = some;
    atoms = small.atoms;
    answers = small.answers;
    distinct = small.terms;
    safe = All-weaker (λ v. Contains found (Var v)) (λ v. Contains (terms q) (Var v)) bound_of q.answers bound;
    variables = bare;
  }

  pub unbound_of : (i : ℕ) (v : List ℕ) → i < length q.answers → v ≡ get_or q.answers i v → All (λ v. Contains found (Var v)) (take i q.answers) → HoldsAt (λ v. Contains found (Var v) → ⊥) q.answers i → IsFirstUnbound q v
  unbound_of i v below at bound here = record {
    before = take i q.answers;
    after = drop (i + 1) q.answers;
    parts = sym (take-append-drop i q.answers) ∙ at_drop_more (λ (l : List (List ℕ)). take i q.answers ++ l) q.answers i v below ∙ ap (λ (w : List ℕ). take i q.answers ++ w ∷ drop (i + 1) q.answers) (sym at);
    bound = All-weaker (λ v. Contains found (Var v)) (λ v. Contains (terms q) (Var v)) bound_of (take i q.answers) bound;
    here = λ there. here v (subst (λ (w : List ℕ). Contains found (Var w)) at (All-contains (Contains found) (terms q) (Var v) a.each there));
  }

-- ---- what an answer says of a query, it says of its text

pub ok_more : {A E : Type 0} {P Q : A → Type 0} (r : Result A E) → ((x : A) → P x → Q x) → IfOk r P → IfOk r Q
ok_more (Ok x) f p = f x p
ok_more (Err e) f p = tt

pub means_of : {text : List ℕ} {q : Question} → IsValueOf query text q → MeansQuery text q
means_of v = record { is = v.is; only = v.only }

pub some_atoms : (text : List ℕ) (q : Question) → query text q → 1 ≤ length q.atoms
some_atoms text q s =
    let others = s.in_second.in_second.in_second.in_second.in_second.in_second.in_second.in_second.in_second in
    subst (λ (a : Question). 1 ≤ length a.atoms) (sym others.in_second.1) (omega arith)

pub passes : (text : List ℕ) (q : Question) (r : Result Question QueryError) → MeansQuery text q → IfOk r (λ found. (found ≡ q) × IsQuery found) → IfOk r (λ found. MeansQuery text found × IsQuery found)
passes text q (Ok found) m p = (subst (λ (a : Question). MeansQuery text a) (sym p.0) m, p.1)
passes text q (Err e) m p = tt

pub refuses : (text : List ℕ) (q : Question) (r : Result Question QueryError) → MeansQuery text q → IfErr r (λ e. IsUnfit q e) → IfErr r (λ e. IsRefused text e)
refuses text q (Ok found) m p = tt
refuses text q (Err (Syntax place)) m p = absurd p
refuses text q (Err TooLarge) m p = (q, m, p)
refuses text q (Err (Unsafe v)) m p = (q, m, p.0, p.1)
refuses text q (Err NoMemory) m p = tt
