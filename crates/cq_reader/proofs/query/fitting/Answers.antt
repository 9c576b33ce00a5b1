use Rattle.std.proofs.Common.{◌≡◌, ℕ, ◌<◌, ◌≤◌, List, All, Contains, length, take, get_or, subst, sym}
use Rattle.std.specs.Prelude.{flat_map, HoldsAt}
use Rattle.dl_base.specs.Query.{Question, terms_of}
use Rattle.dl_base.specs.declared.query.Term.{Term}
use Rattle.dl_base.specs.declared.query.Term.TheVariants.{Var}
use Rattle.dl_base.specs.declared.query.Atom.{Atom}
use Rattle.cq_reader.specs.QueryLimits.{AreDistinctOf}
use Rattle.cq_reader.proofs.LimitRules.{too_large_of, small_of, query_of, unbound_of}
use Rattle.cq_reader.proofs.query.fitting.Goals as goal

pub returns-then-items-gt-LIMIT-3-clause-refused : goal.returns-then-items-gt-LIMIT-3-clause-refused
returns-then-items-gt-LIMIT-3-clause-refused c =
    let found = c.in_ok-terms.terms in
    let q : Question = record { answers = c.draft.inside.answers; atoms = c.draft.inside.atoms } in
    let distinct = subst (λ (l : List Atom). AreDistinctOf (flat_map terms_of l) found) c.items-2.ensures c.in_ok-terms.ensures in
    rw (sym c.draft.view_is) (too_large_of q found distinct (subst (λ (l : List Term). 24 < length l) c.items-3.ensures c.if-items-gt-LIMIT-3.true))

pub new-requires : goal.new-requires
new-requires c =
    let found = c.in_ok-terms.terms in
    let q : Question = record { answers = c.draft.inside.answers; atoms = c.draft.inside.atoms } in
    let distinct = subst (λ (l : List Atom). AreDistinctOf (flat_map terms_of l) found) c.items-2.ensures c.in_ok-terms.ensures in
    let answers = subst (λ (l : List (List ℕ)). length l ≤ 24) c.items.ensures c.if-items-gt-LIMIT.false in
    let atoms = subst (λ (l : List Atom). length l ≤ 24) c.items-else-items-gt-LIMIT.ensures c.if-items-gt-LIMIT-2.false in
    let few = subst (λ (l : List Term). length l ≤ 24) c.items-3.ensures c.if-items-gt-LIMIT-3.false in
    let bound = subst (λ (l : List (List ℕ)). All (λ v. Contains c.items-5.result.now (Var v)) l) c.items-4.ensures c.in-None.ensures in
    query_of q found distinct (small_of q found distinct atoms answers few) (rw (sym c.draft.view_is) at c.requires.some) (rw (sym c.draft.view_is) at c.requires.variables) (subst (λ (l : List Term). All (λ v. Contains l (Var v)) c.draft.inside.answers) c.items-5.ensures bound)

pub returns-in_ok-var-in-Some-clause-refused : goal.returns-in_ok-var-in-Some-clause-refused
returns-in_ok-var-in-Some-clause-refused c =
    let found = c.in_ok-terms.terms in
    let var = c.index-items-place.result in
    let q : Question = record { answers = c.draft.inside.answers; atoms = c.draft.inside.atoms } in
    let distinct = subst (λ (l : List Atom). AreDistinctOf (flat_map terms_of l) found) c.items-2.ensures c.in_ok-terms.ensures in
    let answers = subst (λ (l : List (List ℕ)). length l ≤ 24) c.items.ensures c.if-items-gt-LIMIT.false in
    let atoms = subst (λ (l : List Atom). length l ≤ 24) c.items-else-items-gt-LIMIT.ensures c.if-items-gt-LIMIT-2.false in
    let few = subst (λ (l : List Term). length l ≤ 24) c.items-3.ensures c.if-items-gt-LIMIT-3.false in
    let place = c.in-Some.place in
    let at = subst (λ (l : List (List ℕ)). var ≡ get_or l place var) c.items-in-Some.ensures c.index-items-place.is in
    let Unbound : List (List ℕ) → List Term → Type 0 =
    λ vars ts. (place < length vars) × All (λ v. Contains ts (Var v)) (take place vars) × HoldsAt (λ v. Contains ts (Var v) → ⊥) vars place in
    let here = subst (λ (l : List Term). Unbound c.draft.inside.answers l) c.items-5.ensures (subst (λ (l : List (List ℕ)). Unbound l c.items-5.result.now) c.items-4.ensures c.in-Some.ensures) in
    rw (sym c.draft.view_is) (small_of q found distinct atoms answers few, rw c.in_ok-var-in-Some.ensures (unbound_of q found distinct place var here.0 at here.1 here.2))
