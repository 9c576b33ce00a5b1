-- The generations of a small base.
use Rattle.std.proofs.Common.{◌≡◌, ℕ, ◌⊎◌, inl, inr, true, false, List, [], ◌∷◌, Contains, Some, refl, sym, ◌∙◌, ap, subst, codes, arith}
use Rattle.dl_base.specs.Completion.{IsLive, RolePoints}
use Rattle.dl_base.specs.Derivation.{Derives, DerivesAll, inverse, leaf, node, none, each}
use Rattle.dl_base.specs.Laws.{direct_at, implies, inverted_at, successors}
use Rattle.dl_base.specs.Ontology.{Terminology}
use Rattle.dl_base.specs.Rows.{HasConceptRow, HasRow}
use Rattle.dl_base.specs.declared.concept.Basic.{Basic}
use Rattle.dl_base.specs.declared.concept.Basic.TheVariants as basic
use Rattle.dl_base.specs.declared.concept.Head.TheVariants as head
use Rattle.dl_base.specs.declared.concept.Inclusion.{Inclusion}
use Rattle.dl_base.specs.declared.concept.Role.{Role}
use Rattle.dl_base.specs.declared.row.NamedRow.{NamedRow}
use Rattle.dl_base.specs.declared.row.NamedRow.TheVariants as row
use Rattle.dl_base.specs.declared.row.NamedChange.{NamedChange}
use Rattle.dl_base.proofs.Examples.{first_item, only_item}
use Rattle.dl_base.proofs.RisingLemmas.{contains_cases}
use Rattle.base_store.specs.History.{Over}
use Rattle.base_engine.specs.State.{IsLiveIn}
use Rattle.base_engine.specs.GenerationExamples.{BeginsAfresh, RisesWhereLive, StaysWhereDead, a_in_a, a_to_b, b_in_a, first_transactions, third_transactions, fourth_transactions}
use Rattle.base_engine.proofs.RowsOnce.{rows_once}
use Rattle.base_engine.proofs.RowsThere.{rows_are, rows_of}

-- ---- what is derived

head_is : (i : Inclusion) (b : Basic) → Contains successors.inclusions i → i.head ≡ head.Basic b → b ≡ basic.Exists (direct_at 0)
head_is i b there is =
    let same : i ≡ implies (basic.Concept 0) (head.Basic (basic.Exists (direct_at 0))) = only_item _ i there in
    let heads : head.Basic (basic.Exists (direct_at 0)) ≡ head.Basic b = sym (ap (λ (j : Inclusion). j.head) same) ∙ is in cc

derived_concept : (held : Basic → Type 0) → Derives successors.inclusions held (basic.Concept 0) → held (basic.Concept 0)
derived_concept held (leaf has) = has
derived_concept held (node i there is body) = absurd (let e = head_is i (basic.Concept 0) there is in cc)

body_is : (held : Basic → Type 0) → DerivesAll successors.inclusions held (basic.Concept 0 ∷ []) → held (basic.Concept 0)
body_is held (each d rest) = derived_concept held d

-- that there is a successor is held, or it is one by r of what is held to be in A
derived_role : (held : Basic → Type 0) (r : Role) → Derives successors.inclusions held (basic.Exists r) → held (basic.Exists r) ⊎ (held (basic.Concept 0) × (r ≡ direct_at 0))
derived_role held r (leaf has) = inl has
derived_role held r (node i there is body) =
    let same : i ≡ implies (basic.Concept 0) (head.Basic (basic.Exists (direct_at 0))) = only_item _ i there in
    let e = head_is i (basic.Exists r) there is in
    inr (body_is held (subst (λ (j : Inclusion). DerivesAll successors.inclusions held j.body) same body), cc)

-- no role points on behind another
no_next : (s r : Role) → RolePoints successors s r → ⊥
no_next s r points = elim (derived_role _ r points.derived) [
  | inl e ↦ points.not_back (same_exists e)
  | inr both ↦ absurd (let e = both.0 in cc)
]
  where
    same_exists : basic.Exists r ≡ basic.Exists (inverse s) → r ≡ inverse s
    same_exists e = cc

-- whatever is live is r, and some individual in A has no successor by it in a row
live_by : (rows : List NamedRow) (r : Role) → IsLive successors rows r → (r ≡ direct_at 0) × ((a : List ℕ) × HasConceptRow successors rows 0 a × ((b : List ℕ) → HasRow successors rows r a b → ⊥))
live_by rows r (IsLive.first a points) = elim (derived_role _ r points.derived) [
  | inl h ↦ absurd (points.no_row h.0 h.1)
  | inr both ↦ (both.1, (a, both.0, points.no_row))
]
live_by rows r (IsLive.next {s = s} live points) = absurd (no_next s r points)

named_a : (rows : List NamedRow) (a : List ℕ) (h : HasConceptRow successors rows 0 a) → Contains rows (row.Concept (codes "A") a)
named_a rows a h = subst (λ (n : List ℕ). Contains rows (row.Concept n a)) (let e : Some (codes "A") ≡ Some h.name = h.named in cc) h.there

-- ---- the histories

-- the role is live in the history by the rows that it has
live_in : (es : List (List NamedChange)) (r : Role) → IsLive successors (rows_of (Over successors es)) r → IsLiveIn (Over successors es) r
live_in es r live = record { o = successors; rows = rows_of (Over successors es); base = record { ontology_is = refl; rows_are = rows_are (Over successors es) }; live = live }

of_rows : (es : List (List NamedChange)) (r : Role) → IsLiveIn (Over successors es) r → IsLive successors (rows_of (Over successors es)) r
of_rows es r live =
    subst (λ (rows : List NamedRow). IsLive successors rows r) (rows_once (Over successors es) live.rows (rows_of (Over successors es)) live.base.rows_are (rows_are (Over successors es)))
    (subst (λ (o : Terminology). IsLive o live.rows r) (let e : Some live.o ≡ Some successors = sym live.base.ontology_is in cc) live.live)

-- a is in A, and no row is of a role
a_points : (rows : List NamedRow) → Contains rows a_in_a → ((p x y : List ℕ) → Contains rows (row.Role p x y) → ⊥) → IsLive successors rows (direct_at 0)
a_points rows there roles = IsLive.first (codes "a") (record {
  individual = (a_in_a, there, refl);
  derived = node (implies (basic.Concept 0) (head.Basic (basic.Exists (direct_at 0)))) (first_item _ []) refl (each (leaf (record { name = codes "A"; named = refl; there = there })) none);
  no_row = λ b h. roles h.name (codes "a") b h.there;
})

one_row : (p x y : List ℕ) → Contains (a_in_a ∷ []) (row.Role p x y) → ⊥
one_row p x y there = let e = only_item a_in_a (row.Role p x y) there in cc

two_rows : (p x y : List ℕ) → Contains (a_in_a ∷ b_in_a ∷ []) (row.Role p x y) → ⊥
two_rows p x y there = elim (contains_cases a_in_a (b_in_a ∷ []) (row.Role p x y) there) [
  | inl e ↦ absurd cc
  | inr d ↦ absurd (let e = only_item b_in_a (row.Role p x y) d in cc)
]

first_live : IsLiveIn (Over successors first_transactions) (direct_at 0)
first_live = live_in first_transactions (direct_at 0) (a_points (a_in_a ∷ []) (first_item a_in_a []) one_row)

fourth_live : IsLiveIn (Over successors fourth_transactions) (direct_at 0)
fourth_live = live_in fourth_transactions (direct_at 0) (a_points (a_in_a ∷ []) (first_item a_in_a []) one_row)

none_dead : (r : Role) → IsLiveIn (Over successors []) r → ⊥
none_dead r live = (let h = (live_by [] r (of_rows [] r live)).1 in let c = h.1.there in omega (arith, c.1))

-- r leads from a to b
row_there : HasRow successors (a_in_a ∷ a_to_b ∷ []) (direct_at 0) (codes "a") (codes "b")
row_there = record { name = codes "r"; named = refl; there = (1, omega arith, refl) }

only_a : (a : List ℕ) → Contains (a_in_a ∷ a_to_b ∷ []) (row.Concept (codes "A") a) → codes "a" ≡ a
only_a a there = elim (contains_cases a_in_a (a_to_b ∷ []) (row.Concept (codes "A") a) there) [
  | inl e ↦ names e
  | inr d ↦ absurd (let e = only_item a_to_b (row.Concept (codes "A") a) d in cc)
]
  where
    names : row.Concept (codes "A") a ≡ a_in_a → codes "a" ≡ a
    names e = cc

third_rows_dead : IsLive successors (a_in_a ∷ a_to_b ∷ []) (direct_at 0) → ⊥
third_rows_dead live =
    let h = live_by (a_in_a ∷ a_to_b ∷ []) (direct_at 0) live in
    let is : codes "a" ≡ h.1.0 = only_a h.1.0 (named_a (a_in_a ∷ a_to_b ∷ []) h.1.0 h.1.1) in
    h.1.2 (codes "b") (subst (λ (a : List ℕ). HasRow successors (a_in_a ∷ a_to_b ∷ []) (direct_at 0) a (codes "b")) is row_there)

third_dead : IsLiveIn (Over successors third_transactions) (direct_at 0) → ⊥
third_dead live = third_rows_dead (of_rows third_transactions (direct_at 0) live)

inverse_dead : (es : List (List NamedChange)) → IsLiveIn (Over successors es) (inverted_at 0) → ⊥
inverse_dead es live =
    let same : inverted_at 0 ≡ direct_at 0 = (live_by (rows_of (Over successors es)) (inverted_at 0) (of_rows es (inverted_at 0) live)).0 in
    let e : true ≡ false = ap (λ (r : Role). r.inverse) same in cc

-- ---- the laws

pub rises_where_live : RisesWhereLive
rises_where_live g0 g1 g2 g3 g4 one two three four = (
  one.raised (direct_at 0) (record { now = first_live; not_before = none_dead (direct_at 0) }),
  two.kept (direct_at 0) (λ becomes. becomes.not_before first_live),
  three.kept (direct_at 0) (λ becomes. third_dead becomes.now),
  four.raised (direct_at 0) (record { now = fourth_live; not_before = third_dead }),
)

pub stays_where_dead : StaysWhereDead
stays_where_dead g0 g1 one = one.kept (inverted_at 0) (λ becomes. inverse_dead first_transactions becomes.now)

pub begins_afresh : BeginsAfresh
begins_afresh s t a b = (a.live (direct_at 0) fourth_live, a.others (inverted_at 0) (inverse_dead fourth_transactions), b.others (direct_at 0) third_dead)
