-- What can be decided of elements, lists, rows and matches.
use Rattle.std.proofs.Common.{◌≡◌, ℕ, zero, suc, ◌⊎◌, inl, inr, Bool, true, false, List, [], ◌∷◌, Option, Some, None, slice_get, Contains, refl, sym, ◌∙◌, ap, subst, arith, true≢false}
use Rattle.std.specs.Cmp.{IsTotalOrder}
use Rattle.std.specs.declared.cmp.Ordering.{Ordering}
use Rattle.std.specs.declared.cmp.Ordering.TheVariants.{Less, Equal, Greater}
use Rattle.std.specs.Ordering.{nat_cmp}
use Rattle.std.proofs.lemmas.Cmp.{nat_cmp_total, tied_itself}
use Rattle.std.proofs.lemmas.Option.{same_Some}
use Rattle.dl_base.specs.Tables.{TableRow, ConceptRow, RoleRow, edge_row, elem_cmp}
use Rattle.dl_base.specs.declared.element.Elem.{Elem}
use Rattle.dl_base.specs.declared.element.Elem.TheVariants as elem
use Rattle.dl_base.proofs.ElemLemmas.{elem_total, elem_same}
use Rattle.dl_base.proofs.RisingLemmas.{contains_cases, contains_later, contains_first, nat_same}
use Rattle.query_shape.specs.Shape.{HoldsAt}
use Rattle.query_shape.specs.declared.layout.ShapeAtom.{ShapeAtom}
use Rattle.query_shape.specs.declared.layout.ShapeAtom.TheVariants as shape

-- ---- what can be decided

-- the fact holds, or it doesn't
abbrev pub Decided : Type 0 → Type 0
Decided P = P ⊎ (P → ⊥)

pub decide_test : (b : Bool) → Decided (b ≡ true)
decide_test true = inl refl
decide_test false = inr (λ e. true≢false (sym e))

pub decide_both : {P Q : Type 0} → Decided P → Decided Q → Decided (P × Q)
decide_both (inl p) (inl q) = inl (p, q)
decide_both (inl p) (inr fails) = inr (λ both. fails both.1)
decide_both (inr fails) d = inr (λ both. fails both.0)

pub decide_as : {P Q : Type 0} → (P → Q) → (Q → P) → Decided P → Decided Q
decide_as into back (inl p) = inl (into p)
decide_as into back (inr fails) = inr (λ q. fails (back q))

-- two of an order's values are equal or not
pub decide_same : {X : Type 0} (cmp : X → X → Ordering) → IsTotalOrder cmp → ((x y : X) → cmp x y ≡ Equal → x ≡ y) → (x y : X) → Decided (x ≡ y)
decide_same {X} cmp total same x y = by (cmp x y) refl
  where
    tied : x ≡ y → cmp x y ≡ Equal
    tied e = subst (λ (z : X). cmp x z ≡ Equal) e (tied_itself total x)

    by : (r : Ordering) → cmp x y ≡ r → Decided (x ≡ y)
    by Less e = inr (λ p. let t : cmp x y ≡ Equal = tied p in cc)
    by Equal e = inl (same x y e)
    by Greater e = inr (λ p. let t : cmp x y ≡ Equal = tied p in cc)

pub decide_nat : (m n : ℕ) → Decided (m ≡ n)
decide_nat = decide_same nat_cmp nat_cmp_total nat_same

pub decide_elem : (e f : Elem) → Decided (e ≡ f)
decide_elem = decide_same elem_cmp elem_total elem_same

pub decide_member : {X : Type 0} → ((x y : X) → Decided (x ≡ y)) → (xs : List X) (x : X) → Decided (Contains xs x)
decide_member same [] x = inr (λ c. absurd (omega (arith, c.1)))
decide_member same (y ∷ ys) x = by (same x y) (decide_member same ys x)
  where
    other : (x ≡ y → ⊥) → (Contains ys x → ⊥) → (x ≡ y) ⊎ Contains ys x → ⊥
    other fails none (inl e) = fails e
    other fails none (inr d) = none d

    by : Decided (x ≡ y) → Decided (Contains ys x) → Decided (Contains (y ∷ ys) x)
    by (inl e) d = inl (0, omega arith, sym e)
    by (inr fails) (inl c) = inl (contains_later y ys x c)
    by (inr fails) (inr none) = inr (λ c. other fails none (contains_cases y ys x c))

pub decide_each : {X : Type 0} (P : X → Type 0) → ((x : X) → Decided (P x)) → (xs : List X) → Decided ((x : X) → Contains xs x → P x)
decide_each P decide [] = inl (λ x c. absurd (omega (arith, c.1)))
decide_each {X} P decide (y ∷ ys) = by (decide y) (decide_each P decide ys)
  where
    all : P y → ((x : X) → Contains ys x → P x) → (x : X) → (x ≡ y) ⊎ Contains ys x → P x
    all here later x (inl e) = subst P (sym e) here
    all here later x (inr d) = later x d

    by : Decided (P y) → Decided ((x : X) → Contains ys x → P x) → Decided ((x : X) → Contains (y ∷ ys) x → P x)
    by (inl here) (inl later) = inl (λ x c. all here later x (contains_cases y ys x c))
    by (inl here) (inr fails) = inr (λ each. fails (λ x c. each x (contains_later y ys x c)))
    by (inr fails) d = inr (λ each. fails (each y (contains_first y ys)))

decide_row : (x y : TableRow) → Decided (x ≡ y)
decide_row (ConceptRow c e) (ConceptRow d f) =
    decide_as (λ p i. ConceptRow (p.0 i) (p.1 i)) parts (decide_both (decide_nat c d) (decide_elem e f))
  where
    parts : ConceptRow c e ≡ ConceptRow d f → (c ≡ d) × (e ≡ f)
    parts p = let concept : c ≡ d = cc in let element : e ≡ f = cc in (concept, element)
decide_row (RoleRow p e f) (RoleRow q g h) =
    decide_as (λ r i. RoleRow (r.0 i) (r.1.0 i) (r.1.1 i)) parts (decide_both (decide_nat p q) (decide_both (decide_elem e g) (decide_elem f h)))
  where
    parts : RoleRow p e f ≡ RoleRow q g h → (p ≡ q) × ((e ≡ g) × (f ≡ h))
    parts r = let role : p ≡ q = cc in let from : e ≡ g = cc in let to : f ≡ h = cc in (role, (from, to))
decide_row (ConceptRow c e) (RoleRow q g h) = inr (λ r. cc)
decide_row (RoleRow p e f) (ConceptRow d g) = inr (λ r. cc)

-- an atom holds at these images, or not
pub decide_holds : (table : List TableRow) (images : List Elem) (a : ShapeAtom) → Decided (HoldsAt table images a)
decide_holds table images (shape.Concept c n) = by (slice_get images n) refl
  where
    by : (r : Option Elem) → slice_get images n ≡ r → Decided ((e : Elem) × (slice_get images n ≡ Some e) × Contains table (ConceptRow c e))
    by None at = inr (λ h. let none : None ≡ Some h.0 = sym at ∙ h.1 in cc)
    by (Some e) at =
        decide_as (λ row. (e, at, row)) (λ h. subst (λ (x : Elem). Contains table (ConceptRow c x)) (same_Some h.0 e (sym h.1 ∙ at)) h.2) (decide_member decide_row table (ConceptRow c e))
decide_holds table images (shape.Role r n m) = by (slice_get images n) refl (slice_get images m) refl
  where
    by : (p : Option Elem) → slice_get images n ≡ p → (q : Option Elem) → slice_get images m ≡ q
        → Decided ((e : Elem) × (f : Elem) × (slice_get images n ≡ Some e) × (slice_get images m ≡ Some f) × Contains table (edge_row r e f))
    by None at q to = inr (λ h. let none : None ≡ Some h.0 = sym at ∙ h.2 in cc)
    by (Some e) at None to = inr (λ h. let none : None ≡ Some h.1 = sym to ∙ h.3 in cc)
    by (Some e) at (Some f) to =
        decide_as (λ row. (e, f, at, to, row))
        (λ h. subst (λ (x : Elem). Contains table (edge_row r x f)) (same_Some h.0 e (sym h.2 ∙ at)) (subst (λ (y : Elem). Contains table (edge_row r h.0 y)) (same_Some h.1 f (sym h.3 ∙ to)) h.4))
        (decide_member decide_row table (edge_row r e f))

-- ---- terms that have to stand on individuals

abbrev pub StandOn : List (Option ℕ) → List Elem → Type 0
StandOn fixed images = (k n : ℕ) → slice_get fixed k ≡ Some (Some n) → slice_get images k ≡ Some (elem.Named n)

decide_first : (o : Option ℕ) (images : List Elem) → Decided ((n : ℕ) → o ≡ Some n → slice_get images 0 ≡ Some (elem.Named n))
decide_first None images = inl (λ n e. absurd cc)
decide_first (Some m) images = by (slice_get images 0) refl
  where
    by : (r : Option Elem) → slice_get images 0 ≡ r → Decided ((n : ℕ) → Some m ≡ Some n → slice_get images 0 ≡ Some (elem.Named n))
    by None at = inr (λ each. let none : None ≡ Some (elem.Named m) = sym at ∙ each m refl in cc)
    by (Some e) at =
        decide_as (λ is n same. at ∙ ap Some (is ∙ ap elem.Named (same_Some m n same))) (λ each. same_Some e (elem.Named m) (sym at ∙ each m refl)) (decide_elem e (elem.Named m))

stand_more : (o : Option ℕ) (rest : List (Option ℕ)) (images tail : List Elem) → ((k : ℕ) → slice_get images (suc k) ≡ slice_get tail k)
    → ((n : ℕ) → o ≡ Some n → slice_get images 0 ≡ Some (elem.Named n)) → StandOn rest tail → StandOn (o ∷ rest) images
stand_more o rest images tail same first later zero n e = first n (same_Some o (Some n) e)
stand_more o rest images tail same first later (suc k) n e = same k ∙ later k n e

decide_more : (o : Option ℕ) (rest : List (Option ℕ)) (images tail : List Elem) → ((k : ℕ) → slice_get images (suc k) ≡ slice_get tail k)
    → Decided (StandOn rest tail) → Decided (StandOn (o ∷ rest) images)
decide_more o rest images tail same later =
    decide_as (λ both. stand_more o rest images tail same both.0 both.1) (λ stand. (λ n e. stand 0 n (ap Some e), λ k n e. sym (same k) ∙ stand (suc k) n e))
    (decide_both (decide_first o images) later)

pub decide_stand : (fixed : List (Option ℕ)) (images : List Elem) → Decided (StandOn fixed images)
decide_stand [] images = inl (λ k n e. absurd cc)
decide_stand (o ∷ rest) [] = decide_more o rest [] [] (λ k. refl) (decide_stand rest [])
decide_stand (o ∷ rest) (e ∷ es) = decide_more o rest (e ∷ es) es (λ k. refl) (decide_stand rest es)
