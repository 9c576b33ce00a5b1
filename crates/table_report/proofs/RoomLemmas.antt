-- How many elements of a table a loop over elements may still come to.
use Rattle.std.proofs.Common.{◌≡◌, ℕ, ◌+◌, ◌<◌, ◌≤◌, ◌⊎◌, inl, inr, if◌then◌else◌, List, [], ◌∷◌, Contains, Option, Some, None, refl, subst, arith}
use Rattle.std.specs.List.{flat_map}
use Rattle.std.specs.declared.cmp.Ordering.{Ordering}
use Rattle.std.specs.declared.cmp.Ordering.TheVariants.{Less, Equal, Greater}
use Rattle.std.specs.Ordering.{is_lt}
use Rattle.std.proofs.lemmas.Cmp.{tied_itself}
use Rattle.dl_base.specs.Tables.{TableRow, ConceptRow, RoleRow, elem_cmp, IsAbove}
use Rattle.dl_base.specs.declared.element.Elem.{Elem}
use Rattle.dl_base.proofs.ElemLemmas.{elem_total}
use Rattle.dl_base.proofs.PlaceLemmas.{flat_there}
use Rattle.dl_base.proofs.RisingLemmas.{contains_cases, contains_first, contains_later}

abbrev row_elements : TableRow → List Elem
row_elements (ConceptRow c e) = e ∷ []
row_elements (RoleRow p e f) = e ∷ f ∷ []

abbrev elements : List TableRow → List Elem
elements table = flat_map row_elements table

abbrev one_above : Option Elem → Elem → ℕ
one_above None x = 1
one_above (Some a) x = if is_lt (elem_cmp a x) then 1 else 0

-- how many of these are above
abbrev above : Option Elem → List Elem → ℕ
above last [] = 0
above last (x ∷ xs) = one_above last x + above last xs

-- how many elements of the table's rows are above
pub room : List TableRow → Option Elem → ℕ
room table last = above last (elements table)

one_fewer : (last : Option Elem) (e x : Elem) → IsAbove last e → one_above (Some e) x ≤ one_above last x
one_fewer None e x up = by (elem_cmp e x)
  where
    by : (r : Ordering) → (if is_lt r then 1 else 0) ≤ 1
    by Less = omega arith
    by Equal = omega arith
    by Greater = omega arith
one_fewer (Some a) e x up = by (elem_cmp e x) refl
  where
    by : (r : Ordering) → elem_cmp e x ≡ r → (if is_lt r then 1 else 0) ≤ (if is_lt (elem_cmp a x) then 1 else 0)
    by Less is = let far : elem_cmp a x ≡ Less = elem_total.trans a e x up is in rw far (omega arith)
    by Equal is = omega arith
    by Greater is = omega arith

one_less : (last : Option Elem) (e : Elem) → IsAbove last e → one_above (Some e) e < one_above last e
one_less None e up = let self : elem_cmp e e ≡ Equal = tied_itself elem_total e in rw self (omega arith)
one_less (Some a) e up = let self : elem_cmp e e ≡ Equal = tied_itself elem_total e in rw (self, up) (omega arith)

fewer : (last : Option Elem) (e : Elem) (xs : List Elem) → IsAbove last e → above (Some e) xs ≤ above last xs
fewer last e [] up = omega arith
fewer last e (x ∷ xs) up = omega (arith, one_fewer last e x up, fewer last e xs up)

falls : (last : Option Elem) (e : Elem) (xs : List Elem) → IsAbove last e → Contains xs e → above (Some e) xs < above last xs
falls last e [] up there = absurd (omega arith)
falls last e (x ∷ xs) up there = by (contains_cases x xs e there) (falls last e xs up)
  where
    by : (e ≡ x) ⊎ Contains xs e → (Contains xs e → above (Some e) xs < above last xs) → one_above (Some e) x + above (Some e) xs < one_above last x + above last xs
    by (inl is) rest =
        let here : one_above (Some e) x < one_above last x = subst (λ (y : Elem). one_above (Some e) y < one_above last y) is (one_less last e up) in
        omega (arith, here, fewer last e xs up)
    by (inr later) rest = omega (arith, one_fewer last e x up, rest later)

module _ (table : List TableRow) (last : Option Elem) where
  pub concept_falls : (c : ℕ) (e : Elem) → IsAbove last e → Contains table (ConceptRow c e) → room table (Some e) < room table last
  unfolding room
  concept_falls c e up there = falls last e (elements table) up (flat_there row_elements table (ConceptRow c e) e there (contains_first e []))

  pub from_falls : (p : ℕ) (e f : Elem) → IsAbove last e → Contains table (RoleRow p e f) → room table (Some e) < room table last
  unfolding room
  from_falls p e f up there = falls last e (elements table) up (flat_there row_elements table (RoleRow p e f) e there (contains_first e (f ∷ [])))

  pub to_falls : (p : ℕ) (e f : Elem) → IsAbove last f → Contains table (RoleRow p e f) → room table (Some f) < room table last
  unfolding room
  to_falls p e f up there = falls last f (elements table) up (flat_there row_elements table (RoleRow p e f) f there (contains_later e (f ∷ []) f (contains_first f [])))
