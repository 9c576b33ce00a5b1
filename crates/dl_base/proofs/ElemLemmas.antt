-- The order of elements.
use Rattle.std.proofs.Common.{◌≡◌, ◌≢◌, ℕ, Bool, true, false, List, [], ◌∷◌, refl, sym, ap, subst}
use Rattle.std.specs.Cmp.{IsTotalOrder}
use Rattle.std.specs.Cmp.Lexicographic.{slice_cmp}
use Rattle.std.specs.declared.cmp.Ordering.{Ordering}
use Rattle.std.specs.declared.cmp.Ordering.TheVariants.{Less, Equal, Greater}
use Rattle.std.specs.Ordering.{ordering_then, nat_cmp, on}
use Rattle.std.proofs.lemmas.Cmp.{nat_list_cmp_total, on_total}
use Rattle.dl_base.specs.Clashes.{inverse_cmp}
use Rattle.dl_base.specs.Tables.{elem_cmp}
use Rattle.dl_base.specs.declared.element.Elem.{Elem}
use Rattle.dl_base.specs.declared.element.Elem.TheVariants as elem
use Rattle.dl_base.proofs.RisingLemmas.{nat_same}
use Rattle.dl_base.proofs.RowLemmas.{total_as, then_equal, then_first, then_second}

pub bit : Bool → ℕ
bit false = 0
bit true = 1

-- an element as numbers, so that elements are in the order of these
numbers_of : Elem → List ℕ
numbers_of (elem.Named n) = 0 ∷ n ∷ []
numbers_of (elem.Shared w) = 1 ∷ w.role.name ∷ bit w.role.inverse ∷ w.generation ∷ []

pub bit_cmp : (x y : Bool) → nat_cmp (bit x) (bit y) ≡ inverse_cmp x y
unfolding bit
bit_cmp false false = refl
bit_cmp false true = refl
bit_cmp true false = refl
bit_cmp true true = refl

by_numbers : (x y : Elem) → on numbers_of (slice_cmp nat_cmp) x y ≡ elem_cmp x y
unfolding numbers_of
by_numbers (elem.Named a) (elem.Named b) = then_equal (nat_cmp a b)
by_numbers (elem.Named a) (elem.Shared w) = refl
by_numbers (elem.Shared w) (elem.Named a) = refl
by_numbers (elem.Shared w) (elem.Shared v) =
    let direct = bit_cmp w.role.inverse v.role.inverse in
    let last = then_equal (nat_cmp w.generation v.generation) in
    λ j. ordering_then (nat_cmp w.role.name v.role.name) (ordering_then (direct j) (last j))

-- elements are ordered
pub elem_total : IsTotalOrder elem_cmp
elem_total = total_as (on numbers_of (slice_cmp nat_cmp)) elem_cmp by_numbers (on_total numbers_of nat_list_cmp_total)

pub inverse_same : (x y : Bool) → inverse_cmp x y ≡ Equal → x ≡ y
inverse_same false false e = refl
inverse_same false true e = absurd cc
inverse_same true false e = absurd cc
inverse_same true true e = refl

-- elements that compare as equal are equal
pub elem_same : (x y : Elem) → elem_cmp x y ≡ Equal → x ≡ y
elem_same (elem.Named a) (elem.Named b) e = ap elem.Named (nat_same a b e)
elem_same (elem.Named a) (elem.Shared w) e = absurd cc
elem_same (elem.Shared w) (elem.Named a) e = absurd cc
elem_same (elem.Shared w) (elem.Shared v) e =
    let name = nat_same w.role.name v.role.name (then_first _ _ e) in
    let rest = then_second (nat_cmp w.role.name v.role.name) _ e in
    let direct = inverse_same w.role.inverse v.role.inverse (then_first _ _ rest) in
    let last = nat_same w.generation v.generation (then_second (inverse_cmp w.role.inverse v.role.inverse) _ rest) in
    λ j. elem.Shared (record { role = record { name = name j; inverse = direct j }; generation = last j })

-- what isn't above an element that isn't above a third isn't above the third
pub upto_trans : (x y z : Elem) → elem_cmp x y ≢ Greater → elem_cmp y z ≢ Greater → elem_cmp x z ≢ Greater
upto_trans x y z first second = by (elem_cmp x y) refl (elem_cmp y z) refl
  where
    by : (r : Ordering) → elem_cmp x y ≡ r → (s : Ordering) → elem_cmp y z ≡ s → elem_cmp x z ≢ Greater
    by Less p Less q e = absurd (let less : elem_cmp x z ≡ Less = elem_total.trans x y z p q in cc)
    by r p Equal q e = absurd (first (subst (λ (w : Elem). elem_cmp x w ≡ Greater) (sym (elem_same y z q)) e))
    by Equal p s q e = absurd (second (subst (λ (w : Elem). elem_cmp w z ≡ Greater) (elem_same x y p) e))
    by Greater p s q e = absurd (first p)
    by r p Greater q e = absurd (second q)
