-- The orders of rows among individuals and of witnesses.
use Rattle.std.proofs.Common.{◌≡◌, ◌≢◌, Bool, true, false, ℕ, ◌<◌, ◌≤◌, ◌⊎◌, inl, inr, refl, arith}
use Rattle.std.specs.Cmp.{IsTotalOrder}
use Rattle.std.specs.declared.cmp.Ordering.{Ordering}
use Rattle.std.specs.declared.cmp.Ordering.TheVariants.{Less, Equal, Greater}
use Rattle.std.specs.Ordering.{ordering_then, nat_cmp}
use Rattle.std.proofs.lemmas.Bool.Decides.{nat_tests}
use Rattle.std.proofs.lemmas.Cmp.{nat_cmp_total, on_total, then_total}
use Rattle.dl_base.proofs.ElemLemmas.{elem_total, elem_same}
use Rattle.dl_base.proofs.RisingLemmas.{nat_same}
use Rattle.dl_base.proofs.RowLemmas.{then_first, then_second}
use Rattle.dl_base.specs.Tables.{witness_cmp}
use Rattle.dl_base.specs.declared.element.Elem.TheVariants as elem
use Rattle.dl_base.specs.declared.element.Witness.{Witness}
use Rattle.dl_base.specs.contracts.element.WitnessOrd.TheImpl.{ghosts as witness_order}
use Rattle.completion.specs.EdgeLists.{edge_cmp}
use Rattle.completion.specs.declared.edges.Edge.{Edge}

pub edge_total : IsTotalOrder edge_cmp
edge_total = then_total (on_total (λ x. x.role) nat_cmp_total) (then_total (on_total (λ x. x.from) nat_cmp_total) (on_total (λ x. x.to) nat_cmp_total))

-- what compares as equal is equal
pub edge_same : (x y : Edge) → edge_cmp x y ≡ Equal → x ≡ y
edge_same x y e =
    let rest = then_second (nat_cmp x.role y.role) _ e in
    let f = nat_same x.role y.role (then_first _ _ e) in
    let g = nat_same x.from y.from (then_first _ _ rest) in
    let h = nat_same x.to y.to (then_second (nat_cmp x.from y.from) _ rest) in
    λ j. record { role = f j; from = g j; to = h j }

pub witness_total : IsTotalOrder witness_cmp
witness_total = on_total elem.Shared elem_total

pub witness_same : (w v : Witness) → witness_cmp w v ≡ Equal → w ≡ v
witness_same w v e = let same : elem.Shared w ≡ elem.Shared v = elem_same (elem.Shared w) (elem.Shared v) e in cc

-- witnesses are compared so
abbrev compared : Witness → Witness → Ordering
compared = witness_order.cmp

then_then : (q r s : Ordering) → ordering_then (ordering_then q r) s ≡ ordering_then q (ordering_then r s)
then_then Less r s = refl
then_then Equal r s = refl
then_then Greater r s = refl

abbrev with_way : Bool → Witness → Witness
with_way b u = record { role = record { name = u.role.name; inverse = b }; generation = u.generation }

compared_is : (w v : Witness) → compared w v ≡ witness_cmp w v
compared_is w v = by w.role.inverse v.role.inverse
  where
    by : (b d : Bool) → compared (with_way b w) (with_way d v) ≡ witness_cmp (with_way b w) (with_way d v)
    by false false = then_then (nat_cmp w.role.name v.role.name) Equal (nat_cmp w.generation v.generation)
    by false true = then_then (nat_cmp w.role.name v.role.name) Less (nat_cmp w.generation v.generation)
    by true false = then_then (nat_cmp w.role.name v.role.name) Greater (nat_cmp w.generation v.generation)
    by true true = then_then (nat_cmp w.role.name v.role.name) Equal (nat_cmp w.generation v.generation)

pub witness_order_is : witness_order.cmp ≡ witness_cmp
witness_order_is = λ j w v. compared_is w v j

-- what an order by one part and then another says
pub then_less : (r s : Ordering) → ordering_then r s ≡ Less → (r ≡ Less) ⊎ ((r ≡ Equal) × (s ≡ Less))
then_less Less s e = inl refl
then_less Equal s e = inr (refl, e)
then_less Greater s e = absurd cc

pub then_upto : (r s : Ordering) → ordering_then r s ≢ Greater → (r ≡ Less) ⊎ ((r ≡ Equal) × (s ≢ Greater))
then_upto Less s e = inl refl
then_upto Equal s e = inr (refl, e)
then_upto Greater s e = absurd (e refl)

pub nat_less : (n m : ℕ) → nat_cmp n m ≡ Less → n < m
nat_less n m e = grind (arith, nat_tests)

pub nat_upto : (n m : ℕ) → n ≤ m → nat_cmp n m ≢ Greater
nat_upto n m e = λ g. grind (arith, nat_tests)

pub nat_not_above : (n m : ℕ) → nat_cmp n m ≢ Greater → n ≤ m
nat_not_above n m e = by (nat_cmp n m) refl
  where
    by : (r : Ordering) → nat_cmp n m ≡ r → n ≤ m
    by Less f = let g = nat_less n m f in omega arith
    by Equal f = let g = nat_same n m f in omega arith
    by Greater f = absurd (e f)

-- by the role, and within it by the individuals
pub edge_less : (x y : Edge) → edge_cmp x y ≡ Less → (x.role < y.role) ⊎ ((x.role ≡ y.role) × ((x.from < y.from) ⊎ ((x.from ≡ y.from) × (x.to < y.to))))
edge_less x y e = elim (then_less _ _ e) [
  | inl f ↦ inl (nat_less _ _ f)
  | inr f ↦ inr (
    nat_same _ _ f.0,
    elim (then_less _ _ f.1) [
      | inl g ↦ inl (nat_less _ _ g)
      | inr g ↦ inr (nat_same _ _ g.0, nat_less _ _ g.1)
    ],
  )
]

pub edge_upto : (x y : Edge) → edge_cmp x y ≢ Greater → (x.role < y.role) ⊎ ((x.role ≡ y.role) × ((x.from < y.from) ⊎ ((x.from ≡ y.from) × (x.to ≤ y.to))))
edge_upto x y e = elim (then_upto (nat_cmp x.role y.role) _ e) [
  | inl f ↦ inl (nat_less _ _ f)
  | inr f ↦ inr (
    nat_same _ _ f.0,
    elim (then_upto (nat_cmp x.from y.from) _ f.1) [
      | inl g ↦ inl (nat_less _ _ g)
      | inr g ↦ inr (nat_same _ _ g.0, nat_not_above _ _ g.1)
    ],
  )
]
