-- Whether a list of elements is found can be decided.
use Rattle.std.proofs.Common.{◌≡◌, inl, inr, ℕ, List, Option, Some, None, length, slice_get, refl, sym, ◌∙◌, ap, subst}
use Rattle.dl_base.specs.Tables.{TableRow, IsWitnessOf}
use Rattle.dl_base.specs.declared.concept.Role.{Role}
use Rattle.dl_base.specs.declared.element.Elem.{Elem}
use Rattle.dl_base.specs.declared.element.Elem.TheVariants as elem
use Rattle.dl_base.specs.declared.element.Witness.{Witness}
use Rattle.dl_base.proofs.PlaceLemmas.{some_same}
use Rattle.dl_base.proofs.RoleLemmas.{one_role_or_two}
use Rattle.query_shape.proofs.MatchList.{Decided, decide_as, decide_both, decide_each, decide_elem, decide_holds, decide_nat, decide_stand}
use Rattle.join_ops.specs.Conditions.{AreTwins, Meets}
use Rattle.join_ops.specs.Joins.{IsFound}
use Rattle.join_ops.specs.declared.condition.Condition.{Condition}
use Rattle.join_ops.specs.declared.condition.Condition.TheVariants as condition
use Rattle.join_ops.specs.declared.condition.Twins.{Twins}

decide_witness : (r : Role) (e : Elem) → Decided (IsWitnessOf r e)
decide_witness r (elem.Named n) = inr (λ is. let e : elem.Named n ≡ elem.Shared is.0 = is.1 in cc)
decide_witness r (elem.Shared w) =
    decide_as (λ is. (w, refl, is)) (λ is. let same : elem.Shared w ≡ elem.Shared is.0 = is.1 in let one : w ≡ is.0 = cc in ap (λ (v : Witness). v.role) one ∙ is.2) (one_role_or_two w.role r)

decide_if : {P Q : Type 0} → Decided P → Decided Q → Decided (P → Q)
decide_if d (inl q) = inl (λ p. q)
decide_if (inl p) (inr fails) = inr (λ h. fails (h p))
decide_if (inr never) (inr fails) = inl (λ p. absurd (never p))

decide_twins : (t : Twins) (elements : List Elem) → Decided (AreTwins t elements)
decide_twins t elements = by (slice_get elements t.parent) refl (slice_get elements t.child) refl (slice_get elements t.twin) refl
  where
    by : (p : Option Elem) → slice_get elements t.parent ≡ p → (c : Option Elem) → slice_get elements t.child ≡ c → (w : Option Elem) → slice_get elements t.twin ≡ w → Decided (AreTwins t elements)
    by None at c child w twin = inr (λ h. let none : None ≡ Some h.parent = sym at ∙ h.parent_is in cc)
    by (Some p) at None child w twin = inr (λ h. let none : None ≡ Some h.child = sym child ∙ h.child_is in cc)
    by (Some p) at (Some c) child None twin = inr (λ h. let none : None ≡ Some h.twin = sym twin ∙ h.twin_is in cc)
    by (Some p) at (Some c) child (Some w) twin =
        decide_as (λ one. record { parent = p; child = c; twin = w; parent_is = at; child_is = child; twin_is = twin; one = one })
        (λ h witness.
        let parent : p ≡ h.parent = some_same (sym at ∙ h.parent_is) in
        let same_child : c ≡ h.child = some_same (sym child ∙ h.child_is) in
        let same_twin : w ≡ h.twin = some_same (sym twin ∙ h.twin_is) in
        same_twin ∙ h.one (subst (IsWitnessOf t.role) same_child witness) ∙ sym parent)
        (decide_if (decide_witness t.role c) (decide_elem w p))

decide_met : (table : List TableRow) (elements : List Elem) (c : Condition) → Decided (Meets table elements c)
decide_met table elements (condition.Atom a) = decide_holds table elements a
decide_met table elements (condition.Twins t) = decide_twins t elements

pub is_found : (table : List TableRow) (conditions : List Condition) (fixed : List (Option ℕ)) (elements : List Elem) → Decided (IsFound table conditions fixed elements)
is_found table conditions fixed elements =
    decide_as (λ h. record { count = h.0; met = h.1.0; fixed_are = h.1.1 }) (λ h. (h.count, (h.met, h.fixed_are)))
    (decide_both (decide_nat (length elements) (length fixed)) (decide_both (decide_each (Meets table elements) (decide_met table elements) conditions) (decide_stand fixed elements)))
