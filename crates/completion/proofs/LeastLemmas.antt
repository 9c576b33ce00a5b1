-- Least elements of several kinds.
use Rattle.std.proofs.Common.{◌≢◌, ℕ, ◌⊎◌, inl, inr, [], Option, Some, None, refl, subst, arith}
use Rattle.std.specs.declared.cmp.Ordering.TheVariants.{Greater}
use Rattle.dl_base.specs.Tables.{AreCounted, IsAbove, IsLeastAbove, elem_cmp}
use Rattle.dl_base.specs.declared.element.Elem.{Elem}
use Rattle.dl_base.proofs.ElemLemmas.{upto_trans}
use Rattle.completion.specs.Least.{IsLesserElement, IsUpTo}

-- what is true of the same elements has the same least one, and as many
pub least_as : (P Q : Elem → Type 0) (after r : Option Elem) → ((e : Elem) → P e → Q e) → ((e : Elem) → Q e → P e) → IsLeastAbove P after r → IsLeastAbove Q after r
least_as P Q after None into back least = λ e q above. least e (back e q) above
least_as P Q after (Some x) into back least = (into x least.0, least.1, λ f q above. least.2 f (back f q) above)

pub counted_as : (P Q : Elem → Type 0) (count : ℕ) → ((e : Elem) → P e → Q e) → ((e : Elem) → Q e → P e) → AreCounted P count → AreCounted Q count
counted_as P Q count into back counted = record {
  members = counted.members;
  distinct = counted.distinct;
  each = λ e. (λ c. into e ((counted.each e).0 c), λ q. (counted.each e).1 (back e q));
  number = counted.number;
}

-- nothing above of what there is none of
pub least_of_none : (P : Elem → Type 0) (after : Option Elem) → ((e : Elem) → P e → ⊥) → IsLeastAbove P after None
least_of_none P after none = λ e p above. none e p

-- the lesser of two least ones is the least of both kinds
module _ (P Q : Elem → Type 0) (after : Option Elem) where
  -- nothing of the other kind is below
  past : (R : Elem → Type 0) (x : Elem) (f : Option Elem) → IsLeastAbove R after f → IsUpTo x f → (g : Elem) → R g → IsAbove after g → elem_cmp x g ≢ Greater
  past R x None least upto g r above = absurd (least g r above)
  past R x (Some y) least upto g r above = upto_trans x y g upto (least.2 g r above)

  first : (x : Elem) (f : Option Elem) → IsLeastAbove P after (Some x) → IsLeastAbove Q after f → IsUpTo x f → IsLeastAbove (λ y. P y ⊎ Q y) after (Some x)
  first x f least other upto = (inl least.0, least.1, λ g either above. elim either [ inl p ↦ least.2 g p above | inr q ↦ past Q x f other upto g q above ])

  second : (x : Elem) (e : Option Elem) → IsLeastAbove P after e → IsLeastAbove Q after (Some x) → IsUpTo x e → IsLeastAbove (λ y. P y ⊎ Q y) after (Some x)
  second x e other least upto = (inr least.0, least.1, λ g either above. elim either [ inl p ↦ past P x e other upto g p above | inr q ↦ least.2 g q above ])

  pub least_of_both : (e f r : Option Elem) → IsLeastAbove P after e → IsLeastAbove Q after f → IsLesserElement e f r → IsLeastAbove (λ y. P y ⊎ Q y) after r
  least_of_both e f None p q (none, also) = λ g either above. elim either [
    | inl h ↦ subst (IsLeastAbove P after) none p g h above
    | inr h ↦ subst (IsLeastAbove Q after) also q g h above
  ]
  least_of_both e f (Some x) p q (is, low, high) = elim is [
    | inl at ↦ first x f (subst (IsLeastAbove P after) at p) q high
    | inr at ↦ second x e p (subst (IsLeastAbove Q after) at q) low
  ]

  -- and of one alone where the other kind isn't below, or there is none
  pub least_of_first : (x : Elem) → IsLeastAbove P after (Some x) → ((g : Elem) → Q g → elem_cmp x g ≢ Greater) → IsLeastAbove (λ y. P y ⊎ Q y) after (Some x)
  least_of_first x least other = (inl least.0, least.1, λ g either above. elim either [ inl p ↦ least.2 g p above | inr q ↦ other g q ])

  pub least_of_second : (r : Option Elem) → IsLeastAbove P after None → IsLeastAbove Q after r → IsLeastAbove (λ y. P y ⊎ Q y) after r
  least_of_second None none least = λ g either above. elim either [ inl p ↦ none g p above | inr q ↦ least g q above ]
  least_of_second (Some x) none least = (inr least.0, least.1, λ g either above. elim either [ inl p ↦ absurd (none g p above) | inr q ↦ least.2 g q above ])

-- there are none of what there is none of
pub counted_none : (P : Elem → Type 0) → ((e : Elem) → P e → ⊥) → AreCounted P 0
counted_none P none = record {
  members = [];
  distinct = λ i j d less below. absurd (omega arith);
  each = λ e. (λ c. absurd (omega (arith, c.1)), λ p. absurd (none e p));
  number = refl;
}
