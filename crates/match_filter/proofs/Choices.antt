-- Choices over finite lists, and what can be decided.
use Rattle.std.proofs.Common.{◌≡◌, ℕ, zero, suc, ◌<◌, ◌⊎◌, inl, inr, false, List, [], ◌∷◌, Option, Some, None, slice_get, Contains, refl, sym, ◌∙◌, ap, subst, arith}
use Rattle.std.proofs.lemmas.Option.{same_Some}
use Rattle.dl_base.specs.declared.concept.Role.{Role}
use Rattle.dl_base.specs.declared.element.Elem.{Elem}
use Rattle.dl_base.specs.declared.element.Elem.TheVariants as elem
use Rattle.dl_base.proofs.RisingLemmas.{contains_cases, contains_later, contains_first}
use Rattle.dl_base.proofs.RoleLemmas.{one_role_or_two}
use Rattle.query_shape.proofs.MatchList.{Decided, decide_as}
use Rattle.query_shape.specs.TreeWitness.{IsOn}

pub decide_below : (m n : ℕ) → Decided (m < n)
decide_below m zero = inr (λ h. omega arith)
decide_below zero (suc n) = inl (omega arith)
decide_below (suc m) (suc n) = decide_as (λ h. omega arith) (λ h. omega arith) (decide_below m n)

-- the role of a witness, or one for an individual
abbrev pub role_of : Elem → Role
role_of (elem.Named n) = record { name = 0; inverse = false }
role_of (elem.Shared w) = w.role

-- the image of the term is a witness of the role, or not
pub decide_on : (images : List Elem) (r : Role) (k : ℕ) → Decided (IsOn images r k)
decide_on images r k = by (slice_get images k) refl
  where
    by : (x : Option Elem) → slice_get images k ≡ x → Decided (IsOn images r k)
    by None at = inr (λ on. let none : None ≡ Some (elem.Shared on.0) = sym at ∙ on.1 in cc)
    by (Some (elem.Named n)) at = inr (λ on. let named : Some (elem.Named n) ≡ Some (elem.Shared on.0) = sym at ∙ on.1 in cc)
    by (Some (elem.Shared w)) at =
        decide_as (λ is. (w, at, is)) (λ on. let same : elem.Shared w ≡ elem.Shared on.0 = same_Some _ _ (sym at ∙ on.1) in ap role_of same ∙ on.2) (one_role_or_two w.role r)

-- some member has the property, or none
pub decide_some : {X : Type 0} (P : X → Type 0) (xs : List X) → ((x : X) → Contains xs x → Decided (P x)) → Decided ((x : X) × Contains xs x × P x)
decide_some P [] decide = inr (λ some. absurd (omega (arith, some.1.1)))
decide_some {X} P (y ∷ ys) decide = by (decide y (contains_first y ys)) (decide_some P ys (λ x c. decide x (contains_later y ys x c)))
  where
    neither : (P y → ⊥) → ((x : X) × Contains ys x × P x → ⊥) → (x : X) → P x → (x ≡ y) ⊎ Contains ys x → ⊥
    neither fails none x p (inl e) = fails (subst P e p)
    neither fails none x p (inr c) = none (x, c, p)

    by : Decided (P y) → Decided ((x : X) × Contains ys x × P x) → Decided ((x : X) × Contains (y ∷ ys) x × P x)
    by (inl p) rest = inl (y, contains_first y ys, p)
    by (inr fails) (inl some) = inl (some.0, contains_later y ys some.0 some.1, some.2)
    by (inr fails) (inr none) = inr (λ some. neither fails none some.0 some.2 (contains_cases y ys some.0 some.1))

-- where there is something for each of the members that are decided, one function chooses it
module _ {X Y : Type 0} (M : X → Type 0) (decide : (x : X) → Decided (M x)) (other : Y) (Q : X → Y → Type 0) (each : (x : X) → M x → (y : Y) × Q x y) where
  pick : (x : X) → Decided (M x) → Y
  pick x (inl c) = (each x c).0
  pick x (inr fails) = other

  pub chosen : X → Y
  chosen x = pick x (decide x)

  picked : (x : X) → M x → (d : Decided (M x)) → Q x (pick x d)
  unfolding pick
  picked x c (inl d) = (each x d).1
  picked x c (inr fails) = absurd (fails c)

  pub chosen_is : (x : X) → M x → Q x (chosen x)
  unfolding chosen
  chosen_is x c = picked x c (decide x)
