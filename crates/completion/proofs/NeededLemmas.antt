-- Roles added to a set, name by name.
use Rattle.std.proofs.Common.{◌≡◌, ℕ, ◌+◌, ◌<◌, ◌⊎◌, ◌↔◌, inl, inr, true, false, List, sym, ap, subst, arith}
use Rattle.std.proofs.lemmas.Bool.{cases_eq}
use Rattle.dl_base.specs.Sets.{HasRole}
use Rattle.dl_base.specs.declared.concept.Role.{Role}
use Rattle.dl_base.proofs.RoleLemmas.{direct_or_inverse}

module _ (P : Role → Type 0) where
  -- the roles of the first so many names of which this is true are added
  pub record AddsBelow (names : ℕ) (old new : List ℕ) : Type 0 where
    pub each : (t : Role) → HasRole new t ↔ (((t.name < names) × P t) ⊎ HasRole old t)

  pub adds_none : (old : List ℕ) → AddsBelow 0 old old
  adds_none old = record { each = λ t. (λ has. inr has, λ either. elim either [ inl (below, p) ↦ absurd (omega arith) | inr has ↦ has ]) }

  -- the direct role of a name and its inverse
  pub adds_both : (name : ℕ) (old now half new : List ℕ)
      → ((t : Role) → HasRole half t ↔ (((t ≡ record { name = name; inverse = false }) × P (record { name = name; inverse = false })) ⊎ HasRole now t))
      → ((t : Role) → HasRole new t ↔ (((t ≡ record { name = name; inverse = true }) × P (record { name = name; inverse = true })) ⊎ HasRole half t))
      → AddsBelow name old now → AddsBelow (name + 1) old new
  adds_both name old now half new first second are = record { each = λ t. (there t, back t) }
    where
      there : (t : Role) → HasRole new t → ((t.name < name + 1) × P t) ⊎ HasRole old t
      there t has = elim ((second t).0 has) [
        | inl (is, p) ↦ inl (let same : t.name ≡ name = ap (λ (r : Role). r.name) is in omega arith, subst P (sym is) p)
        | inr before ↦ elim ((first t).0 before) [
          | inl (is, p) ↦ inl (let same : t.name ≡ name = ap (λ (r : Role). r.name) is in omega arith, subst P (sym is) p)
          | inr earlier ↦ elim ((are.each t).0 earlier) [ inl (below, p) ↦ inl (omega arith, p) | inr h ↦ inr h ]
        ]
      ]

      kept : (t : Role) → HasRole now t → HasRole new t
      kept t has = (second t).1 (inr ((first t).1 (inr has)))

      back : (t : Role) → ((t.name < name + 1) × P t) ⊎ HasRole old t → HasRole new t
      back t (inr h) = kept t ((are.each t).1 (inr h))
      back t (inl (below, p)) = elim (cases_eq t.name name) [
        | inr other ↦ kept t ((are.each t).1 (inl (omega arith, p)))
        | inl same ↦ elim (direct_or_inverse t name same) [
          | inl is ↦ (second t).1 (inr ((first t).1 (inl (is, subst P is p))))
          | inr is ↦ (second t).1 (inl (is, subst P is p))
        ]
      ]
