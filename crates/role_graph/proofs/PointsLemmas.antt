-- What a role points to, added name by name.
use Rattle.std.proofs.Common.{◌≡◌, ℕ, ◌+◌, ◌<◌, ◌≤◌, ◌⊎◌, ◌↔◌, inl, inr, true, false, List, length, sym, ap, subst, arith}
use Rattle.std.proofs.lemmas.Bool.{cases_eq, cases_lt}
use Rattle.dl_base.specs.Completion.{RolePoints}
use Rattle.dl_base.specs.Derivation.{HeldBehind}
use Rattle.dl_base.specs.Ontology.{Terminology}
use Rattle.dl_base.specs.Sets.{HasBasic, HasRole}
use Rattle.dl_base.specs.declared.concept.Basic.TheVariants as basic
use Rattle.dl_base.specs.declared.concept.Role.{Role}
use Rattle.horn_closure.specs.Closure.{ClosedSet, IsClosure}
use Rattle.role_graph.specs.Graph.{Graph, IsGraphOf, HasNode}
use Rattle.role_graph.proofs.OutsideLemmas.{no_point_outside, point_inside}
use Rattle.dl_base.proofs.RoleLemmas.{direct_or_inverse}

-- a role that the graph hasn't got points to none
pub no_point : (o : Terminology) (g : Graph) (s r : Role) → IsGraphOf o g → (HasNode g s → ⊥) → RolePoints o s r → ⊥
no_point o g s r is none points = no_point_outside o is.within s past r points
  where
    past : length o.roles ≤ s.name
    past = elim (cases_lt s.name (length o.roles)) [
      | inl below ↦ absurd (none (let each : length g.closed ≡ length o.roles = is.closures.each in omega arith))
      | inr outside ↦ outside
    ]

-- a role is pointed to only where the graph has it
pub pointed_inside : (o : Terminology) (g : Graph) (s r : Role) → IsGraphOf o g → RolePoints o s r → HasNode g r
pointed_inside o g s r is points =
    let each : length g.closed ≡ length o.roles = is.closures.each in
    elim (cases_lt s.name (length o.roles)) [
      | inl inside ↦ let placed : r.name < length o.roles = point_inside o is.within s r inside points in omega arith
      | inr past ↦ absurd (no_point_outside o is.within s past r points)
    ]

-- what a role points to is derived behind it
pub has_point : (o : Terminology) (s r : Role) (c : ClosedSet) → IsClosure o.inclusions (HeldBehind s) c → RolePoints o s r → HasBasic c.derived (basic.Exists r)
has_point o s r c closure points = (closure.derived (basic.Exists r)).1 points.derived

-- r is added where s points to it
pub record AddsPoint (o : Terminology) (s r : Role) (old new : List ℕ) : Type 0 where
  pub adds : (t : Role) → HasRole new t ↔ (((t ≡ r) × RolePoints o s r) ⊎ HasRole old t)

-- what s points to among the roles of the first so many names is added
pub record AddsPoints (o : Terminology) (s : Role) (names : ℕ) (old new : List ℕ) : Type 0 where
  pub each : (t : Role) → HasRole new t ↔ (((t.name < names) × RolePoints o s t) ⊎ HasRole old t)

pub adds_none : (o : Terminology) (s : Role) (old : List ℕ) → AddsPoints o s 0 old old
adds_none o s old = record { each = λ t. (λ has. inr has, λ either. elim either [ inl (below, points) ↦ absurd (omega arith) | inr has ↦ has ]) }

-- the direct role of a name and its inverse
pub adds_both : (o : Terminology) (s : Role) (name : ℕ) (old now half new : List ℕ)
    → ((t : Role) → HasRole half t ↔ (((t ≡ record { name = name; inverse = false }) × RolePoints o s (record { name = name; inverse = false })) ⊎ HasRole now t))
    → ((t : Role) → HasRole new t ↔ (((t ≡ record { name = name; inverse = true }) × RolePoints o s (record { name = name; inverse = true })) ⊎ HasRole half t))
    → AddsPoints o s name old now → AddsPoints o s (name + 1) old new
adds_both o s name old now half new first second are = record { each = λ t. (there t, back t) }
  where
    there : (t : Role) → HasRole new t → ((t.name < name + 1) × RolePoints o s t) ⊎ HasRole old t
    there t has = elim ((second t).0 has) [
      | inl (is, points) ↦ inl (let same : t.name ≡ name = ap (λ (r : Role). r.name) is in omega arith, subst (RolePoints o s) (sym is) points)
      | inr before ↦ elim ((first t).0 before) [
        | inl (is, points) ↦ inl (let same : t.name ≡ name = ap (λ (r : Role). r.name) is in omega arith, subst (RolePoints o s) (sym is) points)
        | inr earlier ↦ elim ((are.each t).0 earlier) [ inl (below, points) ↦ inl (omega arith, points) | inr h ↦ inr h ]
      ]
    ]

    kept : (t : Role) → HasRole now t → HasRole new t
    kept t has = (second t).1 (inr ((first t).1 (inr has)))

    back : (t : Role) → ((t.name < name + 1) × RolePoints o s t) ⊎ HasRole old t → HasRole new t
    back t (inr h) = kept t ((are.each t).1 (inr h))
    back t (inl (below, points)) = elim (cases_eq t.name name) [
      | inr other ↦ kept t ((are.each t).1 (inl (omega arith, points)))
      | inl same ↦ elim (direct_or_inverse t name same) [
        | inl is ↦ (second t).1 (inr ((first t).1 (inl (is, subst (RolePoints o s) is points))))
        | inr is ↦ (second t).1 (inl (is, subst (RolePoints o s) is points))
      ]
    ]

-- at the end everything that s points to is added
pub adds_all : (o : Terminology) (g : Graph) (s : Role) (names : ℕ) (old new : List ℕ) → IsGraphOf o g → length g.closed ≤ names → AddsPoints o s names old new
    → (r : Role) → HasRole new r ↔ (RolePoints o s r ⊎ HasRole old r)
adds_all o g s names old new is past are r = (
  λ has. elim ((are.each r).0 has) [ inl (below, p) ↦ inl p | inr h ↦ inr h ],
  λ either. elim either [
    | inl p ↦ (are.each r).1 (inl (let inside : r.name < length g.closed = pointed_inside o g s r is p in omega arith, p))
    | inr h ↦ (are.each r).1 (inr h)
  ],
)
