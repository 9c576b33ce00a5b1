-- Rows of roles among individuals, in order, and the same read from where they lead.
use Rattle.std.specs.Prelude.{◌≡◌, ◌↔◌, ℕ, Bool, true, false, not, ◌&&◌, ◌||◌, List, Contains, Option, Some, None, nat_lt, nat_eq}
use Rattle.std.specs.declared.cmp.Ordering.{Ordering}
use Rattle.std.specs.Ordering.{nat_cmp, ordering_then}
use Rattle.std.specs.List.Sorted.{IsStrictlySortedBy}
use Rattle.dl_base.specs.declared.concept.Role.{Role}
use Rattle.dl_base.specs.declared.element.Elem.{Elem}
use Rattle.dl_base.specs.declared.element.Elem.TheVariants as elem
use Rattle.completion.specs.declared.edges.Edge.{Edge}

-- by the role, then by where it leads from, then by where it leads to
abbrev pub edge_cmp : Edge → Edge → Ordering
edge_cmp x y = ordering_then (nat_cmp x.role y.role) (ordering_then (nat_cmp x.from y.from) (nat_cmp x.to y.to))

-- the row read from where it leads
abbrev pub turned : Edge → Edge
turned x = record { role = x.role; from = x.to; to = x.from }

-- both lists rise, and the second has the rows of the first, read from where they lead
pub record AreBothWays (forth back : List Edge) : Type 0 where
  pub forth_rises : IsStrictlySortedBy edge_cmp forth
  pub back_rises : IsStrictlySortedBy edge_cmp back
  pub same : (x : Edge) → Contains back x ↔ Contains forth (turned x)

-- the row by which n has m by the role name, or by its inverse
abbrev pub edge_of : Bool → ℕ → ℕ → ℕ → Edge
edge_of false p n m = record { role = p; from = n; to = m }
edge_of true p n m = record { role = p; from = m; to = n }

-- the rows, each read from where the role or its inverse leads, in order
pub record IsReadFrom (inverse : Bool) (edges list : List Edge) : Type 0 where
  pub rises : IsStrictlySortedBy edge_cmp list
  pub each : (x : Edge) → Contains list x ↔ Contains edges (edge_of inverse x.role x.from x.to)

-- the element is an individual that n has by the role
abbrev pub IsTarget : List Edge → Role → ℕ → Elem → Type 0
IsTarget edges r n e = (m : ℕ) × (e ≡ elem.Named m) × Contains edges (edge_of r.inverse r.name n m)

-- whether the individual is above the element, or there is none that it has to be above
abbrev pub is_above : Option Elem → ℕ → Bool
is_above None n = true
is_above (Some (elem.Named a)) n = nat_lt a n
is_above (Some (elem.Shared w)) n = false

-- rows of lower roles, of this one those from lower individuals, and from this one those to individuals that aren't above
abbrev pub target_passed : ℕ → ℕ → Option Elem → Edge → Bool
target_passed role from after x = nat_lt x.role role || (nat_eq x.role role && (nat_lt x.from from || (nat_eq x.from from && not (is_above after x.to))))
