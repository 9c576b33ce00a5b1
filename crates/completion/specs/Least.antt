-- The lesser of two elements.
use Rattle.std.specs.Prelude.{◌≡◌, ◌≢◌, ◌⊎◌, Option, Some, None}
use Rattle.std.specs.declared.cmp.Ordering.TheVariants.{Greater}
use Rattle.dl_base.specs.Tables.{elem_cmp}
use Rattle.dl_base.specs.declared.element.Elem.{Elem}

-- the element isn't above that one, where there is one
abbrev pub IsUpTo : Elem → Option Elem → Type 0
IsUpTo e None = Unit {0}
IsUpTo e (Some f) = elem_cmp e f ≢ Greater

-- one of the two that isn't above the other, or none exactly where there is none
abbrev pub IsLesserElement : Option Elem → Option Elem → Option Elem → Type 0
IsLesserElement e f None = (e ≡ None) × (f ≡ None)
IsLesserElement e f (Some x) = ((e ≡ Some x) ⊎ (f ≡ Some x)) × IsUpTo x e × IsUpTo x f
