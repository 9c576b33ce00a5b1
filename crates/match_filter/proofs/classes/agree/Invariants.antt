use Rattle.std.proofs.Common.{◌≡◌, ◌<◌, ℕ, Some, slice_get, slice_index}
use Rattle.dl_base.specs.declared.element.Elem.{Elem}
use Rattle.match_filter.proofs.classes.agree.Given as goal

abbrev pub invariant-loop-i : goal.invariant-loop-i
invariant-loop-i l = (j k : ℕ) (e f : Elem) → j < l.i → slice_get l.images j ≡ Some e → slice_get l.images k ≡ Some f → slice_index l.classes j ≡ slice_index l.classes k → e ≡ f
