use Rattle.std.proofs.Common.{◌≡◌, ◌<◌, ℕ, Some, slice_get, slice_index}
use Rattle.dl_base.specs.declared.element.Elem.{Elem}
use Rattle.match_filter.proofs.classes.agree_with.Given as goal

abbrev pub invariant-loop-k : goal.invariant-loop-k
invariant-loop-k l = (j : ℕ) (e : Elem) → j < l.k → slice_get l.images j ≡ Some e → l.class ≡ slice_index l.classes j → l.image ≡ e
