use Rattle.std.proofs.Common.{◌≡◌, drop}
use Rattle.std.specs.Cmp.Lexicographic.{slice_cmp}
use Rattle.dl_base.specs.Clashes.{role_cmp}
use Rattle.clash_report.proofs.order.compared_paths.Given as goal

abbrev pub invariant-loop-i : goal.invariant-loop-i
invariant-loop-i l = slice_cmp (role_cmp l.o) l.c l.d ≡ slice_cmp (role_cmp l.o) (drop l.i l.c) (drop l.i l.d)
