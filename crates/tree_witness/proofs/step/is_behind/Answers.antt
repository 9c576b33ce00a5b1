use Rattle.std.proofs.Common.{sym, ◌∙◌}
use Rattle.std.proofs.lemmas.Slice.Eq.{slice_eq-Decides}
use Rattle.tree_witness.proofs.StepLemmas.{no_role, roles_same, behind_tells}
use Rattle.tree_witness.proofs.step.is_behind.Goals as goal

pub returns-then-eq : goal.returns-then-eq
returns-then-eq c =
    behind_tells c.args.first c.args.roles.now c.args.found.now no_role c.eq-then-eq.result c.in-len1-up.len_at_least ((roles_same _ _).0 (sym c.eq.ensures ∙ c.if-eq.true))
    (slice_eq-Decides roles_same _ _ _ c.eq-then-eq.ensures)
