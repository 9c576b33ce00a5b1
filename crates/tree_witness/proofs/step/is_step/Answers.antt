use Rattle.std.proofs.Common.{sym, ◌∙◌}
use Rattle.std.proofs.lemmas.Slice.Eq.{slice_eq-Decides}
use Rattle.tree_witness.proofs.StepLemmas.{no_role, roles_same, back_tells}
use Rattle.tree_witness.proofs.step.is_step.Goals as goal

pub returns-then-eq-2 : goal.returns-then-eq-2
returns-then-eq-2 c =
    back_tells c.args.root c.args.roles.now c.args.by c.args.found.now no_role c.eq-then-eq-2.result c.in-len1-up.len_at_least
    ((roles_same c.args.by c.inverted.result).0 (sym c.eq-in-len1-up.ensures ∙ c.if-eq-2.true) ∙ c.inverted.ensures) (slice_eq-Decides roles_same _ _ _ c.eq-then-eq-2.ensures)
