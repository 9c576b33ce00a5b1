use Rattle.completion.specs.EdgeLists.{edge_cmp}
use Rattle.completion.proofs.TargetLemmas.{least_end, least_here, least_other, target_leads, targets}
use Rattle.completion.proofs.edges.Edges.next_near.Goals.{else-edge-role-via-then-edge-role+else-edge-from, else-edge-role-via-else-edge-role}
use Rattle.completion.proofs.edges.Edges.next_near.Goals as goal

pub returns-in-None : goal.returns-in-None
returns-in-None c =
    least_end edge_cmp _ _ c.args.after _ (target_leads c.args.role.name c.args.after c.args.from) c.read.result.now _ (targets c.args.self.now c.read.result.now c.args.role c.args.from c.read.ensures) c.in-None.ensures

pub returns-then-edge-from : goal.returns-then-edge-from
returns-then-edge-from c =
    least_here edge_cmp _ _ c.args.after _ (target_leads c.args.role.name c.args.after c.args.from) c.read.result.now _ (targets c.args.self.now c.read.result.now c.args.role c.args.from c.read.ensures)
    c.in-Some.edge c.in-Some.ensures (c.if-edge-role.true, c.if-edge-from.true)

pub returns-else-edge-role : goal.returns-else-edge-role
returns-else-edge-role c =
    least_other edge_cmp _ _ c.args.after _ (target_leads c.args.role.name c.args.after c.args.from) c.read.result.now _ (targets c.args.self.now c.read.result.now c.args.role c.args.from c.read.ensures)
    c.in-Some.edge c.in-Some.ensures (λ key. elim c.else-edge-role.branch [
      | else-edge-role-via-then-edge-role+else-edge-from w ↦ w.if-edge-from.false key.1
      | else-edge-role-via-else-edge-role w ↦ w.if-edge-role.false key.0
    ])
