use Rattle.std.proofs.Common.{subst}
use Rattle.query_shape.specs.Shape.{IsShapeOf}
use Rattle.base_reasoner.specs.Reasoned.{Reasoned}
use Rattle.query_shape.proofs.NumberingLemmas.{shape_known}
use Rattle.base_reasoner.proofs.reasoner.Reasoner.unknown_name.Goals as goal

pub returns-in-Ok : goal.returns-in-Ok
returns-in-Ok c = shape_known c.args.self.now.ontology c.args.q.now _ (subst (λ (r : Reasoned). IsShapeOf r.ontology c.args.q.now c.in-Ok.field-0) c.self.view_is c.in-Ok.ensures.ok)
