use Rattle.std.proofs.Common.{subst}
use Rattle.query_shape.specs.ShapeFault.{IsShapeFault}
use Rattle.base_engine.specs.Refusals.{LacksNameIn}
use Rattle.base_reasoner.proofs.reasoner.unknown.Goals as goal

pub returns-in-UnknownConcept : goal.returns-in-UnknownConcept
returns-in-UnknownConcept c = λ o q fault. LacksNameIn.concept (subst (IsShapeFault o q) c.in-UnknownConcept.is fault)

pub returns-in-UnknownRole : goal.returns-in-UnknownRole
returns-in-UnknownRole c = λ o q fault. LacksNameIn.role (subst (IsShapeFault o q) c.in-UnknownRole.is fault)
