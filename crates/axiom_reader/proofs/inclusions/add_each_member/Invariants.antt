use Rattle.std.proofs.Common.{◌≡◌, ◌++◌, take}
use Rattle.axiom_reader.specs.declared.tree.RightSide.TheVariants.{Members}
use Rattle.axiom_reader.specs.AxiomMeaning.{sub_class}
use Rattle.axiom_reader.proofs.inclusions.add_each_member.Given as goal

abbrev pub invariant-loop-basic : goal.invariant-loop-basic
invariant-loop-basic l = l.inclusions ≡ l.fn.inclusions ++ sub_class l.left (Members (take l.basic-index l.members))
