use Rattle.std.proofs.Common.{Bool, true, false, List, subst, sym}
use Rattle.completion.specs.EdgeLists.{IsReadFrom}
use Rattle.completion.specs.declared.edges.Edge.{Edge}
use Rattle.completion.proofs.TargetLemmas.{read_back, read_forth}
use Rattle.completion.proofs.edges.Edges.read.Goals as goal

pub returns-then-inverse : goal.returns-then-inverse
returns-then-inverse c =
    subst (λ (way : Bool). IsReadFrom way c.args.self.now c.as_slice.result.now) (sym c.if-inverse.true)
    (subst (λ (edges : List Edge). IsReadFrom true edges c.as_slice.result.now) c.self.view_is
    (subst (λ (list : List Edge). IsReadFrom true c.self.inside.forth.items list) (sym c.as_slice.ensures.value) (read_back c.self.inside.forth.items c.self.inside.back.items c.self.invariant)))

pub returns-else-inverse : goal.returns-else-inverse
returns-else-inverse c =
    subst (λ (way : Bool). IsReadFrom way c.args.self.now c.as_slice-else-inverse.result.now) (sym c.if-inverse.false)
    (subst (λ (edges : List Edge). IsReadFrom false edges c.as_slice-else-inverse.result.now) c.self.view_is
    (subst (λ (list : List Edge). IsReadFrom false c.self.inside.forth.items list) (sym c.as_slice-else-inverse.ensures.value) (read_forth c.self.inside.forth.items c.self.inside.back.items c.self.invariant)))
