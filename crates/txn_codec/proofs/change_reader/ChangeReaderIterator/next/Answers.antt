use Rattle.std.proofs.Common.{length, sym, ap, ◌∙◌, rules}
use Rattle.txn_codec.specs.ChangeView.{change_viewed}
use Rattle.txn_codec.specs.ChangesReading.{change_at}
use Rattle.txn_codec.proofs.Skipped.{first_value, no_fault, no_values}
use Rattle.txn_codec.proofs.change_reader.ChangeReaderIterator.next.Goals as goal

pub returns-then-self-eq0-clause-steps : goal.returns-then-self-eq0-clause-steps
returns-then-self-eq0-clause-steps c =
    let none = sym c.self.view_is ∙ no_values change_at c.self.inside.left c.self.inside.rest.now c.if-self-eq0.true in
    (none, none)

pub unreachable-requires : goal.unreachable-requires
unreachable-requires c = no_fault change_at c.self.inside.left c.self.inside.rest.now c.in-Err.field-0.left c.if-self-eq0.false c.in-Err.ensures c.self.invariant

pub invariant_of-self : goal.invariant_of-self
invariant_of-self c = (first_value change_at c.self.inside.left c.self.inside.rest.now (change_viewed c.in-Ok.change) c.in-Ok.rest.now c.if-self-eq0.false c.in-Ok.ensures c.self.invariant).ends

pub returns-clause-steps : goal.returns-clause-steps
returns-clause-steps c =
    let first = first_value change_at c.self.inside.left c.self.inside.rest.now (change_viewed c.in-Ok.change) c.in-Ok.rest.now c.if-self-eq0.false c.in-Ok.ensures c.self.invariant in
    sym c.self.view_is ∙ first.values

pub returns-clause-goes : goal.returns-clause-goes
returns-clause-goes c =
    let first = first_value change_at c.self.inside.left c.self.inside.rest.now (change_viewed c.in-Ok.change) c.in-Ok.rest.now c.if-self-eq0.false c.in-Ok.ensures c.self.invariant in
    let shorter = ap length (sym c.self.view_is ∙ first.values) in
    search rules
