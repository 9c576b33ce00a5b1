use Rattle.std.proofs.Common.{subst, sym, arith}
use Rattle.witness_book.proofs.RisingLemmas.{risen_none, risen_more}
use Rattle.witness_book.specs.Rising.{AreSmall, never}
use Rattle.witness_book.proofs.generations.raise.Goals as goal

pub loop-name-init : goal.loop-name-init
loop-name-init c = risen_none _ _ _

pub raised-requires-clause-small : goal.raised-requires-clause-small
raised-requires-clause-small c =
    subst AreSmall (sym (c.loop-name.invariant.rest c.loop-name.name never (omega arith))) (c.requires.small c.loop-name.name never c.loop-name-test.true)

pub loop-name-preserved : goal.loop-name-preserved
loop-name-preserved c = risen_more _ _ c.loop-name.name _ c.loop-name.generations c.raised.result (omega arith) c.raised.ensures c.loop-name.invariant
