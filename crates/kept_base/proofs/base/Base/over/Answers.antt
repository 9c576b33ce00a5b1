use Rattle.kept_base.proofs.LoadedBases.{loaded_sound, loaded_stands, rows_within}
use Rattle.kept_base.proofs.base.Base.over.Goals as goal

pub reasoned-requires : goal.reasoned-requires
reasoned-requires c = rows_within c.args.loaded c.in_ok-rows.rows c.in_ok-rows.ensures c.requires.numbers.history c.requires.numbers.loaded

pub invariant_of-base : goal.invariant_of-base
invariant_of-base c = loaded_sound c.args.loaded c.in_ok-rows.rows c.in_ok-rows.ensures c.args.store c.in_ok-reasoner.reasoner c.in_ok-reasoner.ensures c.in_ok-sessions.sessions c.in_ok-sessions.ensures c.new-2.result.store c.new-2.ensures c.requires.numbers

pub returns-clause-stands : goal.returns-clause-stands
returns-clause-stands c = loaded_stands c.args.loaded c.in_ok-rows.rows c.in_ok-rows.ensures c.args.store c.in_ok-reasoner.reasoner c.in_ok-reasoner.ensures c.in_ok-sessions.sessions c.in_ok-sessions.ensures c.new-2.result.store c.new-2.ensures
