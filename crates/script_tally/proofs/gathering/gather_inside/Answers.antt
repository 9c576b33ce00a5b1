use Rattle.std.proofs.Common.{arith, true}
use Rattle.std.specs.Option.{option_copied}
use Rattle.script_reader.specs.Requests.{Is}
use Rattle.run_loop.proofs.ScriptLemmas.{is_false, is_true}
use Rattle.script_tally.proofs.GatherLemmas.{gathers_block, gathers_inside}
use Rattle.script_tally.proofs.gathering.gather_inside.Goals as goal

pub returns-then-is_end : goal.returns-then-is_end
returns-then-is_end c = λ tokens few g.
    gathers_block tokens c.args.requests.now (Is (option_copied c.args.line)) true c.args.block c.finish.result c.block_request.result c.push.new.self (omega (arith, few)) g c.block_request.ensures.is c.block_request.ensures.given
    (c.is_end.ensures.0 (is_true c.is_end.result c.if-is_end.true)) c.finish.ensures c.in_ok-push.ensures.ok

pub returns : goal.returns
returns c = λ tokens few g.
    gathers_inside tokens c.args.requests.now (option_copied c.args.line) c.args.block c.line.new.self few g
    (λ ends. is_false c.is_end.result c.if-is_end.false (c.is_end.ensures.1 ends)) c.in_ok-line.ensures
