use Rattle.std.proofs.Common.{◌≡◌, ◌<◌, length, get_or, arith, refl}
use Rattle.horn_closure.proofs.EndLemmas.{run_first, uses_inside, few_used, handed_back, end_closure}
use Rattle.horn_closure.proofs.run.closure.Goals as goal

pub saturate-requires-clause-run : goal.saturate-requires-clause-run
saturate-requires-clause-run c = run_first _ _ _ _ c.requires.rules.within c.queue_all.ensures refl c.requires.clean

pub give_back_all-requires-clause-queue : goal.give_back_all-requires-clause-queue
give_back_all-requires-clause-queue c = λ k d inside.
    let below : get_or c.saturate.new.queue k d < 1024 = c.saturate.ensures.run.marks.inside k d inside in
    let many : length c.args.uses.now ≡ 1024 = c.requires.rules.places in
    omega arith

pub give_back_all-requires-clause-inside : goal.give_back_all-requires-clause-inside
give_back_all-requires-clause-inside c = λ p below. uses_inside _ _ _ p c.requires.rules c.saturate.ensures.run.each below

pub give_back_all-requires-clause-few : goal.give_back_all-requires-clause-few
give_back_all-requires-clause-few c = λ i below.
    let many : length c.saturate.new.left ≡ length c.args.inclusions.now = c.saturate.ensures.run.each in
    few_used _ _ _ _ _ i c.requires.rules c.saturate.ensures.run (omega arith)

pub returns-clause-closure : goal.returns-clause-closure
returns-clause-closure c = end_closure _ _ _ _ _ _ c.requires.rules c.saturate.ensures.run c.saturate.ensures.advances.sound c.saturate.ensures.advances.grows

pub returns-clause-clean : goal.returns-clause-clean
returns-clause-clean c =
    let same : length c.give_back_all.new.left ≡ length c.saturate.new.left = c.give_back_all.auto.left in
    handed_back _ _ _ _ _ _ _ c.requires.rules c.saturate.ensures.run c.requires.clean same c.give_back_all.ensures
