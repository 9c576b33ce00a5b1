use Rattle.std.proofs.Common.{Err, refl, ap, ◌∙◌}
use Rattle.host_io.specs.Memory.{disk_of, state_of}
use Rattle.base_store.specs.History.{Empty}
use Rattle.base_store.proofs.Areas.{keeps_or_is_damaged}
use Rattle.obda_run.proofs.SampleLemmas.{keeps_nothing, sample_tally}
use Rattle.obda_run.proofs.sample.tally_sample.Goals as goal

pub returns-in-Ok : goal.returns-in-Ok
returns-in-Ok g c =
    let host = c.new-host.result in
    sample_tally c.args.size c.items.result.now (disk_of c.tally.new.host) c.in-Ok.tally (c.items.ensures ∙ c.in_ok-script.ensures.script)
    (c.in-Ok.ensures.tally (state_of host).disk refl Empty (keeps_nothing host c.new-host.ensures))

pub unreachable-requires : goal.unreachable-requires
unreachable-requires g c =
    let host = c.new-host.result in
    let area = (state_of host).disk in
    let damage = c.tally.ensures.damaged c.in-Err-Damaged.field-0-0 c.in-Err-Damaged.field-0-1 (c.in-Err-Damaged.is ∙ ap Err c.in-Err-Damaged.field-0-is) area refl in
    keeps_or_is_damaged area.first.reads Empty c.in-Err-Damaged.field-0-1 (keeps_nothing host c.new-host.ensures) damage.offends
