use Rattle.std.proofs.Common.{◌≡◌, Some, None, sym, ◌∙◌}
use Rattle.script_tally.proofs.TallyLemmas.{counted_more}
use Rattle.script_tally.proofs.tallying.tally_request.Goals as goal

pub returns-in-Ok-with-clause-counts : goal.returns-in-Ok-with-clause-counts
returns-in-Ok-with-clause-counts g c = λ h requests counted.
    let e = g.E.Engine in
    let disk = g.H.Host.disk in
    let done = c.in-Ok.ensures.steps counted.state counted.stands_for counted.kept (λ reopens none. (let t = counted.told in let e : Some counted.d ≡ None = sym t ∙ none in cc)) in
    counted_more (e.stands c.args.engine) (e.stands c.in-Ok.next) h requests c.args.request c.in-Ok.reply (disk c.args.host.now) (disk c.step.new.host) c.args.tally c.in-Ok-with.more counted done.0 done.1 done.2 done.3 c.step.ensures.told c.in-Ok-with.ensures.adds
