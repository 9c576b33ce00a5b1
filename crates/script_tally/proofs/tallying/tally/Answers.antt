use Rattle.std.proofs.Common.{◌≡◌, Err, arith, ap, ◌∙◌}
use Rattle.std.proofs.lemmas.Result.{IfOk-weaker}
use Rattle.base_engine.specs.declared.engine.EndFault.TheVariants as end
use Rattle.script_tally.specs.Tallying.{Tallies}
use Rattle.script_tally.proofs.GatherLemmas.{requests_are_few}
use Rattle.script_tally.proofs.TallyLemmas.{all_counted, counted_none}
use Rattle.script_tally.proofs.tallying.tally.Goals as goal

pub tally_requests-requires-clause-few : goal.tally_requests-requires-clause-few
tally_requests-requires-clause-few g c = omega (arith, c.requires, requests_are_few c.args.script.now c.in-Ok.requests c.in-Ok.ensures.are)

pub returns-in-Ok-load-clause-tally : goal.returns-in-Ok-load-clause-tally
returns-in-Ok-load-clause-tally g c = λ d is h keeps.
    let stands = g.E.Engine.stands in
    let disk = g.H.Host.disk in
    let base = c.in-Ok-load.ensures.loaded d is h keeps in
    let start = counted_none (stands c.in-Ok-load.engine) h base.0 (disk c.args.host.now) (disk c.load.new.host) d base.1 base.2 base.3 c.load.ensures.told is in
    IfOk-weaker c.tally_requests.result _ (Tallies h c.args.script.now (disk c.tally_requests.new.host))
    (λ t counted. all_counted (stands counted.0) h c.args.script.now c.in-Ok.requests (disk c.tally_requests.new.host) t c.in-Ok.ensures counted.1)
    (c.tally_requests.ensures.counts h start)

pub returns-in-Err-clause-damaged : goal.returns-in-Err-clause-damaged
returns-in-Err-clause-damaged g c = λ area at damaged.
    let same : c.in-Err.end ≡ end.Damaged area at = cc in
    c.load.ensures.damaged area at (c.in-Err.is ∙ ap Err same)
