use Rattle.std.proofs.Common.{◌≡◌, ◌++◌, [], ◌∷◌, List, length, refl, sym, ◌∙◌, ap, subst, append_assoc, arith}
use Rattle.std.proofs.lemmas.List.{append-nil}
use Rattle.std.specs.Vec.Iter.{into_iter_items}
use Rattle.script_reader.specs.declared.request.Request.{Request}
use Rattle.run_loop.proofs.RequestLemmas.{stays_on, stays_same}
use Rattle.script_tally.specs.Tallying.{Counted, CountsFit}
use Rattle.script_tally.specs.declared.counting.Tally.{Tally}
use Rattle.script_tally.proofs.TallyLemmas.{nothing_of_length, right_of, second_on, second_same}
use Rattle.script_tally.proofs.tallying.tally_requests.Goals as goal

pub loop-request-init : goal.loop-request-init
loop-request-init g c =
    let h = g.H.Host in
    let all = c.into_iter-request-iterator.ensures.into_iter_gives.0 ∙ c.into_vec-request-items.ensures in
    let none = c.none-tally.ensures in
    record {
      done = ([], sym all, λ start counted. subst (λ (t : Tally). Counted (g.E.Engine.stands c.args.engine) start [] (h.disk c.args.host.now) t) (sym none) counted);
      ready = c.requires.ready;
      taken = omega (arith, c.requires.none, ap length all);
      replies = omega (arith, ap (λ (t : Tally). t.replies) none, ap length all);
      within = subst CountsFit (sym none) (record { answers = omega arith; bytes = omega arith });
      told = stays_same (h.disk c.args.host.now);
      second = second_same (h.disk c.args.host.now);
      counted = omega arith;
      disk_still = refl;
      printed = refl;
      print_still = refl;
    }

pub loop-request-preserved : goal.loop-request-preserved
loop-request-preserved g c =
    let disk = g.H.Host.disk in
    let i = c.loop-request.invariant in
    let next = c.in-Some.ensures.steps.0 in
    record {
      done = (
        i.done.0 ++ c.in-Some.request ∷ [],
        i.done.1 ∙ ap (λ (l : List Request). i.done.0 ++ l) next ∙ sym (append_assoc i.done.0 (c.in-Some.request ∷ []) (into_iter_items c.next.new.self)),
        λ start counted. c.in-Ok.ensures.counts start i.done.0 (i.done.2 start counted),
      );
      ready = c.in-Ok.ensures.ready;
      taken = omega (arith, i.taken, ap length next, c.in-Ok.ensures.one);
      replies = omega (arith, i.replies, ap length next, c.in-Ok.ensures.replies);
      within = c.in-Ok.ensures.within;
      told = stays_on (disk c.args.host.now) (disk c.loop-request.host) (disk c.tally_request.new.host) i.told c.tally_request.ensures.told;
      second = second_on (disk c.args.host.now) (disk c.loop-request.host) (disk c.tally_request.new.host) i.second i.told c.tally_request.ensures.second;
      counted = omega (arith, i.counted, c.tally_request.ensures.counted);
      disk_still = right_of c.tally_request.ensures.stays (λ is. let ok = c.in-Ok.is in cc) ∙ i.disk_still;
      printed = c.tally_request.ensures.printed ∙ i.printed;
      print_still = c.tally_request.ensures.other ∙ i.print_still;
    }

pub returns-clause-counts : goal.returns-clause-counts
returns-clause-counts g c =
    let i = c.loop-request.invariant in
    let none : into_iter_items c.loop-request.request-iterator ≡ [] = nothing_of_length (into_iter_items c.loop-request.request-iterator) (sym c.loop-request.request-iterator.rest.ok.0 ∙ c.in-None.ensures.steps.0) in
    let all = i.done.1 ∙ ap (λ (l : List Request). i.done.0 ++ l) none ∙ append-nil i.done.0 in
    λ start counted. (c.loop-request.engine, subst (λ (requests : List Request). Counted (g.E.Engine.stands c.loop-request.engine) start requests (g.H.Host.disk c.loop-request.host) c.loop-request.tally) (sym all) (i.done.2 start counted))
