use Rattle.std.proofs.Common.{⊎_elim, inl, inr, ◌++◌, [], ℕ, List, length, take, arith, ap, sym, refl, ◌∙◌, subst, append_assoc, length-append}
use Rattle.std.proofs.lemmas.List.{append-nil, length-drop}
use Rattle.run_loop.specs.Taking.{TakesBytes, EndedAt}
use Rattle.run_loop.proofs.RequestLemmas.{stays_same, stays_on}
use Rattle.script_reader.proofs.InputLemmas.{split_more}
use Rattle.std.specs.Prelude.{false}
use Rattle.run_loop.proofs.pieces.take_piece.Goals as goal

pub loop-rest-init : goal.loop-rest-init
loop-rest-init g c =
    let h = g.H.Host in
    record {
      taken = ([], refl, λ start a read few t. subst (λ (l : List ℕ). TakesBytes h.disk h.printed h.clock h.might start (g.E.Engine.stands c.args.engine) a l c.args.lines.now c.args.block c.args.host.now) (sym (append-nil read)) t);
      few = omega arith;
      counted = omega arith;
      ready = c.requires.ready;
      told = stays_same (h.disk c.args.host.now);
      disk_still = refl;
      print_still = refl;
      print_later = omega arith;
    }

pub loop-rest-preserved : goal.loop-rest-preserved
loop-rest-preserved g c =
    let h = g.H.Host in
    let i = c.loop-rest.invariant in
    let part = take c.in-Ok.count c.loop-rest.rest.now in
    record {
      taken = (
        i.taken.0 ++ part,
        split_more c.args.piece.now i.taken.0 c.loop-rest.rest.now c.in-Ok.count i.taken.1,
        λ start a read few t.
            subst (λ (l : List ℕ). TakesBytes h.disk h.printed h.clock h.might start (g.E.Engine.stands c.in-Ok.next) a l c.take_part.new.lines c.in-Ok.begun c.take_part.new.host) (append_assoc read i.taken.0 part)
            (c.in-Ok.ensures.takes start a (read ++ i.taken.0) (omega (arith, few, length-append read i.taken.0, ap length i.taken.1, length-append i.taken.0 c.loop-rest.rest.now)) (i.taken.2 start a read few t)),
      );
      counted = omega (arith, i.counted, c.take_part.ensures.counted);
      few = omega (arith, i.few, c.in-Ok.ensures.few, c.in-Ok.ensures.within, length-drop c.in-Ok.count c.loop-rest.rest.now);
      ready = c.in-Ok.ensures.ready;
      told = stays_on (h.disk c.args.host.now) (h.disk c.loop-rest.host) (h.disk c.take_part.new.host) i.told c.take_part.ensures.told;
      disk_still = c.in-Ok.ensures.disk_still ∙ i.disk_still;
      print_still = c.in-Ok.ensures.still ∙ i.print_still;
      print_later = omega (arith, i.print_later, c.take_part.ensures.cause.print_later);
    }

pub returns-in-Err-clause-takes : goal.returns-in-Err-clause-takes
returns-in-Err-clause-takes g c = λ start a read few t.
    let h = g.H.Host in
    let i = c.loop-rest.invariant in
    subst (λ (l : List ℕ). EndedAt h.disk h.printed h.clock h.might start a l false c.in-Err.fault c.take_part.new.host) (append_assoc read i.taken.0 c.loop-rest.rest.now ∙ ap (λ (l : List ℕ). read ++ l) (sym i.taken.1))
    (c.in-Err.ensures.takes start a (read ++ i.taken.0) (omega (arith, few, length-append read i.taken.0, ap length i.taken.1, length-append i.taken.0 c.loop-rest.rest.now)) (i.taken.2 start a read few t))

pub returns-in-Err-clause-still : goal.returns-in-Err-clause-still
returns-in-Err-clause-still g c = ⊎_elim inl (λ same. inr (same ∙ c.loop-rest.invariant.print_still)) c.in-Err.ensures.still

pub returns-in-Err-clause-disk_still : goal.returns-in-Err-clause-disk_still
returns-in-Err-clause-disk_still g c = ⊎_elim inl (λ same. inr (same ∙ c.loop-rest.invariant.disk_still)) c.in-Err.ensures.disk_still
