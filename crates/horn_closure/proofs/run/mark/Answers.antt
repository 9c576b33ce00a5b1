use Rattle.std.proofs.Common.{sym, ◌∙◌, true≢false}
use Rattle.dl_base.specs.Sets.{place_of}
use Rattle.dl_base.proofs.SetLemmas.{place_of-lt}
use Rattle.horn_closure.proofs.QueueLemmas.{room_for, unset_from, marked_new, marked_before}
use Rattle.horn_closure.proofs.run.mark.Goals as goal

pub push-requires-clause-room : goal.push-requires-clause-room
push-requires-clause-room c =
    room_for _ _ (place_of c.args.b) c.requires.marks (place_of-lt c.args.b c.requires.placed)
    (unset_from _ c.args.b c.requires.placed (λ has. true≢false (sym (c.has.ensures.1 has) ∙ c.if-not-has.true)))

pub returns-then-not-has : goal.returns-then-not-has
returns-then-not-has c = rw (c.push.ensures, c.place.ensures.place) (
    marked_new c.args.b c.args.derived.now c.args.queue.now c.add.new.self c.requires.placed
    (unset_from _ c.args.b c.requires.placed (λ has. true≢false (sym (c.has.ensures.1 has) ∙ c.if-not-has.true)))
    c.requires.marks c.add.ensures)

pub returns-else-not-has : goal.returns-else-not-has
returns-else-not-has c = marked_before c.args.b _ _ (c.has.ensures.0 c.if-not-has.false) c.requires.marks
