use Rattle.std.proofs.Common.{◌≡◌, ◌+◌, ◌*◌, ◌<◌, ◌≤◌, length, length-append, arith, ap, ◌∙◌}
use Rattle.std.specs.Int.{w64, trailing_zeros}
use Rattle.horn_closure.specs.Run.{count}
use Rattle.horn_closure.proofs.SeedLemmas.{IsNext, next_bit, shifted_past, word_counts, word_end}
use Rattle.horn_closure.proofs.seeds.queue_word.Goals as goal

pub push-requires-clause-place : goal.push-requires-clause-place
push-requires-clause-place c =
    let next : IsNext c.args.word c.loop-rest.at (c.loop-rest.at + trailing_zeros w64 c.loop-rest.rest) = next_bit _ _ _ (omega arith) (omega arith) c.loop-rest-test.true c.loop-rest.invariant.bits in
    let inside : c.loop-rest.at + trailing_zeros w64 c.loop-rest.rest < 64 = next.inside in
    let word : c.args.w < 16 = c.requires.word in
    omega arith

pub push-requires-clause-room : goal.push-requires-clause-room
push-requires-clause-room c =
    let next : IsNext c.args.word c.loop-rest.at (c.loop-rest.at + trailing_zeros w64 c.loop-rest.rest) = next_bit _ _ _ (omega arith) (omega arith) c.loop-rest-test.true c.loop-rest.invariant.bits in
    let inside : c.loop-rest.at + trailing_zeros w64 c.loop-rest.rest < 64 = next.inside in
    let room : length c.loop-rest.queue ≤ 64 * c.args.w + c.loop-rest.at = c.loop-rest.invariant.room in
    let word : c.args.w < 16 = c.requires.word in
    omega arith

pub loop-rest-preserved : goal.loop-rest-preserved
loop-rest-preserved c =
    let next : IsNext c.args.word c.loop-rest.at (c.loop-rest.at + trailing_zeros w64 c.loop-rest.rest) = next_bit _ _ _ (omega arith) (omega arith) c.loop-rest-test.true c.loop-rest.invariant.bits in
    let inside : c.loop-rest.at + trailing_zeros w64 c.loop-rest.rest < 64 = next.inside in
    let room : length c.loop-rest.queue ≤ 64 * c.args.w + c.loop-rest.at = c.loop-rest.invariant.room in
    let longer : length c.push.new.self ≡ length c.loop-rest.queue + 1 = ap length c.push.ensures ∙ length-append c.loop-rest.queue _ in
    record {
      within = omega arith;
      bits = λ i. shifted_past _ _ _ _ i c.loop-rest.invariant.bits;
      room = omega arith;
      each = λ p. rw c.push.ensures (word_counts _ _ _ _ _ _ p (omega arith) next (c.loop-rest.invariant.each p));
    }

pub returns-clause-each : goal.returns-clause-each
returns-clause-each c = λ p. c.loop-rest.invariant.each p ∙ ap (λ n. count p c.args.queue.now + n) (word_end _ c.loop-rest.rest _ c.args.w p (omega arith) c.loop-rest.invariant.bits)
