use Rattle.std.proofs.Common.{◌≡◌, ◌≤◌, ◌+◌, ◌*◌, length, arith, sym, ◌∙◌}
use Rattle.horn_closure.proofs.SeedLemmas.{words_first, words_counts, words_end, words_past, all_from_counts}
use Rattle.horn_closure.proofs.seeds.queue_all.Goals as goal

pub loop-w-init : goal.loop-w-init
loop-w-init c = record { room = rw c.requires (omega arith); each = λ p. rw c.requires (sym (words_first c.words-words.result.now p)) }

pub loop-w-preserved : goal.loop-w-preserved
loop-w-preserved c = record {
  room = (let more : length c.queue_word.new.queue ≤ 64 * c.loop-w.w + 64 = c.queue_word.ensures.room in omega arith);
  each = λ p. words_counts _ _ _ c.loop-w.w p (c.queue_word.ensures.each p) (c.loop-w.invariant.each p);
}

pub returns : goal.returns
returns c =
    let all : length c.words-words.result.now ≡ 16 = c.words-words.ensures.all in
    record {
      inside = all_from_counts 1024 _ (λ p past. c.loop-w.invariant.each p ∙ words_past _ c.loop-w.w p (omega arith));
      each = λ p below. c.loop-w.invariant.each p ∙ words_end _ _ c.loop-w.w p (omega arith) c.words-words.ensures.words;
    }
