use Rattle.std.proofs.Common.{◌≡◌, ◌≤◌, ◌<◌, ℕ, List, [], ◌∷◌, length, get_or, map, ◌∙◌, ap, subst, arith}
use Rattle.std.specs.Prelude.{string_bytes}
use Rattle.obda_run.specs.Words.{IsSampleSize}
use Rattle.obda_run.proofs.command.command_of.Goals as goal

-- two words are the first and the second one
both_words : {X : Type 0} (words : List X) (first second : X) → 2 ≤ length words → length words < 3 → first ≡ get_or words 0 first → second ≡ get_or words 1 second → words ≡ first ∷ second ∷ []
both_words [] first second some few is other = absurd (omega (arith, some))
both_words (x ∷ []) first second some few is other = absurd (omega (arith, some))
both_words (x ∷ y ∷ []) first second some few is other = cc
both_words (x ∷ y ∷ z ∷ words) first second some few is other = absurd (omega (arith, few))

pub returns-in-len2-clause-sample : goal.returns-in-len2-clause-sample
returns-in-len2-clause-sample c = λ size.
    let words = both_words c.args.words.now c.word-item-then-words-lt3.result c.size-item.result c.in-len2.len_at_least c.in-len2.len_below c.word-item-then-words-lt3.is c.size-item.is in
    let name = c.is_sample.ensures.0 c.if-is_sample.true in (
      λ is. (string_bytes c.size-item.result, ap (map string_bytes) words ∙ ap (λ (w : List ℕ). w ∷ string_bytes c.size-item.result ∷ []) name, (c.sample_of.ensures.sample size).0 is),
      λ is. let same : is.0 ≡ string_bytes c.size-item.result = (let e : map string_bytes c.args.words.now ≡ string_bytes c.word-item-then-words-lt3.result ∷ string_bytes c.size-item.result ∷ [] = ap (map string_bytes) words in let f = is.1 in cc) in
          (c.sample_of.ensures.sample size).1 (subst (λ (w : List ℕ). IsSampleSize size w) same is.2),
    )
