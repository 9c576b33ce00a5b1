use Rattle.std.proofs.Common.{◌≡◌, ◌+◌, ◌*◌, ◌%◌, ◌++◌, ℕ, List, [], ◌∷◌, map, arith, refl, ap, sym, ◌∙◌, add-one, append_assoc}
use Rattle.std.proofs.lemmas.List.{append-nil}
use Rattle.std.proofs.lemmas.Grind.{flat_map-append}
use Rattle.std.proofs.lemmas.List.FromFn.{map-range_with_len_more}
use Rattle.std.specs.List.{flat_map, range_with_len}
use Rattle.sample_gen.specs.SampleScript.{change_line, chosen, chosen_line, ended}
use Rattle.sample_gen.proofs.script.append_changes.Goals as goal

chosen_next : (size n : ℕ) → chosen size (n + 1) ≡ (75 * chosen size n + 74) % 65537
chosen_next size n = rw add-one

lines_more : (size n : ℕ) → flat_map ended (map (chosen_line size) (range_with_len 1 (n + 1))) ≡ flat_map ended (map (chosen_line size) (range_with_len 1 n)) ++ ended (chosen_line size (n + 1))
lines_more size n =
    ap (flat_map ended) (map-range_with_len_more (chosen_line size) 1 n (n + 1) (omega arith))
    ∙ flat_map-append ended (map (chosen_line size) (range_with_len 1 n)) (chosen_line size (n + 1) ∷ [])
    ∙ ap (λ (l : List ℕ). flat_map ended (map (chosen_line size) (range_with_len 1 n)) ++ l) (append-nil (ended (chosen_line size (n + 1))))

written_more : (size n x y : ℕ) (start before after : List ℕ) → x ≡ chosen size n → y ≡ (75 * x + 74) % 65537 → before ≡ start ++ flat_map ended (map (chosen_line size) (range_with_len 1 n))
    → after ≡ before ++ ended (change_line size (n + 1) y) → after ≡ start ++ flat_map ended (map (chosen_line size) (range_with_len 1 (n + 1)))
written_more size n x y start before after is next was now =
    let same : y ≡ chosen size (n + 1) = next ∙ ap (λ (k : ℕ). (75 * k + 74) % 65537) is ∙ sym (chosen_next size n) in
    now ∙ ap (λ (l : List ℕ). l ++ ended (change_line size (n + 1) y)) was
    ∙ append_assoc start (flat_map ended (map (chosen_line size) (range_with_len 1 n))) (ended (change_line size (n + 1) y))
    ∙ ap (λ (k : ℕ). start ++ (flat_map ended (map (chosen_line size) (range_with_len 1 n)) ++ ended (change_line size (n + 1) k))) same
    ∙ ap (λ (l : List ℕ). start ++ l) (sym (lines_more size n))

pub loop-number-preserved : goal.loop-number-preserved
loop-number-preserved c =
    let i = c.loop-number.invariant in
    record {
      small = omega arith;
      last = ap (λ (k : ℕ). (75 * k + 74) % 65537) i.last ∙ sym (chosen_next c.args.size c.loop-number.number);
      written = written_more c.args.size c.loop-number.number c.loop-number.chosen _ c.args.script.now.items c.loop-number.script.items c.append_change.new.script.items i.last refl i.written c.in_ok-append_change.ensures;
    }
