-- How long the sample script is.
use Rattle.std.proofs.Common.{◌≤◌, ◌+◌, ◌*◌, ◌/◌, ◌%◌, ◌==◌, ℕ, zero, suc, [], ◌∷◌, ◌++◌, length, map, codes, Bool, true, false, if◌then◌else◌, arith, length-append}
use Rattle.std.specs.List.{flat_map, range_with_len}
use Rattle.std.specs.Fmt.{decimal}
use Rattle.std.proofs.lemmas.Fmt.{length-decimal-le}
use Rattle.sample_gen.specs.SampleScript.{change_line, change_lines, chosen, chosen_line, course, ended, person}

decimal_short : (n : ℕ) → n ≤ 2000 → length (decimal n) ≤ 4
decimal_short n small = length-decimal-le 4 n (omega arith) (omega (arith, small)) (omega (arith, small))

line_short : (size k x : ℕ) → 1 ≤ size → size ≤ 2000 → k ≤ 2000 → length (change_line size k x) ≤ 25
line_short size k x some most small = by (x % 3 == 0) (x % 3 == 1)
  where
    by : (b c : Bool) → length (if b then codes "add 0 Prof " ++ person k else if c then codes "add 0 teaches " ++ person k ++ codes " " ++ course ((x / 3) % size + 1) else codes "add 0 Staff " ++ person k) ≤ 25
    by true c = omega (arith, decimal_short k small)
    by false true =
        let front = codes "add 0 teaches " ++ person k in
        omega (arith, decimal_short k small, decimal_short ((x / 3) % size + 1) (omega (arith, some, most)), length-append front (codes " "), length-append (front ++ codes " ") (course ((x / 3) % size + 1)))
    by false false = omega (arith, decimal_short k small)

lines_short : (size a n : ℕ) → 1 ≤ size → size ≤ 2000 → a + n ≤ 2001 → length (flat_map ended (map (chosen_line size) (range_with_len a n))) ≤ 26 * n
lines_short size a zero some most within = omega arith
lines_short size a (suc n) some most within =
    omega (
      arith,
      line_short size a (chosen size a) some most (omega (arith, within)),
      lines_short size (a + 1) n some most (omega (arith, within)),
      length-append (chosen_line size a) (10 ∷ []),
      length-append (ended (chosen_line size a)) (flat_map ended (map (chosen_line size) (range_with_len (a + 1) n))),
    )

pub changes_short : (size : ℕ) → 1 ≤ size → size ≤ 2000 → length (flat_map ended (change_lines size)) ≤ 26 * size
changes_short size some most = lines_short size 1 size some most (omega (arith, most))
