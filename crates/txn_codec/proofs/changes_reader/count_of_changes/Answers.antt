use Rattle.std.proofs.Common.{◌≡◌, ℕ, List, [], ◌∷◌, ◌++◌, length, refl, sym, ◌∙◌, ap, arith, length-append}
use Rattle.byteorder.specs.Endian.{big_number}
use Rattle.txn_codec.proofs.changes_reader.count_of_changes.Goals as goal

-- the first four bytes alone are the number
front_number : (front back : List ℕ) → length front ≡ 4 → big_number 4 (front ++ back) ≡ big_number 4 front
front_number [] back long = absurd (omega arith)
front_number (a ∷ []) back long = absurd (omega arith)
front_number (a ∷ b ∷ []) back long = absurd (omega arith)
front_number (a ∷ b ∷ c ∷ []) back long = absurd (omega arith)
front_number (a ∷ b ∷ c ∷ d ∷ []) back long = refl
front_number (a ∷ b ∷ c ∷ d ∷ e ∷ more) back long = absurd (omega arith)

pub returns-then-bytes-lt4 : goal.returns-then-bytes-lt4
returns-then-bytes-lt4 c = λ changes s. omega (arith, c.if-bytes-lt4.true, ap length s.parts, length-append s.front s.back, s.in_first.0)

pub returns : goal.returns
returns c = λ changes s.
    let same : big_number 4 c.args.bytes.now ≡ s.met = ap (big_number 4) s.parts ∙ front_number s.front s.back s.in_first.0 ∙ sym s.in_first.1 in
    omega (arith, s.in_second.1, s.in_second.2, same, c.read_u32.ensures)
