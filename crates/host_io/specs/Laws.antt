-- Laws of the disk, and small areas that show what they say.
use Rattle.std.specs.Prelude.{◌≡◌, ℕ, List, [], ◌∷◌, take}
use Rattle.host_io.specs.Disk.{Area, Disk, IsImage, IsSettled, at_rest, put, shorten, touch}

-- of a settled disk a stop leaves what a read gives
abbrev pub SettledIsItself : Type 0
SettledIsItself = (disk : Disk) (first second : List ℕ) → IsSettled disk → IsImage disk.first first → IsImage disk.second second → (first ≡ disk.first.reads) × (second ≡ disk.second.reads)

abbrev pub three : List ℕ
three = 1 ∷ 2 ∷ 3 ∷ []

-- two bytes were written at place 2 of three bytes
abbrev pub written_over : Area
written_over = touch 2 2 (put 2 (8 ∷ 9 ∷ []) three) (at_rest three)

-- old, new and other bytes in the range, and no length but three and four; the bytes before the range stay
abbrev pub WriteMayTear : Type 0
WriteMayTear =
    IsImage written_over three
    × IsImage written_over (1 ∷ 2 ∷ 8 ∷ 9 ∷ [])
    × IsImage written_over (1 ∷ 2 ∷ 0 ∷ 7 ∷ [])
    × (IsImage written_over (1 ∷ 2 ∷ []) → ⊥)
    × (IsImage written_over (1 ∷ 7 ∷ 8 ∷ 9 ∷ []) → ⊥)
    × (IsImage written_over (1 ∷ 2 ∷ 8 ∷ 9 ∷ 0 ∷ []) → ⊥)

-- three bytes were cut to one
abbrev pub cut_short : Area
cut_short = shorten 1 (take 1 three) (at_rest three)

-- any length from one to three, and the first byte stays
abbrev pub CutMayTear : Type 0
CutMayTear =
    IsImage cut_short (1 ∷ [])
    × IsImage cut_short three
    × IsImage cut_short (1 ∷ 0 ∷ [])
    × (IsImage cut_short [] → ⊥)
    × (IsImage cut_short (0 ∷ []) → ⊥)
    × (IsImage cut_short (1 ∷ 2 ∷ 3 ∷ 0 ∷ []) → ⊥)
