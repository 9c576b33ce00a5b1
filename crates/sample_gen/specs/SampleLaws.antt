-- A small sample.
use Rattle.std.specs.Prelude.{◌≡◌, [], ◌∷◌, codes}
use Rattle.sample_gen.specs.SampleScript.{change_lines, chosen}

-- the numbers that choose its changes, and its changes
abbrev pub SampleOfFour : Type 0
SampleOfFour = (chosen 4 1 ≡ 374) × (chosen 4 2 ≡ 28124) × (chosen 4 3 ≡ 12190) × (chosen 4 4 ≡ 62343)
    × (change_lines 4 ≡ codes "add 0 Staff p1" ∷ codes "add 0 Staff p2" ∷ codes "add 0 teaches p3 c4" ∷ codes "add 0 Prof p4" ∷ [])
