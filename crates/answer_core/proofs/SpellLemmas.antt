-- Keys by name from keys by number.
use Rattle.std.proofs.Common.{◌≡◌, ℕ, List, [], ◌∷◌, sym, refl, ◌∙◌}
use Rattle.dl_base.proofs.PlaceLemmas.{some_same}
use Rattle.answer_core.specs.Found.{SpellsKey}

-- numbers spell one key
pub spells_same : (names : List (List ℕ)) (ns : List ℕ) (key other : List (List ℕ)) → SpellsKey names ns key → SpellsKey names ns other → other ≡ key
spells_same names [] [] [] s t = refl
spells_same names [] [] (b ∷ bs) s t = absurd t
spells_same names [] (a ∷ rest) other s t = absurd s
spells_same names (n ∷ ns) [] other s t = absurd s
spells_same names (n ∷ ns) (a ∷ rest) [] s t = absurd t
spells_same names (n ∷ ns) (a ∷ rest) (b ∷ more) s t =
    let head : b ≡ a = some_same (sym t.0 ∙ s.0) in
    let tail : more ≡ rest = spells_same names ns rest more s.1 t.1 in
    λ j. head j ∷ tail j
