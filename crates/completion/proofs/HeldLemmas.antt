-- What an individual holds, found row by row.
use Rattle.std.proofs.Common.{◌≡◌, ℕ, ◌⊎◌, ◌↔◌, inl, inr, List, [], ◌∷◌, ◌++◌, Contains, sym, subst, arith}
use Rattle.std.proofs.lemmas.List.Elements.{Contains-append_left, Contains-push}
use Rattle.assert_tables.specs.Naming.{AreRowsNaming}
use Rattle.assert_tables.specs.Rows.{IsNamedIn}
use Rattle.completion.specs.Numbered.{GivesBasic, HoldsBy}
use Rattle.dl_base.specs.Sets.{HasBasic}
use Rattle.dl_base.specs.declared.concept.Basic.{Basic}
use Rattle.dl_base.specs.declared.row.Row.{Row}
use Rattle.dl_base.specs.declared.row.Row.TheVariants as row
use Rattle.dl_base.proofs.RowLemmas.{contains_cut}

-- what these rows give the individual is held, and nothing else
pub record AreHeld (these : List Row) (n : ℕ) (held : List ℕ) : Type 0 where
  pub each : (b : Basic) → HasBasic held b ↔ ((r : Row) × Contains these r × GivesBasic r n b)

-- a row that gives an individual something names it
pub gives_named : (r : Row) (n : ℕ) (b : Basic) → GivesBasic r n b → IsNamedIn n r
gives_named (row.Concept c a) n b g = inl (sym g.0)
gives_named (row.Role p a d) n b (inl g) = inl (sym g.0)
gives_named (row.Role p a d) n b (inr g) = inr (sym g.0)

pub held_more : (these : List Row) (n : ℕ) (r : Row) (held new : List ℕ) → ((b : Basic) → HasBasic new b ↔ (GivesBasic r n b ⊎ HasBasic held b)) → AreHeld these n held → AreHeld (these ++ r ∷ []) n new
held_more these n r held new adds far = record {
  each = λ b. (
    λ h. elim ((adds b).0 h) [
      | inl gives ↦ (r, Contains-push these r, gives)
      | inr before ↦ (let found = (far.each b).0 before in (found.0, Contains-append_left these (r ∷ []) found.0 found.1, found.2))
    ],
    λ found. (adds b).1 (elim (contains_cut these r found.0 found.1) [
      | inl e ↦ inl (subst (λ (x : Row). GivesBasic x n b) e found.2)
      | inr d ↦ inr ((far.each b).1 (found.0, d, found.2))
    ]),
  );
}

-- where they are all that name the individual, everything is found
pub held_all : (rows these : List Row) (n : ℕ) (held : List ℕ) → AreRowsNaming rows n these → AreHeld these n held → (b : Basic) → HasBasic held b ↔ HoldsBy rows n b
held_all rows these n held naming are b = (
  λ h. (let found = (are.each b).0 h in (found.0, ((naming.each found.0).0 found.1).0, found.2)),
  λ found. (are.each b).1 (found.0, (naming.each found.0).1 (found.1, gives_named found.0 n b found.2), found.2),
)
