-- Atoms read both ways, as a list.
use Rattle.std.proofs.Common.{◌≡◌, ℕ, ◌⊎◌, inl, inr, List, [], ◌∷◌, get_or, All, Contains, refl, sym, subst, arith}
use Rattle.std.proofs.lemmas.List.Elements.{All-contains, Contains-get_or}
use Rattle.dl_base.specs.Derivation.{inverse}
use Rattle.dl_base.specs.declared.concept.Role.{Role}
use Rattle.dl_base.proofs.PlaceLemmas.{flat_there, flat_part}
use Rattle.dl_base.proofs.RisingLemmas.{contains_cases, contains_first, contains_later}
use Rattle.query_shape.specs.Shape.{IsBelow}
use Rattle.query_shape.specs.declared.layout.ShapeAtom.{ShapeAtom}
use Rattle.query_shape.specs.declared.layout.ShapeAtom.TheVariants as shape
use Rattle.query_shape.specs.TreeWitness.{IsOriented}
use Rattle.tree_witness.specs.Trees.{read_both_ways, oriented_atoms, IsOrientedBelow}
use Rattle.tree_witness.specs.declared.oriented.OrientedAtom.{OrientedAtom}

abbrev read_as : Role → ℕ → ℕ → OrientedAtom
read_as r s u = record { role = r; from = s; to = u }

pub oriented_there : (atoms : List ShapeAtom) (r : Role) (s u : ℕ) → IsOriented atoms r s u → Contains (oriented_atoms atoms) (record { role = r; from = s; to = u })
oriented_there atoms r s u (inl there) = flat_there read_both_ways atoms (shape.Role r s u) (read_as r s u) there (contains_first (read_as r s u) (read_as (inverse r) u s ∷ []))
oriented_there atoms r s u (inr (q, is, there)) =
    subst (λ (p : Role). Contains (oriented_atoms atoms) (read_as p s u)) (sym is)
    (flat_there read_both_ways atoms (shape.Role q u s) (read_as (inverse q) s u) there
    (contains_later (read_as q u s) (read_as (inverse q) s u ∷ []) (read_as (inverse q) s u) (contains_first (read_as (inverse q) s u) [])))

one_way : (atoms : List ShapeAtom) (a : ShapeAtom) (x : OrientedAtom) → Contains atoms a → Contains (read_both_ways a) x → IsOriented atoms x.role x.from x.to
one_way atoms (shape.Concept c n) x there one = absurd (omega (arith, one.1))
one_way atoms (shape.Role r n m) x there one = by (contains_cases (read_as r n m) (read_as (inverse r) m n ∷ []) x one)
  where
    later : (x ≡ read_as (inverse r) m n) ⊎ Contains [] x → IsOriented atoms x.role x.from x.to
    later (inl is) = subst (λ (y : OrientedAtom). IsOriented atoms y.role y.from y.to) (sym is) (inr (r, refl, there))
    later (inr c) = absurd (omega (arith, c.1))

    by : (x ≡ read_as r n m) ⊎ Contains (read_as (inverse r) m n ∷ []) x → IsOriented atoms x.role x.from x.to
    by (inl is) = subst (λ (y : OrientedAtom). IsOriented atoms y.role y.from y.to) (sym is) (inl there)
    by (inr c) = later (contains_cases (read_as (inverse r) m n) [] x c)

pub oriented_from : (atoms : List ShapeAtom) (x : OrientedAtom) → Contains (oriented_atoms atoms) x → IsOriented atoms x.role x.from x.to
oriented_from atoms x c = let part = flat_part read_both_ways atoms x c in one_way atoms part.0 x part.1 part.2

-- their terms are those of the atoms
pub ends_below : (count : ℕ) (atoms : List ShapeAtom) → All (IsBelow count) atoms → All (IsOrientedBelow count) (oriented_atoms atoms)
ends_below count atoms below k d lt = by (get_or (oriented_atoms atoms) k d) (oriented_from atoms (get_or (oriented_atoms atoms) k d) (Contains-get_or (oriented_atoms atoms) k d lt))
  where
    by : (a : OrientedAtom) → IsOriented atoms a.role a.from a.to → IsOrientedBelow count a
    by a (inl there) = All-contains (IsBelow count) atoms (shape.Role a.role a.from a.to) below there
    by a (inr (q, is, there)) = let both = All-contains (IsBelow count) atoms (shape.Role q a.to a.from) below there in (both.1, both.0)
