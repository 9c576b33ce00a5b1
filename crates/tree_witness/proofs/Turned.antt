-- Oriented atoms, and how tree witnesses hang together.
use Rattle.std.proofs.Common.{◌≡◌, ◌≢◌, ℕ, ◌<◌, inl, inr, Bool, true, false, not, List, ◌∷◌, ◌++◌, length, Contains, refl, sym, ◌∙◌, ap, subst}
use Rattle.std.proofs.lemmas.Option.{same_Some}
use Rattle.dl_base.specs.Derivation.{inverse}
use Rattle.dl_base.specs.Tables.{TableRow, edge_row, turned_row}
use Rattle.dl_base.specs.declared.concept.Role.{Role}
use Rattle.dl_base.specs.declared.element.Elem.{Elem}
use Rattle.dl_base.specs.declared.element.Elem.TheVariants as elem
use Rattle.dl_base.proofs.RoleLemmas.{inverse_twice}
use Rattle.query_shape.specs.Shape.{HoldsAt, IsBelow}
use Rattle.query_shape.specs.TreeWitness.{IsOn, IsOriented, TreeWitness, top, first, back, further}
use Rattle.query_shape.specs.declared.layout.ShapeAtom.{ShapeAtom}
use Rattle.query_shape.specs.declared.layout.ShapeAtom.TheVariants as shape
use Rattle.match_filter.proofs.Choices.{role_of}

-- a term is on the witness of one role
pub on_once : (images : List Elem) (r q : Role) (k : ℕ) → IsOn images r k → IsOn images q k → r ≡ q
on_once images r q k (w, at, is) (v, at_v, is_v) = sym is ∙ (ap role_of (same_Some (elem.Shared w) (elem.Shared v) (sym at ∙ at_v)) ∙ is_v)

-- an atom is read the other way
pub turned_round : (atoms : List ShapeAtom) (r : Role) (s u : ℕ) → IsOriented atoms r s u → IsOriented atoms (inverse r) u s
turned_round atoms r s u (inl there) = inr (r, refl, there)
turned_round atoms r s u (inr (q, is, there)) =
    inl (subst (λ (p : Role). Contains atoms (shape.Role p u s)) (sym (inverse_twice q) ∙ ap inverse (sym is)) there)

turned_twice : (b : Bool) (p : ℕ) (e f : Elem) → turned_row b p e f ≡ turned_row (not b) p f e
turned_twice true p e f = refl
turned_twice false p e f = refl

-- the row of an oriented atom of a match
pub oriented_holds : (table : List TableRow) (images : List Elem) (atoms : List ShapeAtom) → ((a : ShapeAtom) → Contains atoms a → HoldsAt table images a)
    → (r : Role) (s u : ℕ) → IsOriented atoms r s u → HoldsAt table images (shape.Role r s u)
oriented_holds table images atoms holds r s u (inl there) = holds (shape.Role r s u) there
oriented_holds table images atoms holds r s u (inr (q, is, there)) = by (holds (shape.Role q u s) there)
  where
    by : HoldsAt table images (shape.Role q u s) → HoldsAt table images (shape.Role r s u)
    by (e, f, from, to, row) =
        (f, e, to, from, subst (λ (p : Role). Contains table (edge_row p f e)) (sym is) (subst (Contains table) (turned_twice q.inverse q.name e f) row))

-- the terms of an oriented atom
pub oriented_below : (images : List Elem) (atoms : List ShapeAtom) → ((a : ShapeAtom) → Contains atoms a → IsBelow (length images) a)
    → (r : Role) (s u : ℕ) → IsOriented atoms r s u → (s < length images) × (u < length images)
oriented_below images atoms below r s u (inl there) = below (shape.Role r s u) there
oriented_below images atoms below r s u (inr (q, is, there)) = let both = below (shape.Role q u s) there in (both.1, both.0)

-- what hangs below a term hangs below what this hangs below
pub hangs_behind : (atoms : List ShapeAtom) (r : Role) (t : ℕ) (q : Role) (w : List Role) (p : Role) (m : ℕ) → TreeWitness atoms r t m (q ∷ w) → p ≢ inverse q
    → {s : ℕ} {v : List Role} → TreeWitness atoms p m s v → TreeWitness atoms r t s (v ++ q ∷ w)
hangs_behind atoms r t q w p m here on {s} {v} (top is) = subst (λ (k : ℕ). TreeWitness atoms r t k (q ∷ w)) (sym is) here
hangs_behind atoms r t q w p m here on (first h atom) = further (hangs_behind atoms r t q w p m here on h) atom on
hangs_behind atoms r t q w p m here on (back h atom) = back (hangs_behind atoms r t q w p m here on h) atom
hangs_behind atoms r t q w p m here on (further h atom other) = further (hangs_behind atoms r t q w p m here on h) atom other
