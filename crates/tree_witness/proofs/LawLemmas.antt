-- A match passes exactly where it lifts.
use Rattle.std.specs.Prelude.{◌↔◌}
use Rattle.std.proofs.Common.{Bool, IsTrue, ◌≡◌, ◌≢◌, ℕ, ◌<◌, ◌≤◌, List, length, AllPairs, Contains, refl, sym, subst, arith}
use Rattle.std.proofs.lemmas.List.Elements.{All-contains}
use Rattle.dl_base.specs.Ontology.{Terminology}
use Rattle.dl_base.specs.Tables.{TableRow}
use Rattle.dl_base.specs.Completion.{AreCompleted}
use Rattle.dl_base.specs.declared.concept.Role.{Role}
use Rattle.dl_base.specs.declared.element.Elem.{Elem}
use Rattle.dl_base.specs.declared.row.NamedRow.{NamedRow}
use Rattle.query_shape.specs.Shape.{Layout, IsLayout, IsShapeMatch, IsBelow}
use Rattle.query_shape.specs.Lifting.{LiftsShape}
use Rattle.query_shape.specs.Lifting.{DecidesLifting}
use Rattle.query_shape.specs.TreeWitness.{PassesTrees}
use Rattle.query_shape.specs.declared.layout.ShapeAtom.{ShapeAtom}
use Rattle.match_filter.specs.Links.{IsLink}
use Rattle.match_filter.proofs.Sufficiency.{link_within, makes_placing}
use Rattle.tree_witness.specs.TreeLaws.{LiftsWherePassed}
use Rattle.tree_witness.specs.Trees.{Trees, AreTreesOf, PassesBy}
use Rattle.tree_witness.proofs.PassLemmas.{passes_by_trees}
use Rattle.tree_witness.proofs.Placed.{placed_passes}
use Rattle.tree_witness.proofs.Reached.{passed_agree, passed_grounded}
use Rattle.tree_witness.proofs.Classed.{decide_joined}

module _ (s : Layout) (images : List Elem) (layout : IsLayout s) (count : length images ≡ length s.terms) where
  below : (a : ShapeAtom) → Contains s.atoms a → IsBelow (length images) a
  below a there = subst (λ (n : ℕ). IsBelow n a) (sym count) (All-contains (IsBelow (length s.terms)) s.atoms a layout.below there)

  few : length images ≤ 24
  few = omega (arith, count, layout.terms)

  within : (p c : ℕ) → IsLink images s.atoms p c → (p < length images) × (c < length images)
  within p c l = link_within images s.atoms below p c l

  within_24 : (p c : ℕ) → IsLink images s.atoms p c → (p < 24) × (c < 24)
  within_24 p c l = let both = within p c l in let most = few in (omega (arith, both.0), omega (arith, both.1))

  below_24 : (k : ℕ) → k < length images → k < 24
  below_24 k lt = let most = few in omega arith

  into : (o : Terminology) (rows : List NamedRow) (names : List (List ℕ)) (generation : Role → ℕ) (table : List TableRow) → AreCompleted o rows names generation table → IsShapeMatch table s images
      → PassesTrees s.atoms images → LiftsShape o rows names generation s images
  into o rows names generation table completed is_match passes =
      makes_placing o rows names generation table completed images s.atoms below is_match.atoms (λ k lt. layout.used k (subst (λ (n : ℕ). k < n) count lt))
      (λ j k at_j at_k. decide_joined images s.atoms within_24 j k (below_24 j at_j) (below_24 k at_k))
      (passed_agree o rows names generation table completed images s.atoms is_match.atoms passes)
      (passed_grounded o rows names generation table completed images s.atoms is_match.atoms passes (length images) within) s refl count

  back : (o : Terminology) (rows : List NamedRow) (names : List (List ℕ)) (generation : Role → ℕ) → AllPairs (λ x y. x ≢ y) names → LiftsShape o rows names generation s images → PassesTrees s.atoms images
  back o rows names generation distinct l =
      placed_passes o rows names generation images s.atoms l.place below (λ k lt. l.short k (subst (λ (n : ℕ). k < n) count lt)) l.folds l.atoms distinct

pub lifting : LiftsWherePassed
lifting o rows names generation table s images distinct completed layout is_match =
    (into s images layout is_match.count o rows names generation table completed is_match, back s images layout is_match.count o rows names generation distinct)

-- so the test by the trees of a shape decides what lifts
pub trees_decide : (s : Layout) (t : Trees) (images : List Elem) (answer : Bool) → IsTrue answer ↔ PassesBy t images → IsLayout s → AreTreesOf s t → DecidesLifting s images answer
trees_decide s t images answer tells layout are o rows names generation table distinct completed is_match =
    let law = lifting o rows names generation table s images distinct completed layout is_match in
    let trees = passes_by_trees s t images are in
    (λ yes. law.0 (trees.0 (tells.0 yes)), λ l. tells.1 (trees.1 (law.1 l)))
