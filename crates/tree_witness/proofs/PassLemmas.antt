-- The test by trees is that by tree witnesses.
use Rattle.std.proofs.Common.{◌≡◌, List, [], get_or, Option, Some, None, slice_get, All, Contains, MatchOption, refl, sym, subst}
use Rattle.std.proofs.lemmas.List.Elements.{All-contains, Contains-get_or}
use Rattle.dl_base.specs.declared.concept.Role.{Role}
use Rattle.dl_base.specs.declared.element.Elem.{Elem}
use Rattle.query_shape.specs.TreeWitness.{IsOn, TreeWitness, HasTreeWitness, TopsAgree, PassesTrees}
use Rattle.dl_base.proofs.PlaceLemmas.{map_contains, map_from}
use Rattle.query_shape.specs.declared.layout.ShapeAtom.{ShapeAtom}
use Rattle.tree_witness.specs.Trees.{IsTreeWitnessOf, TopAgrees, PassesEntry, PassesBy}
use Rattle.tree_witness.specs.TreeLaws.{PassesByTrees}
use Rattle.tree_witness.specs.declared.oriented.OrientedAtom.{OrientedAtom}
use Rattle.tree_witness.specs.declared.tree.ReachedTerm.{ReachedTerm}
use Rattle.tree_witness.specs.declared.trees.TreeEntry.{TreeEntry}
use Rattle.tree_witness.proofs.OrientedAtomLemmas.{oriented_from, oriented_there}

abbrev atom_in : TreeEntry → OrientedAtom
atom_in e = e.atom

module _ (images : List Elem) (atoms : List ShapeAtom) where
  -- what is asked of an oriented atom
  abbrev PassesAt : OrientedAtom → Type 0
  PassesAt a = HasTreeWitness atoms a.role a.from × TopsAgree atoms images a.role a.from

  into_atom : (a : OrientedAtom) (tree : Option (List ReachedTerm)) → IsTreeWitnessOf atoms a tree → MatchOption tree ⊥ (All (TopAgrees images a.from)) → PassesAt a
  into_atom a None is pass = absurd pass
  into_atom a (Some list) (has, reached) pass = (has, λ s h. All-contains (TopAgrees images a.from) list (record { term = s; roles = [] }) pass ((reached.each (record { term = s; roles = [] })).1 h) refl)

  from_atom : (a : OrientedAtom) (tree : Option (List ReachedTerm)) → IsTreeWitnessOf atoms a tree → PassesAt a → MatchOption tree ⊥ (All (TopAgrees images a.from))
  from_atom a None none pass = none pass.0
  from_atom a (Some list) (has, reached) pass = λ k d lt roles. at (get_or list k d) (Contains-get_or list k d lt) roles
    where
      at : (h : ReachedTerm) → Contains list h → h.roles ≡ [] → slice_get images h.term ≡ slice_get images a.from
      at h there roles = pass.1 h.term (subst (λ (w : List Role). TreeWitness atoms a.role a.from h.term w) roles ((reached.each h).0 there))

pub passes_by_trees : PassesByTrees
passes_by_trees s t images are = (into, back)
  where
    into : PassesBy t images → PassesTrees s.atoms images
    into pass r m u atom on = by (map_from atom_in t.entries a (subst (λ (as' : List OrientedAtom). Contains as' a) (sym are.order) (oriented_there s.atoms r m u atom)))
      where
        a : OrientedAtom
        a = record { role = r; from = m; to = u }

        by : (e : TreeEntry) × Contains t.entries e × (a ≡ e.atom) → HasTreeWitness s.atoms r m × TopsAgree s.atoms images r m
        by (e, there, is) =
            into_atom images s.atoms a e.tree (subst (λ (x : OrientedAtom). IsTreeWitnessOf s.atoms x e.tree) (sym is) (All-contains (λ (e : TreeEntry). IsTreeWitnessOf s.atoms e.atom e.tree) t.entries e are.trees there))
            (subst (λ (x : OrientedAtom). IsOn images x.role x.to → MatchOption e.tree ⊥ (All (TopAgrees images x.from))) (sym is) (All-contains (PassesEntry images) t.entries e pass there) on)

    back : PassesTrees s.atoms images → PassesBy t images
    back pass k d lt on = at (get_or t.entries k d) (Contains-get_or t.entries k d lt) on
      where
        at : (e : TreeEntry) → Contains t.entries e → PassesEntry images e
        at e there on =
            from_atom images s.atoms e.atom e.tree (All-contains (λ (e : TreeEntry). IsTreeWitnessOf s.atoms e.atom e.tree) t.entries e are.trees there)
            (pass e.atom.role e.atom.from e.atom.to (oriented_from s.atoms e.atom (subst (λ (as' : List OrientedAtom). Contains as' e.atom) are.order (map_contains atom_in t.entries e there))) on)
