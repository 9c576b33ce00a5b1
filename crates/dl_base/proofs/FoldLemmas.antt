-- A placing on short elements folds to a match of the completed rows, and so of completed tables.
use Rattle.std.proofs.Common.{ℕ, inl, inr, true, false, List, [], ◌∷◌, Contains, refl, ap, subst}
use Rattle.dl_base.specs.Ontology.{Terminology}
use Rattle.dl_base.specs.Query.{Question, terms, terms_of}
use Rattle.dl_base.specs.Rows.{IsIndividual}
use Rattle.dl_base.specs.Unfolding.{Element, Named, Next, DerivedAt, Edge}
use Rattle.dl_base.specs.Completion.{Node, Individual, WitnessOf, IsNode, DerivedAtNode, NodePoints, RoleLeads, Represents, AreCompleted}
use Rattle.dl_base.specs.Tables.{TableRow, ConceptRow, RoleRow}
use Rattle.dl_base.specs.Matches.{IsMatch, IsRowAt, IsCompletedAt, IsCompletedMatch}
use Rattle.dl_base.specs.Answers.{Holds}
use Rattle.dl_base.specs.ShortUnfolding.{EndPoints, IsShort, node_of}
use Rattle.dl_base.specs.Lifting.{IsShortPlacing, IsFoldOf, Lifts}
use Rattle.dl_base.specs.Laws.{LastIsLive, FoldsToMatch}
use Rattle.dl_base.specs.declared.concept.Role.{Role}
use Rattle.dl_base.specs.declared.concept.Basic.{Basic}
use Rattle.dl_base.specs.declared.concept.Basic.TheVariants as basic
use Rattle.dl_base.specs.declared.element.Elem.{Elem}
use Rattle.dl_base.specs.declared.element.Elem.TheVariants as elem
use Rattle.dl_base.specs.declared.row.NamedRow.{NamedRow}
use Rattle.dl_base.specs.declared.query.Term.{Term}
use Rattle.dl_base.specs.declared.query.Atom.{Atom}
use Rattle.dl_base.specs.declared.query.Atom.TheVariants as atom
use Rattle.dl_base.proofs.NumberLemmas.{place_in, at_its_place}
use Rattle.dl_base.proofs.PlaceLemmas.{flat_there}
use Rattle.dl_base.proofs.RisingLemmas.{contains_first, contains_later}
use Rattle.dl_base.proofs.ShortLemmas.{short_node}

module _ (o : Terminology) (rows : List NamedRow) where
  -- what the end of a short element points to, so does the node that it folds to
  node_points : (e : Element) (r : Role) → IsShort o rows e → EndPoints o rows e r → NodePoints o rows (node_of e) r
  node_points (Named a) r short points = points
  node_points (Next e s) r short points = (short_node o rows (Next e s) short, points)

  -- what is derived at a short element is derived at its node
  pub derived_at_node : (e : Element) (b : Basic) → DerivedAt o rows e b → DerivedAtNode o rows (node_of e) b
  derived_at_node (Named a) b d = d
  derived_at_node (Next e r) b d = d

  -- a named role of two short elements leads from node to node
  pub node_leads : (p : ℕ) (e f : Element) → IsShort o rows e → IsShort o rows f → Edge o rows (record { name = p; inverse = false }) e f → RoleLeads o rows p (node_of e) (node_of f)
  node_leads p e f short_e short_f (inl row) =
      inl (record { from = row.from; to = row.to; from_is = ap node_of row.from_is; to_is = ap node_of row.to_is; row = row.row })
  node_leads p e f short_e short_f (inr (inl is)) =
      inr (inl (ap node_of is, node_points e (record { name = p; inverse = false }) short_e (subst (IsShort o rows) is short_f).1))
  node_leads p e f short_e short_f (inr (inr is)) =
      inr (inr (ap node_of is, node_points f (record { name = p; inverse = true }) short_f (subst (IsShort o rows) is short_e).1))

  module _ (names : List (List ℕ)) (generation : Role → ℕ) where
    -- the element of a node
    abbrev pub elem_of : Node → Elem
    elem_of (Individual a) = elem.Named (place_in names a)
    elem_of (WitnessOf r) = elem.Shared (record { role = r; generation = generation r })

    pub elem_is : ((a : List ℕ) → IsIndividual rows a → Contains names a) → (x : Node) → IsNode o rows x → Represents names generation (elem_of x) x
    elem_is numbered (Individual a) there = at_its_place names a (numbered a there)
    elem_is numbered (WitnessOf r) there = (refl, refl)

    module _ (q : Question) (place : Term → Element) (placed : IsShortPlacing o rows q place) where
      -- where each individual has a number, there are images that a placing on short elements folds to
      pub has_fold : ((a : List ℕ) → IsIndividual rows a → Contains names a) → IsFoldOf names generation q place (λ t. elem_of (node_of (place t)))
      has_fold numbered t there = elem_is numbered (node_of (place t)) (short_node o rows (place t) (placed.short t there))

      in_query : (a : Atom) (t : Term) → Contains q.atoms a → Contains (terms_of a) t → Contains (terms q) t
      in_query a t there of_it = flat_there terms_of q.atoms a t there of_it

      -- whatever images it folds to are a match
      pub fold_matches : (images : Term → Elem) → IsFoldOf names generation q place images → IsCompletedMatch o rows names generation q images
      fold_matches images folds (atom.Concept name t) there =
          let holds : Holds o rows place (atom.Concept name t) = placed.atoms (atom.Concept name t) there in
          let term_there : Contains (terms q) t = in_query (atom.Concept name t) t there (contains_first t []) in (
            holds.0,
            holds.1,
            record {
              node = node_of (place t);
              is = folds t term_there;
              there = short_node o rows (place t) (placed.short t term_there);
              derived = derived_at_node (place t) (basic.Concept holds.0) holds.2;
            },
          )
      fold_matches images folds (atom.Role name t u) there =
          let holds : Holds o rows place (atom.Role name t u) = placed.atoms (atom.Role name t u) there in
          let from_there : Contains (terms q) t = in_query (atom.Role name t u) t there (contains_first t (u ∷ [])) in
          let to_there : Contains (terms q) u = in_query (atom.Role name t u) u there (contains_later t (u ∷ []) u (contains_first u [])) in (
            holds.0,
            holds.1,
            record {
              from = node_of (place t);
              to = node_of (place u);
              from_is = folds t from_there;
              to_is = folds u to_there;
              leads = node_leads holds.0 (place t) (place u) (placed.short t from_there) (placed.short u to_there) holds.2;
            },
          )

    module _ (q : Question) (images : Term → Elem) where
      -- what lifts is a match
      pub lifted_match : Lifts o rows names generation q images → IsCompletedMatch o rows names generation q images
      lifted_match l = fold_matches q l.place l.placed images l.folds

      -- a match in the completed rows is one in completed tables
      module _ (table : List TableRow) (completed : AreCompleted o rows names generation table) where
        row_in_table : (a : Atom) → IsCompletedAt o rows names generation images a → IsRowAt o table images a
        row_in_table (atom.Concept name t) (c, named, row) = (c, named, (completed.each (ConceptRow c (images t))).1 row)
        row_in_table (atom.Role name t u) (p, named, row) = (p, named, (completed.each (RoleRow p (images t) (images u))).1 row)

        pub match_in_table : IsCompletedMatch o rows names generation q images → IsMatch o table q images
        match_in_table m a there = row_in_table a (m a there)

pub last_is_live : LastIsLive
last_is_live o rows e r short = short_node o rows (Next e r) short

pub folds_to_match : FoldsToMatch
folds_to_match o rows names generation q place placed = (
  fold_matches o rows names generation q place placed,
  λ numbered. ((λ t. elem_of o rows names generation (node_of (place t))), has_fold o rows names generation q place placed numbered),
)
