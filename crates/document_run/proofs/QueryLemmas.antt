-- Queries of a document: names that the axioms lack.
use Rattle.std.proofs.Common.{◌≡◌, ℕ, zero, suc, List, [], ◌∷◌, ◌++◌, take, drop, slice_get, All, Contains, Some, refl, sym, ◌∙◌, ap, subst}
use Rattle.dl_base.specs.Ontology.{Terminology}
use Rattle.dl_base.specs.Axiom.{Statement}
use Rattle.dl_base.specs.Query.{Question}
use Rattle.dl_base.specs.declared.query.Term.{Term}
use Rattle.dl_base.specs.declared.query.Atom.{Atom}
use Rattle.dl_base.specs.declared.query.Atom.TheVariants as atom
use Rattle.dl_base.proofs.DerivationLemmas.{all-by}
use Rattle.dl_base.proofs.RisingLemmas.{all_contains, contains_first}
use Rattle.query_shape.specs.ShapeFault.{IsKnown, IsFirstFault, IsAtomFault}
use Rattle.query_shape.specs.declared.numbering.ShapeError.{ShapeError}
use Rattle.query_shape.specs.declared.numbering.ShapeError.TheVariants as errors
use Rattle.document_run.specs.Document.{Context, vocabulary, IsFirstUnknown}
use Rattle.document_run.specs.Drafting.{KeepsOntology}
use Rattle.script_reader.proofs.ListLemmas.{first_once}
use Rattle.std.proofs.lemmas.List.Elements.{Contains-append_right}

-- ---- names

-- what an ontology of these axioms knows
module _ (said : Context) (o : Terminology) (k : KeepsOntology said o) where
  known_there : (a : Atom) → IsKnown o a → IsKnown (vocabulary said.axioms) a
  known_there (atom.Concept name t) there = subst (λ (names : List (List ℕ)). Contains names name) k.concepts there
  known_there (atom.Role name t u) there = subst (λ (names : List (List ℕ)). Contains names name) k.roles there

  known_here : (a : Atom) → IsKnown (vocabulary said.axioms) a → IsKnown o a
  known_here (atom.Concept name t) there = subst (λ (names : List (List ℕ)). Contains names name) (sym k.concepts) there
  known_here (atom.Role name t u) there = subst (λ (names : List (List ℕ)). Contains names name) (sym k.roles) there

  all_known_there : (atoms : List Atom) → All (IsKnown o) atoms → All (IsKnown (vocabulary said.axioms)) atoms
  all_known_there atoms known = λ i d below. known_there _ (known i d below)

  module _ (q : Question) where
    -- where the ontology knows all atoms, none is the first unknown
    pub none_unknown : All (IsKnown o) q.atoms → (a : Atom) → IsFirstUnknown said.axioms q a → ⊥
    none_unknown known a f =
        f.unknown (known_there a (all_contains (IsKnown o) q.atoms a (all-by (IsKnown o) q.atoms known)
        (subst (λ (atoms : List Atom). Contains atoms a) (sym f.parts) (Contains-append_right f.front (a ∷ f.more) a (contains_first a f.more)))))

    cut_at : (atoms : List Atom) (place : ℕ) (a : Atom) → slice_get atoms place ≡ Some a → atoms ≡ take place atoms ++ a ∷ drop (suc place) atoms
    cut_at [] place a there = absurd cc
    cut_at (b ∷ atoms) zero a there = (let same : b ≡ a = some_same b a there in ap (λ (c : Atom). c ∷ atoms) same)
      where
        some_same : (x y : Atom) → Some x ≡ Some y → x ≡ y
        some_same x y e = cc
    cut_at (b ∷ atoms) (suc place) a there = ap (λ (l : List Atom). b ∷ l) (cut_at atoms place a there)

    first_of : (e : ShapeError) (f : IsFirstFault o q.atoms e) (a : Atom) → f.atom ≡ a → (IsKnown o a → ⊥) → IsFirstUnknown said.axioms q a
    first_of e f a same not = record {
      front = take f.place q.atoms;
      more = drop (suc f.place) q.atoms;
      parts = cut_at q.atoms f.place a (f.there ∙ ap Some same);
      known = all_known_there (take f.place q.atoms) f.before;
      unknown = λ known. not (known_here a known);
    }

    concept_unknown : (name : List ℕ) (f : IsFirstFault o q.atoms (errors.UnknownConcept name)) (a : Atom) → f.atom ≡ a → IsAtomFault o a (errors.UnknownConcept name)
        → (n : List ℕ) × (t : Term) × IsFirstUnknown said.axioms q (atom.Concept n t)
    concept_unknown name f (atom.Concept n t) same fault = (n, t, first_of (errors.UnknownConcept name) f (atom.Concept n t) same fault.1)
    concept_unknown name f (atom.Role n t u) same fault = absurd fault

    role_unknown : (name : List ℕ) (f : IsFirstFault o q.atoms (errors.UnknownRole name)) (a : Atom) → f.atom ≡ a → IsAtomFault o a (errors.UnknownRole name)
        → (n : List ℕ) × (t : Term) × (u : Term) × IsFirstUnknown said.axioms q (atom.Role n t u)
    role_unknown name f (atom.Concept n t) same fault = absurd fault
    role_unknown name f (atom.Role n t u) same fault = (n, t, u, first_of (errors.UnknownRole name) f (atom.Role n t u) same fault.1)

    -- the first unknown atom that a shape's error tells
    pub unknown_concept : (name : List ℕ) → IsFirstFault o q.atoms (errors.UnknownConcept name) → (n : List ℕ) × (t : Term) × IsFirstUnknown said.axioms q (atom.Concept n t)
    unknown_concept name f = concept_unknown name f f.atom refl f.fault

    pub unknown_role : (name : List ℕ) → IsFirstFault o q.atoms (errors.UnknownRole name) → (n : List ℕ) × (t : Term) × (u : Term) × IsFirstUnknown said.axioms q (atom.Role n t u)
    unknown_role name f = role_unknown name f f.atom refl f.fault

-- ---- the first unknown atom is one

-- it isn't a concept's and a role's
pub not_both_first : (axioms : List Statement) (q : Question) (n m : List ℕ) (t s u : Term) → IsFirstUnknown axioms q (atom.Concept n t) → IsFirstUnknown axioms q (atom.Role m s u) → ⊥
not_both_first axioms q n m t s u x y =
    let same : atom.Concept n t ≡ atom.Role m s u = first_once (IsKnown (vocabulary axioms)) x.front y.front (atom.Concept n t) (atom.Role m s u) x.more y.more (sym x.parts ∙ y.parts)
    (all-by (IsKnown (vocabulary axioms)) x.front x.known) (all-by (IsKnown (vocabulary axioms)) y.front y.known) x.unknown y.unknown in
    cc
