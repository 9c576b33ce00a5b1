-- Laws of the ontology of a document, as an axiom is added.
use Rattle.std.proofs.Common.{◌≡◌, ℕ, suc, ◌+◌, ◌<◌, ◌≤◌, ◌⊎◌, inl, inr, List, [], ◌∷◌, ◌++◌, length, All, Contains, refl, sym, ◌∙◌, ap, subst, arith, length-append}
use Rattle.std.specs.List.{AllZip, flat_map}
use Rattle.std.proofs.lemmas.List.{append-nil}
use Rattle.std.proofs.lemmas.Bool.{cases_order}
use Rattle.std.proofs.lemmas.Grind.{fold-append, flat_map-append}
use Rattle.std.proofs.lemmas.List.Elements.{All-cons, All-nil, Contains-append_right}
use Rattle.dl_base.specs.Ontology.{Terminology}
use Rattle.dl_base.specs.Axiom.{Statement, with_name, with_names, NumbersInclusion, Passes, IsExtended}
use Rattle.dl_base.specs.declared.concept.Inclusion.{Inclusion}
use Rattle.dl_base.specs.declared.axiom.NamedInclusion.{NamedInclusion}
use Rattle.dl_base.specs.declared.ontology.Which.{Which}
use Rattle.dl_base.specs.declared.ontology.Which.TheVariants as which
use Rattle.dl_base.proofs.RisingLemmas.{contains_first, contains_later, contains_cases}
use Rattle.script_reader.specs.declared.doc_line.DocLine.TheVariants as line
use Rattle.document_run.specs.Document.{Context, nothing_said, with_line, concept_names, role_names, inclusions_in, TooManyAxioms, Makes, none as made_none, more as made_more}
use Rattle.document_run.specs.Drafting.{KeepsOntology}

-- ---- members of joined lists

in_either : {X : Type 0} (xs ys : List X) (x : X) → Contains (xs ++ ys) x → Contains xs x ⊎ Contains ys x
in_either [] ys x there = inr there
in_either (y ∷ xs) ys x there = elim (contains_cases y (xs ++ ys) x there) [
  | inl same ↦ inl (subst (Contains (y ∷ xs)) (sym same) (contains_first y xs))
  | inr more ↦ elim (in_either xs ys x more) [ inl front ↦ inl (contains_later y xs x front) | inr back ↦ inr back ]
]

-- ---- what the axioms name and say

joined_more : {X : Type 0} (f : Statement → List X) (axioms : List Statement) (a : Statement) → flat_map f (axioms ++ a ∷ []) ≡ flat_map f axioms ++ f a
joined_more f axioms a = flat_map-append f axioms (a ∷ []) ∙ ap (λ ys. flat_map f axioms ++ ys) (append-nil (f a))

concepts_more : (axioms : List Statement) (a : Statement) → concept_names (axioms ++ a ∷ []) ≡ with_names (concept_names axioms) a.concepts
concepts_more axioms a = ap (with_names []) (joined_more (λ a. a.concepts) axioms a) ∙ fold-append with_name [] (flat_map (λ a. a.concepts) axioms) a.concepts

roles_more : (axioms : List Statement) (a : Statement) → role_names (axioms ++ a ∷ []) ≡ with_names (role_names axioms) a.roles
roles_more axioms a = ap (with_names []) (joined_more (λ a. a.roles) axioms a) ∙ fold-append with_name [] (flat_map (λ a. a.roles) axioms) a.roles

inclusions_more : (axioms : List Statement) (a : Statement) → inclusions_in (axioms ++ a ∷ []) ≡ inclusions_in axioms ++ a.inclusions
inclusions_more axioms a = joined_more (λ a. a.inclusions) axioms a

-- ---- the inclusions that an axiom adds

added_length : (cs rs : List (List ℕ)) (more : List NamedInclusion) (added : List Inclusion) → AllZip (NumbersInclusion cs rs) more added → length added ≡ length more
added_length cs rs [] [] each = refl
added_length cs rs [] (j ∷ added) each = absurd each
added_length cs rs (i ∷ more) [] each = absurd each
added_length cs rs (i ∷ more) (j ∷ added) (first, rest) = ap suc (added_length cs rs more added rest)

long_later : (i : NamedInclusion) (is : List NamedInclusion) → (All (λ i. length i.body ≤ 8) (i ∷ is) → ⊥) → length i.body ≤ 8
    → ((All (λ i. length i.body ≤ 8) is → ⊥) → (j : NamedInclusion) × Contains is j × (8 < length j.body)) → (j : NamedInclusion) × Contains (i ∷ is) j × (8 < length j.body)
long_later i is not short more =
    let found = more (λ all. not (All-cons (λ (j : NamedInclusion). length j.body ≤ 8) i is short all)) in
    (found.0, contains_later i is found.0 found.1, found.2)

-- a body that is too long, where not all are short
long_one : (is : List NamedInclusion) → (All (λ i. length i.body ≤ 8) is → ⊥) → (i : NamedInclusion) × Contains is i × (8 < length i.body)
long_one [] not = absurd (not (All-nil (λ (i : NamedInclusion). length i.body ≤ 8)))
long_one (i ∷ is) not = elim (cases_order (length i.body) 8) [
  | inl same ↦ long_later i is not (omega (arith, same)) (long_one is)
  | inr either ↦ elim either [ inl less ↦ long_later i is not (omega (arith, less)) (long_one is) | inr more ↦ (i, contains_first i is, more) ]
]

all_short : (is : List NamedInclusion) → ((i : NamedInclusion) → Contains is i → length i.body ≤ 8) → All (λ i. length i.body ≤ 8) is
all_short [] each = All-nil (λ (i : NamedInclusion). length i.body ≤ 8)
all_short (i ∷ is) each = All-cons (λ (j : NamedInclusion). length j.body ≤ 8) i is (each i (contains_first i is)) (all_short is (λ j there. each j (contains_later i is j there)))

-- ---- one more axiom

module _ (said : Context) (o : Terminology) (k : KeepsOntology said o) (a : Statement) where
  concepts_now : concept_names (said.axioms ++ a ∷ []) ≡ with_names o.concepts a.concepts
  concepts_now = concepts_more said.axioms a ∙ ap (λ (names : List (List ℕ)). with_names names a.concepts) (sym k.concepts)

  roles_now : role_names (said.axioms ++ a ∷ []) ≡ with_names o.roles a.roles
  roles_now = roles_more said.axioms a ∙ ap (λ (names : List (List ℕ)). with_names names a.roles) (sym k.roles)

  count_now : length (inclusions_in (said.axioms ++ a ∷ [])) ≡ length o.inclusions + length a.inclusions
  count_now = ap (λ (is : List NamedInclusion). length is) (inclusions_more said.axioms a) ∙ length-append (inclusions_in said.axioms) a.inclusions ∙ ap (λ n. n + length a.inclusions) (sym k.count)

  module _ (new : Terminology) (extended : IsExtended o a new) where
    -- an axiom that is added has short bodies
    short_added : (i : NamedInclusion) → Contains a.inclusions i → length i.body ≤ 8
    short_added i there = elim (cases_order (length i.body) 8) [
      | inl same ↦ omega (arith, same)
      | inr either ↦ elim either [ inl less ↦ omega (arith, less) | inr more ↦ absurd (extended.passes_none which.Conjuncts (λ all. long all more)) ]
    ]
      where
        long : All (λ i. length i.body ≤ 8) a.inclusions → 8 < length i.body → ⊥
        long all more = let short : length i.body ≤ 8 = subst (λ (j : NamedInclusion). length j.body ≤ 8) there.2 (all there.0 i there.1) in omega (arith, short, more)

    -- the ontology with the axiom
    pub ontology_more : KeepsOntology (with_line said (line.Axiom a)) new
    ontology_more = record {
      makes = made_more a new k.makes extended;
      concepts = extended.concepts ∙ sym concepts_now;
      roles = extended.roles ∙ sym roles_now;
      count = ap (λ (is : List Inclusion). length is) extended.inclusions.last ∙ length-append o.inclusions extended.inclusions.added
          ∙ ap (λ n. length o.inclusions + n) (added_length new.concepts new.roles a.inclusions extended.inclusions.added extended.inclusions.each) ∙ sym count_now;
      short = λ i there. elim (in_either (inclusions_in said.axioms) a.inclusions i (subst (λ (is : List NamedInclusion). Contains is i) (inclusions_more said.axioms a) there)) [
        | inl before ↦ k.short i before
        | inr added ↦ short_added i added
      ];
    }

    -- it passes no limit
    pub axioms_fit : TooManyAxioms (said.axioms ++ a ∷ []) → ⊥
    axioms_fit (inl (i, there, long)) = elim (in_either (inclusions_in said.axioms) a.inclusions i (subst (λ (is : List NamedInclusion). Contains is i) (inclusions_more said.axioms a) there)) [
      | inl before ↦ (let short = k.short i before in omega (arith, short, long))
      | inr added ↦ (let short = short_added i added in omega (arith, short, long))
    ]
    axioms_fit (inr (inl many)) = extended.passes_none which.Concepts (subst (λ (names : List (List ℕ)). 512 < length names) concepts_now many)
    axioms_fit (inr (inr (inl many))) = extended.passes_none which.Roles (subst (λ (names : List (List ℕ)). 256 < length names) roles_now many)
    axioms_fit (inr (inr (inr many))) = extended.passes_none which.Inclusions (subst (λ (n : ℕ). 4096 < n) count_now many)

  -- a limit that it passes
  pub axioms_pass : (w : Which) → Passes o a w → TooManyAxioms (said.axioms ++ a ∷ [])
  axioms_pass which.Conjuncts not =
      let found = long_one a.inclusions not in
      inl (found.0, subst (λ (is : List NamedInclusion). Contains is found.0) (sym (inclusions_more said.axioms a)) (Contains-append_right (inclusions_in said.axioms) a.inclusions found.0 found.1), found.2)
  axioms_pass which.Concepts many = inr (inl (subst (λ (names : List (List ℕ)). 512 < length names) (sym concepts_now) many))
  axioms_pass which.Roles many = inr (inr (inl (subst (λ (names : List (List ℕ)). 256 < length names) (sym roles_now) many)))
  axioms_pass which.Inclusions many = inr (inr (inr (subst (λ (n : ℕ). 4096 < n) (sym count_now) many)))

pub ontology_none : (o : Terminology) → o ≡ record { concepts = []; roles = []; inclusions = [] } → KeepsOntology nothing_said o
ontology_none o e = subst (KeepsOntology nothing_said) (sym e) (record { makes = made_none; concepts = refl; roles = refl; count = refl; short = λ i there. omega (arith, there.1) })

-- what is kept of the ontology says nothing of the facts and the query
pub ontology_same : (said other : Context) (o : Terminology) → other.axioms ≡ said.axioms → KeepsOntology said o → KeepsOntology other o
ontology_same said other o same k = record {
  makes = subst (λ (axioms : List Statement). Makes axioms o) (sym same) k.makes;
  concepts = k.concepts ∙ ap concept_names (sym same);
  roles = k.roles ∙ ap role_names (sym same);
  count = k.count ∙ ap (λ (axioms : List Statement). length (inclusions_in axioms)) (sym same);
  short = subst (λ (axioms : List Statement). (i : NamedInclusion) → Contains (inclusions_in axioms) i → length i.body ≤ 8) (sym same) k.short;
}
