use Rattle.std.proofs.Common.{◌≡◌, ◌≤◌, ℕ, List, [], ◌∷◌, ◌++◌, length, arith, codes, Contains, sym, subst, inl, inr}
use Rattle.std.specs.Prelude.{flat_map}
use Rattle.std.proofs.lemmas.List.Elements.{All-nil, All-contains_itself}
use Rattle.dl_base.specs.Names.{IsVariableName}
use Rattle.dl_base.specs.Query.{IsQuery, terms_of}
use Rattle.dl_base.specs.declared.query.Atom.{Atom}
use Rattle.dl_base.specs.declared.query.Atom.TheVariants as atom
use Rattle.dl_base.specs.declared.query.Term.{Term}
use Rattle.dl_base.specs.declared.query.Term.TheVariants as term
use Rattle.dl_base.proofs.RisingLemmas.{contains_cases}
use Rattle.dl_base.proofs.Examples.{only_variable, x_is_variable}
use Rattle.query_shape.proofs.NumberingLemmas.{terms_length}
use Rattle.query_shape.proofs.tests.two_atoms.Goals as goal

same_variable : (v w : List ℕ) → term.Var v ≡ term.Var w → v ≡ w
same_variable v w e = cc

bare : (from : Term) → ((v : List ℕ) → from ≡ term.Var v → IsVariableName v) → (v : List ℕ) → Contains (term.Var (codes "x") ∷ from ∷ term.Var (codes "x") ∷ []) (term.Var v) → IsVariableName v
bare from is v there = elim (contains_cases (term.Var (codes "x")) (from ∷ term.Var (codes "x") ∷ []) (term.Var v) there) [
  | inl e ↦ subst IsVariableName (sym (same_variable v (codes "x") e)) x_is_variable
  | inr c ↦ elim (contains_cases from (term.Var (codes "x") ∷ []) (term.Var v) c) [
    | inl e ↦ is v (sym e)
    | inr d ↦ only_variable (codes "x") x_is_variable v d
  ]
]

-- two atoms and no answer places are a query
pair_is_query : (answers : List (List ℕ)) (none one two : List Atom) (c r x y : List ℕ) (from : Term) → answers ≡ [] → none ≡ [] → one ≡ none ++ atom.Concept c (term.Var y) ∷ [] → two ≡ one ++ atom.Role r from (term.Var x) ∷ []
    → x ≡ codes "x" → y ≡ x → ((v : List ℕ) → from ≡ term.Var v → IsVariableName v) → IsQuery (record { answers = answers; atoms = two })
pair_is_query answers none one two c r x y from no_answer start first second is same sound =
    let few : length (flat_map terms_of (atom.Concept c (term.Var (codes "x")) ∷ atom.Role r from (term.Var (codes "x")) ∷ [])) ≤ 4 =
    terms_length (atom.Concept c (term.Var (codes "x")) ∷ atom.Role r from (term.Var (codes "x")) ∷ []) in
    rw (no_answer, second, first, start, same, is) (record {
      some = omega arith;
      atoms = omega arith;
      answers = omega arith;
      distinct = record {
        few = flat_map terms_of (atom.Concept c (term.Var (codes "x")) ∷ atom.Role r from (term.Var (codes "x")) ∷ []);
        count = omega (arith, few);
        each = All-contains_itself (flat_map terms_of (atom.Concept c (term.Var (codes "x")) ∷ atom.Role r from (term.Var (codes "x")) ∷ []));
      };
      safe = All-nil (λ (v : List ℕ). Contains (flat_map terms_of (atom.Concept c (term.Var (codes "x")) ∷ atom.Role r from (term.Var (codes "x")) ∷ [])) (term.Var v));
      variables = bare from sound;
    })

pub new-requires-2 : goal.new-requires-2
new-requires-2 c =
    pair_is_query c.new.result c.new-atoms.result c.push.new.self c.push-2.new.self c.in_ok-name.field-0 c.in_ok-name-2.field-0 c.in_ok-x.x c.in_ok-copy.field-0 c.in_ok-from.from c.new.ensures
    c.new-atoms.ensures c.in_ok-push.ensures.ok c.in_ok-push-2.ensures.ok c.in_ok-x.ensures c.in_ok-copy.ensures c.in_ok-from.ensures
