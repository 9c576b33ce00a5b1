use Rattle.std.proofs.Common.{◌≡◌, ℕ, List, [], ◌∷◌, ◌++◌, Contains, codes, arith}
use Rattle.std.proofs.lemmas.List.Elements.{All-cons, All-nil}
use Rattle.dl_base.specs.Query.{IsQuery, terms}
use Rattle.dl_base.specs.Laws.{who_is_staff}
use Rattle.dl_base.specs.declared.query.Atom.{Atom}
use Rattle.dl_base.specs.declared.query.Atom.TheVariants as atom
use Rattle.dl_base.specs.declared.query.Term.TheVariants as term
use Rattle.dl_base.proofs.Examples.{first_item, only_variable, x_is_variable}
use Rattle.dl_base.proofs.copy_tests.staff_query.Goals as goal

is_query : IsQuery who_is_staff
is_query = record {
  some = omega arith;
  atoms = omega arith;
  answers = omega arith;
  distinct = record {
    few = term.Var (codes "x") ∷ [];
    count = omega arith;
    each = All-cons (Contains (term.Var (codes "x") ∷ [])) (term.Var (codes "x")) [] (first_item (term.Var (codes "x")) []) (All-nil (Contains (term.Var (codes "x") ∷ [])));
  };
  safe = All-cons (λ v. Contains (terms who_is_staff) (term.Var v)) (codes "x") [] (first_item (term.Var (codes "x")) []) (All-nil (λ v. Contains (terms who_is_staff) (term.Var v)));
  variables = only_variable (codes "x") x_is_variable;
}

-- the lists that were made are those of the question
as_made : (answers empty : List (List ℕ)) (atoms none : List Atom) (x y name : List ℕ) → empty ≡ [] → answers ≡ empty ++ y ∷ [] → none ≡ []
    → atoms ≡ none ++ atom.Concept name (term.Var x) ∷ [] → x ≡ codes "x" → y ≡ x → name ≡ codes "Staff" → IsQuery (record { answers = answers; atoms = atoms })
as_made answers empty atoms none x y name e f g h i j k = rw (f, h, e, g, j, i, k) is_query

pub new-requires : goal.new-requires
new-requires c =
    as_made c.push.new.self c.new-answers.result c.push-2.new.self c.new-atoms.result c.in_ok-x.x c.in_ok-copy.field-0 c.in_ok-name.name c.new-answers.ensures c.in_ok-push.ensures.ok c.new-atoms.ensures
    c.in_ok-push-2.ensures.ok c.in_ok-x.ensures c.in_ok-copy.ensures c.in_ok-name.ensures
