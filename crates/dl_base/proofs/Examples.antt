-- The small bases of the laws.
use Rattle.std.proofs.Common.{◌≡◌, ℕ, zero, suc, List, [], ◌∷◌, Contains, All, map, refl, sym, subst, ap, codes, arith, Bool, true, false, if◌then◌else◌, inl, inr}
use Rattle.std.specs.Str.{bytes_eq}
use Rattle.dl_base.specs.Laws.{AnnIsStaff, staff, ann_is_a_professor, who_is_staff, WitnessServes, successors}
use Rattle.dl_base.specs.Names.{IsVariableName}
use Rattle.dl_base.specs.Derivation.{leaf, node, none, each}
use Rattle.dl_base.proofs.NameRules.{bare_of}
use Rattle.dl_base.specs.Unfolding.{Element, Named, Next, Exists, DerivedAt}
use Rattle.dl_base.specs.Rows.{IsIndividual, Names}
use Rattle.dl_base.specs.Answers.{Holds, IsCertain, key_cmp}
use Rattle.std.specs.List.Sorted.{IsStrictlySortedBy}
use Rattle.std.proofs.lemmas.List.Elements.{All-cons, All-nil}
use Rattle.dl_base.specs.declared.concept.Role.{Role}
use Rattle.dl_base.specs.declared.concept.Basic.TheVariants as basic
use Rattle.dl_base.specs.declared.concept.Head.TheVariants as head
use Rattle.dl_base.specs.declared.row.NamedRow.{NamedRow}
use Rattle.dl_base.specs.declared.row.NamedRow.TheVariants as row
use Rattle.dl_base.specs.declared.query.Term.{Term}
use Rattle.dl_base.specs.declared.query.Term.TheVariants as term
use Rattle.dl_base.specs.declared.query.Atom.{Atom}

-- the one item of a list
pub only_item : {X : Type 0} (x t : X) → Contains (x ∷ []) t → t ≡ x
only_item x t (zero, below, at) = sym at
only_item x t (suc k, below, at) = absurd (omega arith)

pub first_item : {X : Type 0} (x : X) (xs : List X) → Contains (x ∷ xs) x
first_item x xs = (0, omega arith, refl)

-- the one variable of a list of terms
pub only_variable : (x : List ℕ) → IsVariableName x → (v : List ℕ) → Contains (term.Var x ∷ []) (term.Var v) → IsVariableName v
only_variable x is v there = subst IsVariableName (sym (name v x (only_item (term.Var x) (term.Var v) there))) is
  where
    name : (v w : List ℕ) → term.Var v ≡ term.Var w → v ≡ w
    name v w e = cc

pub x_is_variable : IsVariableName (codes "x")
x_is_variable = (bare_of (codes "x") (refl, tt) refl, omega arith)

only_ann : (a : List ℕ) → IsIndividual ann_is_a_professor a → a ≡ codes "ann"
only_ann a (row, there, names) = subst (Names a) (only_item _ row there) names

ann_derived : DerivedAt staff ann_is_a_professor (Named (codes "ann")) (basic.Concept 1)
ann_derived = node (record { body = basic.Concept 0 ∷ []; head = head.Basic (basic.Concept 1) }) (first_item _ []) refl
    (each (leaf (record { name = codes "Prof"; named = refl; there = first_item _ [] })) none)

ann_is_certain : IsCertain staff ann_is_a_professor who_is_staff (codes "ann" ∷ [])
ann_is_certain = record {
  place = λ t. Named (codes "ann");
  exist = λ t there. (row.Concept (codes "Prof") (codes "ann"), first_item _ [], refl);
  answers = refl;
  names = λ a there. (let e = only_item (term.Var (codes "x")) (term.Named a) there in cc);
  atoms = λ t there. subst (λ (u : Atom). Holds staff ann_is_a_professor (λ t. Named (codes "ann")) u) (sym (only_item _ t there)) (1, refl, ann_derived);
}

one_name : (e : Element) (key : List (List ℕ)) → e ∷ [] ≡ map Named key → All (IsIndividual ann_is_a_professor) key → key ≡ codes "ann" ∷ []
one_name e [] same all = cc
one_name e (n ∷ []) same all = ap (λ (a : List ℕ). a ∷ []) (only_ann n (all 0 n (omega arith)))
one_name e (n ∷ m ∷ key) same all = cc

one_key : IsStrictlySortedBy key_cmp ((codes "ann" ∷ []) ∷ [])
unfolding IsStrictlySortedBy
one_key = (tt, tt)

pub ann_is_staff : AnnIsStaff
ann_is_staff = record {
  rising = one_key;
  members = λ key. (
    λ there. subst (λ (k : List (List ℕ)). All (IsIndividual ann_is_a_professor) k × IsCertain staff ann_is_a_professor who_is_staff k) (sym (only_item _ key there)) (each_individual, ann_is_certain),
    λ both. subst (Contains ((codes "ann" ∷ []) ∷ [])) (sym (one_name _ key both.1.answers both.0)) (first_item _ []),
  );
}
  where
    each_individual : All (IsIndividual ann_is_a_professor) (codes "ann" ∷ [])
    each_individual = All-cons (IsIndividual ann_is_a_professor) (codes "ann") [] (row.Concept (codes "Prof") (codes "ann"), first_item _ [], refl) (All-nil (IsIndividual ann_is_a_professor))

r : Role
r = record { name = 0; inverse = false }

facts : List NamedRow
facts = row.Concept (codes "A") (codes "a") ∷ []

place : Term → Element
place (term.Var v) = if bytes_eq v (codes "z") then Next (Named (codes "a")) r else Named (codes "a")
place (term.Named n) = Named (codes "a")

there_a : Exists successors facts (Named (codes "a"))
unfolding facts
there_a = (row.Concept (codes "A") (codes "a"), first_item _ [], refl)

derived_r : DerivedAt successors facts (Named (codes "a")) (basic.Exists r)
unfolding facts r
derived_r = node (record { body = basic.Concept 0 ∷ []; head = head.Basic (basic.Exists (record { name = 0; inverse = false })) }) (first_item _ []) refl
    (each (leaf (record { name = codes "A"; named = refl; there = first_item _ [] })) none)

all_exist : (t : Term) → Exists successors facts (place t)
unfolding place
all_exist (term.Var v) = by (bytes_eq v (codes "z"))
  where
    by : (b : Bool) → Exists successors facts (if b then Next (Named (codes "a")) r else Named (codes "a"))
    by true = (there_a, derived_r)
    by false = there_a
all_exist (term.Named n) = there_a

no_name : (a : List ℕ) → Contains (term.Var (codes "x") ∷ term.Var (codes "z") ∷ []) (term.Named a) → place (term.Named a) ≡ Named a
no_name a (zero, below, at) = cc
no_name a (suc zero, below, at) = cc
no_name a (suc (suc k), below, at) = absurd (omega arith)

pub witness_serves : WitnessServes
unfolding place facts r
witness_serves = record {
  place = place;
  exist = λ t _. all_exist t;
  answers = refl;
  names = λ a there. no_name a there;
  atoms = λ t there. subst (λ (u : Atom). Holds successors facts place u) (sym (only_item _ t there)) (0, refl, inr (inl refl));
}
