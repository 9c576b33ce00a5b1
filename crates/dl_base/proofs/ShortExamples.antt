-- Small placings on short elements.
use Rattle.std.proofs.Common.{◌≡◌, ℕ, zero, suc, ◌⊎◌, inl, inr, false, List, [], ◌∷◌, Contains, slice_get, Some, refl, sym, ◌∙◌, ap, subst, codes, arith}
use Rattle.dl_base.specs.Laws.{successors, only_a, both_in_a, lead_to_one, names_of_both, witness_of_r, BackIsNotShort, SharedWitnessIsNoJoin}
use Rattle.dl_base.specs.Derivation.{leaf, node, none, each, inverse}
use Rattle.dl_base.specs.Unfolding.{Element, Named, Next, DerivedAt, Edge}
use Rattle.dl_base.specs.Answers.{Holds}
use Rattle.dl_base.specs.Completion.{Individual, WitnessOf, IndividualPoints, Represents, IsCompletedRow}
use Rattle.dl_base.specs.Tables.{RoleRow}
use Rattle.dl_base.specs.Matches.{IsCompletedAt, IsCompletedMatch}
use Rattle.dl_base.specs.ShortUnfolding.{node_of}
use Rattle.dl_base.specs.Lifting.{Lifts}
use Rattle.dl_base.specs.declared.concept.Role.{Role}
use Rattle.dl_base.specs.declared.concept.Basic.TheVariants as basic
use Rattle.dl_base.specs.declared.concept.Head.TheVariants as head
use Rattle.dl_base.specs.declared.element.Elem.{Elem}
use Rattle.dl_base.specs.declared.element.Elem.TheVariants as elem
use Rattle.dl_base.specs.declared.row.NamedRow.{NamedRow}
use Rattle.dl_base.specs.declared.row.NamedRow.TheVariants as row
use Rattle.dl_base.specs.declared.query.Term.{Term}
use Rattle.dl_base.specs.declared.query.Term.TheVariants as term
use Rattle.dl_base.specs.declared.query.Atom.{Atom}
use Rattle.dl_base.specs.declared.query.Atom.TheVariants as atom
use Rattle.dl_base.proofs.Examples.{only_item, first_item}
use Rattle.dl_base.proofs.RisingLemmas.{contains_cases}

abbrev r : Role
r = record { name = 0; inverse = false }

-- whatever is in A has a successor
derived : (rows : List NamedRow) (a : List ℕ) → Contains rows (row.Concept (codes "A") a) → DerivedAt successors rows (Named a) (basic.Exists r)
derived rows a there = node (record { body = basic.Concept 0 ∷ []; head = head.Basic (basic.Exists r) }) (first_item _ []) refl
    (each (leaf (record { name = codes "A"; named = refl; there = there })) none)

pub back_is_not_short : BackIsNotShort
back_is_not_short = (
  (((row.Concept (codes "A") (codes "a"), first_item _ [], refl), derived only_a (codes "a") (first_item _ [])), leaf refl),
  λ short. short.1.not_back refl,
)

-- no row leads from anything
no_role : (p : List ℕ) (a b : List ℕ) → Contains both_in_a (row.Role p a b) → ⊥
no_role p a b there = elim (contains_cases (row.Concept (codes "A") (codes "a")) (row.Concept (codes "A") (codes "b") ∷ []) (row.Role p a b) there) [
  | inl e ↦ cc
  | inr later ↦ (let e : row.Role p a b ≡ row.Concept (codes "A") (codes "b") = only_item (row.Concept (codes "A") (codes "b")) (row.Role p a b) later in cc)
]

points : (a : List ℕ) → Contains both_in_a (row.Concept (codes "A") a) → IndividualPoints successors both_in_a a r
points a there = record {
  individual = (row.Concept (codes "A") a, there, refl);
  derived = derived both_in_a a there;
  no_row = λ b row. no_role row.name a b row.there;
}

some_same : {x y : List ℕ} → Some x ≡ Some y → x ≡ y
some_same e = cc

-- what an element is that folds to an individual, or to the witness
on_individual : (e : Element) (n : ℕ) (a : List ℕ) → slice_get names_of_both n ≡ Some a → Represents names_of_both (λ r. 1) (elem.Named n) (node_of e) → e ≡ Named a
on_individual (Named b) n a at is = ap Named (some_same (sym is ∙ at))
on_individual (Next e s) n a at is = absurd is

on_witness : (e : Element) → Represents names_of_both (λ r. 1) witness_of_r (node_of e) → (f : Element) × (e ≡ Next f r)
on_witness (Named b) is = absurd is
on_witness (Next f s) is = (f, ap (Next f) (sym is.0))

-- it is behind the individual that has it
behind : (x z f : Element) (a : List ℕ) → x ≡ Named a → z ≡ Next f r → Edge successors both_in_a r x z → z ≡ Next (Named a) r
behind x z f a is_x is_z (inl row) = absurd (let e : Next f r ≡ Named row.to = sym is_z ∙ row.to_is in cc)
behind x z f a is_x is_z (inr (inl is)) = is ∙ ap (λ (e : Element). Next e r) is_x
behind x z f a is_x is_z (inr (inr is)) = absurd (let e : Named a ≡ Next z (inverse r) = sym is_x ∙ is in cc)

same_first : (m n : ℕ) (ms ns : List ℕ) → m ∷ ms ≡ n ∷ ns → m ≡ n
same_first m n ms ns e = cc

no_number : (n : ℕ) → n ≡ 97 → n ≡ 98 → ⊥
no_number n e f = omega (arith, e, f)

apart : Next (Named (codes "a")) r ≡ Next (Named (codes "b")) r → ⊥
apart same =
    let names : codes "a" ≡ codes "b" = cc in
    no_number 97 refl (same_first 97 98 [] [] names)

only_role : (p : ℕ) → slice_get (codes "r" ∷ []) p ≡ Some (codes "r") → p ≡ 0
only_role zero at = refl
only_role (suc p) at = absurd cc

-- the variable leads to z
abbrev leads : List ℕ → Atom
leads v = atom.Role (codes "r") (term.Var v) (term.Var (codes "z"))

module _ (images : Term → Elem) (x : images (term.Var (codes "x")) ≡ elem.Named 0) (y : images (term.Var (codes "y")) ≡ elem.Named 1) (z : images (term.Var (codes "z")) ≡ witness_of_r) where
  row_there : (e : Elem) (n : ℕ) (a : List ℕ) → e ≡ elem.Named n → slice_get names_of_both n ≡ Some a → Contains both_in_a (row.Concept (codes "A") a)
      → IsCompletedRow successors both_in_a names_of_both (λ r. 1) (RoleRow 0 e (images (term.Var (codes "z"))))
  row_there e n a is at there = record {
    from = Individual a;
    to = WitnessOf r;
    from_is = subst (λ (e : Elem). Represents names_of_both (λ r. 1) e (Individual a)) (sym is) at;
    to_is = subst (λ (e : Elem). Represents names_of_both (λ r. 1) e (WitnessOf r)) (sym z) (refl, refl);
    leads = inr (inl (refl, points a there));
  }

  matches : IsCompletedMatch successors both_in_a names_of_both (λ r. 1) lead_to_one images
  matches t there = by (contains_cases (leads (codes "x")) (leads (codes "y") ∷ []) t there)
    where
      row_at : (v : List ℕ) (n : ℕ) (a : List ℕ) → images (term.Var v) ≡ elem.Named n → slice_get names_of_both n ≡ Some a → Contains both_in_a (row.Concept (codes "A") a)
          → IsCompletedAt successors both_in_a names_of_both (λ r. 1) images (leads v)
      row_at v n a is at there = (0, refl, row_there (images (term.Var v)) n a is at there)

      by : (t ≡ leads (codes "x")) ⊎ Contains (leads (codes "y") ∷ []) t → IsCompletedAt successors both_in_a names_of_both (λ r. 1) images t
      by (inl e) = subst (IsCompletedAt successors both_in_a names_of_both (λ r. 1) images) (sym e) (row_at (codes "x") 0 (codes "a") x refl (0, omega arith, refl))
      by (inr later) = subst (IsCompletedAt successors both_in_a names_of_both (λ r. 1) images) (sym (only_item (leads (codes "y")) t later)) (row_at (codes "y") 1 (codes "b") y refl (1, omega arith, refl))

  no_lift : Lifts successors both_in_a names_of_both (λ r. 1) lead_to_one images → ⊥
  no_lift l =
      let place_x : l.place (term.Var (codes "x")) ≡ Named (codes "a") =
      on_individual _ 0 (codes "a") refl (subst (λ (e : Elem). Represents names_of_both (λ r. 1) e (node_of (l.place (term.Var (codes "x"))))) x (l.folds _ (0, omega arith, refl))) in
      let place_y : l.place (term.Var (codes "y")) ≡ Named (codes "b") =
      on_individual _ 1 (codes "b") refl (subst (λ (e : Elem). Represents names_of_both (λ r. 1) e (node_of (l.place (term.Var (codes "y"))))) y (l.folds _ (2, omega arith, refl))) in
      let place_z : (f : Element) × (l.place (term.Var (codes "z")) ≡ Next f r) = on_witness _ (subst (λ (e : Elem). Represents names_of_both (λ r. 1) e (node_of (l.place (term.Var (codes "z"))))) z (l.folds _ (1, omega arith, refl))) in
      let first = beside (codes "x") (l.placed.atoms _ (0, omega arith, refl)) in
      let second = beside (codes "y") (l.placed.atoms _ (1, omega arith, refl)) in
      let behind_a = behind _ _ place_z.0 (codes "a") place_x place_z.1 first in
      let behind_b = behind _ _ place_z.0 (codes "b") place_y place_z.1 second in
      let same : Next (Named (codes "a")) r ≡ Next (Named (codes "b")) r = sym behind_a ∙ behind_b in
      apart same
    where
      beside : (v : List ℕ) → Holds successors both_in_a l.place (leads v)
          → Edge successors both_in_a r (l.place (term.Var v)) (l.place (term.Var (codes "z")))
      beside v h = subst (λ (p : ℕ). Edge successors both_in_a (record { name = p; inverse = false }) (l.place (term.Var v)) (l.place (term.Var (codes "z")))) (only_role h.0 h.1) h.2

pub shared_witness_is_no_join : SharedWitnessIsNoJoin
shared_witness_is_no_join images x y z = (matches images x y z, no_lift images x y z)
