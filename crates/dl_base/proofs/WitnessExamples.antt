-- Small bases whose answers stand on witnesses.
use Rattle.std.proofs.Common.{◌≡◌, ℕ, suc, ◌⊎◌, inl, inr, Bool, true, false, List, [], ◌∷◌, map, All, Contains, refl, sym, ◌∙◌, ap, subst, codes, arith, true≢false, if◌then◌else◌}
use Rattle.std.specs.List.Sorted.{IsStrictlySortedBy}
use Rattle.std.specs.Str.{bytes_eq}
use Rattle.std.specs.Str.{bytes_eq}
use Rattle.std.specs.Str.{bytes_eq}
use Rattle.std.proofs.lemmas.List.Elements.{All-cons, All-nil}
use Rattle.dl_base.specs.Laws.{direct_at, inverted_at, implies, successors, only_a, both_in_a, repeating, is_there_a_loop, are_there_three_steps, r_leads, NoLoopYetThreeSteps, two_roles, reach_one, TwoStepsBack, a_has_b, successors_of_a, NamedSuccessor}
use Rattle.dl_base.specs.Answers.{Holds, IsCertain, key_cmp}
use Rattle.dl_base.specs.Completion.{WitnessOf, IndividualPoints, RolePoints, first}
use Rattle.dl_base.specs.Derivation.{leaf, node, none, each}
use Rattle.dl_base.specs.Ontology.{Terminology}
use Rattle.dl_base.specs.Query.{terms}
use Rattle.dl_base.specs.Rows.{IsIndividual, Names}
use Rattle.dl_base.specs.Unfolding.{Element, Named, Next, Exists, DerivedAt, Edge}
use Rattle.dl_base.specs.declared.concept.Role.{Role}
use Rattle.dl_base.specs.declared.concept.Basic.TheVariants as basic
use Rattle.dl_base.specs.declared.concept.Head.TheVariants as head
use Rattle.dl_base.specs.declared.row.NamedRow.{NamedRow}
use Rattle.dl_base.specs.declared.row.NamedRow.TheVariants as row
use Rattle.dl_base.specs.declared.query.Term.{Term}
use Rattle.dl_base.specs.declared.query.Term.TheVariants as term
use Rattle.dl_base.specs.declared.query.Atom.{Atom}
use Rattle.dl_base.specs.declared.query.Atom.TheVariants as atom
use Rattle.dl_base.proofs.Examples.{only_item, first_item}
use Rattle.dl_base.proofs.RisingLemmas.{contains_cases, all_contains}

-- how many roles an element has
abbrev steps_of : Element → ℕ
steps_of (Named a) = 0
steps_of (Next e r) = suc (steps_of e)

not_behind_itself : (e : Element) (r : Role) → e ≡ Next e r → ⊥
not_behind_itself e r is = let more : steps_of e ≡ suc (steps_of e) = ap steps_of is in omega (arith, more)

same_name : (a b : List ℕ) → Named a ≡ Named b → a ≡ b
same_name a b e = cc

same_before : (e f : Element) (r s : Role) → Next e r ≡ Next f s → e ≡ f
same_before e f r s is = cc

same_last : (e f : Element) (r s : Role) → Next e r ≡ Next f s → r ≡ s
same_last e f r s is = cc

-- a direct role is no inverse one
two_sides : (e f : Element) (p q : ℕ) → Next e (direct_at p) ≡ Next f (inverted_at q) → ⊥
two_sides e f p q is = true≢false (sym (ap (λ (r : Role). r.inverse) (same_last e f (direct_at p) (inverted_at q) is)))

-- where no row is of a role, an element leads only to what it is next to
module _ (o : Terminology) (rows : List NamedRow) (none : (p a b : List ℕ) → Contains rows (row.Role p a b) → ⊥) where
  beside : (p : ℕ) (e f : Element) → Edge o rows (direct_at p) e f → (f ≡ Next e (direct_at p)) ⊎ (e ≡ Next f (inverted_at p))
  beside p e f (inl is) = absurd (none is.row.name is.from is.to is.row.there)
  beside p e f (inr near) = near

  behind_named : (p : ℕ) (e f : Element) (a : List ℕ) → e ≡ Named a → Edge o rows (direct_at p) e f → f ≡ Next e (direct_at p)
  behind_named p e f a is edge = elim (beside p e f edge) [
    | inl on ↦ on
    | inr back ↦ absurd (let e : Named a ≡ Next f (inverted_at p) = sym is ∙ back in cc)
  ]

-- ---- no loop, and three steps

no_role_of_a : (p a b : List ℕ) → Contains only_a (row.Role p a b) → ⊥
no_role_of_a p a b there = let e = only_item (row.Concept (codes "A") (codes "a")) (row.Role p a b) there in cc

a_is_there : IsIndividual only_a (codes "a")
a_is_there = (row.Concept (codes "A") (codes "a"), first_item _ [], refl)

a_has_one : DerivedAt repeating only_a (Named (codes "a")) (basic.Exists (direct_at 0))
a_has_one = node (implies (basic.Concept 0) (head.Basic (basic.Exists (direct_at 0)))) (0, omega arith, refl) refl
    (each (leaf (record { name = codes "A"; named = refl; there = first_item _ [] })) none)

again : (e : Element) → DerivedAt repeating only_a (Next e (direct_at 0)) (basic.Exists (direct_at 0))
again e = node (implies (basic.Exists (inverted_at 0)) (head.Basic (basic.Exists (direct_at 0)))) (1, omega arith, refl) refl (each (leaf refl) none)

a_points : IndividualPoints repeating only_a (codes "a") (direct_at 0)
a_points = record { individual = a_is_there; derived = a_has_one; no_row = λ b h. no_role_of_a h.name (codes "a") b h.there }

r_points : RolePoints repeating (direct_at 0) (direct_at 0)
r_points = record { derived = again (Named (codes "a")); not_back = λ e. true≢false (sym (ap (λ (r : Role). r.inverse) e)) }

no_loop : IsCertain repeating only_a is_there_a_loop [] → ⊥
no_loop c =
    let x = c.place (term.Var (codes "x")) in
    let h : Holds repeating only_a c.place (r_leads (codes "x") (codes "x")) = c.atoms (r_leads (codes "x") (codes "x")) (first_item _ []) in
    elim (beside repeating only_a no_role_of_a h.0 x x h.2) [
      | inl on ↦ not_behind_itself x (direct_at h.0) on
      | inr back ↦ not_behind_itself x (inverted_at h.0) back
    ]

abbrev one : Element
one = Next (Named (codes "a")) (direct_at 0)

abbrev two : Element
two = Next one (direct_at 0)

abbrev three : Element
three = Next two (direct_at 0)

abbrev three_places : Term → Element
three_places (term.Named n) = one
three_places (term.Var v) = if bytes_eq v (codes "x") then Named (codes "a") else (if bytes_eq v (codes "y") then one else (if bytes_eq v (codes "z") then two else three))

one_exists : Exists repeating only_a one
one_exists = (a_is_there, a_has_one)

two_exists : Exists repeating only_a two
two_exists = (one_exists, again (Named (codes "a")))

three_exist : (t : Term) → Exists repeating only_a (three_places t)
three_exist (term.Named n) = one_exists
three_exist (term.Var v) = by (bytes_eq v (codes "x")) (bytes_eq v (codes "y")) (bytes_eq v (codes "z"))
  where
    by : (x y z : Bool) → Exists repeating only_a (if x then Named (codes "a") else (if y then one else (if z then two else three)))
    by true y z = a_is_there
    by false true z = one_exists
    by false false true = two_exists
    by false false false = (two_exists, again one)

three_hold : (t : Atom) → Contains are_there_three_steps.atoms t → Holds repeating only_a three_places t
three_hold t there = all_contains (Holds repeating only_a three_places) are_there_three_steps.atoms t ((0, refl, inr (inl refl)), ((0, refl, inr (inl refl)), ((0, refl, inr (inl refl)), tt))) there

-- the term is a variable
abbrev IsVariable : Term → Type 0
IsVariable (term.Var v) = Unit {0}
IsVariable (term.Named n) = ⊥

pub no_loop_yet_three_steps : NoLoopYetThreeSteps
no_loop_yet_three_steps = (
  record {
    from = WitnessOf (direct_at 0);
    to = WitnessOf (direct_at 0);
    from_is = (refl, refl);
    to_is = (refl, refl);
    leads = inr (inl (refl, (first (codes "a") a_points, r_points)));
  },
  no_loop,
  record {
    place = three_places;
    exist = λ t there. three_exist t;
    answers = refl;
    names = λ a there. absurd (all_contains IsVariable (terms are_there_three_steps) (term.Named a) (tt, (tt, (tt, (tt, (tt, (tt, tt)))))) there);
    atoms = three_hold;
  },
)

-- ---- two steps back

no_role_of_both : (p a b : List ℕ) → Contains both_in_a (row.Role p a b) → ⊥
no_role_of_both p a b there = elim (contains_cases (row.Concept (codes "A") (codes "a")) (row.Concept (codes "A") (codes "b") ∷ []) (row.Role p a b) there) [
  | inl e ↦ cc
  | inr later ↦ (let e = only_item (row.Concept (codes "A") (codes "b")) (row.Role p a b) later in cc)
]

a_or_b : (x : List ℕ) → IsIndividual both_in_a x → (x ≡ codes "a") ⊎ (x ≡ codes "b")
a_or_b x (r, there, names) = elim (contains_cases (row.Concept (codes "A") (codes "a")) (row.Concept (codes "A") (codes "b") ∷ []) r there) [
  | inl e ↦ inl (subst (Names x) e names)
  | inr later ↦ inr (subst (Names x) (only_item (row.Concept (codes "A") (codes "b")) r later) names)
]

abbrev s_leads : List ℕ → List ℕ → Atom
s_leads v w = atom.Role (codes "s") (term.Var v) (term.Var w)

module _ (place : Term → Element) (atoms : (t : Atom) → Contains reach_one.atoms t → Holds two_roles both_in_a place t) where
  -- whoever stand on individuals and reach one thing stand on one individual
  one_origin : (k l : List ℕ) → place (term.Var (codes "x")) ≡ Named k → place (term.Var (codes "y")) ≡ Named l → k ≡ l
  one_origin k l at_k at_l =
      let x = place (term.Var (codes "x")) in
      let y = place (term.Var (codes "y")) in
      let u = place (term.Var (codes "u")) in
      let v = place (term.Var (codes "v")) in
      let w = place (term.Var (codes "w")) in
      let first_atom : Holds two_roles both_in_a place (r_leads (codes "x") (codes "u")) = atoms _ (0, omega arith, refl) in
      let second_atom : Holds two_roles both_in_a place (s_leads (codes "u") (codes "v")) = atoms _ (1, omega arith, refl) in
      let third_atom : Holds two_roles both_in_a place (s_leads (codes "w") (codes "v")) = atoms _ (2, omega arith, refl) in
      let fourth_atom : Holds two_roles both_in_a place (r_leads (codes "y") (codes "w")) = atoms _ (3, omega arith, refl) in
      let u_is = behind_named two_roles both_in_a no_role_of_both first_atom.0 x u k at_k first_atom.2 in
      let w_is = behind_named two_roles both_in_a no_role_of_both fourth_atom.0 y w l at_l fourth_atom.2 in
      elim (beside two_roles both_in_a no_role_of_both second_atom.0 u v second_atom.2) [
        | inl v_is ↦ elim (beside two_roles both_in_a no_role_of_both third_atom.0 w v third_atom.2) [
          | inl v_too ↦
              let same : u ≡ w = same_before u w (direct_at second_atom.0) (direct_at third_atom.0) (sym v_is ∙ v_too) in
              let origin : x ≡ y = same_before x y (direct_at first_atom.0) (direct_at fourth_atom.0) (sym u_is ∙ same ∙ w_is) in
              same_name k l (sym at_k ∙ origin ∙ at_l)
          | inr w_back ↦ absurd (two_sides y v fourth_atom.0 third_atom.0 (sym w_is ∙ w_back))
        ]
        | inr u_back ↦ absurd (two_sides x v first_atom.0 second_atom.0 (sym u_is ∙ u_back))
      ]

abbrev the_keys : List (List (List ℕ))
the_keys = (codes "a" ∷ codes "a" ∷ []) ∷ (codes "b" ∷ codes "b" ∷ []) ∷ []

only_these : (key : List (List ℕ)) → All (IsIndividual both_in_a) key → IsCertain two_roles both_in_a reach_one key → Contains the_keys key
only_these key individuals c = by key individuals c.answers
  where
    by : (key : List (List ℕ)) → All (IsIndividual both_in_a) key → map (λ v. c.place (term.Var v)) reach_one.answers ≡ map Named key → Contains the_keys key
    by [] all is = absurd cc
    by (k ∷ []) all is = absurd cc
    by (k ∷ l ∷ []) all is =
        let at_k : c.place (term.Var (codes "x")) ≡ Named k = cc in
        let at_l : c.place (term.Var (codes "y")) ≡ Named l = cc in
        let same : k ≡ l = one_origin c.place c.atoms k l at_k at_l in
        elim (a_or_b k (all 0 k (omega arith))) [
          | inl is_a ↦ (0, omega arith, λ j. sym is_a j ∷ (sym is_a ∙ same) j ∷ [])
          | inr is_b ↦ (1, omega arith, λ j. sym is_b j ∷ (sym is_b ∙ same) j ∷ [])
        ]
    by (k ∷ l ∷ m ∷ key) all is = absurd cc

module _ (a : List ℕ) (in_a : Contains both_in_a (row.Concept (codes "A") a)) where
  abbrev reaching : Term → Element
  reaching (term.Named n) = Named a
  reaching (term.Var v) =
      if bytes_eq v (codes "x") then Named a else (if bytes_eq v (codes "y") then Named a else (if bytes_eq v (codes "v") then Next (Next (Named a) (direct_at 0)) (direct_at 1) else Next (Named a) (direct_at 0)))

  there_a : Exists two_roles both_in_a (Named a)
  there_a = (row.Concept (codes "A") a, in_a, refl)

  r_derived : DerivedAt two_roles both_in_a (Named a) (basic.Exists (direct_at 0))
  r_derived = node (implies (basic.Concept 0) (head.Basic (basic.Exists (direct_at 0)))) (0, omega arith, refl) refl
      (each (leaf (record { name = codes "A"; named = refl; there = in_a })) none)

  s_derived : DerivedAt two_roles both_in_a (Next (Named a) (direct_at 0)) (basic.Exists (direct_at 1))
  s_derived = node (implies (basic.Exists (inverted_at 0)) (head.Basic (basic.Exists (direct_at 1)))) (1, omega arith, refl) refl (each (leaf refl) none)

  all_reach : (t : Term) → Exists two_roles both_in_a (reaching t)
  all_reach (term.Named n) = there_a
  all_reach (term.Var v) = by (bytes_eq v (codes "x")) (bytes_eq v (codes "y")) (bytes_eq v (codes "v"))
    where
      by : (x y v : Bool) → Exists two_roles both_in_a (if x then Named a else (if y then Named a else (if v then Next (Next (Named a) (direct_at 0)) (direct_at 1) else Next (Named a) (direct_at 0))))
      by true y v = there_a
      by false true v = there_a
      by false false true = ((there_a, r_derived), s_derived)
      by false false false = (there_a, r_derived)

  they_hold : (t : Atom) → Contains reach_one.atoms t → Holds two_roles both_in_a reaching t
  they_hold t there = all_contains (Holds two_roles both_in_a reaching) reach_one.atoms t
      ((0, refl, inr (inl refl)), ((1, refl, inr (inl refl)), ((1, refl, inr (inl refl)), ((0, refl, inr (inl refl)), tt)))) there

  with_itself : IsCertain two_roles both_in_a reach_one (a ∷ a ∷ [])
  with_itself = record {
    place = reaching;
    exist = λ t there. all_reach t;
    answers = refl;
    names = λ n there. absurd (all_contains IsVariable (terms reach_one) (term.Named n) (tt, (tt, (tt, (tt, (tt, (tt, (tt, (tt, tt)))))))) there);
    atoms = they_hold;
  }

  both_there : All (IsIndividual both_in_a) (a ∷ a ∷ [])
  both_there = All-cons (IsIndividual both_in_a) a (a ∷ []) there_a (All-cons (IsIndividual both_in_a) a [] there_a (All-nil (IsIndividual both_in_a)))

abbrev Answered : List (List ℕ) → Type 0
Answered key = All (IsIndividual both_in_a) key × IsCertain two_roles both_in_a reach_one key

keys_rise : IsStrictlySortedBy key_cmp the_keys
unfolding IsStrictlySortedBy
keys_rise = ((refl, tt), (tt, tt))

pub two_steps_back : TwoStepsBack
two_steps_back = record {
  rising = keys_rise;
  members = λ key. (
    λ there. elim (contains_cases (codes "a" ∷ codes "a" ∷ []) ((codes "b" ∷ codes "b" ∷ []) ∷ []) key there) [
      | inl e ↦ subst Answered (sym e) (both_there (codes "a") in_a, with_itself (codes "a") in_a)
      | inr later ↦ subst Answered (sym (only_item (codes "b" ∷ codes "b" ∷ []) key later)) (both_there (codes "b") b_in_a, with_itself (codes "b") b_in_a)
    ],
    λ both. only_these key both.0 both.1,
  );
}
  where
    in_a : Contains both_in_a (row.Concept (codes "A") (codes "a"))
    in_a = (0, omega arith, refl)

    b_in_a : Contains both_in_a (row.Concept (codes "A") (codes "b"))
    b_in_a = (1, omega arith, refl)

-- ---- a named successor

b_is_there : IsIndividual a_has_b (codes "b")
b_is_there = (row.Role (codes "r") (codes "a") (codes "b"), (1, omega arith, refl), inr refl)

same_ends : (p a b q c d : List ℕ) → row.Role p a b ≡ row.Role q c d → b ≡ d
same_ends p a b q c d e = cc

only_to_b : (p : ℕ) (e f : Element) (k : List ℕ) → e ≡ Named (codes "a") → f ≡ Named k → Edge successors a_has_b (direct_at p) e f → k ≡ codes "b"
only_to_b p e f k is_e is_f (inl is) =
    let to : k ≡ is.to = same_name k is.to (sym is_f ∙ is.to_is) in
    to ∙ elim (contains_cases (row.Concept (codes "A") (codes "a")) (row.Role (codes "r") (codes "a") (codes "b") ∷ []) (row.Role is.row.name is.from is.to) is.row.there) [
      | inl other ↦ absurd cc
      | inr later ↦ same_ends is.row.name is.from is.to (codes "r") (codes "a") (codes "b") (only_item (row.Role (codes "r") (codes "a") (codes "b")) _ later)
    ]
only_to_b p e f k is_e is_f (inr (inl on)) = absurd (let g : Named k ≡ Next e (direct_at p) = sym is_f ∙ on in cc)
only_to_b p e f k is_e is_f (inr (inr back)) = absurd (let g : Named (codes "a") ≡ Next f (inverted_at p) = sym is_e ∙ back in cc)

abbrev a_leads : Atom
a_leads = atom.Role (codes "r") (term.Named (codes "a")) (term.Var (codes "y"))

abbrev on_b : Term → Element
on_b (term.Named n) = Named n
on_b (term.Var v) = Named (codes "b")

b_is_certain : IsCertain successors a_has_b successors_of_a (codes "b" ∷ [])
b_is_certain = record {
  place = on_b;
  exist = λ t there. elim (contains_cases (term.Named (codes "a")) (term.Var (codes "y") ∷ []) t there) [
    | inl e ↦ subst (λ (u : Term). Exists successors a_has_b (on_b u)) (sym e) (row.Concept (codes "A") (codes "a"), (0, omega arith, refl), refl)
    | inr later ↦ subst (λ (u : Term). Exists successors a_has_b (on_b u)) (sym (only_item (term.Var (codes "y")) t later)) b_is_there
  ];
  answers = refl;
  names = λ n there. refl;
  atoms = λ t there. subst (Holds successors a_has_b on_b) (sym (only_item a_leads t there))
      (0, refl, inl (record { from = codes "a"; to = codes "b"; from_is = refl; to_is = refl; row = record { name = codes "r"; named = refl; there = (1, omega arith, refl) } }));
}

only_b : (key : List (List ℕ)) → IsCertain successors a_has_b successors_of_a key → key ≡ codes "b" ∷ []
only_b key c = by key c.answers
  where
    by : (key : List (List ℕ)) → map (λ v. c.place (term.Var v)) successors_of_a.answers ≡ map Named key → key ≡ codes "b" ∷ []
    by [] is = absurd cc
    by (k ∷ []) is =
        let at_k : c.place (term.Var (codes "y")) ≡ Named k = cc in
        let at_a : c.place (term.Named (codes "a")) ≡ Named (codes "a") = c.names (codes "a") (0, omega arith, refl) in
        let h : Holds successors a_has_b c.place a_leads = c.atoms a_leads (first_item _ []) in
        let is_b = only_to_b h.0 (c.place (term.Named (codes "a"))) (c.place (term.Var (codes "y"))) k at_a at_k h.2 in
        λ j. is_b j ∷ []
    by (k ∷ l ∷ key) is = absurd cc

b_alone_rises : IsStrictlySortedBy key_cmp ((codes "b" ∷ []) ∷ [])
unfolding IsStrictlySortedBy
b_alone_rises = (tt, tt)

pub named_successor : NamedSuccessor
named_successor = record {
  rising = b_alone_rises;
  members = λ key. (
    λ there. subst (λ (k : List (List ℕ)). All (IsIndividual a_has_b) k × IsCertain successors a_has_b successors_of_a k) (sym (only_item (codes "b" ∷ []) key there))
        (All-cons (IsIndividual a_has_b) (codes "b") [] b_is_there (All-nil (IsIndividual a_has_b)), b_is_certain),
    λ both. subst (Contains ((codes "b" ∷ []) ∷ [])) (sym (only_b key both.1)) (first_item (codes "b" ∷ []) []),
  );
}
