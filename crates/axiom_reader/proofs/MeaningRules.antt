-- What an axiom means is a statement: bodies have members, and names are among the axiom's.
use Rattle.std.proofs.Common.{◌≡◌, ℕ, ◌≤◌, List, [], ◌∷◌, ◌++◌, length, All, Contains, refl, sym, subst, arith, inl, inr, length-append}
use Rattle.std.specs.List.{flat_map}
use Rattle.std.proofs.lemmas.List.Elements.{All-nil, All-cons, All-append, All-map, All-head, All-tail, Contains-append_left, Contains-append_right}
use Rattle.grammar.specs.Grammar.{many}
use Rattle.dl_base.specs.Axiom.{Statement, IsStatement, IsNamed, AreNamed}
use Rattle.dl_base.specs.declared.axiom.NamedBasic.{NamedBasic}
use Rattle.dl_base.specs.declared.axiom.NamedBasic.TheVariants.{Concept, Exists}
use Rattle.dl_base.specs.declared.axiom.NamedHead.TheVariants as head
use Rattle.dl_base.specs.declared.axiom.NamedInclusion.{NamedInclusion}
use Rattle.dl_base.proofs.ExtendLemmas.{names_there}
use Rattle.axiom_reader.specs.declared.tree.RightSide.{RightSide}
use Rattle.axiom_reader.specs.declared.tree.RightSide.TheVariants.{Members, Nothing}
use Rattle.axiom_reader.specs.declared.tree.AxiomTree.{AxiomTree}
use Rattle.axiom_reader.specs.declared.tree.AxiomTree.TheVariants.{SubClassOf, Equivalent, Disjoint, Domain, Range, Class, Property}
use Rattle.axiom_reader.specs.declared.vocabulary.Vocabulary.{Vocabulary}
use Rattle.axiom_reader.specs.Vocabulary.{AddsNames}
use Rattle.axiom_reader.specs.AxiomGrammar.{another, left, axiom_text}
use Rattle.axiom_reader.specs.AxiomMeaning.{sub_class, apart_from_each, apart, inclusions_of, concept_names_of, role_names_of, in_members, in_right, concepts_in, roles_in, each_once, inverse_of, meaning, HasMembers}

-- ---- what was read has members

left_some : (t : List ℕ) (l : List NamedBasic) → left t l → 1 ≤ length l
left_some t l (inl s) = subst (λ (x : List NamedBasic). 1 ≤ length x) (sym s.in_second.1) (omega arith)
left_some t l (inr s) =
    let more = s.in_second.in_second.in_second in
    let at_end = more.in_second.in_second in
    subst (λ (x : List NamedBasic). 1 ≤ length x) (sym at_end.in_second.1) (omega arith)

sides_some : (t : List ℕ) (ls : List (List NamedBasic)) → many (another left) t ls → All (λ l. 1 ≤ length l) ls
sides_some t [] m = All-nil (λ l. 1 ≤ length l)
sides_some t (l ∷ ls) m = All-cons (λ l. 1 ≤ length l) l ls (left_some m.3.back l m.3.in_second) (sides_some m.1 ls m.4)

pub has_members : (t : List ℕ) (tree : AxiomTree) → axiom_text t tree → HasMembers tree
unfolding axiom_text
has_members t tree (inl (inl (inl (inl (inl (inl s)))))) =
    let l = s.in_second.in_second in
    subst HasMembers (sym l.in_second.in_second.in_second.in_second.in_second.1) (left_some l.front l.met l.in_first)
has_members t tree (inl (inl (inl (inl (inl (inr s)))))) =
    let l = s.in_second.in_second in
    let m = l.in_second.in_second in
    subst HasMembers (sym m.in_second.in_second.in_second.1) (left_some l.front l.met l.in_first, left_some m.front m.met m.in_first)
has_members t tree (inl (inl (inl (inl (inr s))))) =
    let l = s.in_second.in_second in
    let ls = l.in_second in
    subst HasMembers (sym ls.in_second.in_second.in_second.1)
    (All-cons (λ l. 1 ≤ length l) l.met ls.met (left_some l.front l.met l.in_first) (sides_some ls.front ls.met ls.in_first.0))
has_members t tree (inl (inl (inl (inr s)))) = subst HasMembers (sym s.in_second.in_second.in_second.in_second.in_second.in_second.in_second.1) tt
has_members t tree (inl (inl (inr s))) = subst HasMembers (sym s.in_second.in_second.in_second.in_second.in_second.in_second.in_second.1) tt
has_members t tree (inl (inr s)) = subst HasMembers (sym s.in_second.in_second.in_second.in_second.in_second.1) tt
has_members t tree (inr s) = subst HasMembers (sym s.in_second.in_second.in_second.in_second.in_second.1) tt

-- ---- bodies have members

abbrev AllSome : List NamedInclusion → Type 0
AllSome is = All (λ i. 1 ≤ length i.body) is

sub_class_some : (l : List NamedBasic) (h : RightSide) → 1 ≤ length l → AllSome (sub_class l h)
sub_class_some l (Members m) one = All-map (λ i. 1 ≤ length i.body) (λ b. record { body = l; head = head.Basic b }) m (λ k d lt. one)
sub_class_some l Nothing one = All-cons (λ i. 1 ≤ length i.body) (record { body = l; head = head.Nothing }) [] one (All-nil (λ i. 1 ≤ length i.body))

apart_some : (sides : List (List NamedBasic)) → All (λ l. 1 ≤ length l) sides → AllSome (apart sides)
apart_some [] each = All-nil (λ i. 1 ≤ length i.body)
apart_some (l ∷ later) each =
    let one : 1 ≤ length l = All-head (λ l. 1 ≤ length l) l later each in
    All-append (λ i. 1 ≤ length i.body) (apart_from_each l later) (apart later)
    (All-map (λ i. 1 ≤ length i.body) (λ m. record { body = l ++ m; head = head.Nothing }) later (λ k d lt. longer l _ one))
    (apart_some later (All-tail (λ l. 1 ≤ length l) l later each))
  where
    longer : (l m : List NamedBasic) → 1 ≤ length l → 1 ≤ length (l ++ m)
    longer l m one = omega (arith, length-append l m)

inclusions_some : (tree : AxiomTree) → HasMembers tree → AllSome (inclusions_of tree)
inclusions_some (SubClassOf l h) has = sub_class_some l h has
inclusions_some (Equivalent l m) has = All-append (λ i. 1 ≤ length i.body) (sub_class l (Members m)) (sub_class m (Members l)) (sub_class_some l (Members m) has.0) (sub_class_some m (Members l) has.1)
inclusions_some (Disjoint sides) has = apart_some sides has
inclusions_some (Domain r h) has = sub_class_some (Exists r ∷ []) h (omega arith)
inclusions_some (Range r h) has = sub_class_some (Exists (inverse_of r) ∷ []) h (omega arith)
inclusions_some (Class c) has = All-nil (λ i. 1 ≤ length i.body)
inclusions_some (Property p) has = All-nil (λ i. 1 ≤ length i.body)

-- ---- names are among the axiom's

module _ (C R : List (List ℕ)) where
  -- each of these names is there
  abbrev Within : List (List ℕ) → List (List ℕ) → Type 0
  Within all xs = (n : List ℕ) → Contains xs n → Contains all n

  front_within : (all xs ys : List (List ℕ)) → Within all (xs ++ ys) → Within all xs
  front_within all xs ys w n c = w n (Contains-append_left xs ys n c)

  back_within : (all xs ys : List (List ℕ)) → Within all (xs ++ ys) → Within all ys
  back_within all xs ys w n c = w n (Contains-append_right xs ys n c)

  basic_named : (b : NamedBasic) → Within C (concept_names_of b) → Within R (role_names_of b) → IsNamed C R b
  basic_named (Concept n) c r = c n (0, omega arith, refl)
  basic_named (Exists s) c r = r s.name (0, omega arith, refl)

  members_named : (l : List NamedBasic) → Within C (in_members concept_names_of l) → Within R (in_members role_names_of l) → All (IsNamed C R) l
  members_named [] c r = All-nil (IsNamed C R)
  members_named (b ∷ bs) c r =
      All-cons (IsNamed C R) b bs
      (basic_named b (front_within C (concept_names_of b) (in_members concept_names_of bs) c) (front_within R (role_names_of b) (in_members role_names_of bs) r))
      (members_named bs (back_within C (concept_names_of b) (in_members concept_names_of bs) c) (back_within R (role_names_of b) (in_members role_names_of bs) r))

  sub_class_named : (l : List NamedBasic) (h : RightSide) → All (IsNamed C R) l → Within C (in_right concept_names_of h) → Within R (in_right role_names_of h) → All (AreNamed C R) (sub_class l h)
  sub_class_named l (Members m) body c r =
      let heads : All (IsNamed C R) m = members_named m c r in
      All-map (AreNamed C R) (λ b. record { body = l; head = head.Basic b }) m (λ k d lt. record { body = body; head = heads k d lt })
  sub_class_named l Nothing body c r = All-cons (AreNamed C R) (record { body = l; head = head.Nothing }) [] (record { body = body; head = tt }) (All-nil (AreNamed C R))

  sides_named : (sides : List (List NamedBasic)) → Within C (flat_map (in_members concept_names_of) sides) → Within R (flat_map (in_members role_names_of) sides) → All (λ l. All (IsNamed C R) l) sides
  sides_named [] c r = All-nil (λ l. All (IsNamed C R) l)
  sides_named (l ∷ ls) c r =
      All-cons (λ l. All (IsNamed C R) l) l ls
      (members_named l (front_within C (in_members concept_names_of l) (flat_map (in_members concept_names_of) ls) c) (front_within R (in_members role_names_of l) (flat_map (in_members role_names_of) ls) r))
      (sides_named ls (back_within C (in_members concept_names_of l) (flat_map (in_members concept_names_of) ls) c) (back_within R (in_members role_names_of l) (flat_map (in_members role_names_of) ls) r))

  apart_named : (sides : List (List NamedBasic)) → All (λ l. All (IsNamed C R) l) sides → All (AreNamed C R) (apart sides)
  apart_named [] each = All-nil (AreNamed C R)
  apart_named (l ∷ later) each =
      let first : All (IsNamed C R) l = All-head (λ l. All (IsNamed C R) l) l later each in
      let others : All (λ l. All (IsNamed C R) l) later = All-tail (λ l. All (IsNamed C R) l) l later each in
      All-append (AreNamed C R) (apart_from_each l later) (apart later)
      (All-map (AreNamed C R) (λ m. record { body = l ++ m; head = head.Nothing }) later (λ k d lt. record { body = All-append (IsNamed C R) l _ first (others k d lt); head = tt }))
      (apart_named later others)

  inclusions_named : (tree : AxiomTree) → Within C (concepts_in tree) → Within R (roles_in tree) → All (AreNamed C R) (inclusions_of tree)
  inclusions_named (SubClassOf l h) c r =
      let body : All (IsNamed C R) l = members_named l (front_within C (in_members concept_names_of l) (in_right concept_names_of h) c) (front_within R (in_members role_names_of l) (in_right role_names_of h) r) in
      sub_class_named l h body (back_within C (in_members concept_names_of l) (in_right concept_names_of h) c) (back_within R (in_members role_names_of l) (in_right role_names_of h) r)
  inclusions_named (Equivalent l m) c r =
      let lc : Within C (in_members concept_names_of l) = front_within C (in_members concept_names_of l) (in_members concept_names_of m) c in
      let lr : Within R (in_members role_names_of l) = front_within R (in_members role_names_of l) (in_members role_names_of m) r in
      let mc : Within C (in_members concept_names_of m) = back_within C (in_members concept_names_of l) (in_members concept_names_of m) c in
      let mr : Within R (in_members role_names_of m) = back_within R (in_members role_names_of l) (in_members role_names_of m) r in
      All-append (AreNamed C R) (sub_class l (Members m)) (sub_class m (Members l)) (sub_class_named l (Members m) (members_named l lc lr) mc mr) (sub_class_named m (Members l) (members_named m mc mr) lc lr)
  inclusions_named (Disjoint sides) c r = apart_named sides (sides_named sides c r)
  inclusions_named (Domain s h) c r = sub_class_named (Exists s ∷ []) h (All-cons (IsNamed C R) (Exists s) [] (r s.name (0, omega arith, refl)) (All-nil (IsNamed C R))) c (back_within R (s.name ∷ []) (in_right role_names_of h) r)
  inclusions_named (Range s h) c r = sub_class_named (Exists (inverse_of s) ∷ []) h (All-cons (IsNamed C R) (Exists (inverse_of s)) [] (r s.name (0, omega arith, refl)) (All-nil (IsNamed C R))) c (back_within R (s.name ∷ []) (in_right role_names_of h) r)
  inclusions_named (Class d) c r = All-nil (AreNamed C R)
  inclusions_named (Property p) c r = All-nil (AreNamed C R)

pub is_statement : (tree : AxiomTree) → HasMembers tree → IsStatement (meaning tree)
unfolding meaning
is_statement tree has = record {
  some = inclusions_some tree has;
  named = inclusions_named (each_once (concepts_in tree)) (each_once (roles_in tree)) tree (λ n c. names_there [] (concepts_in tree) n c) (λ n c. names_there [] (roles_in tree) n c);
}

-- lists that are those of the meaning
pub lists_are_statement : (tree : AxiomTree) (names : Vocabulary) (is : List NamedInclusion) → HasMembers tree → AddsNames (record { concepts = []; roles = [] }) (concepts_in tree) (roles_in tree) names → is ≡ inclusions_of tree
    → IsStatement (record { concepts = names.concepts; roles = names.roles; inclusions = is })
unfolding meaning
lists_are_statement tree names is has added same =
    let parts : Statement = record { concepts = names.concepts; roles = names.roles; inclusions = is } in
    let lists : parts ≡ meaning tree = λ j. record { concepts = added.concepts j; roles = added.roles j; inclusions = same j } in
    subst IsStatement (sym lists) (is_statement tree has)
