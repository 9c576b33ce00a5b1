-- What is derived at individuals, kept one after another, and looked up by number.
use Rattle.std.proofs.Common.{◌≡◌, ◌≢◌, ℕ, ◌+◌, ◌<◌, ◌≤◌, ◌⊎◌, ◌↔◌, inl, inr, Bool, true, cond, List, [], ◌∷◌, length, Contains, AllPairs, All, Option, Some, None, refl, sym, ◌∙◌, ap, subst, arith}
use Rattle.std.specs.BTreeMap.{is_at}
use Rattle.std.specs.declared.cmp.Ordering.{Ordering}
use Rattle.std.specs.declared.cmp.Ordering.TheVariants.{Less, Equal, Greater}
use Rattle.std.specs.Ordering.{nat_cmp, is_eq}
use Rattle.std.proofs.lemmas.Bool.{cases_order}
use Rattle.std.proofs.lemmas.Bool.Decides.{nat_tests}
use Rattle.std.proofs.lemmas.List.Elements.{Contains-get_or}
use Rattle.std.proofs.lemmas.List.Kept.{AllPairs-cons}
use Rattle.assert_tables.specs.Rows.{IsNumberAbove, IsNextIndividual, individuals_of}
use Rattle.assert_tables.proofs.CountLemmas.{named_individual}
use Rattle.assert_tables.proofs.LeftLemmas.{above_on}
use Rattle.completion.specs.Individuals.{AreAtIndividuals, IsAt, IsKept, found_at}
use Rattle.completion.specs.Numbered.{IsRowNamed, IsPointedTo, PointsTo}
use Rattle.completion.specs.declared.individuals.AtIndividual.{AtIndividual}
use Rattle.dl_base.specs.Ontology.{Terminology}
use Rattle.dl_base.specs.Sets.{HasRole}
use Rattle.dl_base.specs.declared.concept.Role.{Role}
use Rattle.dl_base.specs.declared.row.Row.{Row}
use Rattle.dl_base.proofs.PlaceLemmas.{no_more, some_same}
use Rattle.dl_base.proofs.RisingLemmas.{contains_cases, nat_same}

-- ---- the individuals gone through

-- up to that one distinct individuals were gone through, with one step for each
pub record Gone (rows : List Row) (after : Option ℕ) (start steps : ℕ) : Type 0 where
  pub list : List ℕ
  pub distinct : AllPairs (λ x y. x ≢ y) list
  pub inside : (n : ℕ) → Contains list n → Contains (individuals_of rows) n
  pub upto : (n : ℕ) → Contains list n → IsNumberAbove after n → ⊥
  pub number : steps ≡ start + length list

pub gone_none : (rows : List Row) (start : ℕ) → Gone rows None start start
gone_none rows start = record {
  list = [];
  distinct = λ i j d less below. absurd (omega arith);
  inside = λ n c. absurd (omega (arith, c.1));
  upto = λ n c above. absurd (omega (arith, c.1));
  number = omega arith;
}

module _ (rows : List Row) (after : Option ℕ) (i start steps : ℕ) (next : IsNextIndividual rows after (Some i)) (gone : Gone rows after start steps) where
  apart : All (λ n. i ≢ n) gone.list
  apart k d low e = gone.upto i (subst (Contains gone.list) (sym e) (Contains-get_or gone.list k d low)) next.0

  pub gone_more : Gone rows (Some i) start (steps + 1)
  gone_more = record {
    list = i ∷ gone.list;
    distinct = AllPairs-cons (λ x y. x ≢ y) i gone.list apart gone.distinct;
    inside = λ n c. elim (contains_cases i gone.list n c) [
      | inl e ↦ subst (Contains (individuals_of rows)) (sym e) (named_individual rows next.1.0 i next.1.1 next.1.2)
      | inr d ↦ gone.inside n d
    ];
    upto = λ n c less. elim (contains_cases i gone.list n c) [
      | inl e ↦ absurd (omega arith)
      | inr d ↦ gone.upto n d (above_on after i n next.0 less)
    ];
    number = (let e = gone.number in omega arith);
  }

-- no more steps than individuals
pub gone_few : (rows : List Row) (after : Option ℕ) (start steps : ℕ) → Gone rows after start steps → steps ≤ start + length (individuals_of rows)
gone_few rows after start steps gone =
    let few : length gone.list ≤ length (individuals_of rows) = no_more gone.list (individuals_of rows) gone.distinct gone.inside in
    let e = gone.number in
    omega (arith, few, e)

-- ---- what is kept of them

-- up to that one each individual of the rows is kept, and no other number
pub record KeptUpTo (o : Terminology) (rows : List Row) (after : Option ℕ) (map : List (ℕ × AtIndividual)) : Type 0 where
  pub sound : (n : ℕ) (x : AtIndividual) → found_at map n ≡ Some x → IsRowNamed rows n × IsAt o rows n x
  pub each : (n : ℕ) → IsRowNamed rows n → (IsNumberAbove after n → ⊥) → IsKept map n

-- the roles to which these point were added
pub record PointedUpTo (o : Terminology) (rows : List Row) (after : Option ℕ) (old pointed : List ℕ) : Type 0 where
  pub sound : (r : Role) → HasRole pointed r → IsPointedTo o rows r ⊎ HasRole old r
  pub each : (r : Role) (n : ℕ) → IsRowNamed rows n → (IsNumberAbove after n → ⊥) → PointsTo o rows n r → HasRole pointed r
  pub stays : (r : Role) → HasRole old r → HasRole pointed r

pub kept_none : (o : Terminology) (rows : List Row) (map : List (ℕ × AtIndividual)) → map ≡ [] → KeptUpTo o rows None map
kept_none o rows map empty = record {
  sound = λ n x at. absurd (let none : found_at map n ≡ None = ap (λ (es : List (ℕ × AtIndividual)). found_at es n) empty in cc);
  each = λ n named not. absurd (not tt);
}

pub pointed_none : (o : Terminology) (rows : List Row) (old : List ℕ) → PointedUpTo o rows None old old
pointed_none o rows old = record { sound = λ r h. inr h; each = λ r n named not points. absurd (not tt); stays = λ r h. h }

-- an individual up to the next is the next, or one that was gone through
next_or_gone : (rows : List Row) (after : Option ℕ) (i n : ℕ) → IsNextIndividual rows after (Some i) → IsRowNamed rows n → (i < n → ⊥) → (n ≡ i) ⊎ (IsNumberAbove after n → ⊥)
next_or_gone rows after i n next named not = elim (cases_order n i) [
  | inl same ↦ inl same
  | inr rest ↦ elim rest [ inl less ↦ inr (λ above. next.2 named.0 n named.1 named.2 above less) | inr more ↦ absurd (not more) ]
]

-- one number has something else now
module _ (old new : List (ℕ × AtIndividual)) (i : ℕ) (x : AtIndividual) (updates : (n : ℕ) → found_at new n ≡ cond (is_at (nat_cmp i) n) (Some x) (found_at old n)) where
  found_now : (n : ℕ) → n ≡ i → found_at new n ≡ Some x
  found_now n same = updates n ∙ ap (λ (b : Bool). cond b (Some x) (found_at old n)) here
    where
      here : is_at (nat_cmp i) n ≡ true
      here = grind (arith, nat_tests)

  found_cases : (n : ℕ) (y : AtIndividual) → found_at new n ≡ Some y → ((n ≡ i) × (y ≡ x)) ⊎ (found_at old n ≡ Some y)
  found_cases n y at = by (nat_cmp i n) refl
    where
      by : (r : Ordering) → nat_cmp i n ≡ r → ((n ≡ i) × (y ≡ x)) ⊎ (found_at old n ≡ Some y)
      by Less is = inr (sym (updates n ∙ ap (λ (r : Ordering). cond (is_eq r) (Some x) (found_at old n)) is) ∙ at)
      by Equal is = let same : n ≡ i = sym (nat_same i n is) in inl (same, some_same (sym at ∙ found_now n same))
      by Greater is = inr (sym (updates n ∙ ap (λ (r : Ordering). cond (is_eq r) (Some x) (found_at old n)) is) ∙ at)

  found_later : (n : ℕ) → IsKept old n → IsKept new n
  found_later n kept = by (nat_cmp i n) refl
    where
      by : (r : Ordering) → nat_cmp i n ≡ r → IsKept new n
      by Less is = (kept.0, updates n ∙ ap (λ (r : Ordering). cond (is_eq r) (Some x) (found_at old n)) is ∙ kept.1)
      by Equal is = (x, found_now n (sym (nat_same i n is)))
      by Greater is = (kept.0, updates n ∙ ap (λ (r : Ordering). cond (is_eq r) (Some x) (found_at old n)) is ∙ kept.1)

  pub kept_more : (o : Terminology) (rows : List Row) (after : Option ℕ) → IsNextIndividual rows after (Some i) → IsAt o rows i x → KeptUpTo o rows after old → KeptUpTo o rows (Some i) new
  kept_more o rows after next at far = record {
    sound = λ n y found. elim (found_cases n y found) [
      | inl here ↦ (subst (IsRowNamed rows) (sym here.0) next.1, subst (IsAt o rows n) (sym here.1) (subst (λ (m : ℕ). IsAt o rows m x) (sym here.0) at))
      | inr before ↦ far.sound n y before
    ];
    each = λ n named not. elim (next_or_gone rows after i n next named not) [
      | inl same ↦ (x, found_now n same)
      | inr gone ↦ found_later n (far.each n named gone)
    ];
  }

pub pointed_more : (o : Terminology) (rows : List Row) (after : Option ℕ) (i : ℕ) (old now new : List ℕ) → IsNextIndividual rows after (Some i) → ((r : Role) → HasRole new r ↔ (PointsTo o rows i r ⊎ HasRole now r))
    → PointedUpTo o rows after old now → PointedUpTo o rows (Some i) old new
pointed_more o rows after i old now new next adds far = record {
  sound = λ r h. elim ((adds r).0 h) [ inl points ↦ inl (i, next.1, points) | inr before ↦ far.sound r before ];
  each = λ r n named not points. (adds r).1 (elim (next_or_gone rows after i n next named not) [
    | inl same ↦ inl (subst (λ (m : ℕ). PointsTo o rows m r) same points)
    | inr gone ↦ inr (far.each r n named gone points)
  ]);
  stays = λ r h. (adds r).1 (inr (far.stays r h));
}

-- behind the last individual all are kept
pub all_kept : (o : Terminology) (rows : List Row) (after : Option ℕ) (map : List (ℕ × AtIndividual)) → IsNextIndividual rows after None → KeptUpTo o rows after map → AreAtIndividuals o rows map
all_kept o rows after map none far = record {
  each = λ n. (λ kept. (far.sound n kept.0 kept.1).0, λ named. far.each n named (λ above. none named.0 n named.1 named.2 above));
  derived = λ n x found. (far.sound n x found).1;
}

pub all_pointed : (o : Terminology) (rows : List Row) (after : Option ℕ) (old pointed : List ℕ) → IsNextIndividual rows after None → PointedUpTo o rows after old pointed
    → (r : Role) → HasRole pointed r ↔ (IsPointedTo o rows r ⊎ HasRole old r)
all_pointed o rows after old pointed none far r = (
  far.sound r,
  λ either. elim either [
    | inl p ↦ far.each r p.0 p.1 (λ above. none p.1.0 p.0 p.1.1 p.1.2 above) p.2
    | inr h ↦ far.stays r h
  ],
)
