-- Laws of the facts of a document, as they are kept.
use Rattle.std.proofs.Common.{◌≡◌, ◌≢◌, ℕ, ◌<◌, ◌≤◌, ◌⊎◌, ◌↔◌, inl, inr, Bool, true, false, List, [], ◌∷◌, ◌++◌, length, get_or, slice_get, All, AllPairs, Contains, Some, Result, Ok, Err, IfOk, OnOk, refl, sym, ap, subst, arith}
use Rattle.std.specs.Prelude.{IsTrue, MatchBool}
use Rattle.std.proofs.lemmas.Bool.{cases_order}
use Rattle.std.proofs.lemmas.List.Elements.{Contains-append_left, Contains-push}
use Rattle.std.proofs.lemmas.Option.{slice_get_within, slice_get-get_or}
use Rattle.assert_tables.specs.Rows.{AreRisingRows, Gains, IsNamedIn}
use Rattle.completion.specs.Numbered.{IsRowNamed, IsRowOf}
use Rattle.completion.proofs.NamedLemmas.{rows_placed}
use Rattle.dl_base.specs.Numbers.{NumbersRow, StandFor, names_in}
use Rattle.dl_base.specs.Rows.{numbered_row_cmp}
use Rattle.dl_base.specs.Axiom.{with_names}
use Rattle.dl_base.specs.Ontology.{Terminology, IsTerminology}
use Rattle.dl_base.specs.Rows.{name_cmp, row_cmp, AreRowsOf, AreIndividuals, IsIndividual, Names}
use Rattle.dl_base.specs.declared.row.NamedRow.{NamedRow}
use Rattle.dl_base.specs.declared.row.NamedRow.TheVariants as named
use Rattle.dl_base.specs.declared.row.Row.{Row}
use Rattle.dl_base.specs.declared.row.Row.TheVariants as row
use Rattle.dl_base.proofs.RisingLemmas.{contains_first}
use Rattle.dl_base.proofs.RowLemmas.{name_total, name_same, row_total, row_same, contains_cut, individual_through, numbered_total, numbered_same}
use Rattle.dl_base.proofs.InOrder.{from_order, in_order, in_order_rises, into_order, rising_distinct}
use Rattle.dl_base.proofs.PlaceLemmas.{member_at, no_more}
use Rattle.dl_base.proofs.NumberedRowLemmas.{names_cases, names_keep_place, names_new, names_old, no_more_than, number_stays, one_name, one_number}
use Rattle.document_run.specs.Document.{TooManyFacts}
use Rattle.document_run.specs.Facts.{KeepsFacts}
use Rattle.document_run.specs.declared.facts.Facts.{Facts}

-- ---- rows in order, by number

-- they are distinct
pub rows_distinct : (rows : List Row) → AreRisingRows rows → AllPairs (λ x y. x ≢ y) rows
rows_distinct = rising_distinct numbered_row_cmp numbered_total numbered_same

-- ---- the facts, whether they are within the limits or not

pub record Tracks (o : Terminology) (asserted : List NamedRow) (names : List (List ℕ)) (keys : List Row) : Type 0 where
  pub stand : StandFor o names keys asserted
  pub individual : (a : List ℕ) → Contains names a ↔ IsIndividual asserted a

pub tracks : (o : Terminology) (asserted : List NamedRow) (facts : Facts) → KeepsFacts o asserted facts → Tracks o asserted facts.individuals facts.rows
tracks o asserted facts k = record { stand = k.stand; individual = k.individual }

-- what is asserted in order, each row once
pub rows_in_order : (asserted : List NamedRow) → AreRowsOf asserted (in_order row_cmp row_total row_same asserted)
rows_in_order asserted = record {
  rising = in_order_rises row_cmp row_total row_same asserted;
  only = from_order row_cmp row_total row_same asserted;
  each = into_order row_cmp row_total row_same asserted;
}

module _ (o : Terminology) (asserted : List NamedRow) (names : List (List ℕ)) (keys : List Row) (t : Tracks o asserted names keys) where
  -- distinct rows by name are no more than the rows by number
  rows_few : (rows : List NamedRow) → AreRowsOf asserted rows → length rows ≤ length keys
  rows_few rows are = no_more_than (NumbersRow o names) rows keys (rising_distinct row_cmp row_total row_same rows are.rising) (record {
    partner = λ r c. t.stand.each r (are.only r c);
    once = one_name o names;
  })

  -- and the other way
  keys_few : IsTerminology o → AllPairs (λ x y. x ≢ y) keys → (rows : List NamedRow) → AreRowsOf asserted rows → length keys ≤ length rows
  keys_few is distinct rows are = no_more_than (λ n r. NumbersRow o names r n) keys rows distinct (record {
    partner = λ n c. let found = t.stand.only n c in (found.0, are.each found.0 found.1, found.2);
    once = λ n m r. one_number o names r n m is t.stand.distinct;
  })

  names_few : (some : List (List ℕ)) → AreIndividuals asserted some → length some ≤ length names
  names_few some are = no_more some names (rising_distinct name_cmp name_total name_same some are.rising) (λ a c. (t.individual a).1 (are.only a c))

  too_few : (some : List (List ℕ)) → AreIndividuals asserted some → length names ≤ length some
  too_few some are = no_more names some t.stand.distinct (λ a c. are.each a ((t.individual a).0 c))

  -- the individuals in order
  names_in_order : AreIndividuals asserted (in_order name_cmp name_total name_same names)
  names_in_order = record {
    rising = in_order_rises name_cmp name_total name_same names;
    only = λ a c. (t.individual a).0 (from_order name_cmp name_total name_same names a c);
    each = λ a i. into_order name_cmp name_total name_same names a ((t.individual a).1 i);
  }

  -- past a limit there are too many facts
  too_many_rows : IsTerminology o → AllPairs (λ x y. x ≢ y) keys → 1000000 < length keys → TooManyFacts asserted
  too_many_rows is distinct many =
      let few = keys_few is distinct (in_order row_cmp row_total row_same asserted) (rows_in_order asserted) in
      inl (in_order row_cmp row_total row_same asserted, rows_in_order asserted, omega arith)

  too_many_names : 65536 < length names → TooManyFacts asserted
  too_many_names many =
      let few = too_few (in_order name_cmp name_total name_same names) names_in_order in
      inr (in_order name_cmp name_total name_same names, names_in_order, omega arith)

  pub past_a_limit : IsTerminology o → AllPairs (λ x y. x ≢ y) keys → ((length keys ≤ 1000000) × (length names ≤ 65536) → ⊥) → TooManyFacts asserted
  past_a_limit is distinct past = elim (cases_order 1000000 (length keys)) [
    | inl same ↦ of_names (omega arith)
    | inr either ↦ elim either [ inl many ↦ too_many_rows is distinct many | inr few ↦ of_names (omega arith) ]
  ]
    where
      of_names : length keys ≤ 1000000 → TooManyFacts asserted
      of_names few = elim (cases_order 65536 (length names)) [
        | inl same ↦ absurd (past (few, omega arith))
        | inr either ↦ elim either [ inl many ↦ too_many_names many | inr less ↦ absurd (past (few, omega arith)) ]
      ]

  -- and within the limits there aren't
  pub not_too_many : length keys ≤ 1000000 → length names ≤ 65536 → TooManyFacts asserted → ⊥
  not_too_many rows individuals (inl (some, are, many)) = let few = rows_few some are in omega arith
  not_too_many rows individuals (inr (some, are, many)) = let few = names_few some are in omega arith

  -- ---- one more row

  module _ (r : NamedRow) (more : List (List ℕ)) (n : Row) (keys' : List Row) where
    pub tracks_more : more ≡ with_names names (names_in r) → AllPairs (λ x y. x ≢ y) more → NumbersRow o more r n → Gains n keys keys' → Tracks o (asserted ++ r ∷ []) more keys'
    tracks_more is distinct number adds = record {
      stand = record {
        distinct = distinct;
        each = λ s c. elim (contains_cut asserted r s c) [
          | inl e ↦ (n, (adds.each n).1 (inl refl), subst (λ (x : NamedRow). NumbersRow o more x n) (sym e) number)
          | inr d ↦ let found = t.stand.each s d in (found.0, (adds.each found.0).1 (inr found.1), number_stays o names more s found.0 keep found.2)
        ];
        only = λ m c. elim ((adds.each m).0 c) [
          | inl e ↦ (r, Contains-push asserted r, subst (NumbersRow o more r) (sym e) number)
          | inr d ↦ let found = t.stand.only m d in (found.0, Contains-append_left asserted (r ∷ []) found.0 found.1, number_stays o names more found.0 m keep found.2)
        ];
      };
      individual = λ a. (individual_now a, individual_there a);
    }
      where
        keep : (k : ℕ) (x : List ℕ) → slice_get names k ≡ Some x → slice_get more k ≡ Some x
        keep k x at = subst (λ (xs : List (List ℕ)). slice_get xs k ≡ Some x) (sym is) (names_keep_place names (names_in r) k x at)

        individual_now : (a : List ℕ) → Contains more a → IsIndividual (asserted ++ r ∷ []) a
        individual_now a c = elim (names_cases names r a (subst (λ (xs : List (List ℕ)). Contains xs a) is c)) [
          | inl of_row ↦ (r, Contains-push asserted r, of_row)
          | inr old ↦ individual_through asserted (asserted ++ r ∷ []) (λ s d. Contains-append_left asserted (r ∷ []) s d) a ((t.individual a).0 old)
        ]

        there : (a : List ℕ) → Names a r ⊎ Contains names a → Contains more a
        there a (inl of_row) = subst (λ (xs : List (List ℕ)). Contains xs a) (sym is) (names_new names r a of_row)
        there a (inr old) = subst (λ (xs : List (List ℕ)). Contains xs a) (sym is) (names_old names r a old)

        individual_there : (a : List ℕ) → IsIndividual (asserted ++ r ∷ []) a → Contains more a
        individual_there a (s, c, of_row) = elim (contains_cut asserted r s c) [
          | inl e ↦ there a (inl (subst (Names a) e of_row))
          | inr d ↦ there a (inr ((t.individual a).1 (s, d, of_row)))
        ]

-- ---- what the draft needs

-- facts that are kept pass no limit
pub facts_fit : (o : Terminology) (asserted : List NamedRow) (facts : Facts) → KeepsFacts o asserted facts → TooManyFacts asserted → ⊥
facts_fit o asserted facts k = not_too_many o asserted facts.individuals facts.rows (tracks o asserted facts k) k.few_rows k.few_individuals

-- facts within the limits are kept
pub facts_kept : (o : Terminology) (asserted : List NamedRow) (facts : Facts) → Tracks o asserted facts.individuals facts.rows
    → length facts.rows ≤ 1000000 → length facts.individuals ≤ 65536 → KeepsFacts o asserted facts
facts_kept o asserted facts t rows individuals = record { stand = t.stand; individual = t.individual; few_individuals = individuals; few_rows = rows }

-- what the limits tell
pub kept_or_too_many : (o : Terminology) (asserted : List NamedRow) (facts : Facts) (fits : Bool) → IsTerminology o → Tracks o asserted facts.individuals facts.rows
    → AllPairs (λ x y. x ≢ y) facts.rows → IsTrue fits ↔ ((length facts.rows ≤ 1000000) × (length facts.individuals ≤ 65536))
    → MatchBool fits (KeepsFacts o asserted facts) (TooManyFacts asserted)
kept_or_too_many o asserted facts true is t distinct within = facts_kept o asserted facts t (within.0 refl).0 (within.0 refl).1
kept_or_too_many o asserted facts false is t distinct within =
    past_a_limit o asserted facts.individuals facts.rows t is distinct (λ both. absurd (let e : false ≡ true = within.1 both in cc))

-- the same where reading the counts may find no memory, and leaves what is kept
pub kept_or_too_many_read : {E : Type 0} (o : Terminology) (asserted : List NamedRow) (names : List (List ℕ)) (rows : List Row) (facts : Facts) (r : Result Bool E) → IsTerminology o → Tracks o asserted names rows
    → facts.individuals ≡ names → OnOk r (facts.rows ≡ rows) → OnOk r (AreRisingRows facts.rows) → IfOk r (λ fits. IsTrue fits ↔ ((length facts.rows ≤ 1000000) × (length facts.individuals ≤ 65536)))
    → IfOk r (λ fits. MatchBool fits (KeepsFacts o asserted facts) (TooManyFacts asserted))
kept_or_too_many_read o asserted names rows facts (Err e) is t same_names same_rows rises within = tt
kept_or_too_many_read o asserted names rows facts (Ok fits) is t same_names same_rows rises within =
    kept_or_too_many o asserted facts fits is
    (subst (λ (ns : List (List ℕ)). Tracks o asserted ns facts.rows) (sym same_names) (subst (λ (rs : List Row). Tracks o asserted names rs) (sym same_rows) t))
    (rows_distinct facts.rows rises) within

nobody : {X : Type 0} (xs : List X) (x : X) → xs ≡ [] → Contains xs x → ⊥
nobody {X} xs x e c = let d : Contains [] x = subst (λ (ys : List X). Contains ys x) e c in absurd (omega (arith, d.1))

-- no facts
pub facts_none : (o : Terminology) (facts : Facts) → facts.individuals ≡ [] → facts.rows ≡ [] → KeepsFacts o [] facts
facts_none o facts no_names no_rows = record {
  stand = record {
    distinct = λ i j d lt below. absurd (let e : length facts.individuals ≡ 0 = ap length no_names in omega arith);
    each = λ r c. absurd (nobody [] r refl c);
    only = λ n c. absurd (nobody facts.rows n no_rows c);
  };
  individual = λ a. (λ c. absurd (nobody facts.individuals a no_names c), λ i. absurd (nobody [] i.0 refl i.1));
  few_individuals = let e : length facts.individuals ≡ 0 = ap length no_names in omega arith;
  few_rows = let e : length facts.rows ≡ 0 = ap length no_rows in omega arith;
}

-- where no row is kept, none is asserted
pub no_facts : (o : Terminology) (asserted : List NamedRow) (facts : Facts) → KeepsFacts o asserted facts → length facts.rows ≡ 0 → asserted ≡ []
no_facts o [] facts k none = refl
no_facts o (r ∷ asserted) facts k none = let found = k.stand.each r (contains_first r asserted) in absurd (omega (arith, found.1.1))

-- and where some row is kept, some is asserted
pub some_facts : (o : Terminology) (asserted : List NamedRow) (facts : Facts) → KeepsFacts o asserted facts → length facts.rows ≢ 0 → asserted ≢ []
some_facts o asserted facts k some none = by facts.rows refl
  where
    by : (keys : List Row) → facts.rows ≡ keys → ⊥
    by [] e = some (ap length e)
    by (n ∷ ns) e = let found = k.stand.only n (subst (λ (ks : List Row). Contains ks n) (sym e) (contains_first n ns)) in nobody asserted found.0 none found.1

-- no facts are kept whatever the ontology is
pub facts_of_none : (o new : Terminology) (asserted : List NamedRow) (facts : Facts) → asserted ≡ [] → KeepsFacts o asserted facts → KeepsFacts new asserted facts
facts_of_none o new asserted facts none k = record {
  stand = record {
    distinct = k.stand.distinct;
    each = λ r c. absurd (nobody asserted r none c);
    only = λ n c. let found = k.stand.only n c in absurd (nobody asserted found.0 none found.1);
  };
  individual = k.individual;
  few_individuals = k.few_individuals;
  few_rows = k.few_rows;
}

-- the rows are of concepts and roles of the ontology
pub rows_within : (o : Terminology) (asserted : List NamedRow) (facts : Facts) → KeepsFacts o asserted facts → All (IsRowOf o) facts.rows
rows_within o asserted facts k = rows_placed o facts.individuals facts.rows asserted k.stand

named_within : (o : Terminology) (names : List (List ℕ)) (r : NamedRow) (x : Row) (n : ℕ) → NumbersRow o names r x → IsNamedIn n x → n < length names
named_within o names (named.Concept c a) (row.Concept k m) n e (inl same) = omega (arith, same, slice_get_within names m a e.1)
named_within o names (named.Concept c a) (row.Concept k m) n e (inr same) = omega (arith, same, slice_get_within names m a e.1)
named_within o names (named.Role p a b) (row.Role k m l) n e (inl same) = omega (arith, same, slice_get_within names m a e.1)
named_within o names (named.Role p a b) (row.Role k m l) n e (inr same) = omega (arith, same, slice_get_within names l b e.2)
named_within o names (named.Concept c a) (row.Role k m l) n e which = absurd e
named_within o names (named.Role p a b) (row.Concept k m) n e which = absurd e

-- and their individuals have names
pub individuals_within : (o : Terminology) (asserted : List NamedRow) (facts : Facts) → KeepsFacts o asserted facts → (n : ℕ) → IsRowNamed facts.rows n → n < length facts.individuals
individuals_within o asserted facts k n (x, there, which) =
    let found = k.stand.only x there in
    named_within o facts.individuals found.0 x n found.2 which
