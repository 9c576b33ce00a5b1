-- How many rows and individuals there are, by name and by number.
use Rattle.std.proofs.Common.{◌≡◌, ◌⊎◌, ◌<◌, ◌≤◌, inl, inr, ℕ, List, [], ◌∷◌, length, Contains, Some, slice_get, refl, sym, ◌∙◌, ap, subst, arith}
use Rattle.std.proofs.lemmas.Bool.{cases_order}
use Rattle.std.proofs.lemmas.Cmp.{nat_cmp_total}
use Rattle.std.specs.Ordering.{nat_cmp}
use Rattle.assert_tables.specs.Rows.{AreRisingRows, IsNamedIn, individuals_of}
use Rattle.assert_tables.proofs.CountLemmas.{individual_named, individuals_rise, named_individual}
use Rattle.dl_base.specs.Numbers.{NumbersRow, StandFor}
use Rattle.dl_base.specs.Ontology.{Terminology, IsTerminology}
use Rattle.dl_base.specs.Rows.{AreIndividuals, AreRows, Names, name_cmp, numbered_row_cmp, row_cmp}
use Rattle.dl_base.specs.declared.row.NamedChange.{NamedChange}
use Rattle.dl_base.specs.declared.row.NamedRow.{NamedRow}
use Rattle.dl_base.specs.declared.row.NamedRow.TheVariants as named
use Rattle.dl_base.specs.declared.row.Row.{Row}
use Rattle.dl_base.specs.declared.row.Row.TheVariants as row
use Rattle.dl_base.proofs.IndividualLemmas.{individuals, individuals_are}
use Rattle.dl_base.proofs.InOrder.{rising_distinct}
use Rattle.dl_base.proofs.NumberedRowLemmas.{no_more_than, one_name, one_number}
use Rattle.dl_base.proofs.PlaceLemmas.{one_place, some_same}
use Rattle.dl_base.proofs.RisingLemmas.{contains_first, nat_same}
use Rattle.dl_base.proofs.RowLemmas.{name_same, name_total, none_rising, numbered_same, numbered_total, row_same, row_total}
use Rattle.base_store.specs.History.{History, Empty, Over}
use Rattle.base_store.specs.Legal.{IsCrowded}
use Rattle.base_store.specs.Loaded.{HasRows}
use Rattle.base_store.specs.Loading.{AreFew}
use Rattle.base_store.proofs.AfterChanges.{transactions_once, transactions_rise}

-- ---- by name and by number

-- the number of a name in a row
number_in : (o : Terminology) (names : List (List ℕ)) (r : NamedRow) (n : Row) (a : List ℕ) → NumbersRow o names r n → Names a r → (k : ℕ) × IsNamedIn k n × (slice_get names k ≡ Some a)
number_in o names (named.Concept c x) (row.Concept d k) a e same = (k, inl refl, subst (λ (y : List ℕ). slice_get names k ≡ Some y) (sym same) e.1)
number_in o names (named.Role p x y) (row.Role q k m) a e (inl same) = (k, inl refl, subst (λ (z : List ℕ). slice_get names k ≡ Some z) (sym same) e.1)
number_in o names (named.Role p x y) (row.Role q k m) a e (inr same) = (m, inr refl, subst (λ (z : List ℕ). slice_get names m ≡ Some z) (sym same) e.2)
number_in o names (named.Concept c x) (row.Role q k m) a e same = absurd e
number_in o names (named.Role p x y) (row.Concept d k) a e same = absurd e

-- and the name of a number
name_in : (o : Terminology) (names : List (List ℕ)) (r : NamedRow) (n : Row) (k : ℕ) → NumbersRow o names r n → IsNamedIn k n → (a : List ℕ) × Names a r × (slice_get names k ≡ Some a)
name_in o names (named.Concept c x) (row.Concept d m) k e (inl same) = (x, refl, subst (λ (i : ℕ). slice_get names i ≡ Some x) (sym same) e.1)
name_in o names (named.Concept c x) (row.Concept d m) k e (inr same) = (x, refl, subst (λ (i : ℕ). slice_get names i ≡ Some x) (sym same) e.1)
name_in o names (named.Role p x y) (row.Role q m l) k e (inl same) = (x, inl refl, subst (λ (i : ℕ). slice_get names i ≡ Some x) (sym same) e.1)
name_in o names (named.Role p x y) (row.Role q m l) k e (inr same) = (y, inr refl, subst (λ (i : ℕ). slice_get names i ≡ Some y) (sym same) e.2)
name_in o names (named.Concept c x) (row.Role q m l) k e which = absurd e
name_in o names (named.Role p x y) (row.Concept d m) k e which = absurd e

module _ (o : Terminology) (names : List (List ℕ)) (keys : List Row) (these : List NamedRow) (t : StandFor o names keys these) where
  pub rows_few : AreRows these → length these ≤ length keys
  rows_few rises = no_more_than (NumbersRow o names) these keys (rising_distinct row_cmp row_total row_same these rises) (record {
    partner = t.each;
    once = one_name o names;
  })

  pub keys_few : IsTerminology o → AreRisingRows keys → length keys ≤ length these
  keys_few is rises = no_more_than (λ n r. NumbersRow o names r n) keys these (rising_distinct numbered_row_cmp numbered_total numbered_same keys rises) (record {
    partner = t.only;
    once = λ n m r. one_number o names r n m is t.distinct;
  })

  names_few : (some : List (List ℕ)) → AreIndividuals these some → length some ≤ length (individuals_of keys)
  names_few some are = no_more_than (λ a k. slice_get names k ≡ Some a) some (individuals_of keys) (rising_distinct name_cmp name_total name_same some are.rising) (record {
    partner = λ a c.
        let i = are.only a c in
        let found = t.each i.0 i.1 in
        let k = number_in o names i.0 found.0 a found.2 i.2 in
        (k.0, named_individual keys found.0 k.0 found.1 k.1, k.2);
    once = λ a b k e f. some_same (sym e ∙ f);
  })

  numbers_few : (some : List (List ℕ)) → AreIndividuals these some → length (individuals_of keys) ≤ length some
  numbers_few some are = no_more_than (λ k a. slice_get names k ≡ Some a) (individuals_of keys) some (rising_distinct nat_cmp nat_cmp_total nat_same (individuals_of keys) (individuals_rise keys)) (record {
    partner = λ k c.
        let i = individual_named keys k c in
        let found = t.only i.0 i.1 in
        let a = name_in o names found.0 i.0 k found.2 i.2 in
        (a.0, are.each a.0 (found.0, found.1, a.1), a.2);
    once = λ k m a e f. one_place names k m a t.distinct e f;
  })

-- ---- the limits

-- rows within the limits are of a history that is
pub few_uncrowded : (h : History) (names : List (List ℕ)) (keys : List Row) → HasRows h names keys → AreFew keys → IsCrowded h → ⊥
few_uncrowded Empty names keys has few crowded =
    let none : crowded.rows ≡ [] = crowded.are in
    let no_names : length crowded.individuals ≤ 0 = nobody crowded.individuals (λ a c. let i = crowded.names.only a c in nothing crowded.rows none i.0 i.1) in
    let no_rows : length crowded.rows ≡ 0 = ap length none in
    elim crowded.many [ inl many ↦ omega (arith, no_rows) | inr many ↦ omega (arith, no_names) ]
  where
    nothing : (rows : List NamedRow) → rows ≡ [] → (r : NamedRow) → Contains rows r → ⊥
    nothing rows e r c = let d : Contains [] r = subst (λ (xs : List NamedRow). Contains xs r) e c in absurd (omega (arith, d.1))

    nobody : (xs : List (List ℕ)) → ((a : List ℕ) → Contains xs a → ⊥) → length xs ≤ 0
    nobody [] none = omega arith
    nobody (x ∷ xs) none = absurd (none x (contains_first x xs))
few_uncrowded (Over o ts) names keys has few crowded =
    let same : crowded.rows ≡ has.0 = transactions_once [] ts crowded.rows has.0 crowded.are has.1 in
    let rises : AreRows has.0 = transactions_rise [] ts has.0 (none_rising row_cmp) has.1 in
    let rows : length has.0 ≤ length keys = rows_few o names keys has.0 has.2 rises in
    let counted : length crowded.rows ≡ length has.0 = ap length same in
    let people : length crowded.individuals ≤ length (individuals_of keys) = names_few o names keys has.0 has.2 crowded.individuals (subst (λ (rs : List NamedRow). AreIndividuals rs crowded.individuals) same crowded.names) in
    elim crowded.many [ inl many ↦ omega (arith, many, rows, counted, few.few_rows) | inr many ↦ omega (arith, many, people, few.few_individuals) ]

-- and rows past a limit are of one that is past it
pub many_crowded : (o : Terminology) (ts : List (List NamedChange)) (names : List (List ℕ)) (keys : List Row) → IsTerminology o → AreRisingRows keys → HasRows (Over o ts) names keys
    → (AreFew keys → ⊥) → IsCrowded (Over o ts)
many_crowded o ts names keys is rises has past = record {
  rows = has.0;
  are = has.1;
  individuals = individuals has.0;
  names = individuals_are has.0;
  many = elim (cases_order 1000000 (length keys)) [
    | inl same ↦ people (omega arith)
    | inr either ↦ elim either [ inl many ↦ inl (omega (arith, many, rows)) | inr less ↦ people (omega arith) ]
  ];
}
  where
    rows : length keys ≤ length has.0
    rows = keys_few o names keys has.0 has.2 is rises

    some : length (individuals_of keys) ≤ length (individuals has.0)
    some = numbers_few o names keys has.0 has.2 (individuals has.0) (individuals_are has.0)

    people : length keys ≤ 1000000 → (1000000 < length has.0) ⊎ (65536 < length (individuals has.0))
    people few = elim (cases_order 65536 (length (individuals_of keys))) [
      | inl same ↦ absurd (past (record { few_rows = few; few_individuals = omega arith }))
      | inr either ↦ elim either [
        | inl many ↦ inr (omega (arith, many, some))
        | inr less ↦ absurd (past (record { few_rows = few; few_individuals = omega arith }))
      ]
    ]
