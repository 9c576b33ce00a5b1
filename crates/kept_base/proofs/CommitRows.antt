-- The rows that a commit counts, by name and by number.
use Rattle.std.proofs.Common.{◌≡◌, ◌↔◌, ◌≤◌, ◌+◌, ◌++◌, ◌∷◌, [], ℕ, List, Contains, Some, None, length, slice_get, ◌∙◌, ap, subst, arith}
use Rattle.std.specs.Prelude.{sum_by}
use Rattle.std.proofs.lemmas.List.{map-append}
use Rattle.std.proofs.lemmas.List.Sums.{sum_by-append}
use Rattle.std.specs.Prelude.{map}
use Rattle.assert_tables.specs.Rows.{AreRisingRows}
use Rattle.dl_base.specs.Numbers.{StandFor}
use Rattle.dl_base.specs.Ontology.{IsTerminology, Terminology}
use Rattle.dl_base.specs.Rows.{AreRows}
use Rattle.dl_base.specs.declared.row.NamedChange.{NamedChange}
use Rattle.dl_base.specs.declared.row.NamedRow.{NamedRow}
use Rattle.dl_base.specs.declared.row.Row.{Row}
use Rattle.dl_base.proofs.NumberedRowLemmas.{number_stays, one_name, one_number}
use Rattle.txn_codec.specs.Spelling.{changes_bytes, ontology_bytes}
use Rattle.base_store.specs.History.{History, Empty, Over, ontology_of, used, with_transaction}
use Rattle.base_store.proofs.Counts.{keys_few, rows_few}
use Rattle.base_engine.proofs.RowsThere.{missing, missing_are}

-- under more names the rows stand for the same
pub names_more : (o : Terminology) (names more : List (List ℕ)) (rows : List Row) (these those : List NamedRow) (other : List Row) → ((n : ℕ) (x : List ℕ) → slice_get names n ≡ Some x → slice_get more n ≡ Some x)
    → StandFor o names rows these → StandFor o more other those → StandFor o more rows these
names_more o names more rows these those other keep stand wide = record {
  distinct = wide.distinct;
  each = λ r c. (let found = stand.each r c in (found.0, found.1, number_stays o names more r found.0 keep found.2));
  only = λ n c. (let found = stand.only n c in (found.0, found.1, number_stays o names more found.0 n keep found.2));
}

module _ (o : Terminology) (is : IsTerminology o) (names : List (List ℕ)) (rows others keys : List Row) (these those : List NamedRow) (rise : AreRows these)
    (stand : StandFor o names rows these) (apart : StandFor o names others those) (each : (n : Row) → Contains keys n ↔ (Contains rows n × (Contains others n → ⊥))) where
  -- the rows of one list that the other lacks
  missing_stand : StandFor o names keys (missing these those)
  missing_stand = record {
    distinct = stand.distinct;
    each = λ r c.
        let miss = ((missing_are these those rise).each r).0 c in
        let found = stand.each r miss.0 in (
          found.0,
          (each found.0).1 (
            found.1,
            λ there.
                let other = apart.only found.0 there in
                miss.1 (subst (Contains those) (one_name o names other.0 r found.0 other.2 found.2) other.1),
          ),
          found.2,
        );
    only = λ n c.
        let k = (each n).0 c in
        let found = stand.only n k.0 in (
          found.0,
          ((missing_are these those rise).each found.0).1 (
            found.1,
            λ there.
                let other = apart.each found.0 there in
                k.1 (subst (Contains others) (one_number o names found.0 other.0 n is stand.distinct other.2 found.2) other.1),
          ),
          found.2,
        );
  }

  pub missing_counted : AreRisingRows keys → length keys ≡ length (missing these those)
  missing_counted rising =
      let most : length (missing these those) ≤ length keys = rows_few o names keys (missing these those) missing_stand (missing_are these those rise).rising in
      let least : length keys ≤ length (missing these those) = keys_few o names keys (missing these those) missing_stand is rising in
      omega (arith, most, least)

-- ---- histories

pub over_of : (h : History) (o : Terminology) → ontology_of h ≡ Some o → (es : List (List NamedChange)) × (h ≡ Over o es)
over_of Empty o has = absurd (let e : None ≡ Some o = has in cc)
over_of (Over p es) o has = (let e : Some p ≡ Some o = has in (es, λ i. Over ((let same : p ≡ o = cc in same) i) es))

-- one transaction more takes its gate, its kind, its length and its changes
pub used_more : (h : History) (o : Terminology) (changes : List NamedChange) → ontology_of h ≡ Some o → used (with_transaction changes h) ≡ used h + 6 + length (changes_bytes changes)
used_more Empty o changes has = absurd (let e : None ≡ Some o = has in cc)
used_more (Over p es) o changes has =
    let mapped : map changes_bytes (es ++ changes ∷ []) ≡ map changes_bytes es ++ changes_bytes changes ∷ [] = map-append changes_bytes es (changes ∷ []) in
    let summed : sum_by (λ payload. 6 + length payload) ((ontology_bytes p ∷ map changes_bytes es) ++ changes_bytes changes ∷ [])
    ≡ sum_by (λ payload. 6 + length payload) (ontology_bytes p ∷ map changes_bytes es) + sum_by (λ payload. 6 + length payload) (changes_bytes changes ∷ []) =
    sum_by-append (λ payload. 6 + length payload) (ontology_bytes p ∷ map changes_bytes es) (changes_bytes changes ∷ []) in
    let all : sum_by (λ payload. 6 + length payload) (ontology_bytes p ∷ map changes_bytes (es ++ changes ∷ []))
    ≡ sum_by (λ payload. 6 + length payload) (ontology_bytes p ∷ map changes_bytes es) + (0 + (6 + length (changes_bytes changes))) =
    ap (λ (ps : List (List ℕ)). sum_by (λ payload. 6 + length payload) (ontology_bytes p ∷ ps)) mapped ∙ summed in
    omega (arith, all)
