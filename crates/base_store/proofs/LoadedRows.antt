-- What is loaded, of what was kept.
use Rattle.std.proofs.Common.{◌≡◌, ◌≤◌, ℕ, List, [], ◌∷◌, All, Contains, length, get_or, Some, None, refl, sym, ◌∙◌, ap, subst, arith}
use Rattle.std.proofs.lemmas.Cmp.{nat_cmp_total}
use Rattle.std.proofs.lemmas.Option.{slice_get_within, slice_get-get_or}
use Rattle.std.specs.Ordering.{nat_cmp}
use Rattle.assert_tables.specs.Listing.{IsListOf}
use Rattle.assert_tables.specs.Rows.{individuals_of}
use Rattle.assert_tables.proofs.CountLemmas.{individual_named, individuals_rise, named_individual}
use Rattle.dl_base.specs.Numbers.{NumbersRow}
use Rattle.dl_base.specs.Ontology.{Terminology}
use Rattle.dl_base.specs.declared.row.NamedRow.{NamedRow}
use Rattle.dl_base.specs.declared.row.NamedRow.TheVariants as named
use Rattle.dl_base.specs.declared.row.Row.{Row}
use Rattle.dl_base.specs.declared.row.Row.TheVariants as row
use Rattle.dl_base.proofs.InOrder.{rising_distinct}
use Rattle.dl_base.proofs.PlaceLemmas.{member_at, no_more, some_same}
use Rattle.dl_base.proofs.RisingLemmas.{nat_same}
use Rattle.base_store.specs.History.{History, Empty, Over, used, ontology_of}
use Rattle.base_store.specs.Loaded.{HasRows, IsInRange, IsLoadedOf, IsRowIn}
use Rattle.base_store.specs.Loading.{AreFew, HasAllOf, IsLoadingOf}
use Rattle.base_store.specs.declared.load.Loaded.{Loaded}
use Rattle.base_store.specs.declared.loading.Loading.{Loading}
use Rattle.base_store.proofs.Taking.{count_within}

-- the same rows in another order
has_listed : (h : History) (names : List (List ℕ)) (rows list : List Row) → IsListOf rows list → HasRows h names rows → HasRows h names list
has_listed Empty names rows [] lists has = (has.0, refl)
has_listed Empty names rows (r ∷ rs) lists has =
    let there : Contains [] r = subst (λ (xs : List Row). Contains xs r) has.1 ((lists.each r).0 (0, omega arith, refl)) in
    absurd (omega (arith, there.1))
has_listed (Over o ts) names rows list lists has = (
  has.0,
  has.1,
  record {
    distinct = has.2.distinct;
    each = λ r c. let found = has.2.each r c in (found.0, (lists.each found.0).1 found.1, found.2);
    only = λ n c. has.2.only n ((lists.each n).0 c);
  },
)

few_listed : (rows list : List Row) → IsListOf rows list → AreFew rows → AreFew list
few_listed rows list lists few = record {
  few_rows = omega (arith, few.few_rows, no_more list rows lists.once (λ r c. (lists.each r).0 c));
  few_individuals = omega (
    arith,
    few.few_individuals,
    no_more (individuals_of list) (individuals_of rows)
        (rising_distinct nat_cmp nat_cmp_total nat_same (individuals_of list) (individuals_rise list))
        (λ k c. let i = individual_named list k c in named_individual rows i.0 k ((lists.each i.0).0 i.1) i.2),
  );
}

pub is_loaded : (l : Loading) (loaded : Loaded) (h : History) → HasAllOf l loaded → IsLoadingOf l h → IsLoadedOf h loaded
is_loaded l loaded h all keeps = record {
  ontology = all.ontology ∙ keeps.ontology;
  rows = subst (λ (names : List (List ℕ)). HasRows h names loaded.rows) (sym all.individuals) (has_listed h l.individuals l.rows loaded.rows all.rows keeps.rows);
  once = all.rows.once;
  transactions = all.transactions ∙ keeps.transactions;
}

row_in : (o : Terminology) (names : List (List ℕ)) (r : NamedRow) (n : Row) → NumbersRow o names r n → IsRowIn o (length names) n
row_in o names (named.Concept c a) (row.Concept d n) e = (slice_get_within o.concepts d c e.0, slice_get_within names n a e.1)
row_in o names (named.Role p a b) (row.Role q n m) e = (slice_get_within o.roles q p e.0, slice_get_within names n a e.1, slice_get_within names m b e.2)
row_in o names (named.Concept c a) (row.Role q n m) e = absurd e
row_in o names (named.Role p a b) (row.Concept d n) e = absurd e

rows_in : (h : History) (o : Terminology) (names : List (List ℕ)) (rows : List Row) → ontology_of h ≡ Some o → HasRows h names rows → All (IsRowIn o (length names)) rows
rows_in Empty o names rows is has = absurd (let e : None ≡ Some o = is in cc)
rows_in (Over p ts) o names rows is has = subst (λ (q : Terminology). All (IsRowIn q (length names)) rows) (some_same is)
    (λ k d below. let found = has.2.only (get_or rows k d) (member_at rows k (get_or rows k d) (slice_get-get_or rows k d below)) in row_in p names found.0 (get_or rows k d) found.2)

no_rows : (h : History) (names : List (List ℕ)) (rows : List Row) → ontology_of h ≡ None → HasRows h names rows → rows ≡ []
no_rows Empty names rows is has = has.1
no_rows (Over p ts) names rows is has = absurd (let e : Some p ≡ None = is in cc)

pub is_in_range : (l : Loading) (loaded : Loaded) (h : History) → HasAllOf l loaded → IsLoadingOf l h → used h ≤ 1073741824 → IsInRange loaded
is_in_range l loaded h all keeps within =
    let is = is_loaded l loaded h all keeps in
    let few = few_listed l.rows loaded.rows all.rows keeps.few in
    record {
      none = λ e. no_rows h loaded.individuals loaded.rows (sym is.ontology ∙ e) is.rows;
      once = is.once;
      within = λ o e. rows_in h o loaded.individuals loaded.rows (sym is.ontology ∙ e) is.rows;
      few_rows = few.few_rows;
      few_individuals = few.few_individuals;
      few_names = omega (arith, keeps.few_names, within, ap (λ (names : List (List ℕ)). length names) all.individuals);
      few_transactions = omega (arith, is.transactions, count_within h, within);
    }
