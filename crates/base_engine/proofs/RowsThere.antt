-- The rows of a history, its individuals and what a commit counts can be listed.
use Rattle.std.proofs.Common.{◌≡◌, ◌≢◌, ℕ, zero, suc, ◌<◌, ◌≤◌, ◌⊎◌, inl, inr, Bool, true, false, List, [], ◌∷◌, length, Contains, refl, sym, ◌∙◌, ap, subst, arith}
use Rattle.std.specs.List.{AllByRecursion}
use Rattle.std.specs.Prelude.{flat_map}
use Rattle.std.specs.List.Sorted.{IsStrictlySortedBy}
use Rattle.std.specs.declared.cmp.Ordering.{Ordering}
use Rattle.std.specs.declared.cmp.Ordering.TheVariants.{Less, Equal, Greater}
use Rattle.std.specs.Ordering.{match_ordering}
use Rattle.std.proofs.lemmas.Cmp.{tied_itself}
use Rattle.dl_base.specs.Numbers.{names_in}
use Rattle.dl_base.specs.Rows.{AreIndividuals, AreRows, name_cmp, row_cmp}
use Rattle.dl_base.specs.declared.row.NamedRow.{NamedRow}
use Rattle.dl_base.specs.declared.row.NamedChange.{NamedChange}
use Rattle.dl_base.proofs.IndividualLemmas.{names_row, row_names}
use Rattle.dl_base.proofs.PlaceLemmas.{flat_there, flat_part}
use Rattle.dl_base.proofs.RisingLemmas.{contains_cases, contains_first, contains_later, placed, placed_adds, placed_rises, same_rising}
use Rattle.dl_base.proofs.RowLemmas.{name_same, name_total, none_rising, row_same, row_total}
use Rattle.query_shape.proofs.MatchList.{Decided, decide_same}
use Rattle.base_store.specs.History.{AreRowsAfter, History, IsAfterChange, IsAfterChanges, IsAfterTransactions, transactions}
use Rattle.base_store.specs.Legal.{IsCrowded}
use Rattle.base_engine.specs.Steps.{AreMissing, Counts}
use Rattle.base_engine.proofs.RowsOnce.{rows_once}

pub decide_row : (r x : NamedRow) → Decided (r ≡ x)
decide_row = decide_same row_cmp row_total row_same

pub decide_name : (a b : List ℕ) → Decided (a ≡ b)
decide_name = decide_same name_cmp name_total name_same

-- ---- one row less

abbrev pub without : NamedRow → List NamedRow → List NamedRow
without r [] = []
without r (x ∷ xs) = match_ordering (row_cmp r x) (x ∷ without r xs) (without r xs) (x ∷ without r xs)

from_without : (r : NamedRow) (xs : List NamedRow) (z : NamedRow) → Contains (without r xs) z → Contains xs z
from_without r [] z c = c
from_without r (x ∷ xs) z c = by (row_cmp r x) (from_without r xs z) c
  where
    kept : (Contains (without r xs) z → Contains xs z) → Contains (x ∷ without r xs) z → Contains (x ∷ xs) z
    kept rest d = elim (contains_cases x (without r xs) z d) [
      | inl e ↦ subst (λ (y : NamedRow). Contains (x ∷ xs) y) (sym e) (contains_first x xs)
      | inr f ↦ contains_later x xs z (rest f)
    ]

    by : (o : Ordering) → (Contains (without r xs) z → Contains xs z) → Contains (match_ordering o (x ∷ without r xs) (without r xs) (x ∷ without r xs)) z → Contains (x ∷ xs) z
    by Less rest d = kept rest d
    by Equal rest d = contains_later x xs z (rest d)
    by Greater rest d = kept rest d

not_without : (r : NamedRow) (xs : List NamedRow) → AreRows xs → Contains (without r xs) r → ⊥
not_without r xs rises c = absurd (gone r xs c)
  where
    tied : (r x : NamedRow) (o : Ordering) → row_cmp r x ≡ o → r ≡ x → o ≡ Equal
    tied r x o e same = by (decide_row r x) refl
      where
        self : row_cmp r r ≡ Equal
        self = tied_itself row_total r

        by : Decided (r ≡ x) → o ≡ o → o ≡ Equal
        by d _ = sym e ∙ (ap (row_cmp r) (sym same) ∙ self)

    gone : (r : NamedRow) (xs : List NamedRow) → Contains (without r xs) r → ⊥
    gone r [] c = absurd (omega (arith, c.1))
    gone r (x ∷ xs) c = by (row_cmp r x) refl (gone r xs) c
      where
        kept : (o : Ordering) → row_cmp r x ≡ o → (o ≡ Equal → ⊥) → (Contains (without r xs) r → ⊥) → Contains (x ∷ without r xs) r → ⊥
        kept o e not rest d = elim (contains_cases x (without r xs) r d) [
          | inl same ↦ not (tied r x o e same)
          | inr f ↦ rest f
        ]

        by : (o : Ordering) → row_cmp r x ≡ o → (Contains (without r xs) r → ⊥) → Contains (match_ordering o (x ∷ without r xs) (without r xs) (x ∷ without r xs)) r → ⊥
        by Less e rest d = kept Less e (λ f. cc) rest d
        by Equal e rest d = rest d
        by Greater e rest d = kept Greater e (λ f. cc) rest d

into_without : (r : NamedRow) (xs : List NamedRow) (z : NamedRow) → z ≢ r → Contains xs z → Contains (without r xs) z
into_without r [] z other c = c
into_without r (x ∷ xs) z other c = by (row_cmp r x) refl (into_without r xs z other) (contains_cases x xs z c)
  where
    kept : (Contains xs z → Contains (without r xs) z) → (z ≡ x) ⊎ Contains xs z → Contains (x ∷ without r xs) z
    kept rest (inl e) = subst (λ (y : NamedRow). Contains (x ∷ without r xs) y) (sym e) (contains_first x (without r xs))
    kept rest (inr d) = contains_later x (without r xs) z (rest d)

    by : (o : Ordering) → row_cmp r x ≡ o → (Contains xs z → Contains (without r xs) z) → (z ≡ x) ⊎ Contains xs z
        → Contains (match_ordering o (x ∷ without r xs) (without r xs) (x ∷ without r xs)) z
    by Less e rest d = kept rest d
    by Equal e rest (inl same) = absurd (other (same ∙ sym (row_same r x e)))
    by Equal e rest (inr d) = rest d
    by Greater e rest d = kept rest d

all_without : (P : NamedRow → Type 0) (r : NamedRow) (xs : List NamedRow) → AllByRecursion P xs → AllByRecursion P (without r xs)
all_without P r [] all = all
all_without P r (x ∷ xs) all = by (row_cmp r x) (all_without P r xs all.1)
  where
    by : (o : Ordering) → AllByRecursion P (without r xs) → AllByRecursion P (match_ordering o (x ∷ without r xs) (without r xs) (x ∷ without r xs))
    by Less rest = (all.0, rest)
    by Equal rest = rest
    by Greater rest = (all.0, rest)

rises_without : (r : NamedRow) (xs : List NamedRow) → AreRows xs → AreRows (without r xs)
unfolding IsStrictlySortedBy
rises_without r [] rises = rises
rises_without r (x ∷ xs) rises = by (row_cmp r x) (rises_without r xs rises.1)
  where
    by : (o : Ordering) → AreRows (without r xs) → AreRows (match_ordering o (x ∷ without r xs) (without r xs) (x ∷ without r xs))
    by Less rest = (all_without (λ z. row_cmp x z ≡ Less) r xs rises.0, rest)
    by Equal rest = rest
    by Greater rest = (all_without (λ z. row_cmp x z ≡ Less) r xs rises.0, rest)

-- ---- the rows of a history

abbrev pub one_change : Bool → NamedRow → List NamedRow → List NamedRow
one_change true r old = placed row_cmp row_total row_same r old
one_change false r old = without r old

after_change : (old : List NamedRow) (add : Bool) (r : NamedRow) → AreRows old → IsAfterChange old (record { add = add; row = r }) (one_change add r old)
after_change old true r rises = record {
  rising = placed_rises row_cmp row_total row_same r old rises;
  each = λ z. (
    λ there. added z ((placed_adds row_cmp row_total row_same r old).each z there) (decide_row z r),
    λ either. elim either [
      | inl new ↦ subst (λ (y : NamedRow). Contains (placed row_cmp row_total row_same r old) y) (sym new.0) (placed_adds row_cmp row_total row_same r old).there
      | inr was ↦ (placed_adds row_cmp row_total row_same r old).stays z was.1
    ],
  );
}
  where
    added : (z : NamedRow) → (z ≡ r) ⊎ Contains old z → Decided (z ≡ r) → ((z ≡ r) × (true ≡ true)) ⊎ ((z ≢ r) × Contains old z)
    added z (inl e) d = inl (e, refl)
    added z (inr c) (inl e) = inl (e, refl)
    added z (inr c) (inr other) = inr (other, c)
after_change old false r rises = record {
  rising = rises_without r old rises;
  each = λ z. (
    λ there. inr (λ same. not_without r old rises (subst (λ (y : NamedRow). Contains (without r old) y) same there), from_without r old z there),
    λ either. elim either [
      | inl new ↦ absurd (let e = new.1 in cc)
      | inr was ↦ into_without r old z was.0 was.1
    ],
  );
}

abbrev pub all_changes : List NamedChange → List NamedRow → List NamedRow
all_changes [] old = old
all_changes (c ∷ cs) old = all_changes cs (one_change c.add c.row old)

abbrev pub all_transactions : List (List NamedChange) → List NamedRow → List NamedRow
all_transactions [] old = old
all_transactions (e ∷ es) old = all_transactions es (all_changes e old)

after_changes : (cs : List NamedChange) (old : List NamedRow) → AreRows old → IsAfterChanges old cs (all_changes cs old) × AreRows (all_changes cs old)
after_changes [] old rises = (refl, rises)
after_changes (c ∷ cs) old rises =
    let one = after_change old c.add c.row rises in
    let more = after_changes cs (one_change c.add c.row old) one.rising in
    ((one_change c.add c.row old, one, more.0), more.1)

after_transactions : (es : List (List NamedChange)) (old : List NamedRow) → AreRows old → IsAfterTransactions old es (all_transactions es old) × AreRows (all_transactions es old)
after_transactions [] old rises = (refl, rises)
after_transactions (e ∷ es) old rises =
    let one = after_changes e old rises in
    let more = after_transactions es (all_changes e old) one.1 in
    ((all_changes e old, one.0, more.0), more.1)

abbrev pub rows_of : History → List NamedRow
rows_of h = all_transactions (transactions h) []

pub rows_are : (h : History) → AreRowsAfter h (rows_of h)
rows_are h = (after_transactions (transactions h) [] (none_rising row_cmp)).0

-- ---- individuals, and too many of them

-- the names in their order
abbrev pub ordered : List (List ℕ) → List (List ℕ)
ordered [] = []
ordered (x ∷ xs) = placed name_cmp name_total name_same x (ordered xs)

ordered_rises : (xs : List (List ℕ)) → IsStrictlySortedBy name_cmp (ordered xs)
ordered_rises [] = none_rising name_cmp
ordered_rises (x ∷ xs) = placed_rises name_cmp name_total name_same x (ordered xs) (ordered_rises xs)

from_ordered : (xs : List (List ℕ)) (z : List ℕ) → Contains (ordered xs) z → Contains xs z
from_ordered [] z c = c
from_ordered (x ∷ xs) z c = elim ((placed_adds name_cmp name_total name_same x (ordered xs)).each z c) [
  | inl e ↦ subst (λ (y : List ℕ). Contains (x ∷ xs) y) (sym e) (contains_first x xs)
  | inr d ↦ contains_later x xs z (from_ordered xs z d)
]

into_ordered : (xs : List (List ℕ)) (z : List ℕ) → Contains xs z → Contains (ordered xs) z
into_ordered [] z c = c
into_ordered (x ∷ xs) z c = elim (contains_cases x xs z c) [
  | inl e ↦ subst (λ (y : List ℕ). Contains (ordered (x ∷ xs)) y) (sym e) (placed_adds name_cmp name_total name_same x (ordered xs)).there
  | inr d ↦ (placed_adds name_cmp name_total name_same x (ordered xs)).stays z (into_ordered xs z d)
]

abbrev pub names_of : List NamedRow → List (List ℕ)
names_of rows = ordered (flat_map names_in rows)

pub names_are : (rows : List NamedRow) → AreIndividuals rows (names_of rows)
names_are rows = record {
  rising = ordered_rises (flat_map names_in rows);
  only = λ a there. (let p = flat_part names_in rows a (from_ordered (flat_map names_in rows) a there) in (p.0, p.1, names_row p.0 a p.2));
  each = λ a is. into_ordered (flat_map names_in rows) a (flat_there names_in rows is.0 a is.1 (row_names is.0 a is.2));
}

names_once : (rows : List NamedRow) (ones others : List (List ℕ)) → AreIndividuals rows ones → AreIndividuals rows others → ones ≡ others
names_once rows ones others a b =
    same_rising name_cmp name_total name_same ones others a.rising b.rising (λ x there. b.each x (a.only x there)) (λ x there. a.each x (b.only x there))

pub above : (n m : ℕ) → (n < m) ⊎ (m ≤ n)
above zero zero = inr (omega arith)
above zero (suc m) = inl (omega arith)
above (suc n) zero = inr (omega arith)
above (suc n) (suc m) = elim (above n m) [ inl l ↦ inl (omega (arith, l)) | inr g ↦ inr (omega (arith, g)) ]

either_fails : (h : History) → length (rows_of h) ≤ 1000000 → length (names_of (rows_of h)) ≤ 65536 → (n m : ℕ) → n ≡ length (rows_of h) → m ≡ length (names_of (rows_of h)) → (1000000 < n) ⊎ (65536 < m) → ⊥
either_fails h few less n m long wide (inl many) = omega (arith, few, long, many)
either_fails h few less n m long wide (inr many) = omega (arith, less, wide, many)

pub fits : (h : History) → length (rows_of h) ≤ 1000000 → length (names_of (rows_of h)) ≤ 65536 → IsCrowded h → ⊥
fits h few less c =
    let same : c.rows ≡ rows_of h = rows_once h c.rows (rows_of h) c.are (rows_are h) in
    let names : c.individuals ≡ names_of (rows_of h) = names_once (rows_of h) c.individuals (names_of (rows_of h)) (subst (λ (rows : List NamedRow). AreIndividuals rows c.individuals) same c.names) (names_are (rows_of h)) in
    either_fails h few less (length c.rows) (length c.individuals) (ap (λ (rows : List NamedRow). length rows) same) (ap (λ (xs : List (List ℕ)). length xs) names) c.many

pub decide_crowded : (h : History) → Decided (IsCrowded h)
decide_crowded h = by (above 1000000 (length (rows_of h))) (above 65536 (length (names_of (rows_of h))))
  where
    crowd : ((1000000 < length (rows_of h)) ⊎ (65536 < length (names_of (rows_of h)))) → IsCrowded h
    crowd many = record { rows = rows_of h; are = rows_are h; individuals = names_of (rows_of h); names = names_are (rows_of h); many = many }

    by : (1000000 < length (rows_of h)) ⊎ (length (rows_of h) ≤ 1000000) → (65536 < length (names_of (rows_of h))) ⊎ (length (names_of (rows_of h)) ≤ 65536) → Decided (IsCrowded h)
    by (inl many) other = inl (crowd (inl many))
    by (inr few) (inl many) = inl (crowd (inr many))
    by (inr few) (inr less) = inr (fits h few less)

-- ---- what a commit counts

-- the rows of the one that aren't in the other
abbrev pub missing : List NamedRow → List NamedRow → List NamedRow
missing these [] = these
missing these (r ∷ those) = without r (missing these those)

missing_rises : (these those : List NamedRow) → AreRows these → AreRows (missing these those)
missing_rises these [] rises = rises
missing_rises these (r ∷ those) rises = rises_without r (missing these those) (missing_rises these those rises)

from_missing : (these those : List NamedRow) (z : NamedRow) → Contains (missing these those) z → Contains these z
from_missing these [] z c = c
from_missing these (r ∷ those) z c = from_missing these those z (from_without r (missing these those) z c)

not_missing : (these those : List NamedRow) (z : NamedRow) → AreRows these → Contains (missing these those) z → Contains those z → ⊥
not_missing these [] z rises c d = omega (arith, d.1)
not_missing these (r ∷ those) z rises c d = elim (contains_cases r those z d) [
  | inl e ↦ not_without r (missing these those) (missing_rises these those rises) (subst (λ (y : NamedRow). Contains (without r (missing these those)) y) e c)
  | inr f ↦ not_missing these those z rises (from_without r (missing these those) z c) f
]

into_missing : (these those : List NamedRow) (z : NamedRow) → Contains these z → (Contains those z → ⊥) → Contains (missing these those) z
into_missing these [] z c none = c
into_missing these (r ∷ those) z c none =
    into_without r (missing these those) z (λ e. none (subst (λ (y : NamedRow). Contains (r ∷ those) y) (sym e) (contains_first r those)))
    (into_missing these those z c (λ d. none (contains_later r those z d)))

pub missing_are : (these those : List NamedRow) → AreRows these → AreMissing these those (missing these those)
missing_are these those rises = record {
  rising = missing_rises these those rises;
  each = λ z. (λ c. (from_missing these those z c, not_missing these those z rises c), λ both. into_missing these those z both.0 both.1);
}

pub rows_rise : (h : History) → AreRows (rows_of h)
rows_rise h = (after_transactions (transactions h) [] (none_rising row_cmp)).1

pub counts_are : (old new : History) → Counts old new (length (missing (rows_of new) (rows_of old))) (length (missing (rows_of old) (rows_of new)))
counts_are old new = record {
  old = rows_of old;
  old_are = rows_are old;
  new = rows_of new;
  new_are = rows_are new;
  come = missing (rows_of new) (rows_of old);
  come_are = missing_are (rows_of new) (rows_of old) (rows_rise new);
  added_is = refl;
  gone = missing (rows_of old) (rows_of new);
  gone_are = missing_are (rows_of old) (rows_of new) (rows_rise old);
  removed_is = refl;
}
