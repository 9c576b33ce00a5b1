-- The rows that name an individual, as the front of mentions in order.
use Rattle.std.proofs.Common.{◌≡◌, ◌≢◌, ℕ, ◌≤◌, inl, inr, Bool, true, false, List, [], ◌∷◌, ◌++◌, ◌==◌, Contains, filter, None, refl, sym, ◌∙◌, ap, subst, arith}
use Rattle.std.specs.Prelude.{if◌then◌else◌, ◌&&◌}
use Rattle.std.specs.BTreeMap.Range.{range_contains}
use Rattle.std.specs.declared.cmp.Ordering.{Ordering}
use Rattle.std.specs.declared.cmp.Ordering.TheVariants.{Less, Equal, Greater}
use Rattle.std.specs.declared.ops.Bound.TheVariants.{Unbounded}
use Rattle.std.specs.Iterator.{Yields, YieldsFirst}
use Rattle.std.specs.List.{AllByRecursion}
use Rattle.std.specs.List.Sorted.{IsStrictlySortedBy}
use Rattle.std.specs.Ordering.{is_le, nat_cmp}
use Rattle.std.proofs.lemmas.Bool.Decides.{nat_tests}
use Rattle.std.proofs.lemmas.List.{append-nil}
use Rattle.std.proofs.lemmas.List.Elements.{Contains-append_right}
use Rattle.std.proofs.lemmas.List.Kept.{IsStrictlySortedBy-filter}
use Rattle.dl_base.specs.Rows.{numbered_row_cmp}
use Rattle.dl_base.specs.declared.row.Row.{Row}
use Rattle.dl_base.specs.declared.row.Row.TheVariants as row
use Rattle.dl_base.proofs.PlaceLemmas.{kept_in, kept_is}
use Rattle.dl_base.proofs.RisingLemmas.{all_contains, contains_cases, contains_first, contains_later}
use Rattle.assert_tables.specs.Mentions.{AreMentions, mention_cmp, rows_of, start_at}
use Rattle.assert_tables.specs.Naming.{AreRowsNaming, front_of}
use Rattle.assert_tables.specs.contracts.row_set.MentionOrd.TheImpl.{cmp-value as mention_order}
use Rattle.assert_tables.specs.declared.row_set.Mention.{Mention}
use Rattle.assert_tables.proofs.MentionLemmas.{beside, mention, mention_counts}
use Rattle.assert_tables.proofs.RowOrder.{by_row}
use Rattle.assert_tables.proofs.SearchLemmas.{at_most, by_rows, least_row, start_above, then_not_less}

-- ---- the front of mentions

front_within : (a : ℕ) (ms : List Mention) (r : Row) → Contains (front_of a ms) r → Contains ms (mention a r)
front_within a [] r = λ c. absurd (omega (arith, c.1))
front_within a (m ∷ ms) r = by (front_within a ms r) (m.individual == a) refl
  where
    by : (Contains (front_of a ms) r → Contains ms (mention a r)) → (b : Bool) → (m.individual == a) ≡ b → Contains (if b then m.row ∷ front_of a ms else []) r → Contains (m ∷ ms) (mention a r)
    by rest true is c = elim (contains_cases m.row (front_of a ms) r c) [
      | inl e ↦ let same : m.individual ≡ a = grind (arith, nat_tests) in
          subst (Contains (m ∷ ms)) (λ j. record { individual = same j; row = sym e j }) (contains_first m ms)
      | inr d ↦ contains_later m ms (mention a r) (rest d)
    ]
    by rest false is c = absurd (omega (arith, c.1))

-- of mentions in order that are of no lower individual, those of the individual come first
within_front : (a : ℕ) (ms : List Mention) → IsStrictlySortedBy mention_cmp ms → ((m : Mention) → Contains ms m → a ≤ m.individual) → (r : Row) → Contains ms (mention a r) → Contains (front_of a ms) r
unfolding IsStrictlySortedBy
within_front a [] rises above r c = absurd (omega (arith, c.1))
within_front a (m ∷ ms) rises above r c = by (within_front a ms rises.1 (λ n d. above n (contains_later m ms n d)) r) (m.individual == a) refl
  where
    by : (Contains ms (mention a r) → Contains (front_of a ms) r) → (b : Bool) → (m.individual == a) ≡ b → Contains (if b then m.row ∷ front_of a ms else []) r
    by rest true is = elim (contains_cases m ms (mention a r) c) [
      | inl e ↦ subst (Contains (m.row ∷ front_of a ms)) (sym (ap (λ (w : Mention). w.row) e)) (contains_first m.row (front_of a ms))
      | inr d ↦ contains_later m.row (front_of a ms) r (rest d)
    ]
    by rest false is = elim (contains_cases m ms (mention a r) c) [
      | inl e ↦ let same : a ≡ m.individual = ap (λ (w : Mention). w.individual) e in absurd (let f : true ≡ false = grind (arith, nat_tests) in cc)
      | inr d ↦ (
          let below : m.individual ≤ a = at_most m.individual a (then_not_less (nat_cmp m.individual a) (numbered_row_cmp m.row r)
          (all_contains (λ n. mention_cmp m n ≡ Less) ms (mention a r) rises.0 d)) in
          let over : a ≤ m.individual = above m (contains_first m ms) in
          absurd (let f : true ≡ false = grind (arith, nat_tests) in cc)
          )
    ]

front_behind : (a : ℕ) (m : Mention) (ms : List Mention) → m.individual ≡ a → AllByRecursion (λ n. mention_cmp m n ≡ Less) ms → AllByRecursion (λ r. numbered_row_cmp m.row r ≡ Less) (front_of a ms)
front_behind a m [] same less = tt
front_behind a m (n ∷ ms) same less = by (front_behind a m ms same less.1) (n.individual == a) refl
  where
    by : AllByRecursion (λ r. numbered_row_cmp m.row r ≡ Less) (front_of a ms) → (b : Bool) → (n.individual == a) ≡ b → AllByRecursion (λ r. numbered_row_cmp m.row r ≡ Less) (if b then n.row ∷ front_of a ms else [])
    by rest true is =
        let also : n.individual ≡ a = grind (arith, nat_tests) in
        let whole : m ≡ mention a m.row = λ j. record { individual = same j; row = m.row } in
        let other : n ≡ mention a n.row = λ j. record { individual = also j; row = n.row } in
        let both : mention_cmp m n ≡ numbered_row_cmp m.row n.row = (λ j. mention_cmp (whole j) (other j)) ∙ by_rows a m.row n.row in
        (sym both ∙ less.0, rest)
    by rest false is = tt

front_rises : (a : ℕ) (ms : List Mention) → IsStrictlySortedBy mention_cmp ms → IsStrictlySortedBy numbered_row_cmp (front_of a ms)
unfolding IsStrictlySortedBy
front_rises a [] rises = tt
front_rises a (m ∷ ms) rises = by (front_rises a ms rises.1) (m.individual == a) refl
  where
    by : IsStrictlySortedBy numbered_row_cmp (front_of a ms) → (b : Bool) → (m.individual == a) ≡ b → IsStrictlySortedBy numbered_row_cmp (if b then m.row ∷ front_of a ms else [])
    by rest true is = (front_behind a m ms (grind (arith, nat_tests)) rises.0, rest)
    by rest false is = tt

-- ---- the part of a set that begins at an individual

le_not_greater : (r : Ordering) → is_le r ≡ true → r ≢ Greater
le_not_greater Less e f = absurd cc
le_not_greater Equal e f = absurd cc
le_not_greater Greater e f = absurd cc

not_greater_le : (r : Ordering) → r ≢ Greater → is_le r ≡ true
not_greater_le Less other = refl
not_greater_le Equal other = refl
not_greater_le Greater other = absurd (other refl)

and_true : (b : Bool) → b && true ≡ true → b ≡ true
and_true true e = refl
and_true false e = absurd cc

by_mentions : mention_order.it ≡ mention_cmp
by_mentions = λ j x y. by_row x y j

-- what stands at the start of an individual or behind it
abbrev is_from : ℕ → Mention → Bool
is_from a = range_contains mention_order.it (start_at a None) Unbounded

from_above : (a : ℕ) (m : Mention) → is_from a m ≡ true → a ≤ m.individual
from_above a m e = start_above a None m (λ f. le_not_greater (mention_order.it (mention a (row.Concept 0 0)) m) (and_true _ e) (by_row (mention a (row.Concept 0 0)) m ∙ f))

own_from : (a : ℕ) (r : Row) → is_from a (mention a r) ≡ true
own_from a r =
    let start = mention a (row.Concept 0 0) in
    let le : is_le (mention_order.it start (mention a r)) ≡ true = not_greater_le (mention_order.it start (mention a r))
    (λ e. least_row r (sym (by_rows a (row.Concept 0 0) r) ∙ sym (by_row start (mention a r)) ∙ e)) in
    ap (λ (b : Bool). b && true) le

-- Of the mentions from the start of the individual on, the first ones have its rows.
pub naming_are : (ms : List Mention) (a : ℕ) (part : List Mention) → AreMentions ms → IsStrictlySortedBy mention_order.it ms → part ≡ filter (is_from a) ms
    → AreRowsNaming (rows_of ms) a (front_of a part)
naming_are ms a part are rises is =
    let part_rises : IsStrictlySortedBy mention_cmp part =
    subst (λ (c : Mention → Mention → Ordering). IsStrictlySortedBy c part) by_mentions (subst (IsStrictlySortedBy mention_order.it) (sym is) (IsStrictlySortedBy-filter mention_order.it (is_from a) ms rises)) in
    record {
      rising = front_rises a part part_rises;
      each = λ r. (
        λ c.
            let there : Contains ms (mention a r) = (kept_is (is_from a) ms (mention a r) (subst (λ (xs : List Mention). Contains xs (mention a r)) is (front_within a part r c))).0 in
            (mention_counts ms (mention a r) there, are.named (mention a r) there),
        λ p.
            let there : Contains part (mention a r) = subst (λ (xs : List Mention). Contains xs (mention a r)) (sym is)
            (kept_in (is_from a) ms (mention a r) ((beside ms are a r p.1).0 p.0) (own_from a r)) in
            within_front a part part_rises (λ m d. above m (subst (λ (xs : List Mention). Contains xs m) is d)) r there,
      );
    }
  where
    above : (m : Mention) → Contains (filter (is_from a) ms) m → a ≤ m.individual
    above m c = from_above a m (kept_is (is_from a) ms m c).1

-- ---- the rows one after another

-- what was yielded and what is left are all of them
pub yielded_and_left : (yielded all left : List Row) → Yields (YieldsFirst (λ (rows : List Row). rows)) all yielded left → all ≡ yielded ++ left
yielded_and_left [] all left y = y
yielded_and_left (r ∷ rs) all left y = y.1 ∙ ap (λ (rows : List Row). r ∷ rows) (yielded_and_left rs y.0 left y.2)

-- each that comes is one of them
pub comes_of : (yielded all left next : List Row) (r : Row) → Yields (YieldsFirst (λ (rows : List Row). rows)) all yielded left → left ≡ r ∷ next → Contains all r
comes_of yielded all left next r y is =
    subst (λ (rows : List Row). Contains rows r) (sym (yielded_and_left yielded all left y)) (Contains-append_right yielded left r (subst (λ (rows : List Row). Contains rows r) (sym is) (contains_first r next)))

-- and where none is left all have come
pub all_came : (yielded all left : List Row) → Yields (YieldsFirst (λ (rows : List Row). rows)) all yielded left → left ≡ [] → all ≡ yielded
all_came yielded all left y none = yielded_and_left yielded all left y ∙ ap (λ (rows : List Row). yielded ++ rows) none ∙ append-nil yielded
