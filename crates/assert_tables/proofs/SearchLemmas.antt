-- Searches among mentions.
use Rattle.std.proofs.Common.{◌≡◌, ◌≢◌, ℕ, ◌<◌, ◌≤◌, ◌⊎◌, inl, inr, true, false, List, [], ◌∷◌, Option, Some, None, refl, sym, ◌∙◌, ap, subst, arith}
use Rattle.std.specs.Prelude.{IsTrue, IsSomeAnd, slice_get}
use Rattle.std.specs.BTreeMap.Range.{IsFromStart}
use Rattle.std.specs.BTreeSet.{BTreeSet, contains, IsKeyRangeOf}
use Rattle.std.specs.declared.cmp.Ordering.{Ordering}
use Rattle.std.specs.declared.cmp.Ordering.TheVariants.{Less, Equal, Greater}
use Rattle.std.specs.declared.ops.Bound.{Bound}
use Rattle.std.specs.declared.ops.Bound.TheVariants.{Included, Excluded, Unbounded}
use Rattle.std.specs.Ordering.{is_gt, is_lt, nat_cmp, ordering_then}
use Rattle.std.proofs.lemmas.Cmp.{nat_cmp_total, tied_itself}
use Rattle.std.proofs.lemmas.Bool.{cases_lt}
use Rattle.std.proofs.lemmas.Bool.Decides.{nat_tests}
use Rattle.dl_base.specs.declared.row.Row.{Row}
use Rattle.dl_base.specs.declared.row.Row.TheVariants as row
use Rattle.assert_tables.specs.Rows.{IsRowBehind, IsNamedIn, IsNextIndividual, IsNextOf}
use Rattle.dl_base.specs.Rows.{numbered_row_cmp}
use Rattle.assert_tables.specs.Mentions.{AreMentions, IsFrom, IsLeastFrom, IsLow, mention_cmp, rows_of, start_at}
use Rattle.assert_tables.specs.contracts.row_set.MentionOrd.TheImpl.{cmp-value as mention_order}
use Rattle.assert_tables.specs.declared.row_set.Mention.{Mention}
use Rattle.assert_tables.proofs.MentionLemmas.{beside, in_set, mention, mention_counts}
use Rattle.assert_tables.proofs.RowOrder.{by_row}

greater_not : (r : Ordering) → is_gt r ≡ false → r ≢ Greater
greater_not Less e f = absurd cc
greater_not Equal e f = absurd cc
greater_not Greater e f = absurd cc

not_greater : (r : Ordering) → r ≢ Greater → is_gt r ≡ false
not_greater Less other = refl
not_greater Equal other = refl
not_greater Greater other = absurd (other refl)

into_start : (start : Bound Mention) (m : Mention) → IsFrom start m → IsFromStart mention_order.it start m
into_start (Included n) m h = not_greater (mention_order.it n m) (λ e. h (sym (by_row n m) ∙ e))
into_start (Excluded n) m h = by_row n m ∙ h
into_start Unbounded m h = tt

from_start : (start : Bound Mention) (m : Mention) → IsFromStart mention_order.it start m → IsFrom start m
from_start (Included n) m h = λ e. greater_not (mention_order.it n m) h (by_row n m ∙ e)
from_start (Excluded n) m h = sym (by_row n m) ∙ h
from_start Unbounded m h = tt

-- the first of a range that has no end is the least from its start on
pub least_first : (s : BTreeSet Mention) (start : Bound Mention) (r : List Mention) → IsKeyRangeOf mention_order.it start Unbounded s r
    → IsLeastFrom s.keys start (slice_get r 0)
least_first s start [] range = λ n c from.
    let absent : contains mention_order.it s n ≡ false = range.5 refl n (into_start start n from, tt) in
    absurd (let f : false ≡ true = sym absent ∙ (in_set s n).1 c in cc)
least_first s start (m ∷ rest) range = (
  (in_set s m).0 range.1.1,
  from_start start m range.1.0.0,
  λ n c from. greater_order n (range.2 n (into_start start n from, tt) ((in_set s n).1 c)),
)
  where
    greater_order : (n : Mention) → is_gt (mention_order.it m n) ≡ false → mention_cmp m n ≢ Greater
    greater_order n e f = greater_not (mention_order.it m n) e (by_row m n ∙ f)

-- ---- the next row of an individual

-- of one individual mentions are in the order of rows
pub by_rows : (a : ℕ) (r q : Row) → mention_cmp (mention a r) (mention a q) ≡ numbered_row_cmp r q
by_rows a r q = ap (λ (o : Ordering). ordering_then o (numbered_row_cmp r q)) (tied_itself nat_cmp_total a)

then_not_greater : (r s : Ordering) → ordering_then r s ≢ Greater → r ≢ Greater
then_not_greater Less s other e = absurd cc
then_not_greater Equal s other e = absurd cc
then_not_greater Greater s other e = other refl

pub then_not_less : (r s : Ordering) → ordering_then r s ≡ Less → r ≢ Greater
then_not_less r s less e = absurd (let f : ordering_then Greater s ≡ Less = subst (λ (o : Ordering). ordering_then o s ≡ Less) e less in cc)

nat_above : (x y : ℕ) → y < x → nat_cmp x y ≡ Greater
nat_above x y lt = grind (arith, nat_tests)

pub at_most : (x y : ℕ) → nat_cmp x y ≢ Greater → x ≤ y
at_most x y other = by (cases_lt y x)
  where
    by : (y < x) ⊎ (x ≤ y) → x ≤ y
    by (inl lt) = absurd (other (nat_above x y lt))
    by (inr le) = le

pub least_row : (q : Row) → numbered_row_cmp (row.Concept 0 0) q ≢ Greater
least_row (row.Concept d b) = by (nat_cmp 0 d) refl
  where
    none_below : (n : ℕ) → nat_cmp 0 n ≢ Greater
    none_below n e = absurd (let f : n < 0 = grind (arith, nat_tests) in omega arith)

    by : (r : Ordering) → nat_cmp 0 d ≡ r → ordering_then (nat_cmp 0 d) (nat_cmp 0 b) ≢ Greater
    by Less e f = absurd (let g : Less ≡ Greater = ap (λ (o : Ordering). ordering_then o (nat_cmp 0 b)) (sym e) ∙ f in cc)
    by Equal e f = none_below b (ap (λ (o : Ordering). ordering_then o (nat_cmp 0 b)) (sym e) ∙ f)
    by Greater e f = none_below d e
least_row (row.Role p a b) = λ e. absurd cc

behind_from : (a : ℕ) (after : Option Row) (q : Row) → IsRowBehind after q → IsFrom (start_at a after) (mention a q)
behind_from a None q behind = λ e. least_row q (sym (by_rows a (row.Concept 0 0) q) ∙ e)
behind_from a (Some r) q behind = by_rows a r q ∙ behind

from_behind : (a : ℕ) (after : Option Row) (q : Row) → IsFrom (start_at a after) (mention a q) → IsRowBehind after q
from_behind a None q from = tt
from_behind a (Some r) q from = sym (by_rows a r q) ∙ from

-- a search for an individual's rows begins at no lower individual
pub start_above : (a : ℕ) (after : Option Row) (m : Mention) → IsFrom (start_at a after) m → a ≤ m.individual
start_above a None m from = at_most a m.individual (then_not_greater (nat_cmp a m.individual) (numbered_row_cmp (row.Concept 0 0) m.row) from)
start_above a (Some r) m from = at_most a m.individual (then_not_less (nat_cmp a m.individual) (numbered_row_cmp r m.row) from)

pub none_next : (ms : List Mention) (a : ℕ) (after : Option Row) → AreMentions ms → IsLeastFrom ms (start_at a after) None → IsNextOf (rows_of ms) a after None
none_next ms a after are least = λ q c named behind. least (mention a q) ((beside ms are a q named).0 c) (behind_from a after q behind)

pub some_next : (ms : List Mention) (a : ℕ) (after : Option Row) (m : Mention) → AreMentions ms → IsLeastFrom ms (start_at a after) (Some m) → m.individual ≡ a
    → IsNextOf (rows_of ms) a after (Some m.row)
some_next ms a after m are least here =
    let whole : m ≡ mention a m.row = λ j. record { individual = here j; row = m.row } in (
      mention_counts ms m least.0,
      subst (λ (n : ℕ). IsNamedIn n m.row) here (are.named m least.0),
      from_behind a after m.row (subst (IsFrom (start_at a after)) whole least.1),
      λ q c named behind e.
          let not_greater : mention_cmp m (mention a q) ≢ Greater = least.2 (mention a q) ((beside ms are a q named).0 c) (behind_from a after q behind) in
          let same : mention_cmp m (mention a q) ≡ numbered_row_cmp m.row q = ap (λ (n : Mention). mention_cmp n (mention a q)) whole ∙ by_rows a m.row q in
          not_greater (same ∙ e),
    )

pub other_next : (ms : List Mention) (a : ℕ) (after : Option Row) (m : Mention) → AreMentions ms → IsLeastFrom ms (start_at a after) (Some m) → m.individual ≢ a
    → IsNextOf (rows_of ms) a after None
other_next ms a after m are least other = λ q c named behind.
    let below : m.individual ≤ a = at_most m.individual a (then_not_greater (nat_cmp m.individual a) (numbered_row_cmp m.row q)
    (least.2 (mention a q) ((beside ms are a q named).0 c) (behind_from a after q behind))) in
    let above : a ≤ m.individual = start_above a after m least.1 in
    other (omega arith)

-- ---- the next individual

-- a mention of an individual that isn't below stands behind the start
from_there : (a : ℕ) (m : Mention) → a ≤ m.individual → IsFrom (start_at a None) m
from_there a m le = by (nat_cmp a m.individual) refl
  where
    by : (r : Ordering) → nat_cmp a m.individual ≡ r → ordering_then (nat_cmp a m.individual) (numbered_row_cmp (row.Concept 0 0) m.row) ≢ Greater
    by Less e f = absurd (let g : Less ≡ Greater = ap (λ (o : Ordering). ordering_then o (numbered_row_cmp (row.Concept 0 0) m.row)) (sym e) ∙ f in cc)
    by Equal e f = least_row m.row (ap (λ (o : Ordering). ordering_then o (numbered_row_cmp (row.Concept 0 0) m.row)) (sym e) ∙ f)
    by Greater e f = absurd (let g : m.individual < a = grind (arith, nat_tests) in omega arith)

pub none_individual : (ms : List Mention) (after : Option ℕ) (least : ℕ) → AreMentions ms → IsLow after least → IsLeastFrom ms (start_at least None) None
    → IsNextIndividual (rows_of ms) after None
none_individual ms after least are low none = λ r a c named above.
    none (mention a r) ((beside ms are a r named).0 c) (from_there least (mention a r) (low.reached a above))

pub some_individual : (ms : List Mention) (after : Option ℕ) (least : ℕ) (m : Mention) → AreMentions ms → IsLow after least → IsLeastFrom ms (start_at least None) (Some m)
    → IsNextIndividual (rows_of ms) after (Some m.individual)
some_individual ms after least m are low found = (
  low.wanted m.individual (start_above least None m found.1),
  (m.row, mention_counts ms m found.0, are.named m found.0),
  λ r a c named above lt.
      let le : m.individual ≤ a = at_most m.individual a (then_not_greater (nat_cmp m.individual a) (numbered_row_cmp m.row r)
      (found.2 (mention a r) ((beside ms are a r named).0 c) (from_there least (mention a r) (low.reached a above)))) in
      omega arith,
)

-- no individual is above the one of the last mention
pub none_above : (s : BTreeSet Mention) (after : Option ℕ) (m : Mention) → AreMentions s.keys → ((n : Mention) → IsTrue (contains mention_order.it s n) → is_lt (mention_order.it m n) ≡ false)
    → IsSomeAnd after (λ a. m.individual ≤ a) → IsNextIndividual (rows_of s.keys) after None
none_above s None m are greatest le = absurd le
none_above s (Some after) m are greatest le = λ r a c named above.
    let there : IsTrue (contains mention_order.it s (mention a r)) = (in_set s (mention a r)).1 ((beside s.keys are a r named).0 c) in
    let not_less : is_lt (mention_order.it m (mention a r)) ≡ false = greatest (mention a r) there in
    let less : mention_cmp m (mention a r) ≡ Less = let f : nat_cmp m.individual a ≡ Less = below m.individual a (omega arith) in ap (λ (o : Ordering). ordering_then o (numbered_row_cmp m.row r)) f in
    absurd (let f : true ≡ false = ap is_lt (sym (by_row m (mention a r) ∙ less)) ∙ not_less in cc)
  where
    below : (x y : ℕ) → x < y → nat_cmp x y ≡ Less
    below x y lt = grind (arith, nat_tests)
