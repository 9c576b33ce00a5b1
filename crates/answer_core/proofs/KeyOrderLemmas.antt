-- Keys by rank spell the keys by name, in the same order.
use Rattle.std.proofs.Common.{◌≡◌, ◌≢◌, ◌↔◌, ◌<◌, ◌≤◌, ℕ, List, [], ◌∷◌, map, All, AllPairs, Contains, Some, slice_get, slice_index, get_or, length, Result, Ok, Err, IfOk, Bool, true, false, option_map, refl, sym, ◌∙◌, ap, subst, arith}
use Rattle.std.specs.Cmp.{IsTotalOrder}
use Rattle.std.specs.Cmp.Lexicographic.{slice_cmp}
use Rattle.std.specs.List.{AllByRecursion, AllZip, range_with_len}
use Rattle.std.proofs.lemmas.List.FromFn.{length-range_with_len}
use Rattle.dl_base.proofs.InOrder.{rising_distinct}
use Rattle.join_plan.proofs.LawLemmas.{numbered}
use Rattle.std.specs.List.Sorted.{IsSorted, IsStrictlySortedBy}
use Rattle.std.specs.Ordering.{is_lt, nat_cmp, ordering_reverse, ordering_then}
use Rattle.std.specs.declared.cmp.Ordering.{Ordering}
use Rattle.std.specs.declared.cmp.Ordering.TheVariants.{Less, Equal, Greater}
use Rattle.std.proofs.lemmas.Cmp.{by_ranked, nat_cmp_total, nat_list_cmp_total, on_total, ranked, then_total, tied_itself}
use Rattle.std.proofs.lemmas.List.Elements.{All-cons, All-contains, All-nil, Contains-get_or, recursion_from_All}
use Rattle.std.proofs.lemmas.List.Sorted.{ranks_by, sorted_far}
use Rattle.std.proofs.lemmas.Option.{get_or_from_slice_get, slice_get-map, slice_get_within}
use Rattle.dl_base.specs.Answers.{key_cmp}
use Rattle.dl_base.specs.Rows.{name_cmp}
use Rattle.dl_base.proofs.PlaceLemmas.{map_contains, map_from, member_at, no_more, one_place, some_same, zip_left, zip_right}
use Rattle.dl_base.proofs.RisingLemmas.{contains_first, contains_later, nat_same}
use Rattle.dl_base.proofs.RowLemmas.{name_same}
use Rattle.answer_core.specs.Found.{AreSpelled, SpellsKey}
use Rattle.answer_core.specs.Ranks.{AreInOrder, HasNumber, HasRank, IsInRow, HasItsName, names_by_rank, ranks_of}
use Rattle.answer_core.specs.declared.ranks.Ranked.{Ranked}
use Rattle.answer_core.proofs.SpellLemmas.{spells_same}

-- individuals by name, and then by number
abbrev pub ranked_cmp : Ranked → Ranked → Ordering
ranked_cmp x y = ordering_then (name_cmp x.name.now y.name.now) (nat_cmp x.number y.number)

ranked_total : IsTotalOrder ranked_cmp
ranked_total = then_total (on_total (λ (e : Ranked). e.name.now) nat_list_cmp_total) (on_total (λ (e : Ranked). e.number) nat_cmp_total)

-- so a sort leaves them in the order of their names
pub sorted_order : (order : List Ranked) → IsSorted ranked_cmp order → (i j : ℕ) (x y : Ranked) → i < j → slice_get order i ≡ Some x → slice_get order j ≡ Some y → name_cmp y.name.now x.name.now ≡ Less → ⊥
sorted_order order sorted i j x y below at_i at_j less =
    let far : is_lt (ranked_cmp y x) ≡ false = rw (get_or_from_slice_get order j y x at_j, get_or_from_slice_get order i x x at_i) at
    (sorted_far (λ a b. is_lt (ranked_cmp a b)) (ranks_by ranked_total (λ (e : Ranked). e)) order sorted i j x (omega arith) (slice_get_within order j y at_j)) in
    let near : is_lt (ranked_cmp y x) ≡ true = ap (λ (o : Ordering). is_lt (ordering_then o (nat_cmp y.number x.number))) less in
    let no : false ≡ true = sym far ∙ near in absurd (cc)

module _ (names : List (List ℕ)) (order : List Ranked) (ranks : List ℕ) (distinct : AllPairs (λ x y. x ≢ y) names) (in_order : AreInOrder names order) where
  named_at : (k : ℕ) (e : Ranked) → slice_get order k ≡ Some e → slice_get names e.number ≡ Some e.name.now
  named_at k e at = All-contains (HasItsName names) order e in_order.named (member_at order k e at)

  -- a rank leads to the name of its number
  by_rank : (n : ℕ) → HasRank order ranks n → slice_get (names_by_rank order) (slice_index ranks n) ≡ slice_get names n
  by_rank n (e, at, is) =
      let here : slice_get (names_by_rank order) (slice_index ranks n) ≡ Some e.name.now = slice_get-map (λ (x : Ranked). x.name.now) order (slice_index ranks n) ∙ ap (option_map (λ (x : Ranked). x.name.now)) at in
      let there : slice_get names n ≡ Some e.name.now = subst (λ (m : ℕ). slice_get names m ≡ Some e.name.now) is (named_at (slice_index ranks n) e at) in
      here ∙ sym there

  spells_by_rank : (numbers : List ℕ) (key : List (List ℕ)) → AllByRecursion (HasRank order ranks) numbers → SpellsKey (names_by_rank order) (ranks_of ranks numbers) key ↔ SpellsKey names numbers key
  spells_by_rank [] [] all = (λ s. s, λ s. s)
  spells_by_rank [] (a ∷ key) all = (λ s. s, λ s. s)
  spells_by_rank (n ∷ ns) [] all = (λ s. s, λ s. s)
  spells_by_rank (n ∷ ns) (a ∷ key) all =
      let rest = spells_by_rank ns key all.1 in
      let here = by_rank n all.0 in
      (λ s. (sym here ∙ s.0, rest.0 s.1), λ s. (here ∙ s.0, rest.1 s.1))

  -- a lower rank is that of a lower name
  lower : (x y : Ranked) (i j : ℕ) (a b : List ℕ) → slice_get order i ≡ Some x → slice_get order j ≡ Some y → i < j → slice_get names x.number ≡ Some a → slice_get names y.number ≡ Some b
      → (x.number ≡ y.number → i ≡ j) → name_cmp a b ≡ Less
  lower x y i j a b at_i at_j below is_a is_b once = by (name_cmp a b) refl
    where
      x_named : x.name.now ≡ a
      x_named = some_same (sym (named_at i x at_i) ∙ is_a)

      y_named : y.name.now ≡ b
      y_named = some_same (sym (named_at j y at_j) ∙ is_b)

      by : (o : Ordering) → name_cmp a b ≡ o → name_cmp a b ≡ Less
      by Less e = e
      by Equal e =
          let same : a ≡ b = name_same a b e in
          let one : x.number ≡ y.number = one_place names x.number y.number b distinct (is_a ∙ ap Some same) is_b in
          absurd (let no : i ≡ j = once one in omega arith)
      by Greater e =
          let turned : name_cmp b a ≡ Less = nat_list_cmp_total.antisymm b a ∙ ap ordering_reverse e in
          let less : name_cmp y.name.now x.name.now ≡ Less = rw (x_named, y_named) turned in
          absurd (in_order.in_order i j x y below at_i at_j less)

  -- ranks are ordered as names are
  cmp_by_rank : (n m : ℕ) (a b : List ℕ) → HasRank order ranks n → HasRank order ranks m → slice_get names n ≡ Some a → slice_get names m ≡ Some b
      → nat_cmp (slice_index ranks n) (slice_index ranks m) ≡ name_cmp a b
  cmp_by_rank n m a b (x, at_n, is_n) (y, at_m, is_m) is_a is_b =
      by_ranked (i < j) (i ≡ j) (j < i) (nat_cmp i j) (ranked i j (nat_cmp i j) refl)
      (λ o below. o ∙ sym (lower x y i j a b at_n at_m below x_is y_is (λ e. ap (slice_index ranks) (sym is_n ∙ e ∙ is_m))))
      (λ o same. o ∙ sym (equal same))
      (λ o above. o ∙ sym (greater (lower y x j i b a at_m at_n above y_is x_is (λ e. ap (slice_index ranks) (sym is_m ∙ e ∙ is_n)))))
    where
      i : ℕ
      i = slice_index ranks n

      j : ℕ
      j = slice_index ranks m

      x_is : slice_get names x.number ≡ Some a
      x_is = subst (λ (k : ℕ). slice_get names k ≡ Some a) (sym is_n) is_a

      y_is : slice_get names y.number ≡ Some b
      y_is = subst (λ (k : ℕ). slice_get names k ≡ Some b) (sym is_m) is_b

      equal : i ≡ j → name_cmp a b ≡ Equal
      equal same =
          let one : x ≡ y = some_same (sym at_n ∙ (ap (slice_get order) same ∙ at_m)) in
          let here : a ≡ b = some_same (sym x_is ∙ (ap (λ (e : Ranked). slice_get names e.number) one ∙ y_is)) in
          subst (λ (c : List ℕ). name_cmp a c ≡ Equal) here (tied_itself nat_list_cmp_total a)

      greater : name_cmp b a ≡ Less → name_cmp a b ≡ Greater
      greater less = nat_list_cmp_total.antisymm a b ∙ ap ordering_reverse less

  -- so are keys
  keys_by_rank : (ns ms : List ℕ) (k l : List (List ℕ)) → AllByRecursion (HasRank order ranks) ns → AllByRecursion (HasRank order ranks) ms → SpellsKey names ns k → SpellsKey names ms l
      → slice_cmp nat_cmp (ranks_of ranks ns) (ranks_of ranks ms) ≡ key_cmp k l
  keys_by_rank [] [] [] [] p q s t = refl
  keys_by_rank [] [] [] (b ∷ l) p q s t = absurd t
  keys_by_rank [] [] (a ∷ k) l p q s t = absurd s
  keys_by_rank [] (m ∷ ms) [] [] p q s t = absurd t
  keys_by_rank [] (m ∷ ms) [] (b ∷ l) p q s t = refl
  keys_by_rank [] (m ∷ ms) (a ∷ k) l p q s t = absurd s
  keys_by_rank (n ∷ ns) [] [] l p q s t = absurd s
  keys_by_rank (n ∷ ns) [] (a ∷ k) [] p q s t = refl
  keys_by_rank (n ∷ ns) [] (a ∷ k) (b ∷ l) p q s t = absurd t
  keys_by_rank (n ∷ ns) (m ∷ ms) [] l p q s t = absurd s
  keys_by_rank (n ∷ ns) (m ∷ ms) (a ∷ k) [] p q s t = absurd t
  keys_by_rank (n ∷ ns) (m ∷ ms) (a ∷ k) (b ∷ l) p q s t =
      let head = cmp_by_rank n m a b p.0 q.0 s.0 t.0 in
      let tail = keys_by_rank ns ms k l p.1 q.1 s.1 t.1 in
      λ i. ordering_then (head i) (tail i)

  -- the row has the ranks of a key that the row spells by name
  abbrev pub IsRowOf : List (List ℕ) → List ℕ → Type 0
  IsRowOf found row = (numbers : List ℕ) × Contains found numbers × (row ≡ ranks_of ranks numbers) × AllByRecursion (HasRank order ranks) numbers

  module _ (found : List (List ℕ)) (ranked_all : All (All (HasRank order ranks)) found) (rows : List (List ℕ))
      (same : (row : List ℕ) → Contains rows row ↔ Contains (map (ranks_of ranks) found) row) where
    ranks_there : (numbers : List ℕ) → Contains found numbers → AllByRecursion (HasRank order ranks) numbers
    ranks_there numbers c = recursion_from_All (HasRank order ranks) numbers (All-contains (All (HasRank order ranks)) found numbers ranked_all c)

    row_of : (row : List ℕ) → Contains rows row → IsRowOf found row
    row_of row c = let from = map_from (ranks_of ranks) found row ((same row).0 c) in (from.0, from.1, from.2, ranks_there from.0 from.1)

    spelled_row : (row : List ℕ) (key : List (List ℕ)) → (r : IsRowOf found row) → SpellsKey (names_by_rank order) row key → SpellsKey names r.0 key
    spelled_row row key r s = (spells_by_rank r.0 key r.3).0 (subst (λ (x : List ℕ). SpellsKey (names_by_rank order) x key) r.2 s)

    rises : (row other : List ℕ) (key next : List (List ℕ)) → IsRowOf found row → IsRowOf found other → SpellsKey (names_by_rank order) row key → SpellsKey (names_by_rank order) other next
        → slice_cmp nat_cmp row other ≡ Less → key_cmp key next ≡ Less
    rises row other key next r o s t less =
        sym (keys_by_rank r.0 o.0 key next r.3 o.3 (spelled_row row key r s) (spelled_row other next o t)) ∙ rw (r.2, o.2) at less

    above : (row : List ℕ) (key : List (List ℕ)) → IsRowOf found row → SpellsKey (names_by_rank order) row key → (rest : List (List ℕ)) (keys : List (List (List ℕ))) → AllByRecursion (IsRowOf found) rest
        → AllZip (SpellsKey (names_by_rank order)) rest keys → AllByRecursion (λ x. slice_cmp nat_cmp row x ≡ Less) rest → AllByRecursion (λ k. key_cmp key k ≡ Less) keys
    above row key r s [] [] all zip less = tt
    above row key r s [] (k ∷ keys) all zip less = absurd zip
    above row key r s (x ∷ rest) [] all zip less = absurd zip
    above row key r s (x ∷ rest) (k ∷ keys) all zip less = (rises row x key k r all.0 s zip.0 less.0, above row key r s rest keys all.1 zip.1 less.1)

    all_rise : (part : List (List ℕ)) (keys : List (List (List ℕ))) → AllByRecursion (IsRowOf found) part → AllZip (SpellsKey (names_by_rank order)) part keys
        → IsStrictlySortedBy (slice_cmp nat_cmp) part → IsStrictlySortedBy key_cmp keys
    unfolding IsStrictlySortedBy
    all_rise [] [] all zip rising = tt
    all_rise [] (k ∷ keys) all zip rising = absurd zip
    all_rise (x ∷ part) [] all zip rising = absurd zip
    all_rise (x ∷ part) (k ∷ keys) all zip rising = (above x k all.0 zip.0 part keys all.1 zip.1 rising.0, all_rise part keys all.1 zip.1 rising.1)

    all_rows : (part : List (List ℕ)) → ((row : List ℕ) → Contains part row → Contains rows row) → AllByRecursion (IsRowOf found) part
    all_rows [] into = tt
    all_rows (x ∷ part) into = (row_of x (into x (contains_first x part)), all_rows part (λ row c. into row (contains_later x part row c)))

    ranks_within : (numbers : List ℕ) → AllByRecursion (HasRank order ranks) numbers → All (λ r. r < length order) (ranks_of ranks numbers)
    ranks_within [] all = All-nil (λ r. r < length order)
    ranks_within (n ∷ ns) all = All-cons (λ r. r < length order) (slice_index ranks n) (ranks_of ranks ns) (slice_get_within order (slice_index ranks n) all.0.0 all.0.1) (ranks_within ns all.1)

    -- each rank is a place in the order
    pub rows_within : All (All (λ r. r < length order)) rows
    rows_within k d below =
        let r = row_of (get_or rows k d) (Contains-get_or rows k d below) in
        subst (All (λ r. r < length order)) (sym r.2) (ranks_within r.0 r.3)

    pub are_spelled : (keys : List (List (List ℕ))) → IsStrictlySortedBy (slice_cmp nat_cmp) rows → AllZip (SpellsKey (names_by_rank order)) rows keys → AreSpelled names found keys
    are_spelled keys rising zip = record {
      rising = all_rise rows keys (all_rows rows (λ row c. c)) zip rising;
      members = λ key. (only key, each key);
    }
      where
        only : (key : List (List ℕ)) → Contains keys key → (numbers : List ℕ) × Contains found numbers × SpellsKey names numbers key
        only key c =
            let row = zip_right (SpellsKey (names_by_rank order)) rows keys zip key c in
            let r = row_of row.0 row.1 in
            (r.0, r.1, spelled_row row.0 key r row.2)

        each : (key : List (List ℕ)) → (numbers : List ℕ) × Contains found numbers × SpellsKey names numbers key → Contains keys key
        each key (numbers, there, s) =
            let made = zip_left (SpellsKey (names_by_rank order)) rows keys zip (ranks_of ranks numbers) ((same (ranks_of ranks numbers)).1 (map_contains (ranks_of ranks) found numbers there)) in
            let t = (spells_by_rank numbers made.0 (ranks_there numbers there)).0 made.2 in
            subst (Contains keys) (sym (spells_same names numbers made.0 key t s)) made.1

    pub spelled_result : {E : Type 0} (result : Result (List (List (List ℕ))) E) → IsStrictlySortedBy (slice_cmp nat_cmp) rows → IfOk result (AllZip (SpellsKey (names_by_rank order)) rows)
        → IfOk result (AreSpelled names found)
    spelled_result (Ok keys) rising zip = are_spelled keys rising zip
    spelled_result (Err e) rising zip = tt

-- the numbers of keys have ranks
pub all_ranked : (numbers : List ℕ) (order : List Ranked) (ranks : List ℕ) (found : List (List ℕ)) → ((n : ℕ) → Contains numbers n ↔ IsInRow found n) → ((n : ℕ) → Contains numbers n → HasNumber order n)
    → ((n : ℕ) → HasNumber order n → HasRank order ranks n) → All (All (HasRank order ranks)) found
all_ranked numbers order ranks found each numbered ranked k d below i e within =
    let row = get_or found k d in
    let n = get_or row i e in
    ranked n (numbered n ((each n).1 (row, Contains-get_or found k d below, Contains-get_or row i e within)))

-- they are numbers of individuals, and there are no more of them than of these
pub numbers_within : (count : ℕ) (numbers : List ℕ) (found : List (List ℕ)) → ((n : ℕ) → Contains numbers n ↔ IsInRow found n) → All (All (λ n. n < count)) found → All (λ n. n < count) numbers
numbers_within count numbers found each all k d below =
    let n = get_or numbers k d in
    let row = (each n).0 (Contains-get_or numbers k d below) in
    All-contains (λ (m : ℕ). m < count) row.0 n (All-contains (All (λ (m : ℕ). m < count)) found row.0 all row.1) row.2

pub numbers_few : (count : ℕ) (numbers : List ℕ) → IsStrictlySortedBy nat_cmp numbers → All (λ n. n < count) numbers → length numbers ≤ count
numbers_few count numbers rising within =
    let most = no_more numbers (range_with_len 0 count) (rising_distinct nat_cmp nat_cmp_total nat_same numbers rising)
    (λ n c. numbered count n (All-contains (λ (m : ℕ). m < count) numbers n within c)) in
    omega (arith, most, length-range_with_len 0 count)
