-- Rows that are gathered, and put in order together.
use Rattle.std.proofs.Common.{◌≡◌, ◌↔◌, ℕ, suc, ◌+◌, ◌<◌, ◌≤◌, max, ◌⊎◌, inl, inr, Bool, true, false, ◌==◌, IsTrue, List, [], ◌∷◌, ◌++◌, length, get_or, take, map, All, Contains, refl, sym, ◌∙◌, ap, subst, arith}
use Rattle.std.specs.BTreeSet.{BTreeSet, IsFromIterResult}
use Rattle.std.specs.declared.cmp.Ordering.{Ordering}
use Rattle.std.specs.declared.cmp.Ordering.TheVariants.{Less}
use Rattle.std.specs.List.Sorted.{IsStrictlySortedBy}
use Rattle.std.specs.Ordering.{nat_cmp}
use Rattle.std.proofs.lemmas.Bool.Decides.{nat_tests}
use Rattle.std.proofs.lemmas.Cmp.{nat_cmp_total}
use Rattle.std.proofs.lemmas.List.{take_all}
use Rattle.std.proofs.lemmas.List.Elements.{All-contains, All-more, All-weaker, Contains-append_left, Contains-push}
use Rattle.std.proofs.lemmas.Map.Views.{btree_set_contains_from_list}
use Rattle.dl_base.specs.Rows.{numbered_row_cmp}
use Rattle.dl_base.specs.contracts.row.RowOrd.TheImpl.{cmp-value as row_order}
use Rattle.dl_base.specs.declared.row.Row.{Row}
use Rattle.dl_base.proofs.InOrder.{insert_adds, insert_most, insert_rises, rising_distinct}
use Rattle.dl_base.proofs.PlaceLemmas.{map_contains, map_from}
use Rattle.dl_base.proofs.RisingLemmas.{Adds, all_contains, contains_cases, contains_first, contains_later, nat_same, same_rising}
use Rattle.dl_base.proofs.RowLemmas.{contains_cut, keys_by_numbers, numbered_same, numbered_total}
use Rattle.assert_tables.specs.Gathered.{AreAdded, AreBeside, AreGathered, NameBelow, Settles, with_rows}
use Rattle.assert_tables.specs.Listing.{IsListOf}
use Rattle.assert_tables.specs.Mentions.{AreMentions, rows_of}
use Rattle.assert_tables.specs.Rows.{AreRisingRows, Gains, IsNamedIn, Loses, first_of, individuals_of, last_of}
use Rattle.assert_tables.specs.contracts.row_set.MentionOrd.TheImpl.{cmp-value as mention_order}
use Rattle.assert_tables.specs.contracts.row_set.MentionOrd.TheImpl.Laws as mention_laws
use Rattle.assert_tables.specs.declared.row_set.Mention.{Mention}
use Rattle.assert_tables.proofs.CountLemmas.{individual_named, individuals_rise, named_individual}
use Rattle.assert_tables.proofs.MentionLemmas.{in_set, mention, mention_counts, mentioned}
use Rattle.assert_tables.proofs.RowOrder.{mention_exact}

-- ---- the rows with those of a list

pub gathered_each : (rows rs : List Row) (q : Row) → Contains (with_rows rows rs) q ↔ (Contains rs q ⊎ Contains rows q)
gathered_each rows [] q = (λ c. inr c, λ c. elim c [ inl d ↦ absurd (omega (arith, d.1)) | inr d ↦ d ])
gathered_each rows (r ∷ rs) q =
    let adds : Adds r (with_rows rows rs) (with_rows rows (r ∷ rs)) = insert_adds numbered_row_cmp numbered_total numbered_same r (with_rows rows rs) in
    let rest : Contains (with_rows rows rs) q ↔ (Contains rs q ⊎ Contains rows q) = gathered_each rows rs q in (
      λ c. elim (adds.each q c) [
        | inl e ↦ inl (subst (Contains (r ∷ rs)) (sym e) (contains_first r rs))
        | inr d ↦ elim (rest.0 d) [ inl f ↦ inl (contains_later r rs q f) | inr o ↦ inr o ]
      ],
      λ c. elim c [
        | inl f ↦ elim (contains_cases r rs q f) [
          | inl e ↦ subst (Contains (with_rows rows (r ∷ rs))) (sym e) adds.there
          | inr d ↦ adds.stays q (rest.1 (inl d))
        ]
        | inr o ↦ adds.stays q (rest.1 (inr o))
      ],
    )

pub gathered_rise : (rows rs : List Row) → AreRisingRows rows → AreRisingRows (with_rows rows rs)
gathered_rise rows [] rises = rises
gathered_rise rows (r ∷ rs) rises = insert_rises numbered_row_cmp numbered_total numbered_same r (with_rows rows rs) (gathered_rise rows rs rises)

-- they are no more than both together
pub gathered_most : (rows rs : List Row) → length (with_rows rows rs) ≤ length rows + length rs
gathered_most rows [] = omega arith
gathered_most rows (r ∷ rs) =
    let rest = gathered_most rows rs in
    let one = insert_most numbered_row_cmp numbered_total numbered_same r (with_rows rows rs) in
    omega arith

-- one more row in the list
pub gathered_more : (rows rs : List Row) (r : Row) → AreRisingRows rows → Gains r (with_rows rows rs) (with_rows rows (rs ++ r ∷ []))
gathered_more rows rs r rises = record {
  rising = gathered_rise rows (rs ++ r ∷ []) rises;
  each = λ q.
      let old : Contains (with_rows rows rs) q ↔ (Contains rs q ⊎ Contains rows q) = gathered_each rows rs q in
      let new : Contains (with_rows rows (rs ++ r ∷ [])) q ↔ (Contains (rs ++ r ∷ []) q ⊎ Contains rows q) = gathered_each rows (rs ++ r ∷ []) q in (
        λ c. elim (new.0 c) [
          | inl d ↦ elim (contains_cut rs r q d) [ inl e ↦ inl e | inr f ↦ inr (old.1 (inl f)) ]
          | inr o ↦ inr (old.1 (inr o))
        ],
        λ c. elim c [
          | inl e ↦ new.1 (inl (subst (Contains (rs ++ r ∷ [])) (sym e) (Contains-push rs r)))
          | inr d ↦ elim (old.0 d) [ inl f ↦ new.1 (inl (Contains-append_left rs (r ∷ []) q f)) | inr o ↦ new.1 (inr o) ]
        ],
      );
}

-- rows in order that are those of both
pub both_are : (rows rs new : List Row) → AreRisingRows rows → AreRisingRows new → ((q : Row) → Contains new q ↔ (Contains rs q ⊎ Contains rows q)) → new ≡ with_rows rows rs
both_are rows rs new rises new_rises each =
    same_rising numbered_row_cmp numbered_total numbered_same new (with_rows rows rs) new_rises (gathered_rise rows rs rises)
    (λ q c. (gathered_each rows rs q).1 ((each q).0 c))
    (λ q c. (each q).1 ((gathered_each rows rs q).0 c))

-- and where there were none, those of the list
pub all_are : (rows rs new : List Row) → length rows ≡ 0 → AreRisingRows rows → AreRisingRows new → ((q : Row) → Contains new q ↔ Contains rs q) → new ≡ with_rows rows rs
all_are rows rs new none rises new_rises each = both_are rows rs new rises new_rises (λ q. (
  λ c. inl ((each q).0 c),
  λ c. elim c [ inl d ↦ (each q).1 d | inr o ↦ absurd (omega (arith, o.1, none)) ],
))

-- ---- numbers below another

nat_less : (x y : ℕ) → nat_cmp x y ≡ Less → x < y
nat_less x y e = grind (arith, nat_tests)

-- numbers that rise from one on and stay below another are no more than lie between
rising_between : (lo hi : ℕ) (xs : List ℕ) → lo ≤ hi → IsStrictlySortedBy nat_cmp xs → ((x : ℕ) → Contains xs x → (lo ≤ x) × (x < hi)) → length xs + lo ≤ hi
unfolding IsStrictlySortedBy
rising_between lo hi [] most rises within = omega arith
rising_between lo hi (x ∷ xs) most rises within =
    let low = (within x (contains_first x xs)).0 in
    let high = (within x (contains_first x xs)).1 in
    let rest = rising_between (suc x) hi xs (omega arith) rises.1 (λ y c. (
      let less = nat_less x y (all_contains (λ z. nat_cmp x z ≡ Less) xs y rises.0 c) in omega arith,
      (within y (contains_later x xs y c)).1,
    )) in
    omega arith

pub few_named : (above : ℕ) (rows : List Row) → NameBelow above rows → length (individuals_of rows) ≤ above
few_named above rows below =
    let f = rising_between 0 above (individuals_of rows) (omega arith) (individuals_rise rows) (λ a c. (
      omega arith,
      let w : (r : Row) × Contains rows r × IsNamedIn a r = individual_named rows a c in below w.0 a w.1 w.2,
    )) in
    omega arith

pub gathered_below : (settled waiting : List Row) (above : ℕ) → AreGathered settled waiting above → NameBelow above (with_rows settled waiting)
gathered_below settled waiting above are = λ r a c named. elim ((gathered_each settled waiting r).0 c) [
  | inl w ↦ are.waiting_below r a w named
  | inr s ↦ are.settled_below r a s named
]

named_below : (a n : ℕ) (r : Row) → (first_of r < n) × (last_of r < n) → IsNamedIn a r → a < n
named_below a n r both (inl e) = let f = both.0 in omega arith
named_below a n r both (inr e) = let f = both.1 in omega arith

-- one more waits
pub more_gathered : (settled waiting : List Row) (above n : ℕ) (r : Row) → AreGathered settled waiting above → (first_of r < n) × (last_of r < n) → AreGathered settled (waiting ++ r ∷ []) (max above n)
more_gathered settled waiting above n r are both = record {
  rising = are.rising;
  settled_below = λ q a c named. let f = are.settled_below q a c named in omega arith;
  waiting_below = λ q a c named. elim (contains_cut waiting r q c) [
    | inl e ↦ (let f = named_below a n r both (subst (IsNamedIn a) e named) in omega arith)
    | inr d ↦ (let f = are.waiting_below q a d named in omega arith)
  ];
}

-- none waits any more
pub settled_gathered : (settled waiting new new_waiting : List Row) (above : ℕ) → AreGathered settled waiting above → Settles settled waiting new new_waiting → AreGathered new new_waiting above
settled_gathered settled waiting new new_waiting above are settles = record {
  rising = subst AreRisingRows (sym settles.all) (gathered_rise settled waiting are.rising);
  settled_below = subst (NameBelow above) (sym settles.all) (gathered_below settled waiting above are);
  waiting_below = λ r a c named. absurd (let f : Contains [] r = subst (λ (rows : List Row). Contains rows r) settles.none c in omega (arith, f.1));
}

-- and a row less
pub lost_gathered : (rows new waiting : List Row) (above : ℕ) (r : Row) → AreGathered rows waiting above → Loses r rows new → AreGathered new waiting above
lost_gathered rows new waiting above r are loses = record {
  rising = loses.rising;
  settled_below = λ q a c named. are.settled_below q a ((loses.each q).0 c).1 named;
  waiting_below = are.waiting_below;
}

-- ---- rows and individuals of a list, all at once

-- individuals in order that are those of the mentions are the ones that the rows name
pub named_all : (list rows : List Row) (ms : List Mention) (names ordered : List ℕ) → AreBeside list ms → ((r : Row) → Contains rows r ↔ Contains list r) → names ≡ map (λ m. m.individual) ms
    → IsStrictlySortedBy nat_cmp ordered → ((a : ℕ) → Contains ordered a ↔ Contains names a) → ordered ≡ individuals_of rows
named_all list rows ms names ordered each same is rises same_names =
    same_rising nat_cmp nat_cmp_total nat_same ordered (individuals_of rows) rises (individuals_rise rows)
    (λ a c.
    let found = map_from (λ (m : Mention). m.individual) ms a (subst (λ (xs : List ℕ). Contains xs a) is ((same_names a).0 c)) in
    let there = (each found.0).0 found.1 in
    named_individual rows found.0.row a ((same found.0.row).1 there.0) (subst (λ (b : ℕ). IsNamedIn b found.0.row) (sym found.2) there.1))
    (λ a c.
    let w : (r : Row) × Contains rows r × IsNamedIn a r = individual_named rows a c in
    let there = (each (mention a w.0)).1 ((same w.0).0 w.1, w.2) in
    (same_names a).1 (subst (λ (xs : List ℕ). Contains xs a) (sym is) (map_contains (λ (m : Mention). m.individual) ms (mention a w.0) there)))

module _ (list : List Row) (ms : List Mention) (made : BTreeSet Mention) (each : AreBeside list ms) (from : IsFromIterResult mention_order.it ms made) where
  made_each : (m : Mention) → Contains made.keys m ↔ Contains ms m
  made_each m =
      let test = btree_set_contains_from_list mention_laws.total-law mention_exact ms made from m in
      (λ c. test.0 ((in_set made m).1 c), λ c. (in_set made m).0 (test.1 c))

  pub made_are : AreMentions made.keys
  made_are = record {
    named = λ m c. ((each m).0 ((made_each m).0 c)).1;
    each = λ m c a named. (made_each (mention a m.row)).1 ((each (mention a m.row)).1 (((each m).0 ((made_each m).0 c)).0, named));
  }

  pub made_rows : (r : Row) → Contains (rows_of made.keys) r ↔ Contains list r
  made_rows r = (
    λ c. let w : (m : Mention) × Contains made.keys m × (m.row ≡ r) = mentioned made.keys r c in
        subst (Contains list) w.2 ((each w.0).0 ((made_each w.0).0 w.1)).0,
    λ c. mention_counts made.keys (mention (first_of r) r) ((made_each (mention (first_of r) r)).1 ((each (mention (first_of r) r)).1 (c, inl refl))),
  )

pub beside_same : (list : List Row) (ms new : List Mention) → ((m : Mention) → Contains new m ↔ Contains ms m) → AreBeside list ms → AreBeside list new
beside_same list ms new same each = λ m. (
  λ c. (each m).0 ((same m).0 c),
  λ p. (same m).1 ((each m).1 p),
)

-- rows in order are the rising list of them
by_numbers : row_order.it ≡ numbered_row_cmp
by_numbers = λ j x y. keys_by_numbers x y j

list_is : (list set : List Row) → IsStrictlySortedBy row_order.it list → AreRisingRows set → ((r : Row) → Contains set r ↔ Contains list r) → list ≡ set
list_is list set rises set_rises same =
    same_rising numbered_row_cmp numbered_total numbered_same list set (subst (λ (c : Row → Row → Ordering). IsStrictlySortedBy c list) by_numbers rises) set_rises
    (λ r c. (same r).1 c)
    (λ r c. (same r).0 c)

pub as_many : (list set : List Row) → IsStrictlySortedBy row_order.it list → AreRisingRows set → ((r : Row) → Contains set r ↔ Contains list r) → length list ≡ length set
as_many list set rises set_rises same = ap (λ (rows : List Row). length rows) (list_is list set rises set_rises same)

-- and where none were settled they are listed
pub all_listed : (settled waiting list : List Row) → length settled ≡ 0 → IsStrictlySortedBy row_order.it list → ((r : Row) → Contains list r ↔ Contains waiting r) → IsListOf (with_rows settled waiting) list
all_listed settled waiting list none rises same = record {
  once = rising_distinct numbered_row_cmp numbered_total numbered_same list (subst (λ (c : Row → Row → Ordering). IsStrictlySortedBy c list) by_numbers rises);
  each = λ r. (
    λ c. (gathered_each settled waiting r).1 (inl ((same r).0 c)),
    λ c. elim ((gathered_each settled waiting r).0 c) [ inl w ↦ (same r).1 w | inr old ↦ absurd (omega (arith, old.1, none)) ],
  );
}

-- ---- what is waiting

pub none_waits : (settled waiting : List Row) (b : Bool) → b ≡ false → b ≡ (length waiting == 0) → IsTrue b ↔ (length (with_rows settled waiting) ≡ 0)
none_waits settled [] b off is = absurd (let f : false ≡ true = sym off ∙ is in cc)
none_waits settled (r ∷ rs) b off is = (
  λ t. absurd (let f : false ≡ true = sym off ∙ t in cc),
  λ e. absurd (let c : Contains (with_rows settled (r ∷ rs)) r = (gathered_each settled (r ∷ rs) r).1 (inl (contains_first r rs)) in omega (arith, c.1, e)),
)

-- rows that came of those that waited, or some of them
pub some_settled : (settled waiting new : List Row) (above : ℕ) → AreRisingRows new → ((r : Row) → Contains new r → Contains waiting r ⊎ Contains settled r) → AreGathered settled waiting above → AreGathered new [] above
some_settled settled waiting new above rises only are = record {
  rising = rises;
  settled_below = λ r a c named. elim (only r c) [ inl w ↦ are.waiting_below r a w named | inr s ↦ are.settled_below r a s named ];
  waiting_below = λ r a c named. absurd (omega (arith, c.1));
}

-- ---- the first rows of a list

-- each of the first rows stands beside both ends, and all that stands there is of the list
pub record AreFirstBeside (i : ℕ) (list : List Row) (ms : List Mention) : Type 0 where
  pub all : All (λ r. Contains ms (mention (first_of r) r) × Contains ms (mention (last_of r) r)) (take i list)
  pub only : (m : Mention) → Contains ms m → Contains list m.row × IsNamedIn m.individual m.row

pub beside_more : (list : List Row) (i : ℕ) (x : Row) (ms mid new : List Mention) → i < length list → x ≡ get_or list i x → mid ≡ ms ++ mention (first_of x) x ∷ [] → new ≡ mid ++ mention (last_of x) x ∷ []
    → AreFirstBeside i list ms → AreFirstBeside (i + 1) list new
beside_more list i x ms mid new inside is one two before =
    let stays : (m : Mention) → Contains ms m → Contains new m = λ m c.
    subst (λ (xs : List Mention). Contains xs m) (sym two) (Contains-append_left mid (mention (last_of x) x ∷ []) m
    (subst (λ (xs : List Mention). Contains xs m) (sym one) (Contains-append_left ms (mention (first_of x) x ∷ []) m c))) in
    let first : Contains new (mention (first_of x) x) =
    subst (λ (xs : List Mention). Contains xs (mention (first_of x) x)) (sym two) (Contains-append_left mid (mention (last_of x) x ∷ []) (mention (first_of x) x)
    (subst (λ (xs : List Mention). Contains xs (mention (first_of x) x)) (sym one) (Contains-push ms (mention (first_of x) x)))) in
    let last : Contains new (mention (last_of x) x) = subst (λ (xs : List Mention). Contains xs (mention (last_of x) x)) (sym two) (Contains-push mid (mention (last_of x) x)) in
    let there : Contains list x = (i, inside, sym is) in
    record {
      all = All-more (λ r. Contains new (mention (first_of r) r) × Contains new (mention (last_of r) r)) list i x inside
          (All-weaker (λ r. Contains ms (mention (first_of r) r) × Contains ms (mention (last_of r) r)) (λ r. Contains new (mention (first_of r) r) × Contains new (mention (last_of r) r))
          (λ r both. (stays (mention (first_of r) r) both.0, stays (mention (last_of r) r) both.1)) (take i list) before.all)
          (subst (λ (r : Row). Contains new (mention (first_of r) r) × Contains new (mention (last_of r) r)) is (first, last));
      only = λ m c. elim (contains_cut mid (mention (last_of x) x) m (subst (λ (xs : List Mention). Contains xs m) two c)) [
        | inl e ↦ subst (λ (w : Mention). Contains list w.row × IsNamedIn w.individual w.row) (sym e) (there, inr refl)
        | inr d ↦ elim (contains_cut ms (mention (first_of x) x) m (subst (λ (xs : List Mention). Contains xs m) one d)) [
          | inl e ↦ subst (λ (w : Mention). Contains list w.row × IsNamedIn w.individual w.row) (sym e) (there, inl refl)
          | inr o ↦ before.only m o
        ]
      ];
    }

pub beside_all : (list : List Row) (i : ℕ) (ms : List Mention) → length list ≤ i → AreFirstBeside i list ms → AreBeside list ms
beside_all list i ms end are m = (
  are.only m,
  λ p.
      let both : Contains ms (mention (first_of m.row) m.row) × Contains ms (mention (last_of m.row) m.row) =
      All-contains (λ r. Contains ms (mention (first_of r) r) × Contains ms (mention (last_of r) r)) list m.row
      (subst (All (λ r. Contains ms (mention (first_of r) r) × Contains ms (mention (last_of r) r))) (take_all i list end) are.all) p.0 in
      elim p.1 [
        | inl e ↦ subst (λ (a : ℕ). Contains ms (mention a m.row)) (sym e) both.0
        | inr e ↦ subst (λ (a : ℕ). Contains ms (mention a m.row)) (sym e) both.1
      ],
)

-- the first rows of the list came to the others
pub record AreFirstAdded (i : ℕ) (list old new : List Row) : Type 0 where
  pub rising : AreRisingRows new
  pub all : All (Contains new) (take i list)
  pub stays : (r : Row) → Contains old r → Contains new r
  pub only : (r : Row) → Contains new r → Contains list r ⊎ Contains old r

pub added_more : (list : List Row) (i : ℕ) (x : Row) (first old new : List Row) → i < length list → x ≡ get_or list i x → Gains x old new → AreFirstAdded i list first old → AreFirstAdded (i + 1) list first new
added_more list i x first old new inside is gains before = record {
  rising = gains.rising;
  all = All-more (Contains new) list i x inside (All-weaker (Contains old) (Contains new) (λ r there. (gains.each r).1 (inr there)) (take i list) before.all) (subst (Contains new) is ((gains.each x).1 (inl refl)));
  stays = λ r c. (gains.each r).1 (inr (before.stays r c));
  only = λ r c. elim ((gains.each r).0 c) [ inl e ↦ inl (subst (Contains list) (sym e) (i, inside, sym is)) | inr was ↦ before.only r was ];
}

pub added_all : (list : List Row) (i : ℕ) (old new : List Row) → length list ≤ i → AreFirstAdded i list old new → AreAdded list old new
added_all list i old new end are = record {
  rising = are.rising;
  each = λ r. (
    are.only r,
    λ c. elim c [
      | inl d ↦ All-contains (Contains new) list r (subst (All (Contains new)) (take_all i list end) are.all) d
      | inr o ↦ are.stays r o
    ],
  );
}
