-- Rows by their mentions.
use Rattle.std.proofs.Common.{◌≡◌, ◌≢◌, ◌↔◌, ℕ, ◌≤◌, ◌⊎◌, inl, inr, Bool, true, false, cond, List, [], ◌∷◌, length, Contains, refl, sym, ◌∙◌, ap, subst, arith}
use Rattle.std.specs.Prelude.{IsTrue, MatchBool, not}
use Rattle.std.specs.BTreeMap.{is_at}
use Rattle.std.specs.BTreeSet.{BTreeSet, contains, insert_key}
use Rattle.std.specs.declared.cmp.Ordering.{Ordering}
use Rattle.std.specs.declared.cmp.Ordering.TheVariants.{Less, Equal, Greater}
use Rattle.std.specs.Ordering.{is_eq}
use Rattle.std.proofs.lemmas.Cmp.{tied_itself}
use Rattle.std.proofs.lemmas.Map.Views.{btree_set_contains_iff}
use Rattle.dl_base.specs.declared.row.Row.{Row}
use Rattle.assert_tables.specs.Rows.{AreRisingRows, Gains, IsNamedIn, Loses, first_of, last_of}
use Rattle.dl_base.specs.Rows.{numbered_row_cmp}
use Rattle.assert_tables.specs.Mentions.{AreMentions, rows_of}
use Rattle.assert_tables.specs.contracts.row_set.MentionOrd.TheImpl.{cmp-value as mention_order}
use Rattle.assert_tables.specs.contracts.row_set.MentionOrd.TheImpl.Laws as mention_laws
use Rattle.assert_tables.specs.declared.row_set.Mention.{Mention}
use Rattle.dl_base.proofs.RisingLemmas.{Adds, contains_cases, contains_first, contains_later, same_rising}
use Rattle.dl_base.proofs.RowLemmas.{none_rising, numbered_total, numbered_same}
use Rattle.dl_base.proofs.InOrder.{insert_adds, insert_most, insert_rises}
use Rattle.assert_tables.proofs.RowOrder.{mention_exact}

-- a row beside an individual
abbrev pub mention : ℕ → Row → Mention
mention a r = record { individual = a; row = r }

pub rows_rise : (ms : List Mention) → AreRisingRows (rows_of ms)
rows_rise [] = none_rising numbered_row_cmp
rows_rise (m ∷ ms) = insert_rises numbered_row_cmp numbered_total numbered_same m.row (rows_of ms) (rows_rise ms)

pub mentioned : (ms : List Mention) (r : Row) → Contains (rows_of ms) r → (m : Mention) × Contains ms m × (m.row ≡ r)
mentioned [] r c = absurd (omega (arith, c.1))
mentioned (m ∷ ms) r c = by (mentioned ms r) ((insert_adds numbered_row_cmp numbered_total numbered_same m.row (rows_of ms)).each r c)
  where
    by : (Contains (rows_of ms) r → (n : Mention) × Contains ms n × (n.row ≡ r))
        → (r ≡ m.row) ⊎ Contains (rows_of ms) r → (n : Mention) × Contains (m ∷ ms) n × (n.row ≡ r)
    by rest (inl e) = (m, contains_first m ms, sym e)
    by rest (inr d) = let w : (n : Mention) × Contains ms n × (n.row ≡ r) = rest d in (w.0, contains_later m ms w.0 w.1, w.2)

pub mention_counts : (ms : List Mention) (m : Mention) → Contains ms m → Contains (rows_of ms) m.row
mention_counts [] m c = absurd (omega (arith, c.1))
mention_counts (n ∷ ms) m c =
    let adds : Adds n.row (rows_of ms) (rows_of (n ∷ ms)) = insert_adds numbered_row_cmp numbered_total numbered_same n.row (rows_of ms) in
    elim (contains_cases n ms m c) [
      | inl e ↦ subst (λ (w : Mention). Contains (rows_of (n ∷ ms)) w.row) (sym e) adds.there
      | inr d ↦ adds.stays m.row (mention_counts ms m d)
    ]

-- a row is there exactly where it stands beside an individual that it names
pub beside : (ms : List Mention) → AreMentions ms → (a : ℕ) (r : Row) → IsNamedIn a r → Contains (rows_of ms) r ↔ Contains ms (mention a r)
beside ms are a r named = (
  λ c. let w : (m : Mention) × Contains ms m × (m.row ≡ r) = mentioned ms r c in
      subst (λ (q : Row). Contains ms (mention a q)) w.2 (are.each w.0 w.1 a (subst (IsNamedIn a) (sym w.2) named)),
  λ c. mention_counts ms (mention a r) c,
)

pub first_beside : (ms : List Mention) → AreMentions ms → (r : Row) → Contains (rows_of ms) r ↔ Contains ms (mention (first_of r) r)
first_beside ms are r = beside ms are (first_of r) r (inl refl)

-- new are the mentions of old and those of the row
pub record BothAdded (r : Row) (old new : List Mention) : Type 0 where
  pub each : (m : Mention) → Contains new m → (m ≡ mention (last_of r) r) ⊎ ((m ≡ mention (first_of r) r) ⊎ Contains old m)
  pub first : Contains new (mention (first_of r) r)
  pub last : Contains new (mention (last_of r) r)
  pub stays : (m : Mention) → Contains old m → Contains new m

pub both_added : (r : Row) (old mid new : List Mention) → Adds (mention (first_of r) r) old mid → Adds (mention (last_of r) r) mid new → BothAdded r old new
both_added r old mid new one two = record {
  each = λ m c. elim (two.each m c) [
    | inl e ↦ inl e
    | inr d ↦ inr (one.each m d)
  ];
  first = two.stays (mention (first_of r) r) one.there;
  last = two.there;
  stays = λ m c. two.stays m (one.stays m c);
}

both_beside : (r : Row) (old new : List Mention) → BothAdded r old new → (a : ℕ) → IsNamedIn a r → Contains new (mention a r)
both_beside r old new added a (inl e) = subst (λ (n : ℕ). Contains new (mention n r)) (sym e) added.first
both_beside r old new added a (inr e) = subst (λ (n : ℕ). Contains new (mention n r)) (sym e) added.last

pub added_are : (r : Row) (old new : List Mention) → AreMentions old → BothAdded r old new → AreMentions new
added_are r old new are added = record {
  named = λ m c. elim (added.each m c) [
    | inl e ↦ subst (λ (w : Mention). IsNamedIn w.individual w.row) (sym e) (inr refl)
    | inr d ↦ elim d [
      | inl e ↦ subst (λ (w : Mention). IsNamedIn w.individual w.row) (sym e) (inl refl)
      | inr o ↦ are.named m o
    ]
  ];
  each = λ m c a is. by m a is (added.each m c);
}
  where
    of_row : (m : Mention) (a : ℕ) → IsNamedIn a m.row → m.row ≡ r → Contains new (mention a m.row)
    of_row m a is e =
        let here : Contains new (mention a r) = both_beside r old new added a (subst (IsNamedIn a) e is) in
        subst (λ (q : Row). Contains new (mention a q)) (sym e) here

    by : (m : Mention) (a : ℕ) → IsNamedIn a m.row → (m ≡ mention (last_of r) r) ⊎ ((m ≡ mention (first_of r) r) ⊎ Contains old m) → Contains new (mention a m.row)
    by m a is (inl e) = of_row m a is (ap (λ (w : Mention). w.row) e)
    by m a is (inr (inl e)) = of_row m a is (ap (λ (w : Mention). w.row) e)
    by m a is (inr (inr o)) = added.stays (mention a m.row) (are.each m o a is)

pub added_gains : (r : Row) (old new : List Mention) → BothAdded r old new → Gains r (rows_of old) (rows_of new)
added_gains r old new added = record {
  rising = rows_rise new;
  each = λ q. (λ c. into q (mentioned new q c), λ c. back q c);
}
  where
    into : (q : Row) → ((m : Mention) × Contains new m × (m.row ≡ q)) → (q ≡ r) ⊎ Contains (rows_of old) q
    into q (m, c, e) = elim (added.each m c) [
      | inl f ↦ inl (sym e ∙ ap (λ (w : Mention). w.row) f)
      | inr d ↦ elim d [
        | inl f ↦ inl (sym e ∙ ap (λ (w : Mention). w.row) f)
        | inr o ↦ inr (subst (Contains (rows_of old)) e (mention_counts old m o))
      ]
    ]

    back : (q : Row) → (q ≡ r) ⊎ Contains (rows_of old) q → Contains (rows_of new) q
    back q (inl e) = subst (Contains (rows_of new)) (sym e) (mention_counts new (mention (first_of r) r) added.first)
    back q (inr c) =
        let w : (m : Mention) × Contains old m × (m.row ≡ q) = mentioned old q c in
        subst (Contains (rows_of new)) w.2 (mention_counts new w.0 (added.stays w.0 w.1))

-- new are the mentions of old but for those of the row
pub record BothRemoved (r : Row) (old new : List Mention) : Type 0 where
  pub each : (m : Mention) → Contains new m ↔ ((m ≢ mention (first_of r) r) × ((m ≢ mention (last_of r) r) × Contains old m))

-- of other rows all mentions stay
other_stays : (r : Row) (old new : List Mention) → BothRemoved r old new → (m : Mention) → m.row ≢ r → Contains old m → Contains new m
other_stays r old new removed m apart c = (removed.each m).1 (λ e. apart (ap (λ (w : Mention). w.row) e), (λ e. apart (ap (λ (w : Mention). w.row) e), c))

-- and of the row none does
none_stays : (r : Row) (old new : List Mention) → AreMentions old → BothRemoved r old new → (m : Mention) → Contains new m → m.row ≢ r
none_stays r old new are removed m c e =
    let p : (m ≢ mention (first_of r) r) × ((m ≢ mention (last_of r) r) × Contains old m) = (removed.each m).0 c in
    let whole : (a : ℕ) → m.individual ≡ a → m ≡ mention a r = λ a f. λ j. record { individual = f j; row = e j } in
    let named : IsNamedIn m.individual r = subst (IsNamedIn m.individual) e (are.named m p.1.1) in
    elim named [ inl f ↦ p.0 (whole (first_of r) f) | inr f ↦ p.1.0 (whole (last_of r) f) ]

pub removed_are : (r : Row) (old new : List Mention) → AreMentions old → BothRemoved r old new → AreMentions new
removed_are r old new are removed = record {
  named = λ m c. are.named m ((removed.each m).0 c).1.1;
  each = λ m c a is. other_stays r old new removed (mention a m.row) (none_stays r old new are removed m c) (are.each m ((removed.each m).0 c).1.1 a is);
}

pub removed_loses : (r : Row) (old new : List Mention) → AreMentions old → BothRemoved r old new → Loses r (rows_of old) (rows_of new)
removed_loses r old new are removed = record {
  rising = rows_rise new;
  each = λ q. (λ c. into q (mentioned new q c), λ p. back q p.0 (mentioned old q p.1));
}
  where
    into : (q : Row) → ((m : Mention) × Contains new m × (m.row ≡ q)) → (q ≢ r) × Contains (rows_of old) q
    into q (m, c, e) =
        (λ f. none_stays r old new are removed m c (e ∙ f), subst (Contains (rows_of old)) e (mention_counts old m ((removed.each m).0 c).1.1))

    back : (q : Row) → q ≢ r → ((m : Mention) × Contains old m × (m.row ≡ q)) → Contains (rows_of new) q
    back q apart (m, c, e) = subst (Contains (rows_of new)) e (mention_counts new m (other_stays r old new removed m (λ f. apart (sym e ∙ f)) c))

-- ---- over sets

pub in_set : (s : BTreeSet Mention) (m : Mention) → IsTrue (contains mention_order.it s m) ↔ Contains s.keys m
in_set s m = btree_set_contains_iff mention_laws.total-law mention_exact s m

pub has_row : (s : BTreeSet Mention) (r : Row) → AreMentions s.keys → IsTrue (contains mention_order.it s (mention (first_of r) r)) ↔ Contains (rows_of s.keys) r
has_row s r are = (
  λ h. (first_beside s.keys are r).1 ((in_set s (mention (first_of r) r)).0 h),
  λ c. (in_set s (mention (first_of r) r)).1 ((first_beside s.keys are r).0 c),
)

pub set_adds : (m : Mention) (old new : List Mention) → new ≡ insert_key mention_order.it old m → Adds m old new
set_adds m old new e = subst (Adds m old) (sym e) (insert_adds mention_order.it mention_laws.total-law mention_exact m old)

-- what a set removes is gone, and all else stays
pub set_removes : (old new : BTreeSet Mention) (m : Mention) → ((z : Mention) → contains mention_order.it new z ≡ cond (is_at (mention_order.it m) z) false (contains mention_order.it old z))
    → (z : Mention) → Contains new.keys z ↔ ((z ≢ m) × Contains old.keys z)
set_removes old new m updates z = by (mention_order.it m z) refl
  where
    kept : contains mention_order.it new z ≡ contains mention_order.it old z → z ≢ m → Contains new.keys z ↔ ((z ≢ m) × Contains old.keys z)
    kept e apart = (
      λ c. (apart, (in_set old z).0 (sym e ∙ (in_set new z).1 c)),
      λ p. (in_set new z).0 (e ∙ (in_set old z).1 p.1),
    )

    apart : (r : Ordering) → mention_order.it m z ≡ r → r ≢ Equal → z ≢ m
    apart r is other e = other (sym is ∙ subst (λ (w : Mention). mention_order.it m w ≡ Equal) (sym e) (tied_itself mention_laws.total-law m))

    answer : (r : Ordering) → mention_order.it m z ≡ r → contains mention_order.it new z ≡ cond (is_eq r) false (contains mention_order.it old z)
    answer r is = updates z ∙ ap (λ (o : Ordering). cond (is_eq o) false (contains mention_order.it old z)) is

    by : (r : Ordering) → mention_order.it m z ≡ r → Contains new.keys z ↔ ((z ≢ m) × Contains old.keys z)
    by Less is = kept (answer Less is) (apart Less is (λ e. absurd cc))
    by Greater is = kept (answer Greater is) (apart Greater is (λ e. absurd cc))
    by Equal is = (
      λ c. absurd (let f : false ≡ true = sym (answer Equal is) ∙ (in_set new z).1 c in cc),
      λ p. absurd (p.0 (sym (mention_exact m z is))),
    )

-- the same mentions say the same rows
pub same_are : (old new : List Mention) → ((m : Mention) → Contains new m ↔ Contains old m) → AreMentions old → AreMentions new
same_are old new same are = record {
  named = λ m c. are.named m ((same m).0 c);
  each = λ m c a is. (same (mention a m.row)).1 (are.each m ((same m).0 c) a is);
}

pub same_rows : (old new : List Mention) → ((m : Mention) → Contains new m ↔ Contains old m) → rows_of new ≡ rows_of old
same_rows old new same =
    same_rising numbered_row_cmp numbered_total numbered_same (rows_of new) (rows_of old) (rows_rise new) (rows_rise old)
    (λ r c. over new old r (mentioned new r c) (λ m. (same m).0))
    (λ r c. over old new r (mentioned old r c) (λ m. (same m).1))
  where
    over : (many others : List Mention) (r : Row) → ((m : Mention) × Contains many m × (m.row ≡ r)) → ((m : Mention) → Contains many m → Contains others m) → Contains (rows_of others) r
    over many others r (m, c, e) into = subst (Contains (rows_of others)) e (mention_counts others m (into m c))

-- what is put in and taken out again leaves the mentions
pub put_back : (m : Mention) (old mid new : List Mention) → (Contains old m → ⊥) → Adds m old mid → ((z : Mention) → Contains new z ↔ ((z ≢ m) × Contains mid z))
    → (z : Mention) → Contains new z ↔ Contains old z
put_back m old mid new absent adds removes z = (
  λ c. let p : (z ≢ m) × Contains mid z = (removes z).0 c in elim (adds.each z p.1) [ inl e ↦ absurd (p.0 e) | inr d ↦ d ],
  λ c. (removes z).1 (λ e. absent (subst (Contains old) e c), adds.stays z c),
)

-- without both
pub both_removed : (r : Row) (old mid new : List Mention) → ((z : Mention) → Contains mid z ↔ ((z ≢ mention (first_of r) r) × Contains old z))
    → ((z : Mention) → Contains new z ↔ ((z ≢ mention (last_of r) r) × Contains mid z)) → BothRemoved r old new
both_removed r old mid new one two = record {
  each = λ m. (
    λ c. let p : (m ≢ mention (last_of r) r) × Contains mid m = (two m).0 c in (((one m).0 p.1).0, (p.0, ((one m).0 p.1).1)),
    λ p. (two m).1 (p.1.0, (one m).1 (p.0, p.1.1)),
  );
}

-- what a removal says of a row
pub took : (s : BTreeSet Mention) (r : Row) → AreMentions s.keys → (there : Bool) → there ≡ contains mention_order.it s (mention (first_of r) r)
    → MatchBool there (Contains (rows_of s.keys) r) (Contains (rows_of s.keys) r → ⊥)
took s r are true is = (has_row s r are).0 (sym is)
took s r are false is = λ c. absurd (let f : false ≡ true = is ∙ (has_row s r are).1 c in cc)

-- a row that is there is gained without a change
pub kept_gains : (r : Row) (ms : List Mention) → Contains (rows_of ms) r → Gains r (rows_of ms) (rows_of ms)
kept_gains r ms there = record {
  rising = rows_rise ms;
  each = λ q. (λ c. inr c, λ c. elim c [ inl e ↦ subst (Contains (rows_of ms)) (sym e) there | inr d ↦ d ]);
}

-- what an insertion says of a key that was there, and of one that was not
pub found : (added there : Bool) → added ≡ not there → added ≡ false → there ≡ true
found added true is e = refl
found added false is e = absurd (let f : true ≡ false = sym is ∙ e in cc)

pub not_found : (added there : Bool) → added ≡ not there → added ≡ true → there ≡ false
not_found added true is e = absurd (let f : false ≡ true = sym is ∙ e in cc)
not_found added false is e = refl

-- there are no more rows than mentions
pub rows_few : (ms : List Mention) → length (rows_of ms) ≤ length ms
rows_few [] = omega arith
rows_few (m ∷ ms) =
    let rest = rows_few ms in
    let one = insert_most numbered_row_cmp numbered_total numbered_same m.row (rows_of ms) in
    omega arith
