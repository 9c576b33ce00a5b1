-- How many rows and individuals there are.
use Rattle.std.proofs.Common.{◌≡◌, ◌≢◌, ◌↔◌, ℕ, zero, suc, ◌+◌, ◌*◌, ◌≤◌, ◌⊎◌, inl, inr, List, [], ◌∷◌, length, All, Contains, refl, sym, ◌∙◌, ap, subst, arith, zero-add}
use Rattle.std.specs.BTreeSet.{insert_key}
use Rattle.std.specs.declared.cmp.Ordering.{Ordering}
use Rattle.std.specs.declared.cmp.Ordering.TheVariants.{Less, Equal, Greater}
use Rattle.std.specs.Ordering.{nat_cmp}
use Rattle.std.specs.List.Sorted.{IsStrictlySortedBy}
use Rattle.std.proofs.lemmas.Cmp.{nat_cmp_total, tied_itself}
use Rattle.std.proofs.lemmas.List.Elements.{All-contains, Contains-get_or}
use Rattle.dl_base.specs.declared.row.Row.{Row}
use Rattle.dl_base.proofs.RisingLemmas.{Adds, nat_same, same_rising, contains_cases, contains_first, contains_later}
use Rattle.dl_base.proofs.RowLemmas.{none_rising, numbered_total, numbered_same}
use Rattle.assert_tables.specs.Rows.{AreRisingRows, Gains, IsNamedIn, IsCountOfNew, IsNewcomer, Loses, first_of, individuals_of, last_of, with_individuals}
use Rattle.dl_base.specs.Rows.{numbered_row_cmp}
use Rattle.dl_base.proofs.InOrder.{insert_again, insert_adds, insert_longer, insert_most, insert_rises}

names_add : (names : List ℕ) (a : ℕ) → Adds a names (insert_key nat_cmp names a)
names_add names a = insert_adds nat_cmp nat_cmp_total nat_same a names

with_rises : (names : List ℕ) (r : Row) → IsStrictlySortedBy nat_cmp names → IsStrictlySortedBy nat_cmp (with_individuals names r)
with_rises names r rises =
    insert_rises nat_cmp nat_cmp_total nat_same (last_of r) (insert_key nat_cmp names (first_of r)) (insert_rises nat_cmp nat_cmp_total nat_same (first_of r) names rises)

with_each : (names : List ℕ) (r : Row) (a : ℕ) → Contains (with_individuals names r) a ↔ (IsNamedIn a r ⊎ Contains names a)
with_each names r a =
    let one : Adds (first_of r) names (insert_key nat_cmp names (first_of r)) = names_add names (first_of r) in
    let two : Adds (last_of r) (insert_key nat_cmp names (first_of r)) (with_individuals names r) = names_add (insert_key nat_cmp names (first_of r)) (last_of r) in (
      λ c. elim (two.each a c) [
        | inl e ↦ inl (inr e)
        | inr d ↦ elim (one.each a d) [ inl e ↦ inl (inl e) | inr o ↦ inr o ]
      ],
      λ c. elim c [
        | inl named ↦ elim named [
          | inl e ↦ subst (Contains (with_individuals names r)) (sym e) (two.stays (first_of r) one.there)
          | inr e ↦ subst (Contains (with_individuals names r)) (sym e) two.there
        ]
        | inr o ↦ two.stays a (one.stays a o)
      ],
    )

pub individuals_rise : (rows : List Row) → IsStrictlySortedBy nat_cmp (individuals_of rows)
individuals_rise [] = none_rising nat_cmp
individuals_rise (r ∷ rs) = with_rises (individuals_of rs) r (individuals_rise rs)

-- an individual is one that some row names
pub individual_named : (rows : List Row) (a : ℕ) → Contains (individuals_of rows) a → (r : Row) × Contains rows r × IsNamedIn a r
individual_named [] a c = absurd (omega (arith, c.1))
individual_named (r ∷ rs) a c = by (individual_named rs a) ((with_each (individuals_of rs) r a).0 c)
  where
    by : (Contains (individuals_of rs) a → (q : Row) × Contains rs q × IsNamedIn a q)
        → IsNamedIn a r ⊎ Contains (individuals_of rs) a → (q : Row) × Contains (r ∷ rs) q × IsNamedIn a q
    by rest (inl named) = (r, contains_first r rs, named)
    by rest (inr d) = let w : (q : Row) × Contains rs q × IsNamedIn a q = rest d in (w.0, contains_later r rs w.0 w.1, w.2)

pub named_individual : (rows : List Row) (r : Row) (a : ℕ) → Contains rows r → IsNamedIn a r → Contains (individuals_of rows) a
named_individual [] r a c named = absurd (omega (arith, c.1))
named_individual (q ∷ rs) r a c named =
    (with_each (individuals_of rs) q a).1
    (elim (contains_cases q rs r c) [
      | inl e ↦ inl (subst (IsNamedIn a) e named)
      | inr d ↦ inr (named_individual rs r a d named)
    ])

-- one more row brings its individuals
gains_individuals : (r : Row) (old new : List Row) → Gains r old new → individuals_of new ≡ with_individuals (individuals_of old) r
gains_individuals r old new gains =
    same_rising nat_cmp nat_cmp_total nat_same (individuals_of new) (with_individuals (individuals_of old) r)
    (individuals_rise new) (with_rises (individuals_of old) r (individuals_rise old))
    (λ a c. into a (individual_named new a c))
    (λ a c. back a ((with_each (individuals_of old) r a).0 c))
  where
    into : (a : ℕ) → ((q : Row) × Contains new q × IsNamedIn a q) → Contains (with_individuals (individuals_of old) r) a
    into a (q, c, named) = (with_each (individuals_of old) r a).1
        (elim ((gains.each q).0 c) [
          | inl e ↦ inl (subst (IsNamedIn a) e named)
          | inr d ↦ inr (named_individual old q a d named)
        ])

    back : (a : ℕ) → IsNamedIn a r ⊎ Contains (individuals_of old) a → Contains (individuals_of new) a
    back a (inl named) = named_individual new r a ((gains.each r).1 (inl refl)) named
    back a (inr c) =
        let w : (q : Row) × Contains old q × IsNamedIn a q = individual_named old a c in
        named_individual new w.0 a ((gains.each w.0).1 (inr w.1)) w.2

gains_list : (r : Row) (old new : List Row) → AreRisingRows old → Gains r old new → new ≡ insert_key numbered_row_cmp old r
gains_list r old new rising gains =
    let adds : Adds r old (insert_key numbered_row_cmp old r) = insert_adds numbered_row_cmp numbered_total numbered_same r old in
    same_rising numbered_row_cmp numbered_total numbered_same new (insert_key numbered_row_cmp old r) gains.rising
    (insert_rises numbered_row_cmp numbered_total numbered_same r old rising)
    (λ q c. elim ((gains.each q).0 c) [ inl e ↦ subst (Contains (insert_key numbered_row_cmp old r)) (sym e) adds.there | inr d ↦ adds.stays q d ])
    (λ q c. (gains.each q).1 (adds.each q c))

-- a new row is one more
gains_one : (r : Row) (old new : List Row) → AreRisingRows old → Gains r old new → (Contains old r → ⊥) → length new ≡ 1 + length old
gains_one r old new rising gains absent =
    ap (λ (rows : List Row). length rows) (gains_list r old new rising gains) ∙ insert_longer numbered_row_cmp numbered_total numbered_same r old absent

-- and one that was there changes nothing
pub gains_none : (r : Row) (old new : List Row) → AreRisingRows old → Gains r old new → Contains old r → new ≡ old
gains_none r old new rising gains there =
    gains_list r old new rising gains ∙ insert_again numbered_row_cmp numbered_total numbered_same r old rising there

-- what holds of all rows and of this one holds of all then
pub all_gain : (P : Row → Type 0) (r : Row) (old new : List Row) → Gains r old new → P r → All P old → All P new
all_gain P r old new gains fits all k d below = elim ((gains.each _).0 (Contains-get_or new k d below)) [
  | inl e ↦ subst P (sym e) fits
  | inr before ↦ All-contains P old _ all before
]

-- what lost a row gains it again
loses_gains : (r : Row) (old new : List Row) → AreRisingRows old → Loses r old new → Contains old r → Gains r new old
loses_gains r old new rising loses there = record {
  rising = rising;
  each = λ q. (λ c. into q c, λ c. elim c [ inl e ↦ subst (Contains old) (sym e) there | inr d ↦ ((loses.each q).0 d).1 ]);
}
  where
    into : (q : Row) → Contains old q → (q ≡ r) ⊎ Contains new q
    into q c = by (numbered_row_cmp q r) refl
      where
        apart : (o : Ordering) → numbered_row_cmp q r ≡ o → o ≢ Equal → q ≢ r
        apart o is other e = other (sym is ∙ subst (λ (w : Row). numbered_row_cmp q w ≡ Equal) e (tied_itself numbered_total q))

        by : (o : Ordering) → numbered_row_cmp q r ≡ o → (q ≡ r) ⊎ Contains new q
        by Less is = inr ((loses.each q).1 (apart Less is (λ e. absurd cc), c))
        by Equal is = inl (numbered_same q r is)
        by Greater is = inr ((loses.each q).1 (apart Greater is (λ e. absurd cc), c))

pub loses_none : (r : Row) (old new : List Row) → AreRisingRows old → Loses r old new → (Contains old r → ⊥) → new ≡ old
loses_none r old new rising loses absent =
    same_rising numbered_row_cmp numbered_total numbered_same new old loses.rising rising
    (λ q c. ((loses.each q).0 c).1)
    (λ q c. (loses.each q).1 (λ e. absent (subst (Contains old) e c), c))

-- ---- how many individuals are new

one_new : (names : List ℕ) (a n : ℕ) → IsStrictlySortedBy nat_cmp names → IsNewcomer a names n → length (insert_key nat_cmp names a) ≡ n + length names
one_new names a zero rises is = ap (λ (xs : List ℕ). length xs) (insert_again nat_cmp nat_cmp_total nat_same a names rises (is.named refl)) ∙ sym (zero-add (length names))
one_new names a (suc zero) rises is = insert_longer nat_cmp nat_cmp_total nat_same a names (is.new refl)
one_new names a (suc (suc n)) rises is = absurd (let few : suc (suc n) ≤ 1 = is.few in omega arith)

-- a row that names one individual
pub one_name : (names : List ℕ) (r : Row) (n : ℕ) → IsStrictlySortedBy nat_cmp names → first_of r ≡ last_of r → IsNewcomer (first_of r) names n → IsCountOfNew r names n
one_name names r n rises same is =
    let there : Contains (insert_key nat_cmp names (first_of r)) (last_of r) = subst (Contains (insert_key nat_cmp names (first_of r))) same (names_add names (first_of r)).there in
    let again : with_individuals names r ≡ insert_key nat_cmp names (first_of r) =
    insert_again nat_cmp nat_cmp_total nat_same (last_of r) (insert_key nat_cmp names (first_of r)) (insert_rises nat_cmp nat_cmp_total nat_same (first_of r) names rises) there in
    ap (λ (xs : List ℕ). length xs) again ∙ one_new names (first_of r) n rises is

-- a row that names two
pub two_names : (names : List ℕ) (r : Row) (n m : ℕ) → IsStrictlySortedBy nat_cmp names → first_of r ≢ last_of r → IsNewcomer (first_of r) names n → IsNewcomer (last_of r) names m
    → IsCountOfNew r names (n + m)
two_names names r n m rises apart one two =
    let adds : Adds (first_of r) names (insert_key nat_cmp names (first_of r)) = names_add names (first_of r) in
    let later : IsNewcomer (last_of r) (insert_key nat_cmp names (first_of r)) m = record {
      few = two.few;
      named = λ e. adds.stays (last_of r) (two.named e);
      new = λ e c. elim (adds.each (last_of r) c) [ inl f ↦ apart (sym f) | inr d ↦ two.new e d ];
    } in
    let f = one_new names (first_of r) n rises one in
    let g = one_new (insert_key nat_cmp names (first_of r)) (last_of r) m (insert_rises nat_cmp nat_cmp_total nat_same (first_of r) names rises) later in
    omega (arith, f, g)

-- rows have no more than two individuals each
individuals_bounded : (rows : List Row) → length (individuals_of rows) ≤ 2 * length rows
individuals_bounded [] = omega arith
individuals_bounded (r ∷ rs) =
    let rest = individuals_bounded rs in
    let one = insert_most nat_cmp nat_cmp_total nat_same (first_of r) (individuals_of rs) in
    let two = insert_most nat_cmp nat_cmp_total nat_same (last_of r) (insert_key nat_cmp (individuals_of rs) (first_of r)) in
    omega arith

-- what one row more brings
pub record BringsMore (old new : List Row) (n : ℕ) : Type 0 where
  pub rows : length new ≡ 1 + length old
  pub individuals : length (individuals_of new) ≡ n + length (individuals_of old)
  pub few : length (individuals_of new) ≤ 2 * length new

pub brings_more : (r : Row) (old new : List Row) (n : ℕ) → AreRisingRows old → Gains r old new → (Contains old r → ⊥) → IsCountOfNew r (individuals_of old) n → BringsMore old new n
brings_more r old new n rising gains absent count = record {
  rows = gains_one r old new rising gains absent;
  individuals = ap (λ (xs : List ℕ). length xs) (gains_individuals r old new gains) ∙ count;
  few = individuals_bounded new;
}

-- and what one row less takes
pub brings_less : (r : Row) (old new : List Row) (n : ℕ) → AreRisingRows old → Loses r old new → Contains old r → IsCountOfNew r (individuals_of new) n → BringsMore new old n
brings_less r old new n rising loses there count = brings_more r new old n loses.rising (loses_gains r old new rising loses there) (λ c. ((loses.each r).0 c).0 refl) count
