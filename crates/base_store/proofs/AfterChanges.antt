-- The rows behind changes: there are some, and only one list of them.
use Rattle.std.proofs.Common.{◌≡◌, ◌≢◌, ◌⊎◌, inl, inr, Bool, true, false, List, [], ◌∷◌, ◌++◌, Contains, refl, sym, ◌∙◌, subst, arith}
use Rattle.std.specs.declared.cmp.Ordering.{Ordering}
use Rattle.std.specs.declared.cmp.Ordering.TheVariants.{Less, Equal, Greater}
use Rattle.std.proofs.lemmas.Cmp.{tied_itself}
use Rattle.dl_base.specs.Rows.{AreRows, row_cmp}
use Rattle.dl_base.specs.declared.row.NamedRow.{NamedRow}
use Rattle.dl_base.specs.declared.row.NamedChange.{NamedChange}
use Rattle.dl_base.proofs.InOrder.{from_order, in_order, in_order_rises, into_order}
use Rattle.dl_base.proofs.RisingLemmas.{contains_cases, contains_first, contains_later, same_rising}
use Rattle.dl_base.proofs.RowLemmas.{row_same, row_total}
use Rattle.base_store.specs.History.{IsAfterChange, IsAfterChanges, IsAfterTransactions}

pub same_or_not : (x y : NamedRow) → (x ≡ y) ⊎ (x ≢ y)
same_or_not x y = by (row_cmp x y) refl
  where
    no : (o : Ordering) → o ≢ Equal → row_cmp x y ≡ o → x ≢ y
    no o other e same = other (sym e ∙ subst (λ (z : NamedRow). row_cmp x z ≡ Equal) same (tied_itself row_total x))

    by : (o : Ordering) → row_cmp x y ≡ o → (x ≡ y) ⊎ (x ≢ y)
    by Equal e = inl (row_same x y e)
    by Less e = inr (no Less (λ f. cc) e)
    by Greater e = inr (no Greater (λ f. cc) e)

-- ---- one list

pub change_once : (old : List NamedRow) (c : NamedChange) (one other : List NamedRow) → IsAfterChange old c one → IsAfterChange old c other → one ≡ other
change_once old c one other a b = same_rising row_cmp row_total row_same one other a.rising b.rising
    (λ r there. (b.each r).1 ((a.each r).0 there))
    (λ r there. (a.each r).1 ((b.each r).0 there))

pub changes_once : (old : List NamedRow) (cs : List NamedChange) (one other : List NamedRow) → IsAfterChanges old cs one → IsAfterChanges old cs other → one ≡ other
changes_once old [] one other a b = a ∙ sym b
changes_once old (c ∷ cs) one other a b =
    changes_once b.0 cs one other (subst (λ (rows : List NamedRow). IsAfterChanges rows cs one) (change_once old c a.0 b.0 a.1 b.1) a.2) b.2

pub transactions_once : (old : List NamedRow) (ts : List (List NamedChange)) (one other : List NamedRow) → IsAfterTransactions old ts one → IsAfterTransactions old ts other → one ≡ other
transactions_once old [] one other a b = a ∙ sym b
transactions_once old (t ∷ ts) one other a b =
    transactions_once b.0 ts one other (subst (λ (rows : List NamedRow). IsAfterTransactions rows ts one) (changes_once old t a.0 b.0 a.1 b.1) a.2) b.2

-- ---- in order

pub changes_rise : (old : List NamedRow) (cs : List NamedChange) (new : List NamedRow) → AreRows old → IsAfterChanges old cs new → AreRows new
changes_rise old [] new rises a = subst AreRows (sym a) rises
changes_rise old (c ∷ cs) new rises a = changes_rise a.0 cs new a.1.rising a.2

pub transactions_rise : (old : List NamedRow) (ts : List (List NamedChange)) (new : List NamedRow) → AreRows old → IsAfterTransactions old ts new → AreRows new
transactions_rise old [] new rises a = subst AreRows (sym a) rises
transactions_rise old (t ∷ ts) new rises a = transactions_rise a.0 ts new (changes_rise old t a.0 rises a.1) a.2

-- ---- one more

pub changes_more : (old : List NamedRow) (cs : List NamedChange) (c : NamedChange) (new : List NamedRow) → IsAfterChanges old (cs ++ c ∷ []) new
    → (mid : List NamedRow) × IsAfterChanges old cs mid × IsAfterChange mid c new
changes_more old [] c new a = (old, refl, subst (IsAfterChange old c) (sym a.2) a.1)
changes_more old (d ∷ cs) c new a = let r = changes_more a.0 cs c new a.2 in (r.0, (a.0, a.1, r.1), r.2)

pub transactions_more : (old : List NamedRow) (ts : List (List NamedChange)) (cs : List NamedChange) (mid new : List NamedRow) → IsAfterTransactions old ts mid → IsAfterChanges mid cs new
    → IsAfterTransactions old (ts ++ cs ∷ []) new
transactions_more old [] cs mid new a b = (new, subst (λ (rows : List NamedRow). IsAfterChanges rows cs new) a b, refl)
transactions_more old (t ∷ ts) cs mid new a b = (a.0, a.1, transactions_more a.0 ts cs mid new a.2 b)

-- ---- there are some

-- the rows but this one
others : NamedRow → List NamedRow → List NamedRow
others r [] = []
others r (x ∷ xs) = elim (same_or_not x r) [ inl same ↦ others r xs | inr other ↦ x ∷ others r xs ]

others_are : (r : NamedRow) (xs : List NamedRow) (z : NamedRow) → Contains (others r xs) z → (z ≢ r) × Contains xs z
unfolding others
others_are r [] z c = absurd (omega (arith, c.1))
others_are r (x ∷ xs) z c = by (others_are r xs z) (same_or_not x r) c
  where
    later : (Contains (others r xs) z → (z ≢ r) × Contains xs z) → Contains (others r xs) z → (z ≢ r) × Contains (x ∷ xs) z
    later rest d = let h = rest d in (h.0, contains_later x xs z h.1)

    by : (Contains (others r xs) z → (z ≢ r) × Contains xs z) → (s : (x ≡ r) ⊎ (x ≢ r)) → Contains (elim s [ inl same ↦ others r xs | inr other ↦ x ∷ others r xs ]) z → (z ≢ r) × Contains (x ∷ xs) z
    by rest (inl same) d = later rest d
    by rest (inr other) d = elim (contains_cases x (others r xs) z d) [
      | inl is ↦ (λ f. other (sym is ∙ f), subst (Contains (x ∷ xs)) (sym is) (contains_first x xs))
      | inr f ↦ later rest f
    ]

others_there : (r : NamedRow) (xs : List NamedRow) (z : NamedRow) → z ≢ r → Contains xs z → Contains (others r xs) z
unfolding others
others_there r [] z other c = c
others_there r (x ∷ xs) z other c = by (others_there r xs z other) (same_or_not x r)
  where
    by : (Contains xs z → Contains (others r xs) z) → (s : (x ≡ r) ⊎ (x ≢ r)) → Contains (elim s [ inl same ↦ others r xs | inr other ↦ x ∷ others r xs ]) z
    by rest (inl same) = elim (contains_cases x xs z c) [
      | inl is ↦ absurd (other (is ∙ same))
      | inr d ↦ rest d
    ]
    by rest (inr kept) = elim (contains_cases x xs z c) [
      | inl is ↦ subst (Contains (x ∷ others r xs)) (sym is) (contains_first x (others r xs))
      | inr d ↦ contains_later x (others r xs) z (rest d)
    ]

-- the rows to which a change leads
pub change_leads : (old : List NamedRow) (c : NamedChange) → (new : List NamedRow) × IsAfterChange old c new
change_leads old c = by c.add refl
  where
    sorted : List NamedRow → List NamedRow
    sorted = in_order row_cmp row_total row_same

    added : (r : NamedRow) → Contains (c.row ∷ old) r → ((r ≡ c.row) × (true ≡ true)) ⊎ ((r ≢ c.row) × Contains old r)
    added r there = elim (same_or_not r c.row) [
      | inl same ↦ inl (same, refl)
      | inr other ↦ elim (contains_cases c.row old r there) [ inl is ↦ absurd (other is) | inr d ↦ inr (other, d) ]
    ]

    by : (b : Bool) → c.add ≡ b → (new : List NamedRow) × IsAfterChange old c new
    by true e = (
      sorted (c.row ∷ old),
      record {
        rising = in_order_rises row_cmp row_total row_same (c.row ∷ old);
        each = λ r. (
          λ there. subst (λ (b : Bool). ((r ≡ c.row) × (b ≡ true)) ⊎ ((r ≢ c.row) × Contains old r)) (sym e) (added r (from_order row_cmp row_total row_same (c.row ∷ old) r there)),
          λ either. into_order row_cmp row_total row_same (c.row ∷ old) r (elim either [
            | inl h ↦ subst (Contains (c.row ∷ old)) (sym h.0) (contains_first c.row old)
            | inr h ↦ contains_later c.row old r h.1
          ]),
        );
      },
    )
    by false e = (
      sorted (others c.row old),
      record {
        rising = in_order_rises row_cmp row_total row_same (others c.row old);
        each = λ r. (
          λ there. inr (others_are c.row old r (from_order row_cmp row_total row_same (others c.row old) r there)),
          λ either. into_order row_cmp row_total row_same (others c.row old) r (elim either [
            | inl h ↦ absurd (let f : false ≡ true = sym e ∙ h.1 in cc)
            | inr h ↦ others_there c.row old r h.0 h.1
          ]),
        );
      },
    )

pub changes_lead : (old : List NamedRow) (cs : List NamedChange) → (new : List NamedRow) × IsAfterChanges old cs new
changes_lead old [] = (old, refl)
changes_lead old (c ∷ cs) =
    let one = change_leads old c in
    let rest = changes_lead one.0 cs in
    (rest.0, (one.0, one.1, rest.1))
