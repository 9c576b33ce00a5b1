-- Laws of the elements that rows give.
use Rattle.std.proofs.Common.{◌≡◌, ◌≢◌, ◌↔◌, ℕ, suc, ◌+◌, ◌<◌, ◌≤◌, ◌⊎◌, inl, inr, Bool, true, false, List, [], ◌∷◌, ◌++◌, length, map, take, get_or, AllPairs, Contains, Option, Some, None, refl, sym, ◌∙◌, ap, subst, arith}
use Rattle.std.specs.Bool.{OnTrue, OnFalse}
use mir.Val.{bool_byte}
use Rattle.std.specs.declared.cmp.Ordering.{Ordering}
use Rattle.std.specs.declared.cmp.Ordering.TheVariants.{Less, Equal, Greater}
use Rattle.std.proofs.lemmas.List.Elements.{Contains-append_left, Contains-push}
use Rattle.dl_base.specs.Tables.{AreCounted, ConceptRow, HasEdge, IsAbove, IsIn, IsLeastAbove, RoleRow, TableRow, edge_row, elem_cmp}
use Rattle.dl_base.specs.declared.concept.Basic.{Basic}
use Rattle.dl_base.specs.declared.concept.Basic.TheVariants as basic
use Rattle.dl_base.specs.declared.concept.Role.{Role}
use Rattle.dl_base.specs.declared.element.Elem.{Elem}
use Rattle.dl_base.proofs.ElemLemmas.{elem_total, elem_same, upto_trans}
use Rattle.dl_base.proofs.PlaceLemmas.{map_contains, map_from, member_at, some_same}
use Rattle.dl_base.proofs.RowLemmas.{contains_cut}
use Rattle.std.proofs.lemmas.List.Kept.{AllPairs-cons}
use Rattle.std.proofs.lemmas.Option.{slice_get-get_or}
use Rattle.dl_base.proofs.RisingLemmas.{contains_cases, contains_first, contains_later}
use Rattle.listed_tables.specs.Listed.{GivesElem, IsGivenBy, IsLower, table_row}
use Rattle.listed_tables.specs.declared.sought.Sought.{Sought}
use Rattle.listed_tables.specs.declared.sought.Sought.TheVariants as sought
use Rattle.listed_tables.specs.declared.tables.ListedRow.{ListedRow}

module _ (s : Sought) (rows : List ListedRow) (r : ListedRow) where
  -- ---- one more row

  given_cut : (e : Elem) → IsGivenBy s (rows ++ r ∷ []) e → GivesElem s e r ⊎ IsGivenBy s rows e
  given_cut e (q, c, gives) = elim (contains_cut rows r q c) [
    | inl same ↦ inl (subst (GivesElem s e) same gives)
    | inr there ↦ inr (q, there, gives)
  ]

  given_last : (e : Elem) → GivesElem s e r → IsGivenBy s (rows ++ r ∷ []) e
  given_last e gives = (r, Contains-push rows r, gives)

  given_stays : (e : Elem) → IsGivenBy s rows e → IsGivenBy s (rows ++ r ∷ []) e
  given_stays e (q, c, gives) = (q, Contains-append_left rows (r ∷ []) q c, gives)

  module _ (after : Option Elem) where
    -- a row that gives nothing above the bound changes nothing
    pub least_stays : (least : Option Elem) → ((e : Elem) → GivesElem s e r → IsAbove after e → ⊥) → IsLeastAbove (IsGivenBy s rows) after least → IsLeastAbove (IsGivenBy s (rows ++ r ∷ [])) after least
    least_stays least nothing h = by least h
      where
        by : (l : Option Elem) → IsLeastAbove (IsGivenBy s rows) after l → IsLeastAbove (IsGivenBy s (rows ++ r ∷ [])) after l
        by None has = λ e given above. elim (given_cut e given) [ inl gives ↦ nothing e gives above | inr there ↦ has e there above ]
        by (Some l) has = (
          given_stays l has.0,
          has.1,
          λ e given above. elim (given_cut e given) [
            | inl gives ↦ absurd (nothing e gives above)
            | inr there ↦ has.2 e there above
          ],
        )

    -- one that gives an element above it gives the lower one of the two
    pub least_lower : (least : Option Elem) (x found : Elem) → ((e : Elem) → (Some x ≡ Some e) ↔ GivesElem s e r) → IsAbove after x → IsLower least x found
        → IsLeastAbove (IsGivenBy s rows) after least → IsLeastAbove (IsGivenBy s (rows ++ r ∷ [])) after (Some found)
    least_lower least x found gives above lower h = (
      (first lower.one).0,
      (first lower.one).1,
      λ e given beyond. elim (given_cut e given) [
        | inl by_row ↦ subst (λ (w : Elem). elem_cmp found w ≢ Greater) (some_same ((gives e).1 by_row)) lower.not_above
        | inr there ↦ before least refl e there beyond
      ],
    )
      where
        first : (least ≡ Some found) ⊎ (found ≡ x) → IsGivenBy s (rows ++ r ∷ []) found × IsAbove after found
        first (inl same) = let has = subst (IsLeastAbove (IsGivenBy s rows) after) same h in (given_stays found has.0, has.1)
        first (inr same) = (given_last found ((gives found).0 (ap Some (sym same))), subst (IsAbove after) (sym same) above)

        before : (l : Option Elem) → least ≡ l → (e : Elem) → IsGivenBy s rows e → IsAbove after e → elem_cmp found e ≢ Greater
        before None is e there beyond = let has = subst (IsLeastAbove (IsGivenBy s rows) after) is h in absurd (has e there beyond)
        before (Some l) is e there beyond =
            let has = subst (IsLeastAbove (IsGivenBy s rows) after) is h in
            upto_trans found l e (lower.not_above_least l is) (has.2 e there beyond)

  -- ---- how many there are

  pub one_more : (n : ℕ) (x : Elem) → GivesElem s x r → ((e : Elem) → GivesElem s e r → e ≡ x) → (IsGivenBy s rows x → ⊥) → AreCounted (IsGivenBy s rows) n → AreCounted (IsGivenBy s (rows ++ r ∷ [])) (n + 1)
  one_more n x gives only new h = record {
    members = x ∷ h.members;
    distinct = AllPairs-cons (λ e f. e ≢ f) x h.members (λ i d below same. new (subst (IsGivenBy s rows) (sym same) ((h.each (get_or h.members i d)).0 (member_at h.members i (get_or h.members i d) (slice_get-get_or h.members i d below))))) h.distinct;
    each = λ e. (
      λ c. elim (contains_cases x h.members e c) [
        | inl same ↦ given_last e (subst (λ (w : Elem). GivesElem s w r) (sym same) gives)
        | inr there ↦ given_stays e ((h.each e).0 there)
      ],
      λ given. elim (given_cut e given) [
        | inl by_row ↦ subst (Contains (x ∷ h.members)) (sym (only e by_row)) (contains_first x h.members)
        | inr there ↦ contains_later x h.members e ((h.each e).1 there)
      ],
    );
    number = let same : n ≡ length h.members = h.number in omega arith;
  }

  pub as_many : (n : ℕ) → ((e : Elem) → GivesElem s e r → IsGivenBy s rows e) → AreCounted (IsGivenBy s rows) n → AreCounted (IsGivenBy s (rows ++ r ∷ [])) n
  as_many n old h = record {
    members = h.members;
    distinct = h.distinct;
    each = λ e. (
      λ c. given_stays e ((h.each e).0 c),
      λ given. (h.each e).1 (elim (given_cut e given) [ inl by_row ↦ old e by_row | inr there ↦ there ]),
    );
    number = h.number;
  }

  pub counted_more : (n add : ℕ) (fresh : Bool) → add ≡ bool_byte fresh
      → OnTrue fresh ((x : Elem) × GivesElem s x r × ((e : Elem) → GivesElem s e r → e ≡ x) × (IsGivenBy s rows x → ⊥))
      → OnFalse fresh ((e : Elem) → GivesElem s e r → IsGivenBy s rows e)
      → AreCounted (IsGivenBy s rows) n → AreCounted (IsGivenBy s (rows ++ r ∷ [])) (n + add)
  counted_more n add true is new old h =
      let found = new in
      subst (λ (k : ℕ). AreCounted (IsGivenBy s (rows ++ r ∷ [])) (n + k)) (sym is) (one_more n found.0 found.1 found.2 found.3 h)
  counted_more n add false is new old h = subst (AreCounted (IsGivenBy s (rows ++ r ∷ []))) (omega (arith, is)) (as_many n old h)

pub byte_upto : (b : Bool) → bool_byte b ≤ 1
byte_upto false = omega arith
byte_upto true = omega arith

-- ---- what is given is what the tables have

pub members_given : (rows : List ListedRow) (c : ℕ) (e : Elem) → IsGivenBy (sought.Members c) rows e ↔ Contains (map table_row rows) (ConceptRow c e)
members_given rows c e = (
  λ g. subst (Contains (map table_row rows)) g.2 (map_contains table_row rows g.0 g.1),
  λ there. let found = map_from table_row rows (ConceptRow c e) there in (found.0, found.1, sym found.2),
)

pub targets_given : (rows : List ListedRow) (p : Role) (from e : Elem) → IsGivenBy (sought.Targets p from) rows e ↔ Contains (map table_row rows) (edge_row p from e)
targets_given rows p from e = (
  λ g. subst (Contains (map table_row rows)) g.2 (map_contains table_row rows g.0 g.1),
  λ there. let found = map_from table_row rows (edge_row p from e) there in (found.0, found.1, sym found.2),
)

pub sources_given : (rows : List ListedRow) (p : Role) (e : Elem) → IsGivenBy (sought.Sources p) rows e ↔ HasEdge (map table_row rows) p e
sources_given rows p e = (
  λ g. (g.2.0, subst (Contains (map table_row rows)) g.2.1 (map_contains table_row rows g.0 g.1)),
  λ has. let found = map_from table_row rows (edge_row p e has.0) has.1 in (found.0, found.1, (has.0, sym found.2)),
)

pub least_same : (P Q : Elem → Type 0) → ((e : Elem) → P e ↔ Q e) → (after least : Option Elem) → IsLeastAbove P after least → IsLeastAbove Q after least
least_same P Q same after least = by least
  where
    by : (l : Option Elem) → IsLeastAbove P after l → IsLeastAbove Q after l
    by None h = λ e q above. h e ((same e).1 q) above
    by (Some l) h = ((same l).0 h.0, h.1, λ e q above. h.2 e ((same e).1 q) above)

pub counted_same : (P Q : Elem → Type 0) → ((e : Elem) → P e ↔ Q e) → (n : ℕ) → AreCounted P n → AreCounted Q n
counted_same P Q same n h = record {
  members = h.members;
  distinct = h.distinct;
  each = λ e. (λ c. (same e).0 ((h.each e).0 c), λ q. (h.each e).1 ((same e).1 q));
  number = h.number;
}
