-- What rows by number become when a change is made.
use Rattle.std.proofs.Common.{◌≡◌, ◌≢◌, inl, inr, ℕ, ◌+◌, ◌*◌, ◌≤◌, true, false, List, [], ◌∷◌, ◌++◌, All, AllPairs, Contains, Some, slice_get, get_or, length, take, ◌<◌, refl, sym, ◌∙◌, ap, subst, arith, append_assoc, length-append}
use Rattle.std.proofs.lemmas.List.{take_all, take_more}
use Rattle.std.proofs.lemmas.List.Elements.{All-push}
use Rattle.assert_tables.specs.Rows.{Gains, Loses}
use Rattle.dl_base.specs.Axiom.{with_names}
use Rattle.dl_base.specs.Numbers.{IsNamedBy, IsPlaceOf, NumbersRow, names_in}
use Rattle.dl_base.specs.Ontology.{Terminology, IsTerminology}
use Rattle.dl_base.specs.declared.row.NamedRow.{NamedRow}
use Rattle.dl_base.specs.declared.row.NamedRow.TheVariants as named
use Rattle.dl_base.specs.declared.row.NamedChange.{NamedChange}
use Rattle.dl_base.specs.declared.row.Row.{Row}
use Rattle.dl_base.proofs.NumberedRowLemmas.{names_keep_place, number_stays, one_name, one_number}
use Rattle.dl_base.proofs.PlaceLemmas.{member_at}
use Rattle.base_store.specs.Loading.{FollowsChange, FollowsChanges}
use Rattle.base_store.proofs.AfterChanges.{changes_more, same_or_not}

-- the ontology has the concept or the role at that place
pub place_named : (o : Terminology) (r : NamedRow) (place : ℕ) → IsPlaceOf o r place → IsNamedBy o r
place_named o (named.Concept c a) place at = member_at o.concepts place c at
place_named o (named.Role p a b) place at = member_at o.roles place p at

module _ (o : Terminology) (names : List (List ℕ)) (rows : List Row) (r : NamedRow) where
  -- a row that comes
  pub added_follows : (more : List (List ℕ)) (n : Row) (new_rows : List Row) → more ≡ with_names names (names_in r) → AllPairs (λ x y. x ≢ y) more
      → NumbersRow o more r n → Gains n rows new_rows → FollowsChange o (record { add = true; row = r }) names rows more new_rows
  added_follows more n new_rows is distinct number adds old new t after = record {
    distinct = distinct;
    each = λ s c. elim ((after.each s).0 c) [
      | inl h ↦ (n, (adds.each n).1 (inl refl), subst (λ (x : NamedRow). NumbersRow o more x n) (sym h.0) number)
      | inr h ↦ let found = t.each s h.1 in (found.0, (adds.each found.0).1 (inr found.1), number_stays o names more s found.0 keep found.2)
    ];
    only = λ m c. elim ((adds.each m).0 c) [
      | inl e ↦ (r, (after.each r).1 (inl (refl, refl)), subst (NumbersRow o more r) (sym e) number)
      | inr d ↦ let found = t.only m d in (found.0, stays found.0 found.1, number_stays o names more found.0 m keep found.2)
    ];
  }
    where
      keep : (k : ℕ) (x : List ℕ) → slice_get names k ≡ Some x → slice_get more k ≡ Some x
      keep k x at = subst (λ (xs : List (List ℕ)). slice_get xs k ≡ Some x) (sym is) (names_keep_place names (names_in r) k x at)

      stays : (s : NamedRow) → Contains old s → Contains new s
      stays s c = elim (same_or_not s r) [ inl same ↦ (after.each s).1 (inl (same, refl)) | inr other ↦ (after.each s).1 (inr (other, c)) ]

  -- a row that goes
  pub removed_follows : IsTerminology o → (n : Row) (new_rows : List Row) → NumbersRow o names r n → Loses n rows new_rows → FollowsChange o (record { add = false; row = r }) names rows names new_rows
  removed_follows is n new_rows number loses old new t after = record {
    distinct = t.distinct;
    each = λ s c. elim ((after.each s).0 c) [
      | inl h ↦ absurd (let e : false ≡ true = h.1 in cc)
      | inr h ↦ let found = t.each s h.1 in
          (found.0, (loses.each found.0).1 (λ e. h.0 (one_name o names s r n (subst (NumbersRow o names s) e found.2) number), found.1), found.2)
    ];
    only = λ m c.
        let there = (loses.each m).0 c in
        let found = t.only m there.1 in
        (found.0, (after.each found.0).1 (inr (λ e. there.0 (one_number o names r m n is t.distinct (subst (λ (x : NamedRow). NumbersRow o names x m) e found.2) number), found.1)), found.2);
  }

  -- a row that isn't there goes
  pub absent_follows : ((n : Row) → NumbersRow o names r n → ⊥) → FollowsChange o (record { add = false; row = r }) names rows names rows
  absent_follows none old new t after = record {
    distinct = t.distinct;
    each = λ s c. elim ((after.each s).0 c) [
      | inl h ↦ absurd (let e : false ≡ true = h.1 in cc)
      | inr h ↦ t.each s h.1
    ];
    only = λ m c.
        let found = t.only m c in
        (found.0, (after.each found.0).1 (inr (λ e. none m (subst (λ (x : NamedRow). NumbersRow o names x m) e found.2), found.1)), found.2);
  }

-- one change more
pub follows_more : (o : Terminology) (cs : List NamedChange) (c : NamedChange) (names mid_names more : List (List ℕ)) (rows mid_rows new_rows : List Row)
    → FollowsChanges o cs names rows mid_names mid_rows → FollowsChange o c mid_names mid_rows more new_rows → FollowsChanges o (cs ++ c ∷ []) names rows more new_rows
follows_more o cs c names mid_names more rows mid_rows new_rows first second old new t after =
    let mid = changes_more old cs c new after in
    second mid.0 new (first old mid.0 t mid.1) mid.2

-- the changes that were made, behind which these are left
pub record AreMade (o : Terminology) (all left : List NamedChange) (names : List (List ℕ)) (rows : List Row) (more : List (List ℕ)) (new_rows : List Row) : Type 0 where
  pub made : List NamedChange
  pub parts : all ≡ made ++ left
  pub few_names : length more ≤ length names + 2 * length made
  pub named : All (λ c. IsNamedBy o c.row) made
  pub follow : FollowsChanges o made names rows more new_rows

pub one_made : (o : Terminology) (all left : List NamedChange) (c : NamedChange) (names mid_names more : List (List ℕ)) (rows mid_rows new_rows : List Row) → AreMade o all (c ∷ left) names rows mid_names mid_rows
    → length more ≤ 2 + length mid_names → IsNamedBy o c.row → FollowsChange o c mid_names mid_rows more new_rows → AreMade o all left names rows more new_rows
one_made o all left c names mid_names more rows mid_rows new_rows m few named follow = record {
  made = m.made ++ c ∷ [];
  parts = m.parts ∙ sym (append_assoc m.made (c ∷ []) left);
  few_names = omega (arith, m.few_names, few, length-append m.made (c ∷ []));
  named = All-push (λ d. IsNamedBy o d.row) m.made c m.named named;
  follow = follows_more o m.made c names mid_names more rows mid_rows new_rows m.follow follow;
}

-- one of the changes more
pub follows_item : (o : Terminology) (cs : List NamedChange) (i : ℕ) (c : NamedChange) (names mid_names more : List (List ℕ)) (rows mid_rows new_rows : List Row) → i < length cs → c ≡ get_or cs i c
    → FollowsChanges o (take i cs) names rows mid_names mid_rows → FollowsChange o c mid_names mid_rows more new_rows → FollowsChanges o (take (i + 1) cs) names rows more new_rows
follows_item o cs i c names mid_names more rows mid_rows new_rows less is first second =
    let all : take i cs ++ c ∷ [] ≡ take (i + 1) cs = ap (λ (x : NamedChange). take i cs ++ x ∷ []) is ∙ sym (take_more cs i c less) in
    subst (λ (xs : List NamedChange). FollowsChanges o xs names rows more new_rows) all (follows_more o (take i cs) c names mid_names more rows mid_rows new_rows first second)

pub follows_all : (o : Terminology) (cs : List NamedChange) (i : ℕ) (names more : List (List ℕ)) (rows new_rows : List Row) → length cs ≤ i
    → FollowsChanges o (take i cs) names rows more new_rows → FollowsChanges o cs names rows more new_rows
follows_all o cs i names more rows new_rows over follows = subst (λ (xs : List NamedChange). FollowsChanges o xs names rows more new_rows) (take_all i cs over) follows
