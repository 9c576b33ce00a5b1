-- What tree witnesses say of the elements by level.
use Rattle.std.proofs.Common.{◌≡◌, ◌<◌, ◌+◌, ◌++◌, inl, inr, ℕ, Bool, true, List, [], ◌∷◌, Option, Some, None, length, take, get_or, slice_get, slice_index, All, Contains, sym, ap, ◌∙◌, subst, arith, append_assoc}
use Rattle.std.proofs.lemmas.List.Elements.{All-contains, Contains-append_cases, Contains-append_left, Contains-push, Contains-push_cases}
use Rattle.std.proofs.lemmas.List.{append-nil, length-map, take_more}
use Rattle.std.specs.Prelude.{MatchOption}
use Rattle.std.specs.Bool.{◌==◌}
use Rattle.dl_base.specs.Tables.{TableRow, IsWitnessOf}
use Rattle.dl_base.specs.declared.element.Elem.{Elem}
use Rattle.dl_base.proofs.PlaceLemmas.{some_same, something_at}
use Rattle.query_shape.specs.TreeWitness.{IsOn}
use Rattle.tree_witness.specs.Trees.{IsEntryBelow, IsTreeBelow, PassesEntry, TopAgrees}
use Rattle.tree_witness.specs.declared.tree.ReachedTerm.{ReachedTerm}
use Rattle.tree_witness.specs.declared.trees.TreeEntry.{TreeEntry}
use Rattle.join_ops.specs.Conditions.{AreTwins, IsUnder, Meets}
use Rattle.join_ops.specs.Orders.{AreLevelsIn, images_of}
use Rattle.join_ops.specs.Planned.{AddsTwins, AreTwinsBy, IsTopBy, twins_of}
use Rattle.join_ops.specs.declared.condition.Condition.{Condition}
use Rattle.join_ops.proofs.ImageLemmas.{back_and_forth, image_same, levels_within}

-- ---- conditions that are put behind others

nothing : (c : Condition) → Contains [] c → ⊥
nothing c there = let below = there.1 in omega (arith, below)

pub adds_none : (Kind : Condition → Type 0) (old : List Condition) → AddsTwins Kind old old
adds_none Kind old = ([], sym (append-nil old), λ c there. absurd (nothing c there))

pub adds_one : (Kind : Condition → Type 0) (old new : List Condition) (c : Condition) → AddsTwins Kind old new → Kind c → AddsTwins Kind old (new ++ c ∷ [])
adds_one Kind old new c (more, is, kinds) kind = (
  more ++ c ∷ [],
  ap (λ (l : List Condition). l ++ c ∷ []) is ∙ append_assoc old more (c ∷ []),
  λ d there. elim (Contains-push_cases more c d there) [ inl old ↦ kinds d old | inr same ↦ subst Kind same kind ],
)

pub adds_wider : (Kind Wider : Condition → Type 0) (old new : List Condition) → ((c : Condition) → Kind c → Wider c) → AddsTwins Kind old new → AddsTwins Wider old new
adds_wider Kind Wider old new wider (more, is, kinds) = (more, is, λ c there. wider c (kinds c there))

pub adds_both : (Kind : Condition → Type 0) (old between new : List Condition) → AddsTwins Kind old between → AddsTwins Kind between new → AddsTwins Kind old new
adds_both Kind old between new (first, first_is, first_kinds) (last, last_is, last_kinds) = (
  first ++ last,
  last_is ∙ ap (λ (l : List Condition). l ++ last) first_is ∙ append_assoc old first last,
  λ c there. elim (Contains-append_cases first last c there) [ inl there ↦ first_kinds c there | inr there ↦ last_kinds c there ],
)

pub no_roles : {X : Type 0} (xs ys : List X) (b : Bool) → b ≡ true → b ≡ (length xs == 0) → xs ≡ ys → ys ≡ []
no_roles [] ys b empty is same = sym same
no_roles (x ∷ xs) ys b empty is same = absurd (grind (arith, empty, is))

-- the twins of one entry more
module _ (levels : List ℕ) (entries : List TreeEntry) (i : ℕ) (e : TreeEntry) (below : i < length entries) (at : e ≡ get_or entries i e) where
  entry_there : Contains (take (i + 1) entries) e
  entry_there = subst (λ (l : List TreeEntry). Contains l e) (sym (take_more entries i e below)) (subst (λ (f : TreeEntry). Contains (take i entries ++ f ∷ []) e) at (Contains-push (take i entries) e))

  entry_stays : (f : TreeEntry) → Contains (take i entries) f → Contains (take (i + 1) entries) f
  entry_stays f there = subst (λ (l : List TreeEntry). Contains l f) (sym (take_more entries i e below)) (Contains-append_left (take i entries) (get_or entries i e ∷ []) f there)

  twins_stay : (c : Condition) → AreTwinsBy levels (take i entries) c → AreTwinsBy levels (take (i + 1) entries) c
  twins_stay c (f, tree, there, is, top) = (f, tree, entry_stays f there, is, top)

  pub entry_without : (old new : List Condition) → AddsTwins (AreTwinsBy levels (take i entries)) old new → AddsTwins (AreTwinsBy levels (take (i + 1) entries)) old new
  entry_without old new adds = adds_wider (AreTwinsBy levels (take i entries)) (AreTwinsBy levels (take (i + 1) entries)) old new twins_stay adds

  pub entry_with : (tree : List ReachedTerm) (old between new : List Condition) → e.tree ≡ Some tree → AddsTwins (AreTwinsBy levels (take i entries)) old between → AddsTwins (IsTopBy levels e.atom tree) between new
      → AddsTwins (AreTwinsBy levels (take (i + 1) entries)) old new
  entry_with tree old between new is before tops =
      adds_both (AreTwinsBy levels (take (i + 1) entries)) old between new (entry_without old between before)
      (adds_wider (IsTopBy levels e.atom tree) (AreTwinsBy levels (take (i + 1) entries)) between new (λ c top. (e, tree, entry_there, is, top)) tops)

-- ---- the twins of trees

-- the terms of a tree that there is are below the number
pub tree_below : (count : ℕ) (tree : Option (List ReachedTerm)) (list : List ReachedTerm) → tree ≡ Some list → IsTreeBelow count tree → All (λ h. h.term < count) list
tree_below count (Some known) list is below = subst (λ (l : List ReachedTerm). All (λ h. h.term < count) l) (some_same is) below
tree_below count None list is below = absurd (let no = is in cc)

tree_agrees : (images : List Elem) (t : ℕ) (tree : Option (List ReachedTerm)) (list : List ReachedTerm) → tree ≡ Some list → MatchOption tree ⊥ (All (TopAgrees images t)) → All (TopAgrees images t) list
tree_agrees images t (Some known) list is agrees = subst (λ (l : List ReachedTerm). All (TopAgrees images t) l) (some_same is) agrees
tree_agrees images t None list is agrees = absurd agrees

module _ (order levels : List ℕ) (are : AreLevelsIn order levels) (entries : List TreeEntry) (below : All (IsEntryBelow (length levels)) entries) where
  terms_below : (e : TreeEntry) (tree : List ReachedTerm) (h : ReachedTerm) → Contains entries e → e.tree ≡ Some tree → Contains tree h → h.term < length levels
  terms_below e tree h there is has = All-contains (λ (h : ReachedTerm). h.term < length levels) tree h (tree_below (length levels) e.tree tree is (All-contains (IsEntryBelow (length levels)) entries e below there).1) has

  -- twins speak of levels that there are
  pub twins_under : (c : Condition) → AreTwinsBy levels entries c → IsUnder (length order) c
  twins_under c (e, tree, there, is, (h, has, top, same)) =
      let within = levels_within order levels are in
      let entry = All-contains (IsEntryBelow (length levels)) entries e below there in
      subst (IsUnder (length order)) (sym same) (within e.atom.from 0 entry.0.0, within e.atom.to 0 entry.0.1, within h.term 0 (terms_below e tree h there is has))

  -- where images pass, the elements of the levels meet each of the twins
  pub twins_met : (table : List TableRow) (images : List Elem) → length images ≡ length levels → All (PassesEntry images) entries
      → (c : Condition) → AreTwinsBy levels entries c → Meets table (images_of order images) c
  twins_met table images long passes c (e, tree, there, is, (h, has, top, same)) =
      subst (Meets table (images_of order images)) (sym same) twins
    where
      entry : IsEntryBelow (length levels) e
      entry = All-contains (IsEntryBelow (length levels)) entries e below there

      elements : List Elem
      elements = images_of order images

      at_level : (term : ℕ) → term < length levels → slice_get elements (slice_index levels term) ≡ slice_get images term
      at_level term within =
          let whole : length elements ≡ length order = length-map order _ in
          let all_within : All (λ level. level < length elements) levels = subst (λ (n : ℕ). All (λ level. level < n) levels) (sym whole) (levels_within order levels are) in
          sym (image_same levels elements term within all_within) ∙ ap (λ (l : List Elem). slice_get l term) (back_and_forth order levels are images long)

      parent : (x : Elem) × (slice_get images e.atom.from ≡ Some x)
      parent = something_at images e.atom.from (omega (arith, entry.0.0, long))

      child : (x : Elem) × (slice_get images e.atom.to ≡ Some x)
      child = something_at images e.atom.to (omega (arith, entry.0.1, long))

      twin_within : h.term < length levels
      twin_within = terms_below e tree h there is has

      twin : (x : Elem) × (slice_get images h.term ≡ Some x)
      twin = something_at images h.term (omega (arith, twin_within, long))

      one : IsWitnessOf e.atom.role child.0 → twin.0 ≡ parent.0
      one witness =
          let on : IsOn images e.atom.role e.atom.to = (witness.0, child.1 ∙ ap Some witness.1, witness.2) in
          let agrees = tree_agrees images e.atom.from e.tree tree is (All-contains (PassesEntry images) entries e passes there on) in
          some_same (sym twin.1 ∙ All-contains (TopAgrees images e.atom.from) tree h agrees has top ∙ parent.1)

      twins : AreTwins (twins_of levels e.atom h) elements
      twins = record {
        parent = parent.0;
        child = child.0;
        twin = twin.0;
        parent_is = at_level e.atom.from entry.0.0 ∙ parent.1;
        child_is = at_level e.atom.to entry.0.1 ∙ child.1;
        twin_is = at_level h.term twin_within ∙ twin.1;
        one = one;
      }
