-- What a search by a plan has left once it went on.
use Rattle.std.proofs.Common.{◌≡◌, ◌≢◌, ◌↔◌, ◌<◌, ◌⊎◌, inl, inr, ℕ, zero, suc, Bool, true, false, Option, List, [], ◌∷◌, Some, length, map, min, take, slice_get, All, AllPairs, Contains, ◌++◌, refl, sym, ap, ◌∙◌, subst, arith}
use Rattle.std.specs.Cmp.Lexicographic.{slice_cmp}
use Rattle.std.specs.declared.cmp.Ordering.{Ordering}
use Rattle.std.specs.declared.cmp.Ordering.TheVariants.{Less, Equal, Greater}
use Rattle.std.proofs.lemmas.Cmp.{tied_itself}
use Rattle.std.proofs.lemmas.List.{append-nil, length-map, length-take}
use Rattle.std.proofs.lemmas.Option.{slice_get_within}
use Rattle.dl_base.specs.Tables.{TableRow, elem_cmp}
use Rattle.dl_base.specs.declared.element.Elem.{Elem}
use Rattle.dl_base.proofs.ElemLemmas.{elem_same}
use Rattle.dl_base.proofs.PlaceLemmas.{map_contains, map_from, place_of}
use Rattle.dl_base.proofs.RisingLemmas.{contains_first, slice_same}
use Rattle.join_ops.specs.Joins.{SearchPlace, Search, HasAllLeft, Behind, AreLeft, Advances, IsFixed, IsFound, IsLast, StandsBehindFirst, SkipsAlike}
use Rattle.query_shape.specs.Shape.{Layout, IsLayout, IsShapeMatch}
use Rattle.join_plan.specs.Plans.{IsPlanOf}
use Rattle.join_plan.specs.declared.steps.Step.{Step}
use Rattle.tree_witness.specs.Trees.{IsEntryBelow, Trees}
use Rattle.join_ops.specs.Conditions.{IsUnder, Meets}
use Rattle.join_ops.specs.Levels.{AreOnLevels}
use Rattle.join_ops.specs.Matching.{AreMatches, ArePassing, GoesTo, HasMatchesLeft, PlannedSearch, SkipsAgreeing}
use Rattle.join_ops.specs.Orders.{AgreeUpTo, AreLevelsBy, fixed_in, images_of}
use Rattle.join_ops.specs.Planned.{AddsTwins, AreLeveled, AreTwinsBy, BeginsBy, leveled_atoms}
use Rattle.join_ops.specs.declared.condition.Condition.{Condition}
use Rattle.join_ops.specs.declared.order.Leveled.{Leveled}
use Rattle.join_ops.proofs.ImageLemmas.{image_at, images_apart, levels_count, levels_cover, levels_within, match_there, on_levels, only_matches, same_elements}
use Rattle.join_ops.proofs.TwinLemmas.{twins_met, twins_under}
use Rattle.join_ops.proofs.LeftLemmas.{images_total}

-- what is left to another search over the same levels
still_left : (table : List TableRow) (m : PlannedSearch) (left : List (List Elem)) → HasMatchesLeft table m left → (search : Search) → search.fixed ≡ m.search.fixed → (rest : List (List Elem)) → AreLeft table search rest
    → HasMatchesLeft table (record { levels = m.levels; search = search }) (map (images_of m.levels) rest)
still_left table m left has search same rest goes_on = record {
  by_level = rest;
  are = refl;
  goes_on = goes_on;
  count = has.count ∙ ap length (sym same);
  covers = λ level below. has.covers level (subst (λ (l : List (Option ℕ)). level < length l) same below);
}

pub goes_to : (table : List TableRow) (m : PlannedSearch) (left : List (List Elem)) → HasMatchesLeft table m left → (search : Search) → search.fixed ≡ m.search.fixed → (found : Bool) → ((rest : List (List Elem)) → AreLeft table m.search rest → Advances table rest found search)
    → GoesTo table m.search.place left found (record { levels = m.levels; search = search })
goes_to table m left has search same true advances =
    let next : StandsBehindFirst table has.by_level search = advances has.by_level has.goes_on in
    record {
      elements = next.images;
      others = map (images_of m.levels) next.others;
      first = has.are ∙ ap (map (images_of m.levels)) next.first;
      behind = ((has.goes_on.each next.images).0 (subst (λ (l : List (List Elem)). Contains l next.images) (sym next.first) (contains_first next.images next.others))).1;
      stands = next.stands;
      goes_on = still_left table m left has search same next.others next.goes_on;
    }
goes_to table m left has search same false advances =
    let none = advances has.by_level has.goes_on in
    (has.are ∙ ap (map (images_of m.levels)) none.0, still_left table m left has search same [] none.1)

-- ---- what agrees

same_or_not : (xs ys : List Elem) → (xs ≡ ys) ⊎ (xs ≢ ys)
same_or_not xs ys = by (slice_cmp elem_cmp xs ys) refl
  where
    tied : xs ≡ ys → slice_cmp elem_cmp xs ys ≡ Equal
    tied same = subst (λ (l : List Elem). slice_cmp elem_cmp xs l ≡ Equal) same (tied_itself images_total xs)

    by : (r : Ordering) → slice_cmp elem_cmp xs ys ≡ r → (xs ≡ ys) ⊎ (xs ≢ ys)
    by Less e = inr (λ same. let both : Less ≡ Equal = sym e ∙ tied same in cc)
    by Equal e = inl (slice_same elem_cmp elem_same xs ys e)
    by Greater e = inr (λ same. let both : Greater ≡ Equal = sym e ∙ tied same in cc)

get_taken : (n k : ℕ) (xs : List Elem) → k < n → slice_get (take n xs) k ≡ slice_get xs k
get_taken zero k xs below = absurd (omega (arith, below))
get_taken (suc n) k [] below = refl
get_taken (suc n) zero (x ∷ xs) below = refl
get_taken (suc n) (suc k) (x ∷ xs) below = get_taken n k xs (omega (arith, below))

taken_within : (n k : ℕ) (xs : List Elem) (x : Elem) → slice_get (take n xs) k ≡ Some x → k < n
taken_within n k xs x at = let within = slice_get_within (take n xs) k x at in omega (arith, within, length-take n xs)

module _ (levels : List ℕ) (count : ℕ) (within : (term level : ℕ) → slice_get levels term ≡ Some level → level < count) (covers : (level : ℕ) → level < count → Contains levels level) where
  -- the same elements on the first levels make the images agree
  agree_of : (n : ℕ) (xs ys : List Elem) → length xs ≡ count → length ys ≡ count → take n xs ≡ take n ys → AgreeUpTo levels n (images_of levels xs) (images_of levels ys)
  agree_of n xs ys long_xs long_ys same term level at below =
      let inside = within term level at in
      image_at levels xs term level at (omega (arith, inside, long_xs)) ∙ sym (get_taken n level xs below) ∙ ap (λ (l : List Elem). slice_get l level) same ∙ get_taken n level ys below ∙ sym (image_at levels ys term level at (omega (arith, inside, long_ys)))

  of_agree : (n : ℕ) (xs ys : List Elem) → length xs ≡ count → length ys ≡ count → AgreeUpTo levels n (images_of levels xs) (images_of levels ys) → take n xs ≡ take n ys
  of_agree n xs ys long_xs long_ys agree = same_elements (take n xs) (take n ys) (length-take n xs ∙ ap (min n) (long_xs ∙ sym long_ys) ∙ sym (length-take n ys)) each
    where
      each : (k : ℕ) (x : Elem) → slice_get (take n xs) k ≡ Some x → slice_get (take n ys) k ≡ Some x
      each k x at =
          let below : k < n = taken_within n k xs x at in
          let here : slice_get xs k ≡ Some x = sym (get_taken n k xs below) ∙ at in
          let inside : k < count = (let i = slice_get_within xs k x here in omega (arith, i, long_xs)) in
          let term = covers k inside in
          let on : slice_get levels term.0 ≡ Some k = place_of levels k term in
          get_taken n k ys below ∙ sym (image_at levels ys term.0 k on (omega (arith, inside, long_ys))) ∙ sym (agree term.0 k on below) ∙ image_at levels xs term.0 k on (omega (arith, inside, long_xs)) ∙ here

pub skips_agreeing : (table : List TableRow) (m : PlannedSearch) (left : List (List Elem)) → HasMatchesLeft table m left → ((term level : ℕ) → slice_get m.levels term ≡ Some level → level < length m.search.fixed)
    → (search : Search) → search.fixed ≡ m.search.fixed → (n : ℕ) (last : List Elem) → m.search.place ≡ Behind last
    → ((rest : List (List Elem)) → AreLeft table m.search rest → SkipsAlike table rest n last search) → SkipsAgreeing table left n last (record { levels = m.levels; search = search })
skips_agreeing table m left has within search same n last stands skips =
    record {
      others = map (images_of m.levels) done.others;
      stands = done.stands;
      goes_on = still_left table m left has search same done.others done.goes_on;
      kept = λ images c.
          let at = map_from (images_of m.levels) done.others images c in
          let was = (done.each at.0).0 at.1 in (
            subst (λ (l : List (List Elem)). Contains l images) (sym has.are) (subst (Contains (map (images_of m.levels) has.by_level)) (sym at.2) (map_contains (images_of m.levels) has.by_level at.0 was.0)),
            λ agree. was.1 (of_agree m.levels (length m.search.fixed) within has.covers n at.0 last (long at.0 was.0) last_long (subst (λ (l : List Elem). AgreeUpTo m.levels n l (images_of m.levels last)) at.2 agree)),
          );
      out = λ images c.
          let at = map_from (images_of m.levels) has.by_level images (subst (λ (l : List (List Elem)). Contains l images) has.are c) in
          elim (same_or_not (take n at.0) (take n last)) [
            | inl alike ↦ inr (subst (λ (l : List Elem). AgreeUpTo m.levels n l (images_of m.levels last)) (sym at.2) (agree_of m.levels (length m.search.fixed) within has.covers n at.0 last (long at.0 at.1) last_long alike))
            | inr apart ↦ inl (subst (Contains (map (images_of m.levels) done.others)) (sym at.2) (map_contains (images_of m.levels) done.others at.0 ((done.each at.0).1 (at.1, apart))))
          ];
    }
  where
    done : SkipsAlike table has.by_level n last search
    done = skips has.by_level has.goes_on

    long : (xs : List Elem) → Contains has.by_level xs → length xs ≡ length m.search.fixed
    long xs c = ((has.goes_on.each xs).0 c).0.count

    last_long : length last ≡ length m.search.fixed
    last_long = of m.search.place stands has.goes_on.last
      where
        of : (place : SearchPlace) → place ≡ Behind last → IsLast table m.search.conditions m.search.fixed place → length last ≡ length m.search.fixed
        of place is was = (subst (IsLast table m.search.conditions m.search.fixed) is was).count

-- ---- what a search by a plan begins with

module _ (s : Layout) (steps : List Step) (layout : IsLayout s) (plan : IsPlanOf s steps) (fixed : List (Option ℕ)) (long : length fixed ≡ length s.terms) (l : Leveled) (are : AreLeveled steps fixed l) where
  whole : length l.fixed.items ≡ length are.order
  whole = ap length are.fixed_are ∙ length-map are.order _

  pub leveled_count : length l.levels ≡ length l.fixed.items
  leveled_count = are.levels_are.count ∙ sym whole

  pub leveled_within : All (λ level. level < length l.fixed.items) l.levels
  leveled_within = subst (λ (n : ℕ). All (λ level. level < n) l.levels) (sym whole) (levels_within are.order l.levels are.levels_are)

  pub leveled_terms : length l.levels ≡ length s.terms
  leveled_terms = levels_count s steps layout plan are.order l.levels are.firsts are.levels_are

  pub leveled_order : AreLevelsBy steps l.levels
  leveled_order = record { order = are.order; firsts = are.firsts; levels_are = are.levels_are }

  module _ (more : List Condition) (under : (c : Condition) → Contains more c → IsUnder (length are.order) c) (conditions : List Condition) (adds : conditions ≡ l.conditions.items ++ more) where
    are_conditions : leveled_atoms l.levels steps ++ more ≡ conditions
    are_conditions = ap (λ (atoms : List Condition). atoms ++ more) (sym are.atoms_are) ∙ sym adds

    on_these : AreOnLevels (length l.fixed.items) conditions
    on_these = subst (λ (n : ℕ). AreOnLevels n conditions) (sym whole) (subst (AreOnLevels (length are.order)) are_conditions (on_levels s steps layout plan are.order l.levels are.firsts are.levels_are more under))

    -- the images of what is found are matches, each once, and each match that meets the other conditions is among them
    module _ (search : Search) (same : search.fixed ≡ l.fixed.items) (begins : HasAllLeft conditions l.fixed.items search) (table : List TableRow) where
      each : (elements : List Elem) → Contains (begins table).0 elements ↔ IsFound table (leveled_atoms l.levels steps ++ more) (fixed_in are.order fixed) elements
      each elements = subst (λ (os : List (Option ℕ)). Contains (begins table).0 elements ↔ IsFound table (leveled_atoms l.levels steps ++ more) os elements) are.fixed_are
          (subst (λ (cs : List Condition). Contains (begins table).0 elements ↔ IsFound table cs l.fixed.items elements) (sym are_conditions) ((begins table).3 elements))

      abbrev all_images : List (List Elem)
      all_images = map (images_of l.levels) (begins table).0

      all_left : HasMatchesLeft table (record { levels = l.levels; search = search }) all_images
      all_left = record {
        by_level = (begins table).0;
        are = refl;
        goes_on = (begins table).1;
        count = leveled_count ∙ ap length (sym same);
        covers = λ level below. levels_cover are.order l.levels are.levels_are level (subst (λ (n : ℕ). level < n) (ap length same ∙ whole) below);
      }

      all_apart : AllPairs (λ x y. x ≢ y) all_images
      all_apart = images_apart s steps layout plan are.order l.levels are.firsts are.levels_are more under table fixed long (begins table).0 (begins table).2 each

      all_matches : (images : List Elem) → Contains all_images images → IsShapeMatch table s images × IsFixed fixed images
      all_matches = only_matches s steps layout plan are.order l.levels are.firsts are.levels_are more under table fixed long (begins table).0 (begins table).2 each

      all_there : (images : List Elem) → IsShapeMatch table s images → IsFixed fixed images → ((c : Condition) → Contains more c → Meets table (images_of are.order images) c) → Contains all_images images
      all_there = match_there s steps layout plan are.order l.levels are.firsts are.levels_are more under table fixed long (begins table).0 (begins table).2 each

  no_one : (c : Condition) → Contains [] c → ⊥
  no_one c there = let below = there.1 in omega (arith, below)

  no_under : (c : Condition) → Contains [] c → IsUnder (length are.order) c
  no_under c there = absurd (no_one c there)

  no_more : l.conditions.items ≡ l.conditions.items ++ []
  no_more = sym (append-nil l.conditions.items)

  -- with the atoms alone
  pub atoms_on : AreOnLevels (length l.fixed.items) l.conditions.items
  atoms_on = on_these [] no_under l.conditions.items no_more

  begins_all : (search : Search) → search.fixed ≡ l.fixed.items → HasAllLeft l.conditions.items l.fixed.items search → (table : List TableRow)
      → (left : List (List Elem)) × HasMatchesLeft table (record { levels = l.levels; search = search }) left × AreMatches table s fixed left
  begins_all search same begins table = (
    all_images [] no_under l.conditions.items no_more search same begins table,
    all_left [] no_under l.conditions.items no_more search same begins table,
    record {
      distinct = all_apart [] no_under l.conditions.items no_more search same begins table;
      each = λ images. (
        all_matches [] no_under l.conditions.items no_more search same begins table images,
        λ h. all_there [] no_under l.conditions.items no_more search same begins table images h.0 h.1 (λ c there. absurd (no_one c there)),
      );
    },
  )

  pub begins_by : (m : PlannedSearch) → BeginsBy l m → (table : List TableRow) → (left : List (List Elem)) × HasMatchesLeft table m left × AreMatches table s fixed left
  begins_by m by table =
      subst (λ (levels : List ℕ). (left : List (List Elem)) × HasMatchesLeft table (record { levels = levels; search = m.search }) left × AreMatches table s fixed left) (sym by.levels_are)
      (begins_all m.search by.fixed_are by.begins table)

  -- and with the twins of trees besides
  module _ (trees : Trees) (terms : trees.terms ≡ length s.terms) (below : All (IsEntryBelow trees.terms) trees.entries) (conditions : List Condition) (adds : AddsTwins (AreTwinsBy l.levels trees.entries) l.conditions.items conditions) where
    entries_below : All (IsEntryBelow (length l.levels)) trees.entries
    entries_below = subst (λ (n : ℕ). All (IsEntryBelow n) trees.entries) (terms ∙ sym leveled_terms) below

    twins_are_under : (c : Condition) → Contains adds.0 c → IsUnder (length are.order) c
    twins_are_under c there = twins_under are.order l.levels are.levels_are trees.entries entries_below c (adds.2 c there)

    pub twins_on : AreOnLevels (length l.fixed.items) conditions
    twins_on = on_these adds.0 twins_are_under conditions adds.1

    begins_passing : (search : Search) → search.fixed ≡ l.fixed.items → HasAllLeft conditions l.fixed.items search → (table : List TableRow)
        → (left : List (List Elem)) × HasMatchesLeft table (record { levels = l.levels; search = search }) left × ArePassing table s trees fixed left
    begins_passing search same begins table = (
      all_images adds.0 twins_are_under conditions adds.1 search same begins table,
      all_left adds.0 twins_are_under conditions adds.1 search same begins table,
      record {
        distinct = all_apart adds.0 twins_are_under conditions adds.1 search same begins table;
        only = all_matches adds.0 twins_are_under conditions adds.1 search same begins table;
        all = λ images match fixed_are passes. all_there adds.0 twins_are_under conditions adds.1 search same begins table images match fixed_are
            (λ c there. twins_met are.order l.levels are.levels_are trees.entries entries_below table images (match.count ∙ sym leveled_terms) passes c (adds.2 c there));
      },
    )

    pub passing_by : (m : PlannedSearch) → m.levels ≡ l.levels → m.search.fixed ≡ l.fixed.items → HasAllLeft conditions l.fixed.items m.search → (table : List TableRow)
        → (left : List (List Elem)) × HasMatchesLeft table m left × ArePassing table s trees fixed left
    passing_by m levels_are fixed_are begins table =
        subst (λ (levels : List ℕ). (left : List (List Elem)) × HasMatchesLeft table (record { levels = levels; search = m.search }) left × ArePassing table s trees fixed left) (sym levels_are)
        (begins_passing m.search fixed_are begins table)
