-- Images of terms by number, of elements by level, and back.
use Rattle.std.proofs.Common.{◌≡◌, ◌≢◌, ◌↔◌, ◌<◌, inl, inr, ℕ, zero, suc, List, [], ◌∷◌, ◌++◌, Option, Some, None, length, map, get_or, slice_get, slice_index, slice_index_or, All, AllPairs, Contains, refl, sym, ap, ◌∙◌, subst, arith}
use Rattle.std.proofs.lemmas.List.{get_or-map, length-append, length-map}
use Rattle.std.proofs.lemmas.List.Elements.{Contains-append_cases, Contains-append_left, Contains-get_or}
use Rattle.std.proofs.lemmas.Option.{slice_get-get_or, slice_get_within, get_or_from_slice_get}
use Rattle.dl_base.specs.Tables.{TableRow}
use Rattle.dl_base.specs.declared.element.Elem.{Elem}
use Rattle.dl_base.specs.declared.element.Elem.TheVariants as elem
use Rattle.dl_base.proofs.PlaceLemmas.{map_contains, map_from, member_at, some_same, something_at}
use Rattle.query_shape.specs.Shape.{AreFirsts, Layout, IsLayout, IsShapeMatch, HoldsAt, IsBelow, IsTermOf}
use Rattle.query_shape.specs.declared.layout.ShapeAtom.{ShapeAtom}
use Rattle.query_shape.specs.declared.layout.ShapeAtom.TheVariants as shape
use Rattle.join_plan.specs.Plans.{IsPlanOf}
use Rattle.join_plan.specs.PlanLaws.{atom_of}
use Rattle.join_plan.specs.declared.steps.Step.{Step}
use Rattle.join_plan.proofs.LawLemmas.{matches_by_paths}
use Rattle.join_ops.specs.Joins.{IsFixed, IsFound}
use Rattle.join_ops.specs.Conditions.{IsUnder, Meets}
use Rattle.join_ops.specs.Levels.{AreOnLevels}
use Rattle.join_ops.specs.Orders.{AreLevelsIn, fixed_in, images_of, leveled, plan_terms}
use Rattle.join_ops.specs.Planned.{leveled_atoms}
use Rattle.join_ops.specs.declared.condition.Condition.{Condition}
use Rattle.join_ops.specs.declared.condition.Condition.TheVariants as condition
use Rattle.join_ops.proofs.OrderLemmas.{order_count, step_of, steps_below, steps_some}

-- lists of one length with the same elements
pub same_elements : {X : Type 0} (xs ys : List X) → length xs ≡ length ys → ((k : ℕ) (x : X) → slice_get xs k ≡ Some x → slice_get ys k ≡ Some x) → xs ≡ ys
same_elements [] [] long each = refl
same_elements [] (y ∷ ys) long each = absurd (omega (arith, long))
same_elements (x ∷ xs) [] long each = absurd (omega (arith, long))
same_elements (x ∷ xs) (y ∷ ys) long each =
    let head : y ≡ x = some_same (each 0 x refl) in
    let tail : xs ≡ ys = same_elements xs ys (omega (arith, long)) (λ k z at. each (suc k) z at) in
    λ j. (sym head) j ∷ tail j

mapped_at : {X Y : Type 0} (f : X → Y) (xs : List X) (k : ℕ) (x : X) → slice_get xs k ≡ Some x → slice_get (map f xs) k ≡ Some (f x)
mapped_at f [] k x at = absurd (let no = at in cc)
mapped_at f (y ∷ ys) zero x at = ap (λ z. Some (f z)) (some_same at)
mapped_at f (y ∷ ys) (suc k) x at = mapped_at f ys k x at

mapped_from : {X Y : Type 0} (f : X → Y) (xs : List X) (k : ℕ) (y : Y) → slice_get (map f xs) k ≡ Some y → (x : X) × (slice_get xs k ≡ Some x) × (f x ≡ y)
mapped_from f [] k y at = absurd (let no = at in cc)
mapped_from f (x ∷ xs) zero y at = (x, refl, some_same at)
mapped_from f (x ∷ xs) (suc k) y at = mapped_from f xs k y at

-- the image of a term is the element of its level
pub image_at : (levels : List ℕ) (elements : List Elem) (term level : ℕ) → slice_get levels term ≡ Some level → level < length elements → slice_get (images_of levels elements) term ≡ slice_get elements level
image_at levels elements term level at below = mapped_at (λ (l : ℕ). slice_index_or elements l (elem.Named 0)) levels term level at ∙ sym (slice_get-get_or elements level (elem.Named 0) below)

pub image_same : (levels : List ℕ) (elements : List Elem) (term : ℕ) → term < length levels → All (λ level. level < length elements) levels
    → slice_get (images_of levels elements) term ≡ slice_get elements (slice_index levels term)
image_same levels elements term below within = image_at levels elements term (get_or levels term 0) (slice_get-get_or levels term 0 below) (within term 0 below)

module _ (order levels : List ℕ) (are : AreLevelsIn order levels) where
  pub levels_within : All (λ level. level < length order) levels
  levels_within k d below = slice_get_within order (get_or levels k d) k ((are.each k (get_or levels k d)).0 (slice_get-get_or levels k d below))

  pub order_terms_within : All (λ term. term < length levels) order
  order_terms_within k d below = slice_get_within levels (get_or order k d) k ((are.each (get_or order k d) k).1 (slice_get-get_or order k d below))

  pub levels_cover : (level : ℕ) → level < length order → Contains levels level
  levels_cover level below =
      let at = something_at order level below in
      member_at levels at.0 level ((are.each at.0 level).1 at.1)

  -- elements that are read off images
  pub back_and_forth : (images : List Elem) → length images ≡ length levels → images_of levels (images_of order images) ≡ images
  back_and_forth images long = sym (same_elements images (images_of levels (images_of order images)) (long ∙ sym (length-map levels _)) each)
    where
      each : (k : ℕ) (e : Elem) → slice_get images k ≡ Some e → slice_get (images_of levels (images_of order images)) k ≡ Some e
      each k e at =
          let below : k < length images = slice_get_within images k e at in
          let level = something_at levels k (omega (arith, below, long)) in
          let there : slice_get order level.0 ≡ Some k = (are.each k level.0).0 level.1 in
          let within : level.0 < length order = slice_get_within order level.0 k there in
          let long_order : length (images_of order images) ≡ length order = length-map order _ in
          image_at levels (images_of order images) k level.0 level.1 (omega (arith, within, long_order)) ∙ image_at order images level.0 k there below ∙ at

  pub forth_and_back : (elements : List Elem) → length elements ≡ length order → images_of order (images_of levels elements) ≡ elements
  forth_and_back elements long = sym (same_elements elements (images_of order (images_of levels elements)) (long ∙ sym (length-map order _)) each)
    where
      each : (k : ℕ) (e : Elem) → slice_get elements k ≡ Some e → slice_get (images_of order (images_of levels elements)) k ≡ Some e
      each k e at =
          let below : k < length elements = slice_get_within elements k e at in
          let term = something_at order k (omega (arith, below, long)) in
          let there : slice_get levels term.0 ≡ Some k = (are.each term.0 k).1 term.1 in
          let within : term.0 < length levels = slice_get_within levels term.0 k there in
          let long_levels : length (images_of levels elements) ≡ length levels = length-map levels _ in
          image_at order (images_of levels elements) k term.0 term.1 (omega (arith, within, long_levels)) ∙ image_at levels elements term.0 k there below ∙ at

  -- what is fixed by level is fixed by number
  pub fixed_by_number : (fixed : List (Option ℕ)) (elements : List Elem) → length fixed ≡ length levels → length elements ≡ length order → IsFixed (fixed_in order fixed) elements ↔ IsFixed fixed (images_of levels elements)
  fixed_by_number fixed elements long whole = (to, from)
    where
      to : IsFixed (fixed_in order fixed) elements → IsFixed fixed (images_of levels elements)
      to h k n at =
          let below : k < length fixed = slice_get_within fixed k (Some n) at in
          let level = something_at levels k (omega (arith, below, long)) in
          let there : slice_get order level.0 ≡ Some k = (are.each k level.0).0 level.1 in
          let within : level.0 < length order = slice_get_within order level.0 k there in
          let by_level : slice_get (fixed_in order fixed) level.0 ≡ Some (Some n) = mapped_at (λ (t : ℕ). slice_index_or fixed t None) order level.0 k there ∙ ap Some (get_or_from_slice_get fixed k (Some n) None at) in
          image_at levels elements k level.0 level.1 (omega (arith, within, whole)) ∙ h level.0 n by_level

      from : IsFixed fixed (images_of levels elements) → IsFixed (fixed_in order fixed) elements
      from h k n at =
          let term = mapped_from (λ (t : ℕ). slice_index_or fixed t None) order k (Some n) at in
          let there : slice_get levels term.0 ≡ Some k = (are.each term.0 k).1 term.1 in
          let below : term.0 < length levels = slice_get_within levels term.0 k there in
          let within : k < length order = slice_get_within order k term.0 term.1 in
          let by_number : slice_get fixed term.0 ≡ Some (Some n) = slice_get-get_or fixed term.0 None (omega (arith, below, long)) ∙ ap Some term.2 in
          sym (image_at levels elements term.0 k there (omega (arith, within, whole))) ∙ h term.0 n by_number

-- an atom holds at the images where it holds by level
pub holds_by_level : (table : List TableRow) (levels : List ℕ) (elements : List Elem) (a : ShapeAtom) → IsBelow (length levels) a → All (λ level. level < length elements) levels
    → HoldsAt table (images_of levels elements) a ↔ HoldsAt table elements (leveled levels a)
holds_by_level table levels elements (shape.Concept c n) below within =
    let same = image_same levels elements n below within in
    ((λ h. (h.0, sym same ∙ h.1, h.2)), (λ h. (h.0, same ∙ h.1, h.2)))
holds_by_level table levels elements (shape.Role r n m) below within =
    let first = image_same levels elements n below.0 within in
    let last = image_same levels elements m below.1 within in
    ((λ h. (h.0, h.1, sym first ∙ h.2, sym last ∙ h.3, h.4)), (λ h. (h.0, h.1, first ∙ h.2, last ∙ h.3, h.4)))

leveled_below : (count : ℕ) (levels : List ℕ) (a : ShapeAtom) → IsBelow (length levels) a → All (λ level. level < count) levels → IsBelow count (leveled levels a)
leveled_below count levels (shape.Concept c n) below within = within n 0 below
leveled_below count levels (shape.Role r n m) below within = (within n 0 below.0, within m 0 below.1)

leveled_has : (levels : List ℕ) (term level : ℕ) (a : ShapeAtom) → slice_get levels term ≡ Some level → IsTermOf term a → IsTermOf level (leveled levels a)
leveled_has levels term level (shape.Concept c n) at is = sym (get_or_from_slice_get levels n level 0 (subst (λ (t : ℕ). slice_get levels t ≡ Some level) is at))
leveled_has levels term level (shape.Role r n m) at (inl is) = inl (sym (get_or_from_slice_get levels n level 0 (subst (λ (t : ℕ). slice_get levels t ≡ Some level) is at)))
leveled_has levels term level (shape.Role r n m) at (inr is) = inr (sym (get_or_from_slice_get levels m level 0 (subst (λ (t : ℕ). slice_get levels t ≡ Some level) is at)))

mapped_apart : (f : List Elem → List Elem) (all : List (List Elem)) → AllPairs (λ x y. x ≢ y) all → ((x y : List Elem) → Contains all x → Contains all y → f x ≡ f y → x ≡ y) → AllPairs (λ x y. x ≢ y) (map f all)
mapped_apart f all apart one i j d lt below e =
    let long : length (map f all) ≡ length all = length-map all f in
    let at_i : get_or (map f all) i d ≡ f (get_or all i d) = get_or-map f all i d d (omega (arith, lt, below, long)) in
    let at_j : get_or (map f all) j d ≡ f (get_or all j d) = get_or-map f all j d d (omega (arith, below, long)) in
    apart i j d lt (omega (arith, below, long)) (one (get_or all i d) (get_or all j d) (Contains-get_or all i d (omega (arith, lt, below, long))) (Contains-get_or all j d (omega (arith, below, long))) (sym at_i ∙ e ∙ at_j))

module _ (s : Layout) (steps : List Step) (layout : IsLayout s) (plan : IsPlanOf s steps) (order levels : List ℕ) (firsts : AreFirsts (plan_terms steps) order) (are : AreLevelsIn order levels) where
  pub levels_count : length levels ≡ length s.terms
  levels_count = are.count ∙ order_count s steps layout plan order firsts

  path_under : (step : Step) → Contains steps step → IsBelow (length levels) (atom_of step.path)
  path_under step c = subst (λ (n : ℕ). IsBelow n (atom_of step.path)) (sym levels_count) (steps_below s steps layout plan step c)

  module _ (more : List Condition) (twins : (c : Condition) → Contains more c → IsUnder (length order) c) where
    -- these conditions are on the levels
    pub on_levels : AreOnLevels (length order) (leveled_atoms levels steps ++ more)
    on_levels = record {
      some = omega (arith, steps_some s steps layout plan, length-map steps (λ (step : Step). condition.Atom (leveled levels (atom_of step.path))), length-append (leveled_atoms levels steps) more);
      under = under;
      used = used;
    }
      where
        under : (c : Condition) → Contains (leveled_atoms levels steps ++ more) c → IsUnder (length order) c
        under c there = elim (Contains-append_cases (leveled_atoms levels steps) more c there) [
          | inl atom ↦
              let step = map_from (λ (step : Step). condition.Atom (leveled levels (atom_of step.path))) steps c atom in
              subst (IsUnder (length order)) (sym step.2) (leveled_below (length order) levels (atom_of step.0.path) (path_under step.0 step.1) (levels_within order levels are))
          | inr twin ↦ twins c twin
        ]

        used : (k : ℕ) → k < length order → (a : ShapeAtom) × Contains (leveled_atoms levels steps ++ more) (condition.Atom a) × IsTermOf k a
        used k below =
            let term = something_at order k below in
            let there : slice_get levels term.0 ≡ Some k = (are.each term.0 k).1 term.1 in
            let step = step_of s steps layout plan term.0 (omega (arith, slice_get_within levels term.0 k there, levels_count)) in
            (leveled levels (atom_of step.0.path), Contains-append_left (leveled_atoms levels steps) more (condition.Atom (leveled levels (atom_of step.0.path))) (map_contains (λ (step : Step). condition.Atom (leveled levels (atom_of step.path))) steps step.0 step.1), leveled_has levels term.0 k (atom_of step.0.path) there step.2)

    module _ (table : List TableRow) (fixed : List (Option ℕ)) (long : length fixed ≡ length s.terms) where
      all_within : (elements : List Elem) → length elements ≡ length order → All (λ level. level < length elements) levels
      all_within elements whole = subst (λ (n : ℕ). All (λ level. level < n) levels) (sym whole) (levels_within order levels are)

      found_long : (elements : List Elem) → IsFound table (leveled_atoms levels steps ++ more) (fixed_in order fixed) elements → length elements ≡ length order
      found_long elements found = found.count ∙ length-map order _

      -- elements that are found by level have the images of a match
      match_of : (elements : List Elem) → IsFound table (leveled_atoms levels steps ++ more) (fixed_in order fixed) elements → IsShapeMatch table s (images_of levels elements) × IsFixed fixed (images_of levels elements)
      match_of elements found =
          let whole = found_long elements found in
          let count : length (images_of levels elements) ≡ length s.terms = length-map levels _ ∙ levels_count in (
            (matches_by_paths s steps table (images_of levels elements) plan count).1 (λ step c. (holds_by_level table levels elements (atom_of step.path) (path_under step c) (all_within elements whole)).1
                (found.met (condition.Atom (leveled levels (atom_of step.path))) (Contains-append_left (leveled_atoms levels steps) more (condition.Atom (leveled levels (atom_of step.path))) (map_contains (λ (step : Step). condition.Atom (leveled levels (atom_of step.path))) steps step c)))),
            (fixed_by_number order levels are fixed elements (long ∙ sym levels_count) whole).0 found.fixed_are,
          )

      -- and the elements of a match that meets the other conditions are found
      found_of : (images : List Elem) → IsShapeMatch table s images → IsFixed fixed images → ((c : Condition) → Contains more c → Meets table (images_of order images) c)
          → IsFound table (leveled_atoms levels steps ++ more) (fixed_in order fixed) (images_of order images)
      found_of images match fixed_are others =
          let whole : length (images_of order images) ≡ length order = length-map order _ in
          let same : images_of levels (images_of order images) ≡ images = back_and_forth order levels are images (match.count ∙ sym levels_count) in
          record {
            count = whole ∙ sym (length-map order _);
            met = λ c there. elim (Contains-append_cases (leveled_atoms levels steps) more c there) [
              | inl atom ↦
                  let step = map_from (λ (step : Step). condition.Atom (leveled levels (atom_of step.path))) steps c atom in
                  let holds : HoldsAt table images (atom_of step.0.path) = (matches_by_paths s steps table images plan match.count).0 match step.0 step.1 in
                  subst (Meets table (images_of order images)) (sym step.2)
                  ((holds_by_level table levels (images_of order images) (atom_of step.0.path) (path_under step.0 step.1) (all_within (images_of order images) whole)).0
                  (subst (λ (l : List Elem). HoldsAt table l (atom_of step.0.path)) (sym same) holds))
              | inr twin ↦ others c twin
            ];
            fixed_are = (fixed_by_number order levels are fixed (images_of order images) (long ∙ sym levels_count) whole).1 (subst (IsFixed fixed) (sym same) fixed_are);
          }

      module _ (all : List (List Elem)) (apart : AllPairs (λ x y. x ≢ y) all)
          (each : (elements : List Elem) → Contains all elements ↔ IsFound table (leveled_atoms levels steps ++ more) (fixed_in order fixed) elements) where
        -- the images of all that is found by level are matches
        pub images_apart : AllPairs (λ x y. x ≢ y) (map (images_of levels) all)
        images_apart = mapped_apart (images_of levels) all apart one
          where
            one : (x y : List Elem) → Contains all x → Contains all y → images_of levels x ≡ images_of levels y → x ≡ y
            one x y cx cy e =
                sym (forth_and_back order levels are x (found_long x ((each x).0 cx))) ∙ ap (images_of order) e ∙ forth_and_back order levels are y (found_long y ((each y).0 cy))

        pub only_matches : (images : List Elem) → Contains (map (images_of levels) all) images → IsShapeMatch table s images × IsFixed fixed images
        only_matches images c =
            let at = map_from (images_of levels) all images c in
            subst (λ (l : List Elem). IsShapeMatch table s l × IsFixed fixed l) (sym at.2) (match_of at.0 ((each at.0).0 at.1))

        -- and each match that meets the other conditions is among them
        pub match_there : (images : List Elem) → IsShapeMatch table s images → IsFixed fixed images → ((c : Condition) → Contains more c → Meets table (images_of order images) c) → Contains (map (images_of levels) all) images
        match_there images match fixed_are others =
            let same : images_of levels (images_of order images) ≡ images = back_and_forth order levels are images (match.count ∙ sym levels_count) in
            subst (Contains (map (images_of levels) all)) same (map_contains (images_of levels) all (images_of order images) ((each (images_of order images)).1 (found_of images match fixed_are others)))
