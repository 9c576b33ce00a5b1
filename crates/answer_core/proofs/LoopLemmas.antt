-- What the search for keys has found so far.
use Rattle.std.proofs.Common.{◌≡◌, ◌↔◌, ℕ, ◌⊎◌, inl, inr, ◌<◌, List, [], length, slice_index, All, Contains, Option, refl, sym, ◌∙◌, subst, arith}
use Rattle.std.proofs.lemmas.List.Elements.{All-nil}
use Rattle.dl_base.specs.Ontology.{Terminology}
use Rattle.dl_base.specs.Tables.{TableRow}
use Rattle.dl_base.specs.declared.concept.Role.{Role}
use Rattle.dl_base.specs.declared.element.Elem.{Elem}
use Rattle.dl_base.specs.declared.row.NamedRow.{NamedRow}
use Rattle.dl_base.proofs.RisingLemmas.{contains_cases, contains_first, contains_later}
use Rattle.query_shape.specs.Shape.{IsShapeMatch, IsLayout}
use Rattle.query_shape.specs.Lifting.{LiftsShape}
use Rattle.tree_witness.specs.Trees.{Trees, AreTreesOf}
use Rattle.tree_witness.proofs.LawLemmas.{lifting}
use Rattle.tree_witness.proofs.PassLemmas.{passes_by_trees}
use Rattle.join_ops.specs.Joins.{SearchPlace, Behind, Past, IsFixed, IsFound, IsLast}
use Rattle.join_ops.specs.Matching.{PlannedSearch, HasMatchesLeft, ArePassing, WentToFirst, SkipsAgreeing}
use Rattle.join_ops.specs.Orders.{AgreeUpTo, images_of}
use Rattle.answer_core.specs.Binding.{BoundQuery}
use Rattle.answer_core.specs.Found.{HaveIndividuals, IsFoundKey, IsTableOf, AddsLifted, AreWithin, HasKeyOf}
use Rattle.answer_core.proofs.RankLemmas.{rank, tuples, elements, rank_falls, rank_past, elements_in}
use Rattle.answer_core.proofs.ReadLemmas.{reads_along}

-- matches that place the fixed terms so, and among them all that lift
pub record HaveLifted (table : List TableRow) (b : BoundQuery) (fixed : List (Option ℕ)) (all : List (List Elem)) : Type 0 where
  pub only : (images : List Elem) → Contains all images → IsShapeMatch table b.shape images × IsFixed fixed images
  pub lifted : (o : Terminology) (rows : List NamedRow) (names : List (List ℕ)) (generation : Role → ℕ) → IsTableOf o rows names generation table
      → (images : List Elem) → IsShapeMatch table b.shape images → IsFixed fixed images → LiftsShape o rows names generation b.shape images → Contains all images

-- what lifts passes by the tree witnesses
have_lifted : (table : List TableRow) (b : BoundQuery) (fixed : List (Option ℕ)) (trees : Trees) (all : List (List Elem)) → IsLayout b.shape → AreTreesOf b.shape trees
    → ArePassing table b.shape trees fixed all → HaveLifted table b fixed all
have_lifted table b fixed trees all layout trees_are are = record {
  only = are.only;
  lifted = λ o rows names generation base images match fixed_are lifts.
      are.all images match fixed_are
      ((passes_by_trees b.shape trees images trees_are).1 ((lifting o rows names generation table b.shape images base.distinct base.completed layout match).1 lifts));
}

-- one of these matches lifts and has these individuals at the answer places
abbrev pub IsLiftedRead : Terminology → List NamedRow → List (List ℕ) → (Role → ℕ) → BoundQuery → ℕ → List (List Elem) → List ℕ → Type 0
IsLiftedRead o rows names generation b count all numbers = (images : List Elem) × Contains all images × LiftsShape o rows names generation b.shape images × HaveIndividuals images b.answers count numbers

-- If the images lift, the key that they have is among these. It is said of each base whose completed table this is.
abbrev pub IsKeyFound : List TableRow → BoundQuery → ℕ → List (List ℕ) → List Elem → Type 0
IsKeyFound table b count found images = (o : Terminology) (rows : List NamedRow) (names : List (List ℕ)) (generation : Role → ℕ)
    → IsTableOf o rows names generation table → LiftsShape o rows names generation b.shape images → (numbers : List ℕ) → HaveIndividuals images b.answers count numbers → Contains found numbers

-- the keys found are those of matches that lift, and each match that lifts and isn't left has its key among them
pub record FoundSoFar (table : List TableRow) (b : BoundQuery) (fixed : List (Option ℕ)) (count : ℕ) (search : PlannedSearch) (found : List (List ℕ)) : Type 0 where
  pub all : List (List Elem)
  pub left : List (List Elem)
  pub are : HaveLifted table b fixed all
  pub among : (images : List Elem) → Contains left images → Contains all images
  pub goes_on : HasMatchesLeft table search left
  pub within : AreWithin count found
  pub only : (o : Terminology) (rows : List NamedRow) (names : List (List ℕ)) (generation : Role → ℕ) → IsTableOf o rows names generation table
      → (numbers : List ℕ) → Contains found numbers → IsLiftedRead o rows names generation b count all numbers
  pub each : (images : List Elem) → Contains all images → Contains left images ⊎ IsKeyFound table b count found images

module _ (table : List TableRow) (b : BoundQuery) (fixed : List (Option ℕ)) (count : ℕ) where
  pub found_none : (trees : Trees) (search : PlannedSearch) (found : List (List ℕ)) → IsLayout b.shape → AreTreesOf b.shape trees → found ≡ []
      → (left : List (List Elem)) × HasMatchesLeft table search left × ArePassing table b.shape trees fixed left → FoundSoFar table b fixed count search found
  found_none trees search found layout trees_are none (left, goes_on, are) = record {
    all = left;
    left = left;
    are = have_lifted table b fixed trees left layout trees_are are;
    among = λ images c. c;
    goes_on = goes_on;
    within = subst (AreWithin count) (sym none) (All-nil (All (λ n. n < count)));
    only = λ o rows names generation base numbers c. absurd (nothing numbers c);
    each = λ images c. inl c;
  }
    where
      nothing : (numbers : List ℕ) → Contains found numbers → ⊥
      nothing numbers c = let d : Contains [] numbers = subst (λ (ks : List (List ℕ)). Contains ks numbers) none c in omega (arith, d.1)

  module _ (search : PlannedSearch) (found : List (List ℕ)) (so_far : FoundSoFar table b fixed count search found) (new : PlannedSearch) (next : WentToFirst table search.search.place so_far.left new) where
    -- the images of the next match
    abbrev pub next_images : List Elem
    next_images = images_of new.levels next.elements

    next_left : Contains so_far.left next_images
    next_left = subst (λ (ms : List (List Elem)). Contains ms next_images) (sym next.first) (contains_first next_images next.others)

    -- the next match is a match
    pub next_match : IsShapeMatch table b.shape next_images
    next_match = (so_far.are.only next_images (so_far.among next_images next_left)).0

    next_found : IsFound table new.search.conditions new.search.fixed next.elements
    next_found = subst (IsLast table new.search.conditions new.search.fixed) next.stands next.goes_on.goes_on.last

    next_in : IsLayout b.shape → Contains (tuples (elements table) b.shape.terms) next.elements
    next_in layout = elements_in table b.shape new.levels next.elements layout next_match (next_found.count ∙ sym next.goes_on.count) (λ level below. next.goes_on.covers level (subst (λ (n : ℕ). level < n) next.goes_on.count below))

    -- and it brings the search nearer to its end
    pub next_falls : IsLayout b.shape → rank (tuples (elements table) b.shape.terms) new.search.place < rank (tuples (elements table) b.shape.terms) search.search.place
    next_falls layout = rank_falls (tuples (elements table) b.shape.terms) search.search.place new.search.place next.elements next.behind next.stands (next_in layout)

    -- also behind all that agree with it
    pub skip_falls : (n : ℕ) (newer : PlannedSearch) → IsLayout b.shape → newer.search.place ≡ Past n next.elements
        → rank (tuples (elements table) b.shape.terms) newer.search.place < rank (tuples (elements table) b.shape.terms) search.search.place
    skip_falls n newer layout stands =
        let all = tuples (elements table) b.shape.terms in
        let falls = rank_falls all search.search.place (Behind next.elements) next.elements next.behind refl (next_in layout) in
        let more = rank_past all n next.elements in
        subst (λ (p : SearchPlace). rank all p < rank all search.search.place) (sym stands) (omega (arith, falls, more))

    -- the answer places have an image
    pub next_places : All (λ n. n < length b.shape.terms) b.answers → All (λ p. p < length next_images) b.answers
    next_places within = subst (λ (n : ℕ). All (λ p. p < n) b.answers) (sym next_match.count) within

    module _ (more : List (List ℕ)) (within : AreWithin count found → AreWithin count more) (adds : AddsLifted b.shape next_images b.answers count found more) where
      goes_over : (newer : PlannedSearch) (rest : List (List Elem)) → HasMatchesLeft table newer rest → ((images : List Elem) → Contains rest images → Contains next.others images)
          → ((images : List Elem) → Contains next.others images → Contains rest images ⊎ IsKeyFound table b count more images) → FoundSoFar table b fixed count newer more
      goes_over newer rest goes_on into out = record {
        all = so_far.all;
        left = rest;
        are = so_far.are;
        among = λ images c. so_far.among images (subst (λ (ms : List (List Elem)). Contains ms images) (sym next.first) (contains_later next_images next.others images (into images c)));
        goes_on = goes_on;
        within = within so_far.within;
        only = only;
        each = λ images c. each images (so_far.each images c);
      }
        where
          only : (o : Terminology) (rows : List NamedRow) (names : List (List ℕ)) (generation : Role → ℕ) → IsTableOf o rows names generation table
              → (numbers : List ℕ) → Contains more numbers → IsLiftedRead o rows names generation b count so_far.all numbers
          only o rows names generation base numbers c = elim ((adds o rows names generation table base next_match numbers).0 c) [
            | inl d ↦ so_far.only o rows names generation base numbers d
            | inr r ↦ (next_images, so_far.among next_images next_left, r.0, r.1)
          ]

          here : (images : List Elem) → images ≡ next_images → IsKeyFound table b count more images
          here images same o rows names generation base lifts numbers r = (adds o rows names generation table base next_match numbers).1
              (inr (subst (λ (ms : List Elem). LiftsShape o rows names generation b.shape ms × HaveIndividuals ms b.answers count numbers) same (lifts, r)))

          stays : (images : List Elem) → IsKeyFound table b count found images → IsKeyFound table b count more images
          stays images there o rows names generation base lifts numbers r = (adds o rows names generation table base next_match numbers).1 (inl (there o rows names generation base lifts numbers r))

          each : (images : List Elem) → Contains so_far.left images ⊎ IsKeyFound table b count found images → Contains rest images ⊎ IsKeyFound table b count more images
          each images (inl c) = elim (contains_cases next_images next.others images (subst (λ (ms : List (List Elem)). Contains ms images) next.first c)) [
            | inl same ↦ inr (here images same)
            | inr d ↦ out images d
          ]
          each images (inr there) = inr (stays images there)

      pub found_next : FoundSoFar table b fixed count new more
      found_next = goes_over new next.others next.goes_on (λ images c. c) (λ images c. inl c)

      -- those that agree with the next match up to the last of the answer terms have its key
      pub found_skipped : (n : ℕ) (newer : PlannedSearch) → newer.levels ≡ new.levels → All (λ p. p < length new.levels) b.answers → All (λ p. slice_index new.levels p < n) b.answers
          → HasKeyOf next_images b.answers count more → SkipsAgreeing table next.others n next.elements newer → FoundSoFar table b fixed count newer more
      found_skipped n newer same places first has skips = goes_over newer skips.others skips.goes_on (λ images c. (skips.kept images c).0) out
        where
          out : (images : List Elem) → Contains next.others images → Contains skips.others images ⊎ IsKeyFound table b count more images
          out images c = elim (skips.out images c) [
            | inl left ↦ inl left
            | inr agree ↦ inr (λ o rows names generation base lifts numbers r. has numbers
                (reads_along new.levels n images next_images count b.answers numbers (subst (λ (ls : List ℕ). AgreeUpTo ls n images (images_of ls next.elements)) same agree) places first r))
          ]

  -- at the end
  module _ (search : PlannedSearch) (found : List (List ℕ)) (so_far : FoundSoFar table b fixed count search found) (none : so_far.left ≡ []) where
    pub found_all : (o : Terminology) (rows : List NamedRow) (names : List (List ℕ)) (generation : Role → ℕ) → IsTableOf o rows names generation table
        → (numbers : List ℕ) → Contains found numbers ↔ IsFoundKey o rows names generation table b fixed count numbers
    found_all o rows names generation base numbers = (
      λ c. (
          let f = so_far.only o rows names generation base numbers c in
          let is = so_far.are.only f.0 f.1 in
          record { images = f.0; match_is = is.0; lifts = f.2; fixed_are = is.1; reads = f.3 }
          ),
      λ k. elim (so_far.each k.images (so_far.are.lifted o rows names generation base k.images k.match_is k.fixed_are k.lifts)) [
        | inl c ↦ absurd (let d : Contains [] k.images = subst (λ (ms : List (List Elem)). Contains ms k.images) none c in omega (arith, d.1))
        | inr there ↦ there o rows names generation base k.lifts numbers k.reads
      ],
    )
