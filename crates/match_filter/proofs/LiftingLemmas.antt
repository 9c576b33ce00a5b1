-- What the lifting test decides.
use Rattle.std.proofs.Common.{◌≡◌, ◌≢◌, ◌<◌, ◌≤◌, ℕ, List, length, Option, Some, None, get_or, slice_index, slice_get, AllPairs, Contains, refl, sym, ap, subst, arith, Bool, true, false, IsTrue, true≢false, ◌∙◌}
use Rattle.std.specs.Prelude.{◌↔◌}
use Rattle.std.proofs.lemmas.List.Elements.{All-contains, Contains-get_or}
use Rattle.std.proofs.lemmas.Option.{slice_get_within, same_Some}
use Rattle.dl_base.specs.Ontology.{Terminology}
use Rattle.dl_base.specs.Tables.{TableRow}
use Rattle.dl_base.specs.Completion.{AreCompleted}
use Rattle.dl_base.specs.declared.concept.Role.{Role}
use Rattle.dl_base.specs.declared.element.Elem.{Elem}
use Rattle.dl_base.specs.declared.row.NamedRow.{NamedRow}
use Rattle.query_shape.specs.Shape.{Layout, IsLayout, IsShapeMatch, IsBelow}
use Rattle.query_shape.specs.Lifting.{LiftsShape}
use Rattle.query_shape.specs.declared.layout.ShapeAtom.{ShapeAtom}
use Rattle.query_shape.proofs.MatchList.{Decided, decide_as, decide_nat}
use Rattle.match_filter.specs.Links.{Linked, IsLink, AreLinks, AreBelow, IsLinkBelow, HasLink}
use Rattle.query_shape.specs.Lifting.{DecidesLifting}
use Rattle.match_filter.specs.Joining.{Joined, itself, turned, through, parents, IsGrounded, ground, Agree, AreClasses, AgreeBy}
use Rattle.match_filter.specs.declared.link.Link.{Link}
use Rattle.match_filter.proofs.Necessity.{placed_agree, placed_grounded}
use Rattle.match_filter.proofs.Sufficiency.{link_within, makes_placing}

-- ---- links that are the same

pub joined_as : {L M : ℕ → ℕ → Type 0} → ((p c : ℕ) → L p c → M p c) → {j k : ℕ} → Joined L j k → Joined M j k
joined_as into itself = itself
joined_as into (turned x) = turned (joined_as into x)
joined_as into (through x y) = through (joined_as into x) (joined_as into y)
joined_as into (parents {p} {c} {q} {d} l m x) = parents (into p c l) (into q d m) (joined_as into x)

pub grounded_as : {L M : ℕ → ℕ → Type 0} → ((p c : ℕ) → L p c → M p c) → {k : ℕ} → IsGrounded M k → IsGrounded L k
grounded_as into (ground above) = ground (λ p c link joined. grounded_as into (above p c (into p c link) (joined_as into joined)))

-- ---- the test

module _ (s : Layout) (images : List Elem) (links : List (Option Link)) (layout : IsLayout s) (count : length images ≡ length s.terms)
    (atoms : List ShapeAtom) (list : atoms ≡ s.atoms) (given : AreLinks images atoms links) where
  are : AreLinks images s.atoms links
  are = subst (λ (of : List ShapeAtom). AreLinks images of links) list given

  below : (a : ShapeAtom) → Contains s.atoms a → IsBelow (length images) a
  below a there = subst (λ (n : ℕ). IsBelow n a) (sym count) (All-contains (IsBelow (length s.terms)) s.atoms a layout.below there)

  few : length images ≤ 24
  few = omega (arith, count, layout.terms)

  pub below_24 : AreBelow 24 links
  below_24 k d lt = by (get_or links k d) (Contains-get_or links k d lt)
    where
      by : (found : Option Link) → Contains links found → IsLinkBelow 24 found
      by None there = tt
      by (Some l) there =
          let both = link_within images s.atoms below l.parent l.child ((are l.parent l.child).0 there) in
          let most = few in
          (omega (arith, both.0), omega (arith, both.1))

  into : (p c : ℕ) → Linked links p c → IsLink images s.atoms p c
  into p c = (are p c).0

  back : (p c : ℕ) → IsLink images s.atoms p c → Linked links p c
  back p c = (are p c).1

  -- where there are no parents and children, each match lifts
  module _ (none : HasLink links → ⊥) where
    joined_same : {j k : ℕ} → Joined (IsLink images s.atoms) j k → j ≡ k
    joined_same itself = refl
    joined_same (turned x) = sym (joined_same x)
    joined_same (through x y) = joined_same x ∙ joined_same y
    joined_same (parents {p} {c} l m x) = absurd (none (p, c, back p c l))

    same_image : Agree (IsLink images s.atoms) images
    same_image j k e f at_j at_k joined = same_Some e f (sym at_j ∙ (ap (slice_get images) (joined_same joined) ∙ at_k))

    pub unlinked_lifts : DecidesLifting s images true
    unlinked_lifts o rows names generation table distinct completed is_match = (
      λ yes. makes_placing o rows names generation table completed images s.atoms below is_match.atoms (λ k lt. layout.used k (subst (λ (n : ℕ). k < n) count lt))
          (λ j k at_j at_k. decide_as (λ is. subst (Joined (IsLink images s.atoms) j) is itself) joined_same (decide_nat j k)) same_image
          (λ k lt. ground (λ p c link joined. absurd (none (p, c, back p c link)))) s refl count,
      λ l. refl,
    )

  module _ (classes : List ℕ) (joined_are : AreClasses (Linked links) classes) where
    number_24 : (k : ℕ) → k < length images → k < 24
    number_24 k lt = let most = few in omega arith

    decide : (j k : ℕ) → j < length images → k < length images → Decided (Joined (IsLink images s.atoms) j k)
    decide j k at_j at_k =
        let same = joined_are j k (number_24 j at_j) (number_24 k at_k) in
        decide_as (λ e. joined_as into (same.0 e)) (λ joined. same.1 (joined_as back joined)) (decide_nat (slice_index classes j) (slice_index classes k))

    agree : AgreeBy classes images → Agree (IsLink images s.atoms) images
    agree by_number j k e f at_j at_k joined =
        let lt_j = number_24 j (slice_get_within images j e at_j) in
        let lt_k = number_24 k (slice_get_within images k f at_k) in
        by_number j k e f at_j at_k ((joined_are j k lt_j lt_k).1 (joined_as back joined))

    agree_back : Agree (IsLink images s.atoms) images → AgreeBy classes images
    agree_back by_joins j k e f at_j at_k same =
        let lt_j = number_24 j (slice_get_within images j e at_j) in
        let lt_k = number_24 k (slice_get_within images k f at_k) in
        by_joins j k e f at_j at_k (joined_as into ((joined_are j k lt_j lt_k).0 same))

    module _ (o : Terminology) (rows : List NamedRow) (names : List (List ℕ)) (generation : Role → ℕ) where
      -- what lifts passes both tests
      lifts_agree : AllPairs (λ x y. x ≢ y) names → LiftsShape o rows names generation s images → AgreeBy classes images
      lifts_agree distinct l =
          agree_back (placed_agree o rows names generation images s.atoms l.place below (λ k lt. l.short k (subst (λ (n : ℕ). k < n) count lt)) l.folds l.atoms distinct)

      lifts_grounded : LiftsShape o rows names generation s images → (k : ℕ) → k < 24 → IsGrounded (Linked links) k
      lifts_grounded l k lt =
          grounded_as into (placed_grounded o rows names generation images s.atoms l.place below (λ k lt. l.short k (subst (λ (n : ℕ). k < n) count lt)) l.folds l.atoms k)

      -- and what passes both tests lifts
      tests_lift : (table : List TableRow) → AreCompleted o rows names generation table → IsShapeMatch table s images → AgreeBy classes images → ((k : ℕ) → k < 24 → IsGrounded (Linked links) k)
          → LiftsShape o rows names generation s images
      tests_lift table completed is_match by_number grounded =
          makes_placing o rows names generation table completed images s.atoms below is_match.atoms (λ k lt. layout.used k (subst (λ (n : ℕ). k < n) count lt)) decide (agree by_number)
          (λ k lt. grounded_as back (grounded k (number_24 k lt))) s refl count

    -- the answer of the second test, where the first one was passed
    pub second_decides : (answer : Bool) → AgreeBy classes images → IsTrue answer ↔ ((k : ℕ) → k < 24 → IsGrounded (Linked links) k) → DecidesLifting s images answer
    second_decides answer by_number tells o rows names generation table distinct completed is_match =
        (λ yes. tests_lift o rows names generation table completed is_match by_number (tells.0 yes), λ l. tells.1 (lifts_grounded o rows names generation l))

    -- and that of the first, where it wasn't
    pub first_decides : (answer : Bool) → answer ≡ false → IsTrue answer ↔ AgreeBy classes images → DecidesLifting s images answer
    first_decides answer fails tells o rows names generation table distinct completed is_match =
        (λ yes. absurd (true≢false (sym yes ∙ fails)), λ l. tells.1 (lifts_agree o rows names generation distinct l))
