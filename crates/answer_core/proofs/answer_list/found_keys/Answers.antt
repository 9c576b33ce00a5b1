use Rattle.std.proofs.Common.{◌≡◌, ◌<◌, ◌∙◌, ap, sym, subst, length, List, ℕ, Bool, All, slice_index}
use Rattle.std.specs.Bool.{OnTrue}
use Rattle.dl_base.specs.declared.element.Elem.{Elem}
use Rattle.query_shape.specs.Shape.{Layout}
use Rattle.join_plan.specs.declared.steps.Step.{Step}
use Rattle.tree_witness.specs.Trees.{Trees}
use Rattle.join_ops.specs.Matching.{ArePassing, HasMatchesLeft, WentToFirst, SkipsAgreeing}
use Rattle.join_ops.specs.Orders.{images_of}
use Rattle.answer_core.specs.Binding.{BoundQuery, IsPlanned}
use Rattle.answer_core.specs.Found.{AddsLifted, HasKeyOf}
use Rattle.answer_core.proofs.LoopLemmas.{found_none, next_match, next_falls, skip_falls, next_places, found_next, found_skipped, found_all}
use Rattle.answer_core.proofs.answer_list.found_keys.Goals as goal

-- what is kept of a bound query is said of what contracts see
whole : (shape : Layout) (answers : List ℕ) (plan : List Step) (trees : Trees) (b : BoundQuery) → record { shape = shape; answers = answers } ≡ b → IsPlanned (record { shape = shape; answers = answers }) plan trees → IsPlanned b plan trees
whole shape answers plan trees b same is = subst (λ (x : BoundQuery). IsPlanned x plan trees) same is

pub with_trees-requires-clause-plan : goal.with_trees-requires-clause-plan
with_trees-requires-clause-plan g c = c.b.invariant.plan

pub with_trees-requires-clause-trees : goal.with_trees-requires-clause-trees
with_trees-requires-clause-trees g c = c.b.invariant.trees_are.terms

pub with_trees-requires-clause-fixed : goal.with_trees-requires-clause-fixed
with_trees-requires-clause-fixed g c = c.requires ∙ sym (ap (λ (b : BoundQuery). length b.shape.terms) c.b.view_is)

pub matches-init : goal.matches-init
matches-init g c =
    let places : c.items-places.result.now ≡ c.args.b.now.answers = c.items-places.ensures ∙ ap (λ (b : BoundQuery). b.answers) c.b.view_is in
    let is = (whole c.b.inside.shape c.b.inside.answers c.b.inside.plan c.b.inside.trees c.args.b.now c.b.view_is c.b.invariant) in
    record {
      places = places;
      room = c.in_ok-key.ensures.len ∙ ap length places;
      count = c.in_ok-matches.ensures.count ∙ ap (λ (b : BoundQuery). length b.shape.terms) c.b.view_is;
      first = rw (c.levels.ensures, places) at c.levels_up_to-levels.ensures;
      so_far = found_none (g.T.Tables.rows c.args.t.now) c.args.b.now c.args.fixed.now c.args.count c.b.inside.trees c.in_ok-matches.matches c.new-found.result is.bound.layout is.trees_are c.new-found.ensures
          (subst (λ (b : BoundQuery). (left : List (List Elem)) × HasMatchesLeft (g.T.Tables.rows c.args.t.now) c.in_ok-matches.matches left × ArePassing (g.T.Tables.rows c.args.t.now) b.shape c.b.inside.trees c.args.fixed.now left) c.b.view_is (c.in_ok-matches.ensures.left (g.T.Tables.rows c.args.t.now)));
    }

pub add_key-requires-clause-places : goal.add_key-requires-clause-places
add_key-requires-clause-places g c =
    let next : WentToFirst (g.T.Tables.rows c.args.t.now) c.matches.matches.search.place c.matches.invariant.so_far.left c.advance.new.self = c.matches-test.ensures.goes c.matches.invariant.so_far.left c.matches.invariant.so_far.goes_on in
    rw (c.matches.invariant.places, c.images.ensures next.elements next.stands) (next_places (g.T.Tables.rows c.args.t.now) c.args.b.now c.args.fixed.now c.args.count c.matches.matches c.matches.found c.matches.invariant.so_far c.advance.new.self next (whole c.b.inside.shape c.b.inside.answers c.b.inside.plan c.b.inside.trees c.args.b.now c.b.view_is c.b.invariant).bound.within)

pub add_key-requires-clause-images : goal.add_key-requires-clause-images
add_key-requires-clause-images g c =
    let next : WentToFirst (g.T.Tables.rows c.args.t.now) c.matches.matches.search.place c.matches.invariant.so_far.left c.advance.new.self = c.matches-test.ensures.goes c.matches.invariant.so_far.left c.matches.invariant.so_far.goes_on in
    let is = (whole c.b.inside.shape c.b.inside.answers c.b.inside.plan c.b.inside.trees c.args.b.now c.b.view_is c.b.invariant) in
    rw (c.images.ensures next.elements next.stands) ((next_match (g.T.Tables.rows c.args.t.now) c.args.b.now c.args.fixed.now c.args.count c.matches.matches c.matches.found c.matches.invariant.so_far c.advance.new.self next).count ∙ sym is.trees_are.terms)

pub add_key-requires-clause-room : goal.add_key-requires-clause-room
add_key-requires-clause-room g c = c.as_mut_slice.ensures.len ∙ c.matches.invariant.room ∙ ap length (sym c.matches.invariant.places)

pub matches-smaller-then-settled : goal.matches-smaller-then-settled
matches-smaller-then-settled g c =
    let next : WentToFirst (g.T.Tables.rows c.args.t.now) c.matches.matches.search.place c.matches.invariant.so_far.left c.advance.new.self = c.matches-test.ensures.goes c.matches.invariant.so_far.left c.matches.invariant.so_far.goes_on in
    let skips : SkipsAgreeing (g.T.Tables.rows c.args.t.now) next.others c.levels_up_to-levels.result next.elements c.skip_agreeing.new.self = c.skip_agreeing.ensures.skips (g.T.Tables.rows c.args.t.now) next.others next.elements next.goes_on next.stands in
    skip_falls (g.T.Tables.rows c.args.t.now) c.args.b.now c.args.fixed.now c.args.count c.matches.matches c.matches.found c.matches.invariant.so_far c.advance.new.self next c.levels_up_to-levels.result c.skip_agreeing.new.self (whole c.b.inside.shape c.b.inside.answers c.b.inside.plan c.b.inside.trees c.args.b.now c.b.view_is c.b.invariant).bound.layout skips.stands

pub matches-smaller : goal.matches-smaller
matches-smaller g c =
    let next : WentToFirst (g.T.Tables.rows c.args.t.now) c.matches.matches.search.place c.matches.invariant.so_far.left c.advance.new.self = c.matches-test.ensures.goes c.matches.invariant.so_far.left c.matches.invariant.so_far.goes_on in
    next_falls (g.T.Tables.rows c.args.t.now) c.args.b.now c.args.fixed.now c.args.count c.matches.matches c.matches.found c.matches.invariant.so_far c.advance.new.self next (whole c.b.inside.shape c.b.inside.answers c.b.inside.plan c.b.inside.trees c.args.b.now c.b.view_is c.b.invariant).bound.layout

pub matches-preserved-then-settled : goal.matches-preserved-then-settled
matches-preserved-then-settled g c =
    let next : WentToFirst (g.T.Tables.rows c.args.t.now) c.matches.matches.search.place c.matches.invariant.so_far.left c.advance.new.self = c.matches-test.ensures.goes c.matches.invariant.so_far.left c.matches.invariant.so_far.goes_on in
    let skips : SkipsAgreeing (g.T.Tables.rows c.args.t.now) next.others c.levels_up_to-levels.result next.elements c.skip_agreeing.new.self = c.skip_agreeing.ensures.skips (g.T.Tables.rows c.args.t.now) next.others next.elements next.goes_on next.stands in
    let went : c.advance.new.self.levels ≡ c.matches.matches.levels = c.matches-test.ensures.levels in
    let stays : c.skip_agreeing.new.self.levels ≡ c.advance.new.self.levels = c.skip_agreeing.ensures.levels in
    let is = (whole c.b.inside.shape c.b.inside.answers c.b.inside.plan c.b.inside.trees c.args.b.now c.b.view_is c.b.invariant) in
    let first : All (λ p. slice_index c.advance.new.self.levels p < c.levels_up_to-levels.result) c.args.b.now.answers = subst (λ (ls : List ℕ). All (λ p. slice_index ls p < c.levels_up_to-levels.result) c.args.b.now.answers) (sym went) c.matches.invariant.first in
    let count : length c.advance.new.self.levels ≡ length c.args.b.now.shape.terms = ap length went ∙ c.matches.invariant.count in
    let lifted : AddsLifted c.args.b.now.shape (images_of c.advance.new.self.levels next.elements) c.args.b.now.answers c.args.count c.matches.found c.add_key.new.found =
    rw (c.matches.invariant.places, c.images.ensures next.elements next.stands) at (c.in_ok-settled.ensures.lifted c.args.b.now.shape is.bound.layout is.trees_are) in
    let has : HasKeyOf (images_of c.advance.new.self.levels next.elements) c.args.b.now.answers c.args.count c.add_key.new.found =
    rw (c.matches.invariant.places, c.images.ensures next.elements next.stands) at (subst (λ (settled : Bool). OnTrue settled (HasKeyOf c.images.result.now c.items-places.result.now c.args.count c.add_key.new.found)) c.if-settled.true c.in_ok-settled.ensures.settled) in
    record {
      places = c.matches.invariant.places;
      room = c.matches.invariant.room;
      count = ap length stays ∙ count;
      first = subst (λ (ls : List ℕ). All (λ p. slice_index ls p < c.levels_up_to-levels.result) c.args.b.now.answers) (sym stays) first;
      so_far = found_skipped (g.T.Tables.rows c.args.t.now) c.args.b.now c.args.fixed.now c.args.count c.matches.matches c.matches.found c.matches.invariant.so_far c.advance.new.self next c.add_key.new.found c.in_ok-settled.ensures.within lifted
          c.levels_up_to-levels.result c.skip_agreeing.new.self stays (subst (λ (n : ℕ). All (λ p. p < n) c.args.b.now.answers) (sym count) is.bound.within) first has skips;
    }

pub matches-preserved : goal.matches-preserved
matches-preserved g c =
    let next : WentToFirst (g.T.Tables.rows c.args.t.now) c.matches.matches.search.place c.matches.invariant.so_far.left c.advance.new.self = c.matches-test.ensures.goes c.matches.invariant.so_far.left c.matches.invariant.so_far.goes_on in
    let went : c.advance.new.self.levels ≡ c.matches.matches.levels = c.matches-test.ensures.levels in
    let is = (whole c.b.inside.shape c.b.inside.answers c.b.inside.plan c.b.inside.trees c.args.b.now c.b.view_is c.b.invariant) in
    let lifted : AddsLifted c.args.b.now.shape (images_of c.advance.new.self.levels next.elements) c.args.b.now.answers c.args.count c.matches.found c.add_key.new.found =
    rw (c.matches.invariant.places, c.images.ensures next.elements next.stands) at (c.in_ok-settled.ensures.lifted c.args.b.now.shape is.bound.layout is.trees_are) in
    record {
      places = c.matches.invariant.places;
      room = c.matches.invariant.room;
      count = ap length went ∙ c.matches.invariant.count;
      first = subst (λ (ls : List ℕ). All (λ p. slice_index ls p < c.levels_up_to-levels.result) c.args.b.now.answers) (sym went) c.matches.invariant.first;
      so_far = found_next (g.T.Tables.rows c.args.t.now) c.args.b.now c.args.fixed.now c.args.count c.matches.matches c.matches.found c.matches.invariant.so_far c.advance.new.self next c.add_key.new.found c.in_ok-settled.ensures.within lifted;
    }

pub returns-clause-within : goal.returns-clause-within
returns-clause-within g c = c.matches.invariant.so_far.within

pub returns-clause-lifted : goal.returns-clause-lifted
returns-clause-lifted g c =
    found_all (g.T.Tables.rows c.args.t.now) c.args.b.now c.args.fixed.now c.args.count c.matches.matches c.matches.found c.matches.invariant.so_far
    (c.matches-test.ensures.goes c.matches.invariant.so_far.left c.matches.invariant.so_far.goes_on).0
