use Rattle.std.proofs.Common.{arith, sym, ◌∙◌}
use Rattle.std.proofs.lemmas.List.{length-set}
use Rattle.join_ops.proofs.SearchSteps.{deeper_step, deeper_smaller, last_step, back_step, back_smaller, none_step, search_along, deeper_below, sound_step}
use Rattle.join_ops.proofs.search.search.Goals as goal

pub candidate-requires : goal.candidate-requires
candidate-requires g c =
    let search = search_along _ _ _ _ (sym c.levels.auto.elements) c.requires.search in
    sound_step (g.T.Tables.rows c.args.t.now) c.args.conditions.now c.args.levels.now c.levels.elements c.levels.level c.levels.invariant.level search c.index-levels-level.result c.index-levels-level.is

pub returns-then-level-elements : goal.returns-then-level-elements
returns-then-level-elements g c = λ place is.
    let search = search_along _ _ _ _ (sym c.levels.auto.elements) c.requires.search in
    last_step (g.T.Tables.rows c.args.t.now) c.args.conditions.now c.args.levels.now c.levels.elements c.levels.level c.levels.invariant.level search
    place c.levels.after c.in-Some.e c.index-levels-level.result c.index-levels-level.is c.if-level-elements.true c.in-Some.ensures (c.levels.invariant.at place is)

pub levels-smaller-in-Some : goal.levels-smaller-in-Some
levels-smaller-in-Some g c =
    let search = search_along _ _ _ _ (sym c.levels.auto.elements) c.requires.search in
    deeper_smaller (g.T.Tables.rows c.args.t.now) c.args.conditions.now c.args.levels.now c.levels.elements c.levels.level c.levels.invariant.level search
    c.levels.after c.in-Some.e c.index-levels-level.result c.index-levels-level.is c.if-level-elements.false c.in-Some.ensures

pub levels-preserved-in-Some : goal.levels-preserved-in-Some
levels-preserved-in-Some g c =
    let search = search_along _ _ _ _ (sym c.levels.auto.elements) c.requires.search in
    record {
      hints = length-set c.levels.hints c.levels.level _ ∙ c.levels.invariant.hints ∙ sym (length-set c.levels.elements c.levels.level c.in-Some.e);
      level = deeper_below c.levels.elements c.levels.level c.in-Some.e c.levels.invariant.level c.if-level-elements.false;
      at = λ place is. deeper_step (g.T.Tables.rows c.args.t.now) c.args.conditions.now c.args.levels.now c.levels.elements c.levels.level c.levels.invariant.level search
          place c.levels.after c.in-Some.e c.index-levels-level.result c.index-levels-level.is c.if-level-elements.false c.in-Some.ensures (c.levels.invariant.at place is);
    }

pub returns-then-level-eq0 : goal.returns-then-level-eq0
returns-then-level-eq0 g c = λ place is.
    let search = search_along _ _ _ _ (sym c.levels.auto.elements) c.requires.search in
    none_step (g.T.Tables.rows c.args.t.now) c.args.conditions.now c.args.levels.now c.levels.elements c.levels.level c.levels.invariant.level search
    place c.levels.after c.index-levels-level.result c.index-levels-level.is c.if-level-eq0.true c.in-None.ensures (c.levels.invariant.at place is)

pub levels-smaller : goal.levels-smaller
levels-smaller g c =
    let search = search_along _ _ _ _ (sym c.levels.auto.elements) c.requires.search in
    back_smaller (g.T.Tables.rows c.args.t.now) c.args.conditions.now c.args.levels.now c.levels.elements c.levels.level c.levels.invariant.level search
    c.levels.after _ c.if-level-eq0.false

pub levels-preserved : goal.levels-preserved
levels-preserved g c =
    let search = search_along _ _ _ _ (sym c.levels.auto.elements) c.requires.search in
    record {
      level = omega (arith, c.levels.invariant.level);
      hints = length-set c.levels.hints c.levels.level _ ∙ c.levels.invariant.hints;
      at = λ place is. back_step (g.T.Tables.rows c.args.t.now) c.args.conditions.now c.args.levels.now c.levels.elements c.levels.level c.levels.invariant.level search
          place c.levels.after c.index-levels-level.result c.index-levels-level.is _ c.if-level-eq0.false c.in-None.ensures (c.levels.invariant.at place is);
    }
