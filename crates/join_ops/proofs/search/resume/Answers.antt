use Rattle.std.proofs.Common.{map, sym, subst}
use Rattle.join_ops.specs.Joins.{Start, Behind, IsLast}
use Rattle.join_ops.specs.Levels.{Finds, fixed_on, search_place}
use Rattle.join_ops.specs.declared.search.At.{At}
use Rattle.join_ops.proofs.SearchSteps.{stand_step, start_step}
use Rattle.join_ops.proofs.search.resume.Goals as goal

pub returns-in-Start : goal.returns-in-Start
returns-in-Start g c =
    let rows = g.T.Tables.rows c.args.t.now in
    let fixed = map fixed_on c.args.levels.now in
    subst (λ (a : At). IsLast rows c.args.conditions.now fixed (search_place a c.args.elements.now) → Finds rows c.args.conditions.now fixed (search_place a c.args.elements.now) c.search.result c.search.new.elements) (sym c.in-Start.is)
    (λ last. c.search.ensures Start (start_step rows c.args.conditions.now c.args.levels.now _ c.requires.search))

pub returns-in-Behind : goal.returns-in-Behind
returns-in-Behind g c =
    let rows = g.T.Tables.rows c.args.t.now in
    let fixed = map fixed_on c.args.levels.now in
    let s = c.search-in-Behind in
    subst (λ (a : At). IsLast rows c.args.conditions.now fixed (search_place a c.args.elements.now) → Finds rows c.args.conditions.now fixed (search_place a c.args.elements.now) s.result s.new.elements) (sym c.in-Behind.is)
    (λ last. s.ensures (Behind c.args.elements.now) (stand_step rows c.args.conditions.now c.args.levels.now c.args.elements.now _ c.requires.search last))
