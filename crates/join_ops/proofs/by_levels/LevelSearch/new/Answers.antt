use Rattle.std.proofs.Common.{sym, subst, ◌∙◌, map, length, List}
use Rattle.join_ops.specs.Levels.{AreLevels, fixed_on}
use Rattle.join_ops.specs.declared.condition.Condition.{Condition}
use Rattle.join_ops.proofs.SourceLemmas.{new_search, used_along}
use Rattle.join_ops.proofs.AllFound.{new_left}
use Rattle.join_ops.proofs.by_levels.LevelSearch.new.Goals as goal

pub levels-requires : goal.levels-requires
levels-requires c = λ k below. used_along c.args.conditions.items c.as_slice.result.now _ k (sym c.as_slice.ensures.value) c.requires below

pub invariant_of-result : goal.invariant_of-result
invariant_of-result c = (
  new_search c.args.conditions.items c.in_ok-levels.levels.items c.args.fixed.now (length c.in_ok-elements.elements.items) c.requires c.in_ok-levels.ensures.fixed
      (sym c.in_ok-elements.elements.ok.0 ∙ c.in_ok-elements.ensures.len) (subst (λ (l : List Condition). AreLevels l c.in_ok-levels.levels.items) c.as_slice.ensures.value c.in_ok-levels.ensures.each),
  sym c.in_ok-hints.hints.ok.0 ∙ c.in_ok-hints.ensures.len ∙ sym (sym c.in_ok-elements.elements.ok.0 ∙ c.in_ok-elements.ensures.len),
)

pub returns-clause-fixed : goal.returns-clause-fixed
returns-clause-fixed c = c.in_ok-levels.ensures.fixed

pub returns-clause-left : goal.returns-clause-left
returns-clause-left c = λ table. new_left table c.args.conditions.items c.args.fixed.now (map fixed_on c.in_ok-levels.levels.items) c.requires c.in_ok-levels.ensures.fixed
