use Rattle.std.proofs.Common.{ap, map, subst, sym, ◌∙◌}
use Rattle.join_ops.specs.Joins.{Search, AreLeft}
use Rattle.join_ops.specs.Levels.{fixed_on}
use Rattle.join_ops.proofs.LeftLemmas.{skips_alike}
use Rattle.join_ops.proofs.by_levels.LevelSearch.skip_alike.Goals as goal

pub returns-clause-skips : goal.returns-clause-skips
returns-clause-skips c = λ table left last are stands.
    let own = c.self.inside in
    skips_alike table own.conditions.items (map fixed_on own.levels.items) own.at c.args.levels own.elements.items last left
    (subst (λ (s : Search). AreLeft table s left) (sym c.self.view_is) are) (ap (λ (s : Search). s.place) c.self.view_is ∙ stands)
