use Rattle.std.proofs.Common.{◌∙◌}
use Rattle.completion.proofs.SearchLemmas.{item_read}
use Rattle.completion.proofs.search.first_near.Goals as goal

pub returns : goal.returns
returns g c = λ p tells parts. (c.point_near-at.result, c.point_near-at.ensures.point p tells parts, c.copied-first.ensures ∙ item_read c.args.list.now c.point_near-at.result c.get.result c.get.ensures.lookup.3)
