use Rattle.base_store.proofs.Following.{added_follows}
use Rattle.base_store.proofs.loading.add_row.Goals as goal

pub returns-clause-added : goal.returns-clause-added
returns-clause-added c = λ o place. added_follows o _ _ _ _ _ _ c.in_ok-row.ensures.names c.len.ensures.distinct (c.in_ok-row.ensures.numbers o place) c.in_ok-add.ensures
