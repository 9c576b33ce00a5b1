use Rattle.base_store.proofs.Areas.{keeps_or_is_damaged}
use Rattle.base_store.proofs.laws.keeps_or_is_damaged.Goals as goal

pub returns : goal.returns
returns c = keeps_or_is_damaged
