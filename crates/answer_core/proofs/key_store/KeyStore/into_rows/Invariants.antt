use Rattle.std.proofs.Common.{◌≡◌, ◌++◌}
use Rattle.answer_core.specs.Ranks.{items_of}
use Rattle.answer_core.proofs.key_store.KeyStore.into_rows.Given as goal

abbrev pub invariant-loop-key : goal.invariant-loop-key
invariant-loop-key l = items_of l.rows.items ++ items_of l.key-iterator ≡ l.fn.self
