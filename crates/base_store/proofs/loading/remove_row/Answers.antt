use Rattle.std.proofs.lemmas.Result.{on_ok_weaker}
use Rattle.base_store.proofs.Following.{absent_follows, removed_follows}
use Rattle.base_store.proofs.loading.remove_row.Goals as goal

pub returns-in-Some : goal.returns-in-Some
returns-in-Some c = λ o is place. on_ok_weaker c.del.result (λ loses. removed_follows o _ _ _ is _ _ (c.in-Some.ensures o place) loses) c.del.ensures

pub returns-in-None : goal.returns-in-None
returns-in-None c = λ o is place. absent_follows o _ _ _ (c.in-None.ensures o place)
