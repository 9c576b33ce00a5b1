use Rattle.txn_codec.proofs.SpelledChanges.{spelled_changes}
use Rattle.txn_codec.proofs.changes.write_changes.Goals as goal

pub returns-clause-payload : goal.returns-clause-payload
returns-clause-payload c = spelled_changes c.args.changes.now c.requires c.put_changes.ensures.names
