use Rattle.std.proofs.Common.{refl}
use Rattle.txn_codec.specs.PiecesReading.{spelled_name_at}
use Rattle.txn_codec.proofs.SpelledNames.{spelled_is_name}
use Rattle.txn_codec.proofs.pieces.skim_spelled_name.Goals as goal

pub of-requires : goal.of-requires
unfolding spelled_name_at
of-requires c = spelled_is_name c.args.text.now c.in_ok-bytes.bytes.now c.in_ok-bytes.rest.now (rw (c.in_ok-n.ensures, c.in_ok-bytes.ensures) refl)
