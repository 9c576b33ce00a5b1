use Rattle.std.proofs.Common.{arith, subst, sym}
use Rattle.dl_base.specs.Names.{IsName}
use Rattle.dl_base.proofs.NameRules.{bare_is_name}
use Rattle.dl_base.proofs.name_readers.read_name.Goals as goal

pub from_vec-requires : goal.from_vec-requires
from_vec-requires c =
    subst IsName (sym c.in_ok-bytes.ensures.items)
    (bare_is_name 255 c.args.text.now c.in_ok-word.word.now c.in_ok-word.rest.now (omega arith) (omega arith) c.in_ok-word.ensures)
