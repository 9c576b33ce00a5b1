use Rattle.gen_arena.proofs.ListLemmas.{put_at-within}
use Rattle.std.proofs.Common.{sym, arith}
use Rattle.gen_arena.proofs.places.put.Goals as goal

pub returns-then-slot-len-clause-places : goal.returns-then-slot-len-clause-places
returns-then-slot-len-clause-places c = sym (put_at-within c.args.places.now.items c.args.slot c.args.place (omega arith))
