use Rattle.std.proofs.Common.{length, arith}
use Rattle.byteorder.specs.Endian.{big_bytes}
use Rattle.txn_codec.specs.Spelling.{change_bytes, HasNames}
use Rattle.txn_codec.proofs.Writing.{item_fits, appends_item, all_more}
use Rattle.txn_codec.proofs.changes.put_changes.Goals as goal

pub put_change-requires : goal.put_change-requires
put_change-requires c =
    omega (arith, c.requires.room, c.loop-change.invariant.appended.len, c.loop-change.invariant.appended.capacity, item_fits change_bytes c.args.changes.now c.loop-change.change-index c.change-item.result c.loop-change-test.true c.change-item.is)

pub loop-change-preserved : goal.loop-change-preserved
loop-change-preserved c = record {
  appended = appends_item (big_bytes 4 (length c.args.changes.now)) change_bytes c.args.changes.now c.loop-change.change-index c.change-item.result c.loop-change-test.true c.change-item.is c.loop-change.invariant.appended c.put_change.ensures.appended;
  names = all_more (λ ch. HasNames ch.row) c.args.changes.now c.loop-change.change-index c.change-item.result c.loop-change-test.true c.change-item.is c.loop-change.invariant.names c.put_change.ensures.names;
}
