use Rattle.join_ops.proofs.Rooms.{known_by, room_falls, offered_known}
use Rattle.join_ops.proofs.level.candidate.Goals as goal

pub offers-smaller : goal.offers-smaller
offers-smaller g c =
    let rows = g.T.Tables.rows c.args.t.now in
    room_falls (known_by rows c.args.level.now.source) c.offers.above c.in-Some.e c.in-Some.ensures.1 (offered_known rows c.args.level.now.source c.args.front.now c.in-Some.e c.in-Some.ensures.0)
