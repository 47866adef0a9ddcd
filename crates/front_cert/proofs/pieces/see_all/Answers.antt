use Rattle.std.proofs.Common.{◌*◌, length, min}
use Rattle.front_cert.proofs.Seeing.{part-next, part-room}
use Rattle.front_cert.proofs.pieces.see_all.Goals as goal

pub join_part-requires : goal.join_part-requires
join_part-requires g c =
    let target = c.args.target.now in
    part-room target.members.now target.least target.more c.args.log.now c.in_ok-parts.parts c.in_ok-parts.ensures c.loop-place.place
    (min (length c.args.log.now) (c.loop-place.place * c.in_ok-parts.parts.many)) c.part.result.now c.loop-place.seen c.part.ensures c.loop-place.invariant

pub loop-place-preserved : goal.loop-place-preserved
loop-place-preserved g c =
    let target = c.args.target.now in
    part-next target.members.now target.least target.more c.args.log.now c.in_ok-parts.parts c.in_ok-parts.ensures c.loop-place.place c.part.result.now
    c.loop-place.seen c.join_part.new.self c.part.ensures c.loop-place.invariant c.in_ok-join_part.ensures
