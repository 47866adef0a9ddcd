use Rattle.std.proofs.Common.{map}
use Rattle.report_sets.specs.Found.{suspect_of}
use Rattle.check_cmd.proofs.Tables.{take-next}
use Rattle.check_cmd.proofs.table.first_other.Goals as goal

pub loop-place-preserved : goal.loop-place-preserved
loop-place-preserved c =
    take-next c.args.suspects.now (map (suspect_of c.args.places.now) c.args.groups.now) c.loop-place.place c.loop-place.invariant
    (c.is_same_at.ensures.0 c.if-not-is_same_at.false)
