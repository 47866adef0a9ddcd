use Rattle.std.proofs.Common.{pow_pos}
use Rattle.std.specs.Prelude.{slice_index}
use Rattle.design_core.specs.Explained.{place_width}
use Rattle.plain_list.proofs.Trying.{AreNumbersFor-chosen}
use Rattle.plain_list.proofs.explain.zero_all.Goals as goal

pub loop-i-preserved : goal.loop-i-preserved
loop-i-preserved c =
    AreNumbersFor-chosen c.args.d.now c.args.places.now c.loop-i.numbers c.loop-i.i 0 c.loop-i.invariant (pow_pos (place_width c.args.d.now (slice_index c.args.places.now c.loop-i.i)))
