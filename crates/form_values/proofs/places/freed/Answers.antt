use Rattle.std.proofs.Common.{false, get_or}
use Rattle.form_values.proofs.PlaceSteps.{freed-more}
use Rattle.form_values.proofs.places.freed.Goals as goal

pub loop-i-preserved : goal.loop-i-preserved
loop-i-preserved c =
    let marked = c.in_ok-mark_all.ensures in
    record {
      few = marked.few;
      places = freed-more c.args.groups.now c.args.members.now c.loop-i.i (λ p. get_or c.loop-i.table p false)
          (λ p. get_or c.mark_all.new.table p false) c.index-groups-members.result c.as_slice.result.now c.requires c.loop-i-test.true
          c.index-groups-members.is c.as_slice.ensures c.loop-i.invariant.places marked.marks;
    }
