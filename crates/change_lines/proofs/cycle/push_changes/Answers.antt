use Rattle.changes.specs.Moments.{choice_in, values_in}
use Rattle.change_lines.specs.Telling.{site_in}
use Rattle.change_lines.proofs.CycleSteps.{places-more}
use Rattle.change_lines.proofs.cycle.push_changes.Goals as goal

pub loop-place-preserved : goal.loop-place-preserved
loop-place-preserved c =
    places-more (site_in c.args.site.now) (choice_in c.args.site.now.moment) (values_in c.args.site.now.moment) c.args.places.now
    c.loop-place.place-index c.args.lines.now.items c.loop-place.lines.items c.push_place.new.lines.items c.loop-place-test.true
    c.loop-place.invariant c.in_ok-push_place.ensures
