use Rattle.std.proofs.Common.{get_or, arith}
use Rattle.trail_core.specs.Shorts.{no_literal}
use Rattle.trail_core.proofs.Looks.{has_at}
use Rattle.trail_core.proofs.Entering.{same_itself, same_then, places_none, places_more, places_all}
use Rattle.trail_core.proofs.shorts.make_short_places.Goals as goal

pub loop-l-init : goal.loop-l-init
loop-l-init c = record { same = same_itself c.args.shorts.now; places = places_none c.args.shorts.now c.args.literals.now }

pub make_short_place-requires : goal.make_short_place-requires
make_short_place-requires c = omega (arith, c.loop-l.invariant.same.size, c.requires (get_or c.args.literals.now c.loop-l.l-index no_literal) (has_at c.args.literals.now c.loop-l.l-index no_literal c.loop-l-test.true))

pub returns-in_err-make_short_place-clause-same : goal.returns-in_err-make_short_place-clause-same
returns-in_err-make_short_place-clause-same c = same_then c.args.shorts.now c.loop-l.shorts c.make_short_place.new.shorts c.loop-l.invariant.same c.make_short_place.ensures.same

pub loop-l-preserved : goal.loop-l-preserved
loop-l-preserved c = record {
  same = same_then c.args.shorts.now c.loop-l.shorts c.make_short_place.new.shorts c.loop-l.invariant.same c.make_short_place.ensures.same;
  places = places_more c.loop-l.shorts c.make_short_place.new.shorts c.args.literals.now c.loop-l.l-index no_literal c.loop-l-test.true c.make_short_place.ensures.same c.loop-l.invariant.places c.in_ok-make_short_place.ensures.more;
}

pub returns-clause-same : goal.returns-clause-same
returns-clause-same c = c.loop-l.invariant.same

pub returns-clause-more : goal.returns-clause-more
returns-clause-more c = places_all c.loop-l.shorts c.args.literals.now c.loop-l.l-index c.loop-l-test.false c.loop-l.invariant.places
