use Rattle.std.proofs.Common.{false, get_or, arith}
use Rattle.clause_base.specs.declared.literal.Lit.{Lit}
use Rattle.trail_core.proofs.Looks.{has_at}
use Rattle.trail_core.proofs.Widening.{wider_itself, wider_then, places_none, places_more, places_all}
use Rattle.trail_core.proofs.watches.make_places.Goals as goal

abbrev none : Lit
none = record { var = 0; negated = false }

pub loop-l-init : goal.loop-l-init
loop-l-init c = record { wider = wider_itself c.args.watches.now; places = places_none c.args.watches.now c.args.watches.now c.args.literals.now }

pub make_place-requires : goal.make_place-requires
make_place-requires c = omega (arith, c.loop-l.invariant.wider.size, c.requires (get_or c.args.literals.now c.loop-l.l-index none) (has_at c.args.literals.now c.loop-l.l-index none c.loop-l-test.true))

pub returns-in_err-make_place-clause-wider : goal.returns-in_err-make_place-clause-wider
returns-in_err-make_place-clause-wider c = wider_then c.args.watches.now c.loop-l.watches c.make_place.new.watches c.loop-l.invariant.wider c.make_place.ensures.wider

pub loop-l-preserved : goal.loop-l-preserved
loop-l-preserved c = record {
  wider = wider_then c.args.watches.now c.loop-l.watches c.make_place.new.watches c.loop-l.invariant.wider c.make_place.ensures.wider;
  places = places_more c.args.watches.now c.loop-l.watches c.make_place.new.watches c.args.literals.now c.loop-l.l-index none c.loop-l-test.true c.loop-l.invariant.wider c.make_place.ensures.wider c.loop-l.invariant.places c.in_ok-make_place.ensures.more;
}

pub returns-clause-wider : goal.returns-clause-wider
returns-clause-wider c = c.loop-l.invariant.wider

pub returns-clause-more : goal.returns-clause-more
returns-clause-more c = places_all c.args.watches.now c.loop-l.watches c.args.literals.now c.loop-l.l-index c.loop-l-test.false c.loop-l.invariant.places
