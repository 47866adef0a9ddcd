use Rattle.std.proofs.Common.{get_or, subst, arith}
use Rattle.trail_core.specs.Shorts.{no_literal, PushesShort}
use Rattle.trail_core.proofs.Looks.{has_at}
use Rattle.trail_core.proofs.Entering.{entered_none, entered_place, entered_more, entered_all}
use Rattle.trail_core.proofs.shorts.enter_all.Goals as goal

pub loop-place-init : goal.loop-place-init
loop-place-init c = entered_none c.args.shorts.now c.args.number c.args.literals.now

pub push_short-requires-clause-within : goal.push_short-requires-clause-within
push_short-requires-clause-within c = omega (arith, c.loop-place.invariant.size, c.requires.lists (get_or c.args.literals.now c.loop-place.place no_literal) (has_at c.args.literals.now c.loop-place.place no_literal c.loop-place-test.true))

pub push_short-requires-clause-place : goal.push_short-requires-clause-place
push_short-requires-clause-place c = entered_place c.args.shorts.now c.loop-place.shorts c.args.number c.args.literals.now c.loop-place.place no_literal c.requires.distinct c.loop-place-test.true c.requires.places c.loop-place.invariant

pub loop-place-preserved : goal.loop-place-preserved
loop-place-preserved c = entered_more c.args.shorts.now c.loop-place.shorts c.push_short.new.shorts c.args.number c.args.literals.now c.loop-place.place no_literal c.requires.distinct c.loop-place-test.true c.loop-place.invariant
    (subst (PushesShort c.loop-place.shorts c.push_short.new.shorts (get_or c.args.literals.now c.loop-place.place no_literal)) c.entry_at-short.ensures c.push_short.ensures)

pub returns : goal.returns
returns c = entered_all c.args.shorts.now c.loop-place.shorts c.args.number c.args.literals.now c.loop-place.place c.loop-place-test.false c.loop-place.invariant
