use Rattle.std.proofs.Common.{◌-◌, get_or, refl}
use Rattle.trail_core.proofs.Marks.{marks_same, marks_set}
use Rattle.trail_core.proofs.Visiting.{visits_true}
use Rattle.trail_core.proofs.Giving.{pair_is, other_variable, replacement_room, other_reason, other_falsified, moved_gives, forced_gives}
use Rattle.trail_core.proofs.visit.visit_pair.Goals as goal

pub has_value-requires : goal.has_value-requires
has_value-requires c = other_variable c.args.trail.now c.args.watches.now c.args.pair c.args.number c.requires.known c.requires.oriented

pub returns-then-has_value-clause-gives : goal.returns-then-has_value-clause-gives
returns-then-has_value-clause-gives c =
    visits_true c.args.trail.now c.args.watches.now c.args.pair (get_or c.args.watches.now.pairs.items (c.args.number - 1) c.args.pair) c.args.number c.requires.known c.requires.oriented
    (λ d. pair_is c.args.trail.now c.args.watches.now c.args.number c.args.pair.first c.args.pair d c.requires.known) (c.has_value.ensures.yes c.if-has_value.true)

pub replacement-requires : goal.replacement-requires
replacement-requires c = c.requires.known.number

pub move_watch-requires-clause-number : goal.move_watch-requires-clause-number
move_watch-requires-clause-number c = (c.requires.known.above, c.requires.known.within)

pub move_watch-requires-clause-within : goal.move_watch-requires-clause-within
move_watch-requires-clause-within c = (replacement_room c.args.trail.now c.args.watches.now c.args.pair c.in-Some.next c.args.number c.requires.known c.requires.oriented c.in-Some.ensures.found).0

pub move_watch-requires-clause-room : goal.move_watch-requires-clause-room
move_watch-requires-clause-room c = (replacement_room c.args.trail.now c.args.watches.now c.args.pair c.in-Some.next c.args.number c.requires.known c.requires.oriented c.in-Some.ensures.found).1

pub returns-in-Some-clause-gives : goal.returns-in-Some-clause-gives
returns-in-Some-clause-gives c =
    moved_gives c.args.trail.now c.args.watches.now c.move_watch.new.watches c.args.pair c.in-Some.next c.args.number c.requires.known c.requires.oriented c.in-Some.ensures.found c.move_watch.ensures

pub force_other-requires-clause-variable : goal.force_other-requires-clause-variable
force_other-requires-clause-variable c = other_variable c.args.trail.now c.args.watches.now c.args.pair c.args.number c.requires.known c.requires.oriented

pub force_other-requires-clause-reason : goal.force_other-requires-clause-reason
force_other-requires-clause-reason c = other_reason c.args.trail.now c.args.watches.now c.args.pair c.args.number c.requires.known c.requires.oriented c.in-None.ensures.none

pub force_other-requires-clause-falsified : goal.force_other-requires-clause-falsified
force_other-requires-clause-falsified c = other_falsified c.args.trail.now c.args.watches.now c.args.pair c.args.number c.requires.known c.requires.oriented c.in-None.ensures.none (c.has_value.ensures.no c.if-has_value.false)

pub returns-in-None-clause-gives : goal.returns-in-None-clause-gives
returns-in-None-clause-gives c =
    forced_gives c.args.trail.now c.force_other.new.trail c.args.watches.now c.args.pair c.args.number c.force_other.result c.requires.known c.requires.oriented c.force_other.ensures

pub returns-then-has_value-clause-marks : goal.returns-then-has_value-clause-marks
returns-then-has_value-clause-marks c = marks_same c.args.watches.now.pairs.items c.args.watches.now.pairs.items refl

pub returns-in-Some-clause-marks : goal.returns-in-Some-clause-marks
returns-in-Some-clause-marks c = marks_set c.args.watches.now.pairs.items c.move_watch.new.watches.pairs.items (c.args.number - 1) record { first = c.args.pair.second; second = c.in-Some.next }
    (other_variable c.args.trail.now c.args.watches.now c.args.pair c.args.number c.requires.known c.requires.oriented).above c.move_watch.ensures.pairs

pub returns-in-None-clause-marks : goal.returns-in-None-clause-marks
returns-in-None-clause-marks c = marks_same c.args.watches.now.pairs.items c.args.watches.now.pairs.items refl
