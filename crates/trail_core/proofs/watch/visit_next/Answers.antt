use Rattle.std.proofs.Common.{◌∙◌, Some, refl, sym, ap}
use Rattle.trail_core.proofs.Marks.{marks_same, marks_after}
use Rattle.trail_core.proofs.Passing.{going_known}
use Rattle.trail_core.proofs.Giving.{going_copied, going_stays, going_falsified, going_left}
use Rattle.trail_core.proofs.watch.visit_next.Goals as goal

pub visit-requires : goal.visit-requires
visit-requires c = going_known c.args.trail.now c.args.watches.now c.args.sweep.now c.args.place c.number_at-number.result c.requires.going c.requires.within (sym c.number_at-number.ensures)

pub returns-then-is_some-clause-going : goal.returns-then-is_some-clause-going
returns-then-is_some-clause-going c =
    going_copied c.args.trail.now c.args.watches.now c.keep.new.watches c.args.sweep.now c.keep.new.sweep c.args.place c.number_at-number.result c.requires.going c.requires.within (sym c.number_at-number.ensures)
    record { lists = c.keep.ensures.lists; pairs = c.keep.ensures.pairs; gone_over = c.keep.ensures.gone_over; kept = c.keep.ensures.kept; gone = c.keep.ensures.gone }
    c.keep.ensures.conflict (sym c.is_some.ensures ∙ c.if-is_some.true)

pub returns-in-Leaves-clause-going : goal.returns-in-Leaves-clause-going
returns-in-Leaves-clause-going c =
    going_left c.args.trail.now c.visit.new.trail c.args.watches.now c.visit.new.watches c.args.sweep.now c.args.place c.number_at-number.result c.requires.going c.requires.within (sym c.number_at-number.ensures) (sym c.is_some.ensures ∙ c.if-is_some.false) c.in-Leaves.ensures.gives c.visit.ensures.same c.visit.ensures.capacity

pub returns-in-Stays-clause-going : goal.returns-in-Stays-clause-going
returns-in-Stays-clause-going c =
    going_stays c.args.trail.now c.visit.new.trail c.args.watches.now c.visit.new.watches c.keep-in-Stays.new.watches c.args.sweep.now c.keep-in-Stays.new.sweep c.args.place c.number_at-number.result c.requires.going c.requires.within (sym c.number_at-number.ensures) c.in-Stays.ensures.gives c.visit.ensures.same
    record { lists = c.keep-in-Stays.ensures.lists; pairs = c.keep-in-Stays.ensures.pairs; gone_over = c.keep-in-Stays.ensures.gone_over; kept = c.keep-in-Stays.ensures.kept; gone = c.keep-in-Stays.ensures.gone }
    c.keep-in-Stays.ensures.conflict (sym c.is_some.ensures ∙ c.if-is_some.false) c.visit.ensures.capacity

pub returns-in-Falsified-clause-going : goal.returns-in-Falsified-clause-going
returns-in-Falsified-clause-going c =
    going_falsified c.args.trail.now c.visit.new.trail c.args.watches.now c.visit.new.watches c.keep-in-Falsified.new.watches c.args.sweep.now
    record { gone = c.keep-in-Falsified.new.sweep.gone; kept = c.keep-in-Falsified.new.sweep.kept; conflict = Some c.number_at-number.result }
    c.args.place c.number_at-number.result c.requires.going c.requires.within (sym c.number_at-number.ensures) c.in-Falsified.ensures.gives.0 c.in-Falsified.ensures.gives.1 c.visit.ensures.same
    record { lists = c.keep-in-Falsified.ensures.lists; pairs = c.keep-in-Falsified.ensures.pairs; gone_over = c.keep-in-Falsified.ensures.gone_over; kept = c.keep-in-Falsified.ensures.kept; gone = c.keep-in-Falsified.ensures.gone }
    refl c.visit.ensures.capacity

pub returns-then-is_some-clause-marks : goal.returns-then-is_some-clause-marks
returns-then-is_some-clause-marks c = marks_same c.args.watches.now.pairs.items c.keep.new.watches.pairs.items (ap (λ v. v.items) c.keep.ensures.pairs)

pub returns-in-Stays-clause-marks : goal.returns-in-Stays-clause-marks
returns-in-Stays-clause-marks c = marks_after c.args.watches.now.pairs.items c.visit.new.watches.pairs.items c.keep-in-Stays.new.watches.pairs.items (ap (λ v. v.items) c.keep-in-Stays.ensures.pairs) c.visit.ensures.marks

pub returns-in-Falsified-clause-marks : goal.returns-in-Falsified-clause-marks
returns-in-Falsified-clause-marks c = marks_after c.args.watches.now.pairs.items c.visit.new.watches.pairs.items c.keep-in-Falsified.new.watches.pairs.items (ap (λ v. v.items) c.keep-in-Falsified.ensures.pairs) c.visit.ensures.marks
