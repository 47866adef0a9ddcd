use Rattle.std.proofs.Common.{◌<◌, false, None, length, sym, ap, subst, arith}
use Rattle.std.specs.Prelude.{IfSome}
use Rattle.trail_core.specs.declared.entry.Entry.{Entry}
use Rattle.trail_core.specs.Look.{Falsifies}
use Rattle.trail_core.specs.Watching.{list_of}
use Rattle.trail_core.proofs.Marks.{marks_after}
use Rattle.trail_core.proofs.Passing.{ends_from, ends_rests, ends_falsified}
use Rattle.trail_core.proofs.watch.sweep_list.Goals as goal

pub visit_next-requires-clause-going : goal.visit_next-requires-clause-going
visit_next-requires-clause-going c = c.loop-place.invariant.going

pub visit_next-requires-clause-within : goal.visit_next-requires-clause-within
visit_next-requires-clause-within c =
    subst (λ g. c.loop-place.place < length (list_of c.loop-place.watches.lists.items g)) (sym c.loop-place.invariant.gone) (omega (arith, c.loop-place.invariant.end, c.loop-place-test.true))

abbrev entry : Entry
entry = record { lit = record { var = 0; negated = false }; decision_level = 0; reason = None }

pub returns-in-Some-clause-gives : goal.returns-in-Some-clause-gives
returns-in-Some-clause-gives c = (
  ends_falsified c.loop-place.trail c.loop-place.watches c.end_list.new.watches c.loop-place.sweep c.loop-place.place c.loop-place.invariant.going
      (ends_from c.loop-place.trail c.loop-place.watches c.end_list.new.watches c.loop-place.sweep c.loop-place.place c.len-place-end.result c.args.gone c.loop-place.invariant.going c.loop-place.invariant.gone c.loop-place.invariant.end (omega (arith, c.loop-place-test.false)) (omega (arith, c.loop-place.auto.place-end)) c.end_list.ensures.pairs c.end_list.ensures.gone_over c.end_list.ensures.lists),
  subst (λ o. IfSome o (λ n. Falsifies c.loop-place.trail n)) c.in-Some.is c.loop-place.invariant.going.conflict,
)

pub returns-in-None-clause-gives : goal.returns-in-None-clause-gives
returns-in-None-clause-gives c =
    ends_rests c.loop-place.trail c.loop-place.watches c.end_list.new.watches c.loop-place.sweep c.loop-place.place entry c.loop-place.invariant.going
    (ends_from c.loop-place.trail c.loop-place.watches c.end_list.new.watches c.loop-place.sweep c.loop-place.place c.len-place-end.result c.args.gone c.loop-place.invariant.going c.loop-place.invariant.gone c.loop-place.invariant.end (omega (arith, c.loop-place-test.false)) (omega (arith, c.loop-place.auto.place-end)) c.end_list.ensures.pairs c.end_list.ensures.gone_over c.end_list.ensures.lists)
    c.in-None.is

pub returns-in-Some-clause-marks : goal.returns-in-Some-clause-marks
returns-in-Some-clause-marks c = marks_after c.args.watches.now.pairs.items c.loop-place.watches.pairs.items c.end_list.new.watches.pairs.items (ap (λ v. v.items) c.end_list.ensures.pairs) c.loop-place.invariant.marks

pub returns-in-None-clause-marks : goal.returns-in-None-clause-marks
returns-in-None-clause-marks c = marks_after c.args.watches.now.pairs.items c.loop-place.watches.pairs.items c.end_list.new.watches.pairs.items (ap (λ v. v.items) c.end_list.ensures.pairs) c.loop-place.invariant.marks
