use Rattle.std.proofs.Common.{◌∙◌, length, sym, ap, subst, arith}
use Rattle.std.specs.Prelude.{IsSome}
use Rattle.trail_core.specs.Visits.{IsGone}
use Rattle.trail_core.proofs.Due.{due_propagates, due_all}
use Rattle.trail_core.proofs.Sweeping.{sweeps_due}
use Rattle.trail_core.proofs.Placing.{well_propagates}
use Rattle.trail_core.proofs.Propagating.{Propagates-then}
use Rattle.trail_core.proofs.Marks.{marked_propagates, marked_swept}
use Rattle.trail_core.proofs.Going.{gone_told, told_there, well_paired, sweep_paired}
use Rattle.trail_core.proofs.propagation.sweep_next.Goals as goal

pub sweep_shorts-requires-clause-present : goal.sweep_shorts-requires-clause-present
sweep_shorts-requires-clause-present c = c.requires.well.kept.present

pub unwrap-l-requires : goal.unwrap-l-requires
unwrap-l-requires c = subst (λ o. IsSome o) (sym c.at.ensures) (told_there c.sweep_shorts.new.trail.entries c.args.watches.now.gone_over (omega (arith, c.requires.next, c.sweep_shorts.ensures.appends.longer)))

pub sweep_list-requires-clause-well : goal.sweep_list-requires-clause-well
sweep_list-requires-clause-well c = well_paired c.sweep_shorts.new.trail c.args.watches.now c.args.shorts.now.fixed 0 c.args.watches.now.gone_over (omega (arith, ap length c.sweep_shorts.ensures.appends.clauses, c.requires.all)) (well_propagates c.args.trail.now c.sweep_shorts.new.trail c.args.shorts.now.fixed c.args.watches.now c.sweep_shorts.ensures.appends c.requires.well)

pub sweep_list-requires-clause-gone : goal.sweep_list-requires-clause-gone
sweep_list-requires-clause-gone c =
    let well = well_propagates c.args.trail.now c.sweep_shorts.new.trail c.args.shorts.now.fixed c.args.watches.now c.sweep_shorts.ensures.appends c.requires.well in
    subst (IsGone c.sweep_shorts.new.trail c.args.watches.now.gone_over) (sym c.opposite.ensures)
    (gone_told c.sweep_shorts.new.trail c.args.watches.now.gone_over c.unwrap-l.result c.sweep_shorts.ensures.trail well.kept.present (sym c.at.ensures ∙ c.unwrap-l.ensures))

pub sweep_list-requires-clause-next : goal.sweep_list-requires-clause-next
sweep_list-requires-clause-next c = omega (arith, c.requires.next, c.sweep_shorts.ensures.appends.longer)

pub returns-in-Rests-clause-appends : goal.returns-in-Rests-clause-appends
returns-in-Rests-clause-appends c = Propagates-then c.args.trail.now c.sweep_shorts.new.trail c.sweep_list.new.trail c.sweep_shorts.ensures.appends c.sweep_list.ensures.appends

pub returns-in-Rests-clause-due : goal.returns-in-Rests-clause-due
returns-in-Rests-clause-due c = sweeps_due c.args.trail.now c.sweep_shorts.new.trail c.sweep_list.new.trail c.args.shorts.now.fixed c.args.watches.now c.sweep_list.new.watches c.sweep_list.result c.sweep_shorts.ensures.appends c.sweep_list.ensures.appends c.sweep_list.ensures.gone_over c.requires.next c.requires.due c.in-Rests.ensures.gives

pub returns-in-Falsified-clause-gives : goal.returns-in-Falsified-clause-gives
returns-in-Falsified-clause-gives c = (well_propagates c.args.trail.now c.sweep_shorts.new.trail c.args.shorts.now.fixed c.args.watches.now c.sweep_shorts.ensures.appends c.requires.well, c.in-Falsified.ensures.gives)

pub returns-in-Falsified-clause-due : goal.returns-in-Falsified-clause-due
returns-in-Falsified-clause-due c =
    due_all c.sweep_shorts.new.trail c.args.shorts.now.fixed (length c.args.trail.now.clauses) (length c.sweep_shorts.new.trail.clauses) c.args.watches.now.gone_over (omega (arith, ap length c.sweep_shorts.ensures.appends.clauses))
    (due_propagates c.args.trail.now c.sweep_shorts.new.trail c.args.shorts.now.fixed (length c.args.trail.now.clauses) c.args.watches.now.gone_over c.sweep_shorts.ensures.appends c.requires.well.kept.entries c.requires.due)

pub returns-in-Rests-clause-marked : goal.returns-in-Rests-clause-marked
returns-in-Rests-clause-marked c = marked_swept c.args.trail.now c.sweep_list.new.trail c.args.shorts.now.fixed c.args.watches.now.pairs.items c.sweep_list.new.watches.pairs.items (Propagates-then c.args.trail.now c.sweep_shorts.new.trail c.sweep_list.new.trail c.sweep_shorts.ensures.appends c.sweep_list.ensures.appends) c.sweep_list.ensures.size c.sweep_list.ensures.marks c.requires.marked

pub returns-in-Falsified-clause-marked : goal.returns-in-Falsified-clause-marked
returns-in-Falsified-clause-marked c = marked_propagates c.args.trail.now c.sweep_shorts.new.trail c.args.shorts.now.fixed c.args.watches.now.pairs.items c.sweep_shorts.ensures.appends c.requires.marked

pub returns-in-Rests-clause-gives : goal.returns-in-Rests-clause-gives
returns-in-Rests-clause-gives c = sweep_paired c.sweep_list.new.trail c.sweep_list.new.watches c.args.shorts.now.fixed c.sweep_list.result
    (omega (arith, ap length c.sweep_list.ensures.appends.clauses, ap length c.sweep_shorts.ensures.appends.clauses, c.sweep_list.ensures.size, c.requires.all)) c.sweep_list.ensures.gives
