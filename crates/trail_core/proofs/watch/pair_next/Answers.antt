use Rattle.std.proofs.Common.{◌≡◌, ◌+◌, length, sym, subst, rules}
use Rattle.clause_base.specs.Acceptance.{numbered}
use Rattle.trail_core.specs.Values.{Rests}
use Rattle.trail_core.specs.TrailState.{values_of}
use Rattle.trail_core.specs.Shorts.{AreDue}
use Rattle.trail_core.proofs.Due.{due_propagates, due_more}
use Rattle.trail_core.proofs.Marks.{marked_propagates}
use Rattle.trail_core.proofs.Placing.{well_propagates}
use Rattle.trail_core.proofs.watch.pair_next.Goals as goal

pub pair_up-requires-clause-well : goal.pair_up-requires-clause-well
pair_up-requires-clause-well c = well_propagates c.args.trail.now c.force_unit.new.trail c.args.fixed c.args.watches.now c.force_unit.ensures.appends c.requires.well

pub returns-then-not-force_unit-clause-gives : goal.returns-then-not-force_unit-clause-gives
returns-then-not-force_unit-clause-gives c =
    (well_propagates c.args.trail.now c.force_unit.new.trail c.args.fixed c.args.watches.now c.force_unit.ensures.appends c.requires.well, c.force_unit.ensures.falsified c.if-not-force_unit.true)

pub returns-then-not-force_unit-clause-due : goal.returns-then-not-force_unit-clause-due
returns-then-not-force_unit-clause-due c = due_propagates c.args.trail.now c.force_unit.new.trail c.args.fixed (length c.args.watches.now.pairs.items) c.args.watches.now.gone_over c.force_unit.ensures.appends c.requires.well.kept.entries c.requires.due

pub returns-clause-gives : goal.returns-clause-gives
returns-clause-gives c = (c.pair_up.ensures.well, c.pair_up.ensures.more)

pub returns-clause-due : goal.returns-clause-due
returns-clause-due c =
    let count : c.len.result ≡ length c.args.watches.now.pairs.items = search rules in
    subst (AreDue c.force_unit.new.trail c.args.fixed (length c.pair_up.new.watches.pairs.items)) (sym c.pair_up.ensures.same)
    (due_more c.force_unit.new.trail c.args.fixed (length c.args.watches.now.pairs.items) (length c.pair_up.new.watches.pairs.items) c.args.watches.now.gone_over c.pair_up.ensures.more
    (subst (λ n. Rests (values_of c.force_unit.new.trail.entries) (numbered c.force_unit.new.trail.clauses (n + 1))) count (c.force_unit.ensures.rests c.if-not-force_unit.false))
    (due_propagates c.args.trail.now c.force_unit.new.trail c.args.fixed (length c.args.watches.now.pairs.items) c.args.watches.now.gone_over c.force_unit.ensures.appends c.requires.well.kept.entries c.requires.due))

pub pair_up-requires-clause-rests : goal.pair_up-requires-clause-rests
pair_up-requires-clause-rests c = c.force_unit.ensures.rests c.if-not-force_unit.false

pub returns-then-not-force_unit-clause-marked : goal.returns-then-not-force_unit-clause-marked
returns-then-not-force_unit-clause-marked c = marked_propagates c.args.trail.now c.force_unit.new.trail c.args.fixed c.args.watches.now.pairs.items c.force_unit.ensures.appends c.requires.marked

pub returns-clause-marked : goal.returns-clause-marked
returns-clause-marked c = c.pair_up.ensures.marked (marked_propagates c.args.trail.now c.force_unit.new.trail c.args.fixed c.args.watches.now.pairs.items c.force_unit.ensures.appends c.requires.marked)
