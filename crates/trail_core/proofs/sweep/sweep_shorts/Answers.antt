use Rattle.std.proofs.Common.{◌∙◌, false, None, sym, subst}
use Rattle.std.specs.Prelude.{IsSome}
use Rattle.trail_core.specs.declared.entry.Entry.{Entry}
use Rattle.trail_core.specs.declared.short_list.Short.{Short}
use Rattle.trail_core.specs.Shorts.{lists_of}
use Rattle.trail_core.specs.Visits.{IsGone}
use Rattle.trail_core.proofs.Propagating.{Propagates-none, Propagates-then}
use Rattle.trail_core.proofs.Going.{gone_told, told_there}
use Rattle.trail_core.proofs.Sweeping.{list_within, entry_here, gone_still, seen_none, seen_more, sweep_rests}
use Rattle.trail_core.proofs.sweep.sweep_shorts.Goals as goal

abbrev none : Short
none = record { one_var = 0; two_var = 0; number = 0; one_negated = false; two_negated = false }

abbrev entry : Entry
entry = record { lit = record { var = 0; negated = false }; decision_level = 0; reason = None }

pub unwrap-l-requires : goal.unwrap-l-requires
unwrap-l-requires c = subst (λ o. IsSome o) (sym c.at.ensures) (told_there c.args.trail.now.entries c.args.place c.requires.within)

pub clauses_with-short-items-requires : goal.clauses_with-short-items-requires
clauses_with-short-items-requires c = list_within c.args.trail.now c.args.shorts.now.fixed (lists_of c.args.shorts.now) c.args.place c.opposite-gone.result c.requires.shorts
    (subst (IsGone c.args.trail.now c.args.place) (sym c.opposite-gone.ensures) (gone_told c.args.trail.now c.args.place c.unwrap-l.result c.requires.trail c.requires.present (sym c.at.ensures ∙ c.unwrap-l.ensures)))

pub loop-short-init : goal.loop-short-init
loop-short-init c = record { trail = c.requires.trail; appends = Propagates-none c.args.trail.now; seen = seen_none c.args.trail.now c.clauses_with-short-items.result.now c.args.place }

pub visit_short-requires-clause-entry : goal.visit_short-requires-clause-entry
visit_short-requires-clause-entry c = entry_here c.args.trail.now c.loop-short.trail c.args.shorts.now.fixed (lists_of c.args.shorts.now) c.clauses_with-short-items.result.now c.opposite-gone.result c.loop-short.short-index none c.requires.shorts c.clauses_with-short-items.ensures c.loop-short-test.true c.loop-short.invariant.appends

pub visit_short-requires-clause-gone : goal.visit_short-requires-clause-gone
visit_short-requires-clause-gone c = gone_still c.args.trail.now c.loop-short.trail c.args.place c.opposite-gone.result
    (subst (IsGone c.args.trail.now c.args.place) (sym c.opposite-gone.ensures) (gone_told c.args.trail.now c.args.place c.unwrap-l.result c.requires.trail c.requires.present (sym c.at.ensures ∙ c.unwrap-l.ensures))) c.loop-short.invariant.appends

pub returns-then-not-visit_short-clause-appends : goal.returns-then-not-visit_short-clause-appends
returns-then-not-visit_short-clause-appends c = Propagates-then c.args.trail.now c.loop-short.trail c.visit_short.new.trail c.loop-short.invariant.appends c.visit_short.ensures.appends

pub loop-short-preserved : goal.loop-short-preserved
loop-short-preserved c = record {
  trail = c.visit_short.ensures.trail;
  appends = Propagates-then c.args.trail.now c.loop-short.trail c.visit_short.new.trail c.loop-short.invariant.appends c.visit_short.ensures.appends;
  seen = seen_more c.args.trail.now c.loop-short.trail c.visit_short.new.trail c.clauses_with-short-items.result.now c.loop-short.short-index c.args.place none c.requires.within c.loop-short.invariant.appends c.visit_short.ensures.appends c.loop-short-test.true (c.visit_short.ensures.rests c.if-not-visit_short.false) c.loop-short.invariant.seen;
}

pub returns-clause-gives : goal.returns-clause-gives
returns-clause-gives c = sweep_rests c.args.trail.now c.loop-short.trail c.args.shorts.now.fixed (lists_of c.args.shorts.now) c.clauses_with-short-items.result.now c.opposite-gone.result c.args.place c.loop-short.short-index entry none
    (subst (IsGone c.args.trail.now c.args.place) (sym c.opposite-gone.ensures) (gone_told c.args.trail.now c.args.place c.unwrap-l.result c.requires.trail c.requires.present (sym c.at.ensures ∙ c.unwrap-l.ensures))) c.requires.within c.requires.shorts c.clauses_with-short-items.ensures c.loop-short-test.false c.loop-short.invariant.appends c.requires.due c.loop-short.invariant.seen
