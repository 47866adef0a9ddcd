use Rattle.std.proofs.Common.{◌∙◌, ◌-◌, false, set, sym, subst}
use Rattle.sat_core.specs.Derivation.{MarksOthers}
use Rattle.sat_core.proofs.Resolving.{place_lit, reason_forces}
use Rattle.sat_core.proofs.Refuting.{RefutesAt-decided, RefutesAt-replaced}
use Rattle.sat_core.proofs.analysis.Analysis.refute_at.Goals as goal

pub clause-requires : goal.clause-requires
clause-requires c =
    (reason_forces c.args.trail.now c.args.place c.unwrap-l.result c.reason.result c.in-Some.reason c.requires.trail c.requires.place
    (place_lit c.args.trail.now.entries c.args.place c.unwrap-l.result c.at.result c.requires.place c.at.ensures c.unwrap-l.ensures) c.reason.ensures c.in-Some.is).0

pub returns-in-None-clause-step : goal.returns-in-None-clause-step
returns-in-None-clause-step c =
    RefutesAt-decided c.args.trail.now c.args.self.now.marked.items c.args.self.now.chain.items c.args.place c.unwrap-l.result c.reason.result c.requires.trail c.requires.place
    (place_lit c.args.trail.now.entries c.args.place c.unwrap-l.result c.at.result c.requires.place c.at.ensures c.unwrap-l.ensures) c.reason.ensures c.in-None.is

pub returns-in_ok-push-in-Some-clause-step : goal.returns-in_ok-push-in-Some-clause-step
returns-in_ok-push-in-Some-clause-step c =
    RefutesAt-replaced c.args.trail.now c.args.self.now.marked.items c.mark_others.new.marked.items c.args.self.now.chain.items c.push.new.self.items c.args.place c.in-Some.reason c.unwrap-l.result c.reason.result c.requires.trail c.requires.size c.requires.place
    (place_lit c.args.trail.now.entries c.args.place c.unwrap-l.result c.at.result c.requires.place c.at.ensures c.unwrap-l.ensures) c.reason.ensures c.in-Some.is (sym c.is_marked.ensures ∙ c.if-not-is_marked.false)
    (subst (λ ls. MarksOthers (set c.args.self.now.marked.items (c.unwrap-l.result.var - 1) false) c.mark_others.new.marked.items ls c.unwrap-l.result.var) c.clause.ensures.value c.mark_others.ensures)
    c.in_ok-push-in-Some.ensures.items
