use Rattle.std.proofs.Common.{◌∙◌, sym, subst, ap}
use Rattle.clause_base.specs.declared.literal.Lit.{Lit}
use Rattle.clause_base.specs.Acceptance.{numbered}
use Rattle.sat_core.specs.Derivation.{marked, Replaces}
use Rattle.sat_core.proofs.Resolving.{no_entry, place_lit, reason_at, has_reason, reason_forces, level_is_present, Resolved-passed, Resolved-resolved}
use Rattle.sat_core.proofs.analysis.Analysis.resolve_at.Goals as goal

pub unwrap-reason-requires : goal.unwrap-reason-requires
unwrap-reason-requires c =
    has_reason c.args.trail.now c.args.self.now.marked.items c.args.self.now.literals.items c.args.self.now.chain.items c.args.self.now.present c.args.place c.unwrap-l.result c.reason.result c.requires.trail c.requires.resolved c.requires.place
    (place_lit c.args.trail.now.entries c.args.place c.unwrap-l.result c.at.result c.requires.place c.at.ensures c.unwrap-l.ensures) (sym c.is_marked.ensures ∙ c.if-is_marked.true) c.requires.present c.reason.ensures

pub resolve-requires-clause-number : goal.resolve-requires-clause-number
resolve-requires-clause-number c =
    (reason_forces c.args.trail.now c.args.place c.unwrap-l.result c.reason.result c.unwrap-reason.result c.requires.trail c.requires.place
    (place_lit c.args.trail.now.entries c.args.place c.unwrap-l.result c.at.result c.requires.place c.at.ensures c.unwrap-l.ensures) c.reason.ensures c.unwrap-reason.ensures).0

pub resolve-requires-clause-forced : goal.resolve-requires-clause-forced
resolve-requires-clause-forced c =
    (reason_forces c.args.trail.now c.args.place c.unwrap-l.result c.reason.result c.unwrap-reason.result c.requires.trail c.requires.place
    (place_lit c.args.trail.now.entries c.args.place c.unwrap-l.result c.at.result c.requires.place c.at.ensures c.unwrap-l.ensures) c.reason.ensures c.unwrap-reason.ensures).1

pub resolve-requires-clause-level : goal.resolve-requires-clause-level
resolve-requires-clause-level c =
    level_is_present c.args.trail.now c.args.self.now.marked.items c.args.self.now.literals.items c.args.self.now.chain.items c.args.self.now.present c.args.place c.unwrap-l.result c.requires.trail c.requires.resolved c.requires.place
    (place_lit c.args.trail.now.entries c.args.place c.unwrap-l.result c.at.result c.requires.place c.at.ensures c.unwrap-l.ensures) (sym c.is_marked.ensures ∙ c.if-is_marked.true)

pub returns-in_ok-resolve-clause-resolved : goal.returns-in_ok-resolve-clause-resolved
returns-in_ok-resolve-clause-resolved c =
    let e = place_lit c.args.trail.now.entries c.args.place c.unwrap-l.result c.at.result c.requires.place c.at.ensures c.unwrap-l.ensures in
    Resolved-resolved c.args.trail.now c.args.self.now.marked.items c.resolve.new.self.marked.items c.args.self.now.literals.items c.resolve.new.self.literals.items c.args.self.now.chain.items c.resolve.new.self.chain.items c.args.self.now.present c.resolve.new.self.present c.args.place no_entry c.unwrap-reason.result c.requires.trail c.requires.resolved c.requires.place
    (sym (reason_at c.args.trail.now c.args.place c.unwrap-l.result c.reason.result c.requires.trail c.requires.place e c.reason.ensures) ∙ c.unwrap-reason.ensures)
    c.requires.present c.in_ok-resolve.ensures.tracks c.in_ok-resolve.ensures.derives
    (subst (λ (x : Lit). Replaces c.args.self.now.marked.items c.resolve.new.self.marked.items (numbered c.args.trail.now.clauses c.unwrap-reason.result) x.var) (sym e) c.in_ok-resolve.ensures.replaces)

pub returns-else-is_marked-clause-resolved : goal.returns-else-is_marked-clause-resolved
returns-else-is_marked-clause-resolved c =
    let e = place_lit c.args.trail.now.entries c.args.place c.unwrap-l.result c.at.result c.requires.place c.at.ensures c.unwrap-l.ensures in
    Resolved-passed c.args.trail.now c.args.self.now.marked.items c.args.self.now.literals.items c.args.self.now.chain.items c.args.self.now.present c.args.place no_entry c.requires.resolved
    (ap (λ (x : Lit). marked c.args.self.now.marked.items x.var) e ∙ (sym c.is_marked.ensures ∙ c.if-is_marked.false)) c.requires.place
