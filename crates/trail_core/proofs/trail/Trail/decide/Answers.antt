use Rattle.std.proofs.Common.{◌∙◌, sym, ap, subst}
use Rattle.trail_core.specs.Values.{IsVariable, IsUnassignedIn}
use Rattle.trail_core.specs.TrailState.{TrailState, AllRest, values_of, with_decision}
use Rattle.trail_core.proofs.Calls.{still_there, watching_decided}
use Rattle.trail_core.proofs.trail.Trail.decide.Goals as goal

pub decide-requires-clause-variable : goal.decide-requires-clause-variable
decide-requires-clause-variable c = subst (λ (s : TrailState). IsVariable s.vars c.args.l.var) (sym (still_there c.self.inside.plain c.watch-rests.new.trail c.args.self.now c.self.view_is c.requires.rest c.watch-rests.ensures.appends c.watch-rests.ensures.trail)) c.requires.variable

pub decide-requires-clause-unassigned : goal.decide-requires-clause-unassigned
decide-requires-clause-unassigned c = subst (λ (s : TrailState). IsUnassignedIn (values_of s.entries) c.args.l) (sym (still_there c.self.inside.plain c.watch-rests.new.trail c.args.self.now c.self.view_is c.requires.rest c.watch-rests.ensures.appends c.watch-rests.ensures.trail)) c.requires.unassigned

pub decide-requires-clause-rest : goal.decide-requires-clause-rest
decide-requires-clause-rest c = subst (λ (s : TrailState). AllRest s.clauses (values_of s.entries)) (sym (still_there c.self.inside.plain c.watch-rests.new.trail c.args.self.now c.self.view_is c.requires.rest c.watch-rests.ensures.appends c.watch-rests.ensures.trail)) c.requires.rest

pub invariant_of-self : goal.invariant_of-self
invariant_of-self c = watching_decided c.self.inside.plain c.watch-rests.new.trail c.decide.new.self c.args.self.now c.args.l c.self.inside.watches c.watch-rests.new.watches c.self.inside.shorts c.watch-rests.result c.self.view_is c.self.invariant c.requires.rest c.watch-rests.ensures.appends c.watch-rests.ensures.trail c.watch-rests.ensures.gives c.watch-rests.ensures.marked c.watch-rests.ensures.due c.decide.ensures.after c.decide.ensures.trail

pub watch-rests-requires-clause-shorts : goal.watch-rests-requires-clause-shorts
watch-rests-requires-clause-shorts c = c.self.invariant.shorts

pub watch-rests-requires-clause-marked : goal.watch-rests-requires-clause-marked
watch-rests-requires-clause-marked c = c.self.invariant.marked

pub watch-rests-requires-clause-due : goal.watch-rests-requires-clause-due
watch-rests-requires-clause-due c = c.self.invariant.due

pub returns-clause-after : goal.returns-clause-after
returns-clause-after c = c.decide.ensures.after ∙ ap (λ s. with_decision s c.args.l) (still_there c.self.inside.plain c.watch-rests.new.trail c.args.self.now c.self.view_is c.requires.rest c.watch-rests.ensures.appends c.watch-rests.ensures.trail)
