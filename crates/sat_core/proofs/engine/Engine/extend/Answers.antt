use Rattle.std.proofs.Common.{◌∷◌, [], ap}
use Rattle.clause_base.specs.Literal.{opposite}
use Rattle.trail_core.specs.TrailState.{TrailState}
use Rattle.sat_core.specs.Searching.{form_of}
use Rattle.sat_core.proofs.Resolving.{valued_variable}
use Rattle.sat_core.proofs.Growing.{Grows-derived}
use Rattle.sat_core.proofs.SearchLemmas.{StaysFit-from, IsReady-derived, IsUnderWay-decides, longer_decides, contrary_reason, refuted_contrary}
use Rattle.sat_core.proofs.engine.Engine.extend.Goals as goal

pub contradict-requires-clause-variable : goal.contradict-requires-clause-variable
contradict-requires-clause-variable c = valued_variable c.args.self.now.trail c.in-Refuted.l.var c.in-Refuted.l.negated c.requires.under_way.ready.fit.trail c.in-Refuted.ensures.is_false

pub contradict-requires-clause-reason : goal.contradict-requires-clause-reason
contradict-requires-clause-reason c = contrary_reason c.args.self.now.trail c.args.assume.now c.args.self.now.preferred.items c.args.self.now.chosen.items c.in-Refuted.l c.requires.under_way.ready.fit.trail c.requires.under_way.chosen c.requires.distinct c.in-Refuted.ensures

pub returns-in_ok-decide-in-Decide-clause-gives : goal.returns-in_ok-decide-in-Decide-clause-gives
returns-in_ok-decide-in-Decide-clause-gives c =
    let s = StaysFit-from c.args.self.now c.decide.new.self c.decide.ensures.fit (ap (λ (t : TrailState). t.vars) c.in_ok-decide-in-Decide.ensures.trail) c.decide.ensures.form_len c.decide.ensures.preferred c.decide.ensures.model in (
      IsUnderWay-decides c.args.self.now c.decide.new.self c.args.log.now c.args.assume.now c.in-Decide.place c.in-Decide.l c.requires.under_way s c.in-Decide.ensures c.in_ok-decide-in-Decide.ensures.trail c.in_ok-decide-in-Decide.ensures.chosen c.decide.ensures.known,
      longer_decides c.args.self.now.trail c.decide.new.self.trail c.in-Decide.l c.in_ok-decide-in-Decide.ensures.trail,
    )

pub returns-in_ok-contradict-in-Refuted-clause-ready : goal.returns-in_ok-contradict-in-Refuted-clause-ready
returns-in_ok-contradict-in-Refuted-clause-ready c =
    let s = StaysFit-from c.args.self.now c.contradict.new.self c.contradict.ensures.fit (ap (λ (t : TrailState). t.vars) c.contradict.ensures.trail) c.contradict.ensures.form_len c.contradict.ensures.preferred c.contradict.ensures.model in
    IsReady-derived c.args.self.now c.contradict.new.self (opposite c.in-Refuted.l ∷ []) c.args.log.now c.contradict.new.log c.args.assume.now c.requires.under_way s c.contradict.ensures.trail c.contradict.ensures.known c.in_ok-contradict-in-Refuted.ensures.ok

pub returns-in_ok-contradict-in-Refuted-clause-grows : goal.returns-in_ok-contradict-in-Refuted-clause-grows
returns-in_ok-contradict-in-Refuted-clause-grows c =
    Grows-derived (form_of c.args.self.now) c.args.log.now c.contradict.new.log c.in_ok-contradict-in-Refuted.ensures.ok.literals c.in_ok-contradict-in-Refuted.ensures.ok.chain 0 c.in_ok-contradict-in-Refuted.ensures.ok.step

pub returns-in_ok-contradict-in-Refuted-clause-gives : goal.returns-in_ok-contradict-in-Refuted-clause-gives
returns-in_ok-contradict-in-Refuted-clause-gives c =
    refuted_contrary c.args.self.now.trail c.args.log.now c.contradict.new.log c.args.assume.now c.args.self.now.preferred.items c.args.self.now.chosen.items c.in-Refuted.l c.len.result c.requires.under_way.ready.fit.trail c.requires.under_way.chosen c.in-Refuted.ensures c.in_ok-contradict-in-Refuted.ensures.ok c.len.ensures.value
