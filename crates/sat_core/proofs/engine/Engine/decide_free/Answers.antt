use Rattle.std.proofs.Common.{ap, ◌∙◌, ◌+◌, ◌++◌, ◌∷◌, [], length}
use Rattle.trail_core.specs.TrailState.{TrailState}
use Rattle.sat_core.specs.Choices.{end_of}
use Rattle.sat_core.proofs.GreatestModel.{complete_model}
use Rattle.sat_core.proofs.SearchLemmas.{StaysFit-from, IsUnderWay-decides, longer_decides}
use Rattle.sat_core.proofs.OrderLemmas.{MayChoose-free}
use Rattle.sat_core.proofs.engine.Engine.decide_free.Goals as goal

pub returns-in_ok-decide-in-Some-clause-gives : goal.returns-in_ok-decide-in-Some-clause-gives
returns-in_ok-decide-in-Some-clause-gives c =
    let s = StaysFit-from c.args.self.now c.decide.new.self c.decide.ensures.fit (ap (λ (t : TrailState). t.vars) c.in_ok-decide-in-Some.ensures.trail) c.decide.ensures.form_len c.decide.ensures.preferred c.decide.ensures.model in (
      IsUnderWay-decides c.args.self.now c.decide.new.self c.args.log.now c.args.assume.now (end_of c.args.assume.now c.args.self.now.preferred.items) c.in-Some.l c.requires.under_way s
          (MayChoose-free c.args.self.now.trail c.args.assume.now c.args.self.now.preferred.items c.in-Some.l c.in-Some.ensures.some c.requires.passed) c.in_ok-decide-in-Some.ensures.trail
          (c.in_ok-decide-in-Some.ensures.chosen ∙ ap (λ n. c.args.self.now.chosen.items ++ (length c.args.assume.now + n) ∷ []) (c.len.ensures ∙ c.args.self.now.preferred.ok.0)) c.decide.ensures.known,
      longer_decides c.args.self.now.trail c.decide.new.self.trail c.in-Some.l c.in_ok-decide-in-Some.ensures.trail,
    )

pub returns-in-None-clause-gives : goal.returns-in-None-clause-gives
returns-in-None-clause-gives c =
    complete_model c.args.self.now c.keep.new.model.items c.args.log.now c.args.assume.now c.requires.under_way c.requires.assume c.requires.rest c.requires.passed c.in-None.ensures.none c.keep.ensures

pub returns-in-None-clause-stands : goal.returns-in-None-clause-stands
returns-in-None-clause-stands c = (
  c.requires.under_way.whole,
  record { chosen = c.requires.under_way.chosen; valued = c.in-None.ensures.none; model = c.keep.ensures },
)
