use Rattle.std.proofs.Common.{ap, sym, subst, map}
use Rattle.clause_base.specs.declared.log.Step.{Step}
use Rattle.clause_base.specs.Literal.{AreWithin}
use Rattle.trail_core.specs.TrailState.{TrailState}
use Rattle.sat_core.proofs.SearchLemmas.{log_within}
use Rattle.sat_core.proofs.engine.Engine.start.Goals as goal

pub catch_up-requires-clause-within : goal.catch_up-requires-clause-within
catch_up-requires-clause-within c =
    subst (λ n. AreWithin n (map (λ (s : Step). s.clause) c.args.log.now)) (sym (ap (λ (t : TrailState). t.vars) c.back_to.ensures.after)) (log_within c.args.self.now c.args.log.now c.requires.ready)
