use Rattle.std.proofs.Common.{arith}
use Rattle.sat_core.proofs.EngineLemmas.{step_within}
use Rattle.sat_core.proofs.engine.Engine.catch_up.Goals as goal

pub add_clause-requires-clause-within : goal.add_clause-requires-clause-within
add_clause-requires-clause-within c =
    step_within c.args.self.now.trail.vars c.loop-self.self.trail.vars c.args.log.now c.loop-self.self.known c.clause.result.now c.requires.within (omega (arith, c.loop-self-test.true, c.len.ensures)) c.loop-self.invariant.vars c.clause.ensures.value
