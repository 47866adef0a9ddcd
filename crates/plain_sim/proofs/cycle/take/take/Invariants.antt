use Rattle.design_core.specs.Words.{valuation_of}
use Rattle.plain_sim.specs.EvaluateCycle.{is_in, blended}
use Rattle.plain_sim.proofs.EvaluateSweep.{Swept}
use Rattle.plain_sim.proofs.cycle.take.take.Given as goal

abbrev pub invariant-loop-s : goal.invariant-loop-s
invariant-loop-s l =
    Swept (blended (is_in l.design (valuation_of l.words) l.region) (valuation_of l.from) (valuation_of l.initial.to)) l.initial.to l.to l.s
