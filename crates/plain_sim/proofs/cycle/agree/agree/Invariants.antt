use Rattle.std.proofs.Common.{◌≡◌, ℕ, ◌<◌, IsTrue}
use Rattle.design_core.specs.Words.{valuation_of}
use Rattle.plain_sim.specs.EvaluateCycle.{is_in}
use Rattle.plain_sim.proofs.cycle.agree.agree.Given as goal

abbrev pub invariant-loop-s : goal.invariant-loop-s
invariant-loop-s l =
    (s b : ℕ) → s < l.s → IsTrue (is_in l.design (valuation_of l.words) l.region s b) → valuation_of l.one s b ≡ valuation_of l.other s b
