use Rattle.std.proofs.Common.{◌≡◌, ℕ, ◌<◌, IsTrue}
use Rattle.design_core.specs.Words.{valuation_of}
use Rattle.plain_sim.specs.EvaluateCycle.{is_in}
use Rattle.plain_sim.proofs.cycle.agree.agree_signal.Given as goal

abbrev pub invariant-loop-b : goal.invariant-loop-b
invariant-loop-b l =
    (b : ℕ) → b < l.b → IsTrue (is_in l.design (valuation_of l.words) l.region l.s b) → valuation_of l.one l.s b ≡ valuation_of l.other l.s b
