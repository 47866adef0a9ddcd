use Rattle.std.proofs.Common.{◌≡◌}
use Rattle.loc_base.specs.Bits.{value_of}
use Rattle.design_core.specs.Valuation.{number, bit}
use Rattle.design_core.specs.Words.{valuation_of}
use Rattle.plain_sim.specs.EvaluateCycle.{is_in, either_bit}
use Rattle.plain_sim.proofs.cycle.take.taken_word.Given as goal

abbrev pub invariant-loop-b : goal.invariant-loop-b
invariant-loop-b l =
    l.value ≡ number l.b (either_bit (is_in l.design (valuation_of l.words) l.region l.s) (bit (value_of l.one)) (bit (value_of l.other)))
