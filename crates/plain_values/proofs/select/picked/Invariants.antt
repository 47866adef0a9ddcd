use Rattle.std.proofs.Common.{◌≡◌}
use Rattle.loc_base.specs.Bits.{width_of, value_of}
use Rattle.design_core.specs.Operator.{integer_of}
use Rattle.design_core.specs.Valuation.{number}
use Rattle.design_core.specs.Value.{picked}
use Rattle.design_core.specs.Words.{valuation_of}
use Rattle.plain_values.proofs.select.picked.Given as goal

abbrev pub invariant-loop-b : goal.invariant-loop-b
invariant-loop-b l =
    let at = integer_of l.signed (width_of l.index) (value_of l.index) in
    l.value ≡ number l.b (picked l.signals (valuation_of l.words) l.signal at l.offsets)
