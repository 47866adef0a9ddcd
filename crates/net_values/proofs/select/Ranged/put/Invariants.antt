use Rattle.std.proofs.Common.{◌≡◌}
use Rattle.loc_base.specs.Bits.{width_of, value_of}
use Rattle.design_core.specs.Operator.{integer_of}
use Rattle.design_core.specs.Valuation.{bit}
use Rattle.net_values.proofs.Picked.{PutSoFar}
use Rattle.net_values.proofs.select.Ranged.put.Given as goal

abbrev pub invariant-loop-b : goal.invariant-loop-b
invariant-loop-b l = record {
  wide : width_of l.word ≡ width_of l.self.word;
  rest : PutSoFar (record { width = width_of l.self.word; left = l.self.left; right = l.self.right }) (bit (value_of l.word)) (bit (value_of l.self.word))
      (integer_of l.index.signed (width_of l.index.word) (value_of l.index.word)) l.b l.offsets (bit (value_of l.bits));
}
