use Rattle.std.proofs.Common.{◌≡◌, ◌*◌}
use Rattle.loc_base.specs.Bits.{width_of, value_of}
use Rattle.design_core.specs.Operator.{repeated}
use Rattle.plain_values.proofs.operator.repeated.Given as goal

abbrev pub invariant-loop : goal.invariant-loop
invariant-loop l = record {
  width : width_of l.word ≡ l.counter * width_of l.part;
  value : value_of l.word ≡ repeated l.counter (width_of l.part) (value_of l.part);
}
