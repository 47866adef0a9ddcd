use Rattle.std.proofs.Common.{◌≡◌, ◌*◌, ◌%◌, ◌^◌}
use Rattle.loc_base.specs.Bits.{width_of, value_of}
use Rattle.v_sizes.proofs.power.power.Given as goal

abbrev pub invariant-loop-left : goal.invariant-loop-left
invariant-loop-left l = record {
  power : width_of l.power ≡ width_of l.fn.base;
  square : width_of l.square ≡ width_of l.fn.base;
  value : value_of l.power * value_of l.square ^ l.left % 2 ^ width_of l.fn.base ≡ value_of l.fn.base ^ l.exponent % 2 ^ width_of l.fn.base;
}

abbrev pub decreases-loop-left : goal.decreases-loop-left
decreases-loop-left l = l.left
