use Rattle.std.proofs.Common.{◌≡◌, ◌≤◌, drop}
use Rattle.std.specs.Prelude.{min}
use Rattle.v_syntax.specs.Literals.{value_from, value_of}
use Rattle.v_sizes.proofs.literal.capped_value.Given as goal

abbrev pub invariant-loop-byte : goal.invariant-loop-byte
invariant-loop-byte l = record {
  most : l.value ≤ 255;
  same : min (value_from 10 l.value (drop l.byte-index l.digits)) 255 ≡ min (value_of 10 l.digits) 255;
}
