use Rattle.std.proofs.Common.{◌≡◌, ◌%◌, ◌^◌, ◌<◌, drop}
use Rattle.v_syntax.specs.Literals.{value_from, value_of}
use Rattle.v_sizes.proofs.literal.value_of.Given as goal

abbrev pub invariant-loop-byte : goal.invariant-loop-byte
invariant-loop-byte l = record {
  below : l.value < 2 ^ 128;
  same : value_from l.base l.value (drop l.byte-index l.digits) % 2 ^ 128 ≡ value_of l.base l.digits % 2 ^ 128;
}
