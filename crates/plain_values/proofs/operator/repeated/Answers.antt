use Rattle.std.proofs.Common.{sym, arith}
use Rattle.loc_base.specs.Bits.{width_of, value_of}
use Rattle.plain_values.proofs.EvaluateValue.{repeated-one, repeated-one_more}
use Rattle.plain_values.proofs.operator.repeated.Goals as goal

pub loop-init : goal.loop-init
loop-init c = record { width = omega arith; value = sym (repeated-one (width_of c.args.part) (value_of c.args.part)) }

pub loop-preserved : goal.loop-preserved
loop-preserved c = record {
  width = omega arith;
  value = cc (c.join-word.ensures.value, repeated-one_more c.loop.counter (width_of c.args.part) (value_of c.args.part), c.loop.invariant.value);
}
