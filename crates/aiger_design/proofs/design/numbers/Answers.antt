use Rattle.std.proofs.Common.{arith}
use Rattle.aiger_design.proofs.Ranges.{number-more}
use Rattle.aiger_design.proofs.design.numbers.Goals as goal

pub loop-number-preserved : goal.loop-number-preserved
loop-number-preserved c = record {
  made = number-more c.args.from c.loop-number.number c.loop-number.numbers.items c.push.new.self.items c.loop-number.auto.number c.loop-number.invariant.made
      c.in_ok-push.ensures.items;
  few = omega arith;
}
