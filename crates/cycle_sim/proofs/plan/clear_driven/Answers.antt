use Rattle.std.proofs.Common.{◌∙◌, arith}
use Rattle.design_core.specs.Words.{valuation_of}
use Rattle.plain_sim.proofs.EvaluateSteps.{slice-at}
use Rattle.cycle_sim.proofs.Planning.{cleared-next, cleared-end}
use Rattle.cycle_sim.proofs.plan.clear_driven.Goals as goal

pub clear_bits-requires : goal.clear_bits-requires
clear_bits-requires c =
    let (driver, at) = slice-at c.args.design.now.drivers.items c.loop-i.i
    (omega (arith, c.loop-i-test.true, c.len-i-end.ensures, c.requires.drivers.many)) in
    rw (c.row.ensures, c.loop-i.invariant.words.widths) (c.requires.drivers.each c.loop-i.i driver at).widths

pub loop-i-preserved : goal.loop-i-preserved
loop-i-preserved c =
    let (driver, at) = slice-at c.args.design.now.drivers.items c.loop-i.i
    (omega (arith, c.loop-i-test.true, c.len-i-end.ensures, c.requires.drivers.many)) in
    record {
      words = record { widths = c.clear_bits.ensures.widths ∙ c.loop-i.invariant.words.widths };
      bits =
          cleared-next c.args.design.now (valuation_of c.args.words.now) (valuation_of c.loop-i.words)
          (valuation_of c.clear_bits.new.words) c.loop-i.i c.row.result.now driver at c.loop-i.invariant.bits
          (rw c.row.ensures (c.requires.drivers.each c.loop-i.i driver at)) c.clear_bits.ensures.value;
    }

pub returns-clause-bits : goal.returns-clause-bits
returns-clause-bits c =
    cleared-end c.args.design.now (valuation_of c.args.words.now) (valuation_of c.loop-i.words) c.loop-i.i
    (omega (arith, c.loop-i-test.false, c.len-i-end.ensures, c.requires.drivers.many)) c.loop-i.invariant.bits
