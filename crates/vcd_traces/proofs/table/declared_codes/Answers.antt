use Rattle.vcd_traces.proofs.DeclaredLaws.{codes_more, codes_whole}
use Rattle.vcd_traces.proofs.table.declared_codes.Goals as goal

pub loop-variable-preserved : goal.loop-variable-preserved
loop-variable-preserved c =
    codes_more c.args.variables.now c.loop-variable.variable-index _ c.loop-variable.codes c.set.new.self c.loop-variable-test.true
    c.loop-variable.invariant c.in_ok-set.ensures

pub returns : goal.returns
returns c =
    codes_whole c.args.variables.now c.loop-variable.variable-index c.loop-variable.codes c.loop-variable-test.false c.loop-variable.invariant
