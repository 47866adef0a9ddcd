use Rattle.std.proofs.Common.{ap, arith}
use Rattle.std.proofs.lemmas.Bool.{false≢true}
use Rattle.unroller.proofs.FitSteps.{cycles_of-within}
use Rattle.unroller.proofs.fits.are_traces.Goals as goal

pub returns-then-left-cycles : goal.returns-then-left-cycles
returns-then-left-cycles c =
    let within = cycles_of-within c.args.traces.now c.loop-i.i c.index-traces-i.result c.loop-i-test.true c.index-traces-i.is in
    ((λ never. absurd (false≢true never)), (λ are. absurd (omega (arith, within, c.loop-i.invariant.few, ap (λ trace. trace.cycles) c.index-traces-i.is, c.if-left-cycles.true, are.few))))
