use Rattle.std.proofs.Common.{arith}
use Rattle.vcd_traces.proofs.SizeLaws.{said_next}
use Rattle.vcd_traces.proofs.sites.says.Goals as goal

pub returns-then-from-said : goal.returns-then-from-said
returns-then-from-said c =
    said_next c.args.digits.now c.loop-digit.digit-index 0 c.loop-digit.said c.args.number c.loop-digit-test.true c.loop-digit.invariant.said
    (omega (arith, c.if-from-said.true, c.from.ensures, c.from-in-loop-digit.ensures, c.saturating_sub.ensures))
