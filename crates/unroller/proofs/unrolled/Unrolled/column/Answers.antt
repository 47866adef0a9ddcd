use Rattle.std.proofs.Common.{ap, length, arith}
use Rattle.unroller.proofs.ReadSteps.{column-within}
use Rattle.unroller.proofs.unrolled.Unrolled.column.Goals as goal

pub unreachable-requires : goal.unreachable-requires
unreachable-requires c =
    c.loop-column.invariant c.requires.column
    (omega (arith, column-within c.args.self.now c.requires.column c.args.place c.args.bit c.requires.is, ap (λ u. length u.bits) c.self.view_is))
    c.requires.is
