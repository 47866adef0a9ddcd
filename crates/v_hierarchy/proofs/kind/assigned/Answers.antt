use Rattle.std.proofs.Common.{arith}
use Rattle.v_hierarchy.proofs.AssignedLaws.{cut-assigned, extended-assigned}
use Rattle.v_hierarchy.proofs.kind.assigned.Goals as goal

pub returns-then-width : goal.returns-then-width
returns-then-width c =
    extended-assigned c.args.width c.args.signed c.args.value c.extend-bits.result c.requires.least c.requires.most (omega (arith, c.if-width.true, c.width.ensures)) c.extend-bits.ensures.width c.extend-bits.ensures.value

pub returns-else-width : goal.returns-else-width
returns-else-width c =
    cut-assigned c.args.width c.args.signed c.args.value c.cut-bits.result c.requires.least c.requires.most (omega (arith, c.if-width.false, c.width.ensures)) c.cut-bits.ensures.width c.cut-bits.ensures.value
