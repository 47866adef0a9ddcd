use Rattle.std.proofs.Common.{rules, arith}
use Rattle.std.proofs.lemmas.Grind.{common_steps}
use denote.Hole.Carrier.{hidden}
use Rattle.design_core.specs.declared.expression.Node.TheBlock.{shape-the_row-Typed-0, hidden-the_row-Typed-0}
use Rattle.design_bits.proofs.full.decided.Goals as goal

pub returns-in-Resize-clause-value : goal.returns-in-Resize-clause-value
unfolding shape-the_row-Typed-0 hidden-the_row-Typed-0 hidden
returns-in-Resize-clause-value c = first_of (search rules, grind (arith, common_steps))
