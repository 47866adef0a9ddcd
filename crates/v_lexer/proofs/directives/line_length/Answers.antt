use Rattle.std.proofs.Common.{arith}
use Rattle.v_lexer.proofs.DirectiveRows.{line_more, line_ended, line_open}
use Rattle.v_lexer.proofs.directives.line_length.Goals as goal

pub returns-then-ends_line-clause-found : goal.returns-then-ends_line-clause-found
returns-then-ends_line-clause-found c = line_ended c.args.rest.now c.loop-i.i c.loop-i.escaped (omega arith) (cc) c.loop-i.invariant

pub loop-i-preserved : goal.loop-i-preserved
loop-i-preserved c = line_more c.args.rest.now c.loop-i.i c.loop-i.escaped (omega arith) (cc) c.loop-i.invariant

pub returns-clause-found : goal.returns-clause-found
returns-clause-found c = line_open c.args.rest.now c.loop-i.i c.loop-i.escaped (omega arith) c.loop-i.invariant
