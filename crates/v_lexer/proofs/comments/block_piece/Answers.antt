use Rattle.std.proofs.Common.{arith}
use Rattle.v_lexer.proofs.SymbolRows.{block_more, block_closed, block_open}
use Rattle.v_lexer.proofs.comments.block_piece.Goals as goal

pub returns-then-closes : goal.returns-then-closes
returns-then-closes c = block_closed c.args.close c.args.first c.args.rest.now c.loop-i.i c.loop-i.star (omega arith) (cc) c.loop-i.invariant

pub loop-i-preserved : goal.loop-i-preserved
loop-i-preserved c = block_more c.args.close c.args.first c.args.rest.now c.loop-i.i c.loop-i.star (omega arith) (cc) c.loop-i.invariant

pub returns : goal.returns
returns c = block_open c.args.close c.args.first c.args.rest.now c.loop-i.i c.loop-i.star (omega arith) c.loop-i.invariant
