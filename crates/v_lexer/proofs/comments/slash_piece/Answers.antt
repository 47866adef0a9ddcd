use Rattle.v_lexer.proofs.SymbolRows.{slash_alone, slash_line, slash_block, slash_other}
use Rattle.v_lexer.proofs.comments.slash_piece.Goals as goal

pub returns-in-None : goal.returns-in-None
returns-in-None c = slash_alone c.args.rest.now c.in-None.ensures

pub returns-then-byte-eq47 : goal.returns-then-byte-eq47
returns-then-byte-eq47 c = rw c.line_run.ensures.counts (slash_line c.args.rest.now c.in-Some.tail.now c.in-Some.byte c.in-Some.ensures c.if-byte-eq47.true)

pub returns-then-byte-eq42 : goal.returns-then-byte-eq42
returns-then-byte-eq42 c = slash_block c.args.rest.now c.in-Some.tail.now c.in-Some.byte c.block_piece-kind.result.0 c.block_piece-kind.result.1 c.in-Some.ensures c.if-byte-eq42.true c.block_piece-kind.ensures

pub returns-else-byte-eq42 : goal.returns-else-byte-eq42
returns-else-byte-eq42 c = slash_other c.args.rest.now c.in-Some.tail.now c.in-Some.byte c.in-Some.ensures c.if-byte-eq47.false c.if-byte-eq42.false
