use Rattle.std.proofs.Common.{◌≡◌, ◌∷◌, drop, ◌∙◌, sym, ap}
use Rattle.std.specs.List.{prefix_len}
use Rattle.v_syntax.specs.Bytes.{is_white}
use Rattle.v_lexer.proofs.SymbolRows.{attribute_opens}
use Rattle.v_lexer.proofs.comments.attribute_piece.Goals as goal

pub returns-clause-found : goal.returns-clause-found
returns-clause-found c =
    let start : drop (prefix_len is_white c.args.rest.now) c.args.rest.now ≡ c.in_ok-byte.byte ∷ c.in_ok-byte.tail.now =
    ap (λ n. drop n c.args.rest.now) (sym c.white_run-spaces.ensures.counts) ∙ sym c.behind.ensures ∙ c.in_ok-byte.ensures in
    rw (c.white_run-spaces.ensures.counts)
    (attribute_opens c.args.rest.now c.in_ok-byte.tail.now c.in_ok-byte.byte c.block_piece-kind.result.0 c.block_piece-kind.result.1 start c.if-byte-eq41.false c.block_piece-kind.ensures)
