use Rattle.v_lexer.specs.declared.pieces.Piece.TheVariants.{Directive}
use Rattle.v_lexer.proofs.DirectiveRows.{directive_named}
use Rattle.v_lexer.proofs.directives.directive_piece.Goals as goal

pub returns : goal.returns
returns c = directive_named c.args.skipping c.args.rest.now c.split_at.result.0.now c.split_at.result.1.now c.identifier_run-size.result c.tail_length.result c.directive_of-word.result c.identifier_run-size.ensures.counts c.split_at.ensures.front c.split_at.ensures.back c.directive_of-word.ensures (c.tail_length.ensures.found (Directive c.directive_of-word.result))
