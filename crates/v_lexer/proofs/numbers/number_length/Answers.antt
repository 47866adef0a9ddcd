use Rattle.std.proofs.Common.{◌≡◌, drop, ◌∙◌, ap, subst}
use Rattle.std.specs.List.{prefix_len}
use Rattle.v_lexer.specs.declared.pieces.Piece.TheVariants.{Number}
use Rattle.v_syntax.specs.Numbers.{is_decimal_or_underscore, is_number_rest}
use Rattle.v_lexer.specs.Pieces.{if_all}
use Rattle.v_lexer.specs.Longest.{HasFront}
use Rattle.v_lexer.proofs.NumberRows.{number_goes}
use Rattle.v_lexer.proofs.numbers.number_length.Goals as goal

pub returns : goal.returns
returns c =
    let start : c.behind.result.now ≡ drop (prefix_len is_decimal_or_underscore c.args.rest.now) c.args.rest.now =
    c.behind.ensures ∙ ap (λ n. drop n c.args.rest.now) c.decimal_run-digits.ensures.counts in
    let front : HasFront (if_all is_number_rest Number) (drop (prefix_len is_decimal_or_underscore c.args.rest.now) c.args.rest.now) Number c.quoted_length.result =
    subst (λ l. HasFront (if_all is_number_rest Number) l Number c.quoted_length.result) start c.quoted_length.ensures in
    rw c.decimal_run-digits.ensures.counts (number_goes c.quoted_length.result c.args.rest.now front)
