use Rattle.std.proofs.Common.{◌≡◌, drop, ◌∙◌, ap, subst}
use Rattle.std.specs.List.{prefix_len}
use Rattle.v_lexer.specs.declared.pieces.Piece.TheVariants.{RealDelay}
use Rattle.v_syntax.specs.Numbers.{is_decimal_or_underscore}
use Rattle.v_lexer.specs.RealDelays.{is_fraction_rest}
use Rattle.v_lexer.specs.Pieces.{if_all}
use Rattle.v_lexer.specs.Longest.{HasFront}
use Rattle.v_lexer.proofs.Fronts.{no_run}
use Rattle.v_lexer.proofs.RealRows.{fraction_run}
use Rattle.v_lexer.proofs.real_delays.fraction_rest_length.Goals as goal

pub fraction_end_length-requires : goal.fraction_end_length-requires
fraction_end_length-requires c =
    let start : c.behind.result.now ≡ drop (prefix_len is_decimal_or_underscore c.args.rest.now) c.args.rest.now =
    c.behind.ensures ∙ ap (λ n. drop n c.args.rest.now) c.decimal_run-digits.ensures.counts in
    ap (prefix_len is_decimal_or_underscore) start ∙ no_run is_decimal_or_underscore c.args.rest.now

pub returns : goal.returns
returns c =
    let start : c.behind.result.now ≡ drop (prefix_len is_decimal_or_underscore c.args.rest.now) c.args.rest.now =
    c.behind.ensures ∙ ap (λ n. drop n c.args.rest.now) c.decimal_run-digits.ensures.counts in
    let front : HasFront (if_all is_fraction_rest RealDelay) (drop (prefix_len is_decimal_or_underscore c.args.rest.now) c.args.rest.now) RealDelay c.fraction_end_length.result =
    subst (λ l. HasFront (if_all is_fraction_rest RealDelay) l RealDelay c.fraction_end_length.result) start c.fraction_end_length.ensures in
    rw c.decimal_run-digits.ensures.counts (fraction_run c.args.rest.now c.fraction_end_length.result front)
