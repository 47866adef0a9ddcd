use Rattle.std.proofs.Common.{◌≡◌, drop, ◌∙◌, ap, subst}
use Rattle.std.specs.List.{prefix_len}
use Rattle.v_lexer.specs.declared.pieces.Piece.TheVariants.{RealDelay}
use Rattle.v_syntax.specs.Numbers.{is_decimal_or_underscore}
use Rattle.v_lexer.specs.RealDelays.{is_real_rest}
use Rattle.v_lexer.specs.Pieces.{if_all}
use Rattle.v_lexer.specs.Longest.{HasFront}
use Rattle.v_lexer.proofs.Fronts.{no_run}
use Rattle.v_lexer.proofs.RealRows.{real_run}
use Rattle.v_lexer.proofs.real_delays.real_rest_length.Goals as goal

pub real_end_length-requires : goal.real_end_length-requires
real_end_length-requires c =
    let start : c.behind.result.now ≡ drop (prefix_len is_decimal_or_underscore c.args.rest.now) c.args.rest.now =
    c.behind.ensures ∙ ap (λ n. drop n c.args.rest.now) c.decimal_run-digits.ensures.counts in
    ap (prefix_len is_decimal_or_underscore) start ∙ no_run is_decimal_or_underscore c.args.rest.now

pub returns-in-Some : goal.returns-in-Some
returns-in-Some c =
    let start : c.behind.result.now ≡ drop (prefix_len is_decimal_or_underscore c.args.rest.now) c.args.rest.now =
    c.behind.ensures ∙ ap (λ n. drop n c.args.rest.now) c.decimal_run-digits.ensures.counts in
    let front : HasFront (if_all is_real_rest RealDelay) (drop (prefix_len is_decimal_or_underscore c.args.rest.now) c.args.rest.now) RealDelay c.in-Some.size =
    subst (λ l. HasFront (if_all is_real_rest RealDelay) l RealDelay c.in-Some.size) start c.in-Some.ensures in
    rw c.decimal_run-digits.ensures.counts (real_run c.args.rest.now c.in-Some.size front)
