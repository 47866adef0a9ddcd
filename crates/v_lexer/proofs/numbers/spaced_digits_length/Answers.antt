use Rattle.std.proofs.Common.{◌≡◌, ◌∷◌, drop, ◌∙◌, sym, ap}
use Rattle.std.specs.List.{prefix_len}
use Rattle.v_syntax.specs.Bytes.{is_white}
use Rattle.v_lexer.proofs.NumberRows.{spaced_digits_go}
use Rattle.v_lexer.proofs.numbers.spaced_digits_length.Goals as goal

pub returns-then-is_digit : goal.returns-then-is_digit
returns-then-is_digit c =
    let start : drop (prefix_len is_white c.args.rest.now) c.args.rest.now ≡ c.in_ok-byte.byte ∷ c.in_ok-byte.tail.now =
    ap (λ n. drop n c.args.rest.now) (sym c.white_run-spaces.ensures.counts) ∙ sym c.behind.ensures ∙ c.in_ok-byte.ensures in
    rw (c.white_run-spaces.ensures.counts, c.digit_run.ensures.counts)
    (spaced_digits_go c.in_ok-byte.byte c.args.rest.now c.in_ok-byte.tail.now start (cc))
