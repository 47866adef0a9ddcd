use Rattle.std.proofs.Common.{◌≡◌, ◌∷◌, drop, ◌∙◌, sym, ap}
use Rattle.std.specs.List.{prefix_len}
use Rattle.v_syntax.specs.Bytes.{is_white}
use Rattle.v_lexer.proofs.NumberRows.{spaced_quote_goes}
use Rattle.v_lexer.proofs.numbers.spaced_quote_length.Goals as goal

pub returns-then-byte-eq39 : goal.returns-then-byte-eq39
returns-then-byte-eq39 c =
    let start : drop (prefix_len is_white c.args.rest.now) c.args.rest.now ≡ 39 ∷ c.in_ok-byte.tail.now =
    ap (λ n. drop n c.args.rest.now) (sym c.white_run-spaces.ensures.counts) ∙ sym c.behind.ensures ∙ c.in_ok-byte.ensures
    ∙ ap (λ b. b ∷ c.in_ok-byte.tail.now) c.if-byte-eq39.true in
    rw c.white_run-spaces.ensures.counts
    (spaced_quote_goes c.based_length.result c.args.rest.now c.in_ok-byte.tail.now start c.based_length.ensures)
