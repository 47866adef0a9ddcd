use Rattle.std.proofs.Common.{◌≡◌, ◌∷◌, drop, ◌∙◌, sym, ap}
use Rattle.std.specs.List.{prefix_len}
use Rattle.v_syntax.specs.Bytes.{is_white}
use Rattle.v_lexer.proofs.DirectiveRows.{spaced_name_go}
use Rattle.v_lexer.proofs.directives.spaced_name_length.Goals as goal

pub returns-then-is_letter-clause-found : goal.returns-then-is_letter-clause-found
returns-then-is_letter-clause-found c =
    let start : drop (prefix_len is_white c.args.rest.now) c.args.rest.now ≡ c.in_ok-byte.byte ∷ c.in_ok-byte.tail.now =
    ap (λ n. drop n c.args.rest.now) (sym c.white_run-spaces.ensures.counts) ∙ sym c.behind.ensures ∙ c.in_ok-byte.ensures in
    λ kind. rw (c.white_run-spaces.ensures.counts, c.name_run.ensures.counts)
    (spaced_name_go kind c.in_ok-byte.byte c.args.rest.now c.in_ok-byte.tail.now start (cc))
