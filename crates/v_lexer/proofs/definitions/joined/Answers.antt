use Rattle.std.proofs.Common.{◌≡◌, ◌++◌, ◌+◌, ◌&&◌, arith, drop, get_or, sym, ap, ◌∙◌, true, false}
use Rattle.std.specs.Prelude.{nat_eq}
use Rattle.v_lexer.specs.Directives.{joined, begins_with}
use Rattle.v_lexer.proofs.DefinitionRows.{joined_gone, joined_kept, joined_all}
use Rattle.v_lexer.proofs.definitions.joined.Goals as goal

pub loop-i-preserved-then-goes_on : goal.loop-i-preserved-then-goes_on
loop-i-preserved-then-goes_on c =
    let byte = get_or c.args.tail.now c.loop-i.i 0 in
    let rest = drop (c.loop-i.i + 1) c.args.tail.now in
    let gone : (nat_eq byte 92 && begins_with 10 rest) ≡ true =
    ap (λ l. nat_eq byte 92 && begins_with 10 l) (sym c.behind.ensures) ∙ sym c.goes_on.ensures ∙ c.if-goes_on.true in
    joined_gone c.args.tail.now c.loop-i.line.items c.loop-i.i (omega arith) gone c.loop-i.invariant

pub loop-i-preserved : goal.loop-i-preserved
loop-i-preserved c =
    let byte = get_or c.args.tail.now c.loop-i.i 0 in
    let rest = drop (c.loop-i.i + 1) c.args.tail.now in
    let plain : (nat_eq byte 92 && begins_with 10 rest) ≡ false =
    ap (λ l. nat_eq byte 92 && begins_with 10 l) (sym c.behind.ensures) ∙ sym c.goes_on.ensures ∙ c.if-goes_on.false in
    joined_kept c.args.tail.now c.loop-i.line.items c.loop-i.i (omega arith) plain c.loop-i.invariant
    ∙ ap (λ l. l ++ joined rest) (sym c.in_ok-push.ensures.items)

pub returns : goal.returns
returns c = joined_all c.args.tail.now c.loop-i.line.items c.loop-i.i (omega arith) c.loop-i.invariant
