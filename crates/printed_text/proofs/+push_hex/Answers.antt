use Rattle.std.proofs.Common.{rules}
use Rattle.printed_text.proofs.HexLaws.{digit-pushed, none-pushed}
use Rattle.printed_text.proofs.+push_hex.Goals as goal

pub returns-then-count-eq0 : goal.returns-then-count-eq0
returns-then-count-eq0 t c = none-pushed c.args.text.now.items c.args.count c.args.number c.if-count-eq0.true

pub returns : goal.returns
returns t c =
    digit-pushed c.args.text.now.items c.push_hex.new.text.items c.push_digit.new.text.items c.args.count c.args.number c.if-count-eq0.false
    (search rules) (search rules)
