use Rattle.std.proofs.Common.{ap, ◌∙◌, ◌%◌, ◌^◌}
use Rattle.design_core.specs.declared.expression.Node.TheVariants as node
use Rattle.v_selects.proofs.NameLaws.{word-limited}
use Rattle.v_selects.proofs.leaf.word_node.Goals as goal

pub returns : goal.returns
returns c =
    ap node.Const (word-limited c.low_bits.result c.args.width c.args.number (c.low_bits.ensures.width ∙ c.limited.ensures)
    (c.low_bits.ensures.value ∙ ap (λ w. c.args.number % 2 ^ w) c.limited.ensures))
