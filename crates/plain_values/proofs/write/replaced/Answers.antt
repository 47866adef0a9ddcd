use Rattle.std.proofs.Common.{◌≡◌, ◌^◌, ◌<◌, arith, ◌∙◌, sym, subst}
use Rattle.loc_base.specs.Bits.{width_of, value_of, value_of-range}
use Rattle.plain_values.proofs.EvaluateWrite.{whole-resized}
use Rattle.plain_values.proofs.write.replaced.Goals as goal

pub returns-then-width-clause-bits : goal.returns-then-width-clause-bits
returns-then-width-clause-bits c p =
    let same : c.args.width ≡ width_of c.args.word = c.if-width.true ∙ c.width.ensures in
    let old = subst (λ w. value_of c.args.word < 2 ^ w) (sym same) (value_of-range c.args.word) in
    let new = subst (λ w. value_of c.resized.result < 2 ^ w) c.resized.ensures.width (value_of-range c.resized.result) in
    whole-resized c.args.from c.args.width (width_of c.args.value) (value_of c.args.value) (value_of c.args.word) (value_of c.resized.result) p
    (omega (arith, c.requires, same)) old new c.resized.ensures.value
