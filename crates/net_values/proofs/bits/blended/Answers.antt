use Rattle.std.proofs.Common.{◌≡◌, ◌^◌, ◌<◌, ap, ap₂, subst, ◌∙◌, rules}
use Rattle.std.specs.Prelude.{bit_and, bit_xor}
use Rattle.loc_base.specs.Bits.{width_of, value_of, value_of-range}
use Rattle.net_values.proofs.Replaced.{blend-value}
use Rattle.net_values.proofs.bits.blended.Goals as goal

pub returns-clause-value : goal.returns-clause-value
returns-clause-value c =
    let mask : value_of c.unwrap-mask.result ≡ c.args.mask = search rules in
    let apart : value_of c.and-apart.result ≡ bit_and (bit_xor (value_of c.args.other) (value_of c.args.one)) c.args.mask =
    c.and-apart.ensures.value ∙ ap₂ bit_and c.xor.ensures.value mask in
    blend-value (width_of c.args.other) c.args.mask (value_of c.args.one) (value_of c.args.other) (value_of c.xor-2.result)
    (subst (λ k. value_of c.xor-2.result < 2 ^ k) c.xor-2.ensures.width (value_of-range c.xor-2.result)) (c.xor-2.ensures.value ∙ ap (bit_xor (value_of c.args.other)) apart)
