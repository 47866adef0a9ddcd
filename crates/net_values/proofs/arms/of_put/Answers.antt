use Rattle.std.proofs.Common.{◌≡◌, ℕ, ◌/◌, ◌^◌, ◌<◌, List, map, ap, ap₂, subst, ◌∙◌}
use Rattle.loc_base.specs.Bits.{width_of, value_of, value_of-range}
use Rattle.design_core.specs.Valuation.{bit}
use Rattle.word_net.specs.Selects.{put_bits}
use Rattle.word_net.specs.Values.{read}
use Rattle.net_values.proofs.Replaced.{put-value}
use Rattle.net_values.proofs.arms.of_put.Goals as goal

pub returns-clause-value : goal.returns-clause-value
returns-clause-value c =
    let V : List ℕ = map value_of c.args.known.now in
    let r : ℕ = value_of c.replaced.result in
    let wide : width_of c.replaced.result ≡ c.args.old.width = c.replaced.ensures.width ∙ c.read-2.ensures.width in
    put-value c.args.old.width r (read V c.args.old) (read V c.args.stored.word) (value_of c.shift_right-bits.result) c.args.run.from c.args.run.size c.args.stored.offset
    (subst (λ k. r < 2 ^ k) wide (value_of-range c.replaced.result))
    (c.shift_right-bits.ensures.value ∙ ap₂ (λ v k. v / 2 ^ k) c.read.ensures.value c.from.ensures)
    (λ p _.
    c.replaced.ensures.bits p
    ∙ ap (λ v. put_bits (bit v) c.args.run.from c.args.run.size (bit (value_of c.shift_right-bits.result)) p) c.read-2.ensures.value)
