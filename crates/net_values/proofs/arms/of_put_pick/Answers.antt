use Rattle.std.proofs.Common.{◌≡◌, ℕ, ◌+◌, ◌/◌, ◌^◌, List, map, ap, ap₂, ◌∙◌}
use Rattle.loc_base.specs.Bits.{width_of, value_of}
use Rattle.design_core.specs.Valuation.{bit}
use Rattle.word_net.specs.Values.{read}
use Rattle.net_values.specs.declared.select.Ranged.{Ranged}
use Rattle.net_values.proofs.Picked.{put-known}
use Rattle.net_values.proofs.Replaced.{shifted-bits}
use Rattle.net_values.proofs.arms.of_put_pick.Goals as goal

pub returns-clause-value : goal.returns-clause-value
returns-clause-value c =
    let V : List ℕ = map value_of c.args.known.now in
    let shifted : value_of c.shift_right-bits.result ≡ read V c.args.stored.word / 2 ^ c.args.stored.offset =
    c.shift_right-bits.ensures.value ∙ ap₂ (λ v k. v / 2 ^ k) c.read-2.ensures.value c.from.ensures in
    let bits : bit (value_of c.shift_right-bits.result) ≡ (λ b. bit (read V c.args.stored.word) (c.args.stored.offset + b)) =
    ap bit shifted ∙ shifted-bits (read V c.args.stored.word) c.args.stored.offset in
    put-known (value_of c.put.result) (width_of c.ranged-word.result.word) c.args.old.width (value_of c.ranged-word.result.word) (read V c.args.old)
    (width_of c.index.result.word) c.args.select.now.index.width (value_of c.index.result.word) (read V c.args.select.now.index)
    c.ranged-word.result.left c.args.select.now.left c.ranged-word.result.right c.args.select.now.right c.index.result.signed c.args.select.now.index.signed
    c.as_slice.result.now c.args.select.now.offsets (bit (value_of c.shift_right-bits.result)) (λ b. bit (read V c.args.stored.word) (c.args.stored.offset + b))
    (ap (λ (r : Ranged). width_of r.word) c.ranged-word.ensures ∙ c.read.ensures.width) (ap (λ (r : Ranged). r.left) c.ranged-word.ensures) (ap (λ (r : Ranged). r.right) c.ranged-word.ensures)
    (ap (λ (r : Ranged). value_of r.word) c.ranged-word.ensures ∙ c.read.ensures.value) c.index.ensures.signed c.index.ensures.width c.index.ensures.value c.as_slice.ensures bits c.put.ensures.value
