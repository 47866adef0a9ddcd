use Rattle.std.proofs.Common.{◌≡◌, ap, sym, ◌∙◌, bit_and}
use Rattle.std.specs.Prelude.{bit_xor}
use Rattle.plain_sim.proofs.EvaluateMasked.{masked-same, masked-zero, zero_test, zero_tested}
use Rattle.plain_sim.proofs.cycle.outputs.is_right.Goals as goal

pub returns : goal.returns
returns c =
    let value : c.value.result ≡ bit_and (bit_xor c.args.word.value c.args.checked.value.value) c.args.checked.mask.value =
    c.value.ensures ∙ c.and.ensures.value ∙ ap (λ n. bit_and n c.args.checked.mask.value) c.xor.ensures.value in (
      (λ zero b m. masked-same c.args.word.value c.args.checked.value.value c.args.checked.mask.value b (sym value ∙ zero_test c.value.result zero) m),
      (λ right. zero_tested c.value.result (value ∙ masked-zero c.args.word.value c.args.checked.value.value c.args.checked.mask.value right)),
    )
