use Rattle.std.proofs.Common.{◌≡◌, ◌-◌, ap, sym, ◌∙◌, arith}
use Rattle.v_sizes.specs.Operations.{logarithm_from}
use Rattle.v_sizes.proofs.Powers.{log-more, log-last}
use Rattle.v_sizes.proofs.power.logarithm.Goals as goal

pub loop-bits-preserved : goal.loop-bits-preserved
loop-bits-preserved c = sym (log-more c.loop-bits.bits c.args.number (omega arith) (omega arith)) ∙ c.loop-bits.invariant

pub returns : goal.returns
returns c =
    let e : c.loop-bits.bits ≡ 128 = omega arith in
    sym (log-last c.args.number) ∙ sym (ap (λ b. logarithm_from (128 - b) b c.args.number) e) ∙ c.loop-bits.invariant
