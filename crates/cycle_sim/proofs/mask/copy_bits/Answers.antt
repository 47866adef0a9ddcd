use Rattle.std.proofs.Common.{drop, ap, sym, ◌∙◌, ◌+◌, arith}
use Rattle.std.proofs.lemmas.List.{drop_all}
use Rattle.design_core.specs.Words.{valuation_of}
use Rattle.plain_sim.specs.EvaluateCycle.{blended}
use Rattle.cycle_sim.specs.Masks.{covers}
use Rattle.cycle_sim.proofs.Blending.{blended-next}
use Rattle.cycle_sim.proofs.mask.copy_bits.Goals as goal

pub loop-k-preserved : goal.loop-k-preserved
loop-k-preserved c =
    record {
      widths = c.copy_one.ensures.widths ∙ c.loop-k.invariant.widths;
      value =
          ap (blended (covers (drop (c.loop-k.k + 1) c.args.masks.now)) (valuation_of c.args.from.now)) c.copy_one.ensures.value
          ∙ blended-next c.args.masks.now c.loop-k.k c.mask_at.result (valuation_of c.args.from.now)
          (valuation_of c.loop-k.to) c.mask_at.ensures
          ∙ c.loop-k.invariant.value;
    }

pub returns-clause-value : goal.returns-clause-value
returns-clause-value c =
    sym (ap (λ masks. blended (covers masks) (valuation_of c.args.from.now) (valuation_of c.loop-k.to))
    (drop_all c.loop-k.k c.args.masks.now (omega (arith, c.loop-k-test.false))))
    ∙ c.loop-k.invariant.value
