use Rattle.std.proofs.Common.{map, ◌∙◌, ap, arith, ◌++◌, ◌∷◌, []}
use Rattle.loc_base.specs.Bits.{width_of}
use Rattle.design_core.specs.Words.{valuation_of}
use Rattle.cycle_sim.specs.Masks.{covers}
use Rattle.cycle_sim.proofs.Planning.{widths-add, covers-push, narrowed-next, narrowed-end}
use Rattle.std.specs.Prelude.{◌||◌}
use Rattle.cycle_sim.proofs.plan.own_masks.Goals as goal

pub loop-k-preserved : goal.loop-k-preserved
loop-k-preserved c =
    rw c.in_ok-push.ensures.items
    (record {
      widths = widths-add (map width_of c.args.registers.now) c.loop-k.own.items c.within.result c.within.ensures.width
          c.loop-k.invariant.widths;
      bits = narrowed-next (valuation_of c.args.registers.now) c.args.masks.now c.loop-k.own.items
          (c.loop-k.own.items ++ c.within.result ∷ []) c.loop-k.k c.mask_at.result c.mask_at.ensures c.loop-k.invariant.bits
          (λ s b. covers-push c.loop-k.own.items c.within.result s b ∙ ap (λ x. covers c.loop-k.own.items s b || x)
          (c.within.ensures.bits s b));
    })

pub returns-clause-bits : goal.returns-clause-bits
returns-clause-bits c =
    narrowed-end (valuation_of c.args.registers.now) c.args.masks.now c.loop-k.own.items c.loop-k.k
    (omega (arith, c.loop-k-test.false)) c.loop-k.invariant.bits
