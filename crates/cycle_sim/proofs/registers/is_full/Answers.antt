use Rattle.std.proofs.Common.{◌≡◌, ◌-◌, ◌^◌, sym, ◌∙◌}
use Rattle.std.proofs.lemmas.Bool.{eq-eqb}
use Rattle.loc_base.specs.Bits.{width_of, value_of}
use Rattle.loc_base.proofs.ShelfBools.{equal-true}
use Rattle.cycle_sim.proofs.WholeRegisters.{full-all, full-none}
use Rattle.cycle_sim.proofs.registers.is_full.Goals as goal

pub returns : goal.returns
returns c =
    let complement : c.value.result ≡ (2 ^ width_of c.args.bits - 1) - value_of c.args.bits = c.value.ensures ∙ c.not.ensures.value in (
      λ none. full-all c.args.bits (sym complement ∙ equal-true c.value.result 0 none),
      λ full. eq-eqb c.value.result 0 (complement ∙ full-none c.args.bits full),
    )
