use Rattle.std.proofs.Common.{ap, ◌∙◌}
use Rattle.design_core.specs.Words.{valuation_of}
use Rattle.plain_sim.specs.EvaluateCycle.{blended}
use Rattle.cycle_sim.specs.Masks.{covers, is_among}
use Rattle.cycle_sim.proofs.WholeRegisters.{blended-again, split-copied}
use Rattle.cycle_sim.proofs.registers.Registers.load.Goals as goal

pub returns-clause-value : goal.returns-clause-value
returns-clause-value c =
    let registers = c.args.self.now in
    let from = valuation_of c.args.from.now in
    let to = valuation_of c.args.to.now in
    (rw c.deref-2.ensures.value at c.copy_bits.ensures.value)
    ∙ ap (blended (covers registers.parts.items) from) (rw c.deref.ensures.value at c.copy_words.ensures.value)
    ∙ blended-again (λ s b. is_among registers.whole.items s) (covers registers.parts.items) from to
    ∙ split-copied c.args.to.now c.args.from.now registers.masks.items registers.whole.items registers.parts.items
    c.requires.from c.requires.split
