use Rattle.std.proofs.Common.{ℕ, arith, ap, sym, ◌∙◌}
use Rattle.std.specs.Prelude.{Bool}
use Rattle.std.specs.Option.{option_map_or}
use Rattle.design_core.specs.declared.signal.Signal.{Signal}
use Rattle.design_core.specs.Valuation.{number}
use Rattle.design_core.specs.Drives.{part_drives}
use Rattle.design_core.proofs.NumberLaws.{number-below}
use Rattle.cycle_sim.proofs.Collecting.{signal-width}
use Rattle.cycle_sim.proofs.collect.part_bits.Goals as goal

pub part_value-requires : goal.part_value-requires
part_value-requires c = (signal-width c.args.signals.now c.args.s c.signal_at.result.now c.requires.signals c.signal_at.ensures).1

pub unwrap-requires : goal.unwrap-requires
unwrap-requires c =
    let f : ℕ → Bool = λ b. part_drives c.args.signals.now c.args.s b c.args.part.now in
    let bounds = signal-width c.args.signals.now c.args.s c.signal_at.result.now c.requires.signals c.signal_at.ensures in
    c.new.ensures.some.1 (bounds.0, bounds.1, omega (arith, number-below c.signal_at.result.now.width f, c.part_value.ensures))

pub returns-clause-width : goal.returns-clause-width
returns-clause-width c =
    rw c.unwrap.ensures at c.new.ensures.width ∙ sym (ap (λ o. option_map_or (λ (s : Signal). s.width) o 0) c.signal_at.ensures)

pub returns-clause-value : goal.returns-clause-value
returns-clause-value c =
    let f : ℕ → Bool = λ b. part_drives c.args.signals.now c.args.s b c.args.part.now in
    rw c.unwrap.ensures at c.new.ensures.value ∙ c.part_value.ensures
    ∙ ap (λ w. number w f) (sym (ap (λ o. option_map_or (λ (s : Signal). s.width) o 0) c.signal_at.ensures))
