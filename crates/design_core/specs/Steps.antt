-- The values of a cycle and its next states, computed step by step: first the registers that are reset, then the drivers
-- one after another, then the clocked blocks. In an order of the drivers this is the cycle of a design in which each bit
-- gets its value once.
use Rattle.std.specs.Prelude.{ℕ, false, not, ◌&&◌, if◌then◌else◌, List, [], ◌∷◌, slice_get}
use Rattle.std.specs.Option.{option_map_or}
use Rattle.loc_base.specs.declared.bits.Bits.{Bits}
use Rattle.design_core.specs.declared.driver.Clocked.{Clocked}
use Rattle.design_core.specs.declared.design.Design.{Design}
use Rattle.design_core.specs.Valuation.{Valuation}
use Rattle.design_core.specs.After.{Choice}
use Rattle.design_core.specs.Drives.{driver_drives, block_drives, is_register_bit}
use Rattle.design_core.specs.Cycle.{before, driven, left_from, is_active, is_reset}

-- a valuation with the registers of a clocked block at their reset values, where its reset is active in E
abbrev pub with_reset : Design → Choice → Valuation → Clocked → Valuation → Valuation
with_reset d choice E block V s b =
    if is_active E block && (is_register_bit d s b && block_drives d.signals.items s b block)
    then option_map_or (λ r. left_from d.signals.items choice block E r.values s b) block.reset false
    else V s b

abbrev pub with_resets : Design → Choice → Valuation → List Clocked → Valuation → Valuation
with_resets d choice E [] V = V
with_resets d choice E (block ∷ blocks) V = with_resets d choice E blocks (with_reset d choice E block V)

-- a valuation with the bits of the driver of a number as it gives them
abbrev pub with_driver : Design → Choice → ℕ → Valuation → Valuation
with_driver d choice i V s b =
    option_map_or (λ driver. if driver_drives d.signals.items s b driver then driven d.signals.items choice V driver s b else V s b)
    (slice_get d.drivers.items i) (V s b)

-- the drivers carried out in an order
abbrev pub with_drivers : Design → Choice → List ℕ → Valuation → Valuation
with_drivers d choice [] V = V
with_drivers d choice (i ∷ order) V = with_drivers d choice order (with_driver d choice i V)

-- next states with those of the registers of a clocked block as its body leaves them, where its reset is not active
abbrev pub with_body : Design → Choice → Valuation → Clocked → Valuation → Valuation
with_body d choice V block next s b =
    if not (is_active V block) && (is_register_bit d s b && block_drives d.signals.items s b block)
    then left_from d.signals.items choice block V block.body s b
    else next s b

abbrev pub with_bodies : Design → Choice → Valuation → List Clocked → Valuation → Valuation
with_bodies d choice V [] next = next
with_bodies d choice V (block ∷ blocks) next = with_bodies d choice V blocks (with_body d choice V block next)

-- the register states alone
abbrev pub kept : Design → Valuation → Valuation
kept d state s b = is_register_bit d s b && state s b

-- the values of a cycle, computed in an order of the drivers
abbrev pub computed_now : Design → List ℕ → List Bits → Valuation → Choice → Valuation
computed_now d order samples state choice =
    let E = before d samples state in
    with_drivers d choice order (with_resets d choice E d.clocked.items E)

-- the next states computed from the values
abbrev pub computed_next : Design → Valuation → Choice → Valuation → Valuation
computed_next d state choice V s b =
    if is_register_bit d s b && is_reset d V s b then V s b else with_bodies d choice V d.clocked.items (kept d state) s b
