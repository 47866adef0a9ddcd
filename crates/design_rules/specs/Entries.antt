-- What the entries of a design drive and read together. Its entries are its drivers, which are continuous assignments,
-- outputs of gates, port connections and combinational blocks, and its clocked blocks (IEEE 1364-2005, 6.1, 7.2, 9.9 and
-- 12.3.9; IEEE 1364.1-2002, 5.2).
use Rattle.std.specs.Prelude.{ℕ, ◌+◌, ◌==◌, Bool, true, false, ◌&&◌, ◌||◌, nat_lt, List, slice_get, count_by}
use Rattle.std.specs.Option.{option_map_or}
use Rattle.std.specs.List.{list_any}
use Rattle.design_core.specs.declared.signal.Signal.{Signal}
use Rattle.design_core.specs.declared.signal.SignalKind.{SignalKind}
use Rattle.design_core.specs.declared.signal.SignalKind.TheVariants.{Input, Net, Reg}
use Rattle.design_core.specs.declared.design.Design.{Design}
use Rattle.design_core.specs.Valuation.{width_at}
use Rattle.design_core.specs.Drives.{driver_drives, block_drives, is_reg}
use Rattle.design_core.specs.Mentions.{driver_mentions, block_mentions}

-- how many entries drive a bit
abbrev pub driven_times : Design → ℕ → ℕ → ℕ
driven_times d s b = count_by (driver_drives d.signals.items s b) d.drivers.items + count_by (block_drives d.signals.items s b) d.clocked.items

-- whether some entry reads a bit anywhere
abbrev pub is_mentioned : Design → ℕ → ℕ → Bool
is_mentioned d s b = list_any (driver_mentions d.signals.items s b) d.drivers.items || list_any (block_mentions d.signals.items s b) d.clocked.items

-- whether a bit is one of an output of the top
abbrev pub is_output_bit : Design → ℕ → ℕ → Bool
is_output_bit d s b = list_any (λ output. output == s) d.outputs.items && nat_lt b (width_at d.signals.items s)

abbrev pub is_net_kind : SignalKind → Bool
is_net_kind Input = false
is_net_kind Net = true
is_net_kind Reg = false

-- whether a signal is a net that is no input of the top
abbrev pub is_net : List Signal → ℕ → Bool
is_net signals s = option_map_or (λ signal. is_net_kind signal.kind) (slice_get signals s) false

-- whether a signal is a variable
abbrev pub is_variable : List Signal → ℕ → Bool
is_variable signals s = option_map_or (λ signal. is_reg signal.kind) (slice_get signals s) false
