-- Which bits are driven, and which are used, as masks, for what is private to this crate.
use Rattle.std.specs.Prelude.{ℕ, ◌≡◌, ◌<◌, Bool, false, not, ◌&&◌, ◌||◌, nat_lt, List, length, slice_get, slice_index}
use Rattle.std.specs.Option.{option_map_or}
use Rattle.std.specs.List.{list_any}
use Rattle.design_core.specs.declared.signal.Signal.{Signal}
use Rattle.design_core.specs.declared.signal.SignalKind.{SignalKind}
use Rattle.design_core.specs.declared.design.Design.{Design}
use Rattle.design_core.specs.Valuation.{width_at}
use Rattle.design_core.specs.Drives.{driver_drives, block_drives, is_among}
use Rattle.design_core.specs.Mentions.{driver_mentions, block_mentions}
use Rattle.design_bits.specs.Masks.{exceeds, has}
use Rattle.design_rules.specs.Entries.{is_net_kind}

-- whether some entry drives a bit
abbrev pub some_drives : Design → ℕ → ℕ → Bool
some_drives d s b = list_any (driver_drives d.signals.items s b) d.drivers.items || list_any (block_drives d.signals.items s b) d.clocked.items

-- all bits that some entry drives, and no others
pub record AreDriven (d : Design) (masks : List ℕ) : Type 0 where
  pub long : length masks ≡ length d.signals.items
  pub bits : (s b : ℕ) → s < length d.signals.items → b < 128 → has masks s b ≡ some_drives d s b

-- whether an output has a bit
abbrev pub output_has : Design → ℕ → ℕ → ℕ → Bool
output_has d s b output = is_among output 1 s && nat_lt b (width_at d.signals.items s)

-- the bits of outputs, and those that are read and not driven
abbrev pub is_used : Design → List ℕ → ℕ → ℕ → Bool
is_used d driven s b =
    list_any (output_has d s b) d.outputs.items
    || ((list_any (driver_mentions d.signals.items s b) d.drivers.items || list_any (block_mentions d.signals.items s b) d.clocked.items) && not (has driven s b))

pub record AreUsed (d : Design) (driven masks : List ℕ) : Type 0 where
  pub long : length masks ≡ length d.signals.items
  pub bits : (s b : ℕ) → s < length d.signals.items → b < 128 → has masks s b ≡ is_used d driven s b

-- whether a net uses a bit that has no driver
abbrev pub lacks : SignalKind → ℕ → ℕ → Bool
lacks kind used driven = is_net_kind kind && exceeds used driven

abbrev pub lacks_at : List Signal → List ℕ → List ℕ → ℕ → Bool
lacks_at signals used driven s = option_map_or (λ signal. lacks signal.kind (slice_index used s) (slice_index driven s)) (slice_get signals s) false
