-- Which drivers drive the bits of a signal, in rows, and which of them a driver needs, for what is private to this crate.
use Rattle.std.specs.Prelude.{ℕ, ◌≡◌, ◌<◌, ◌==◌, Bool, true, false, ◌&&◌, ◌||◌, List, [], length, slice_get, slice_index, slice_index_or}
use Rattle.std.specs.Option.{option_map_or}
use Rattle.std.specs.List.{list_any}
use Rattle.design_core.specs.declared.signal.Signal.{Signal}
use Rattle.design_core.specs.declared.driver.Driver.{Driver}
use Rattle.design_core.specs.declared.design.Design.{Design}
use Rattle.design_core.specs.Valuation.{bit}
use Rattle.design_core.specs.Drives.{driver_drives}
use Rattle.design_core.specs.Reads.{Depends}
use Rattle.design_bits.specs.Masks.{has, share_bit}
use Rattle.design_order.specs.declared.sources.DrivenBits.{DrivenBits}
use Rattle.design_order.specs.Rows.{Listed}

-- the row of a signal
abbrev pub row_at : List (List DrivenBits) → ℕ → List DrivenBits
row_at sources s = slice_index_or sources s []

-- whether an entry has a driver with a bit, and whether a signal's row does
abbrev pub entry_has : ℕ → ℕ → DrivenBits → Bool
entry_has j b entry = entry.driver == j && bit entry.mask b

abbrev pub row_has : List (List DrivenBits) → ℕ → ℕ → ℕ → Bool
row_has sources s b j = list_any (entry_has j b) (row_at sources s)

-- rows to which a driver was added, for the bits that it drives
pub record AddsSource (old new : List (List DrivenBits)) (driver : ℕ) (drives : ℕ → ℕ → Bool) : Type 0 where
  pub long : length new ≡ length old
  pub bits : (s b j : ℕ) → s < length old → b < 128 → row_has new s b j ≡ (row_has old s b j || (driver == j && drives s b))

-- whether the driver of a number drives a bit
abbrev pub drives_at : List Signal → List Driver → ℕ → ℕ → ℕ → Bool
drives_at signals drivers s b j = option_map_or (driver_drives signals s b) (slice_get drivers j) false

-- for each signal the drivers of its bits
pub record AreSources (signals : List Signal) (drivers : List Driver) (sources : List (List DrivenBits)) : Type 0 where
  pub long : length sources ≡ length signals
  pub bits : (s b j : ℕ) → s < length signals → b < 128 → row_has sources s b j ≡ drives_at signals drivers s b j

-- whether an entry is of a driver with a bit of a mask
abbrev pub entry_meets : ℕ → ℕ → DrivenBits → Bool
entry_meets mask j entry = entry.driver == j && share_bit entry.mask mask

-- whether a driver drives a bit of a signal that is read
abbrev pub signal_meets : List (List DrivenBits) → List ℕ → ℕ → ℕ → Bool
signal_meets sources reads j s = list_any (entry_meets (slice_index reads s) j) (row_at sources s)

-- a driver drives a bit that is read
pub record Meets (sources : List (List DrivenBits)) (reads : List ℕ) (j : ℕ) : Type 0 where
  pub signal : ℕ
  pub position : ℕ
  pub within : signal < length reads
  pub below : position < 128
  pub read : has reads signal position ≡ true
  pub driven : row_has sources signal position j ≡ true

-- a row has the drivers that drive a bit that is read, and no others
pub record IsRow (sources : List (List DrivenBits)) (reads row : List ℕ) : Type 0 where
  pub found : (j : ℕ) → list_any (λ x. x == j) row ≡ true → Meets sources reads j
  pub all : (j : ℕ) → Meets sources reads j → list_any (λ x. x == j) row ≡ true

-- the first drivers have rows with those that they depend on
pub record AreNeeds (d : Design) (count : ℕ) (rows : List (List ℕ)) : Type 0 where
  pub long : length rows ≡ count
  pub found : (i j : ℕ) → Listed rows i j → Depends d i j
  pub all : (i j : ℕ) → i < count → Depends d i j → Listed rows i j
