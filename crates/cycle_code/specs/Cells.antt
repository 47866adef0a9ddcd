-- What cells hold. A valuation gives the bits of each cell, by its number.
use Rattle.std.specs.Prelude.{ℕ, ◌≡◌, ◌+◌, ◌-◌, true, ◌&&◌, if◌then◌else◌, nat_lt, List, slice_get, Some}
use Rattle.std.specs.Option.{option_map_or}
use Rattle.design_core.specs.Valuation.{Valuation, bit, number}
use Rattle.design_core.specs.Store.{with_bits}
use Rattle.design_core.specs.After.{Updates}
use Rattle.cycle_code.specs.Program.{Program}

-- the width of a cell, 0 where there is none
abbrev pub width_in : List ℕ → ℕ → ℕ
width_in widths cell = option_map_or (λ width. width) (slice_get widths cell) 0

-- the number that a cell holds
abbrev pub held : List ℕ → Valuation → ℕ → ℕ
held widths V cell = number (width_in widths cell) (V cell)

-- a cell holds the low bits of another number, as many as it has
abbrev pub with_held : List ℕ → ℕ → ℕ → Valuation → Valuation
with_held widths cell value V = with_bits V cell 0 (width_in widths cell) (bit value)

-- the cells below a number alone
abbrev pub below : ℕ → Valuation → Valuation
below count V s b = nat_lt s count && V s b

-- the words that are read, and those of later updates: the cells of a number of signals, and as many after them
abbrev pub updates_in : ℕ → Valuation → Updates
updates_in count V = record { now = below count V; later = below count (λ s. V (count + s)) }

-- those cells replaced
abbrev pub with_updates : ℕ → Updates → Valuation → Valuation
with_updates count m V cell b =
    if nat_lt cell count then m.now cell b
    else (if nat_lt cell (count + count) then m.later (cell - count) b else V cell b)

-- each constant holds the number that it has before the first run
pub record HasConstants (p : Program) (V : Valuation) : Type 0 where
  pub constants : (cell value : ℕ) → slice_get p.fixed cell ≡ Some true → slice_get p.values cell ≡ Some value
      → held p.widths V cell ≡ value
