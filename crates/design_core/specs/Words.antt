-- A valuation as words: one for each signal, of the signal's width.
use Rattle.std.specs.Prelude.{◌≡◌, Bool, false, List, map, slice_get}
use Rattle.std.specs.Option.{option_map_or}
use Rattle.loc_base.specs.declared.bits.Bits.{Bits}
use Rattle.loc_base.specs.Bits.{bit_of, width_of, value_of}
use Rattle.design_core.specs.declared.signal.Signal.{Signal}
use Rattle.design_core.specs.Valuation.{Valuation}
use Rattle.design_core.specs.After.{Choice}

-- the valuation that some words are, by the signals' numbers
abbrev pub valuation_of : List Bits → Valuation
valuation_of words s b = option_map_or (λ word. bit_of word b) (slice_get words s) false

-- one word for each signal, of the signal's width
pub record AreWordsOf (signals : List Signal) (words : List Bits) : Type 0 where
  pub widths : map width_of words ≡ map (λ s. s.width) signals

-- the freed places with their values, one entry for each place of the design
abbrev pub choice_of : List Bool → List Bits → Choice
choice_of freed chosen =
    record { frees = λ p. option_map_or (λ b. b) (slice_get freed p) false; chosen = λ p. option_map_or value_of (slice_get chosen p) 0 }
