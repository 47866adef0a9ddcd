-- Private, for the functions inside this crate: whether rows of values fit, as tests.
use Rattle.std.specs.Prelude.{ℕ, ◌<◌, ◌==◌, ◌&&◌, Bool, true, false, List, [], ◌∷◌}
use Rattle.loc_base.specs.declared.bits.Bits.{Bits}
use Rattle.loc_base.specs.Bits.{width_of}
use Rattle.design_core.specs.declared.design.Design.{Design}
use Rattle.design_core.specs.declared.values.Values.{Values}
use Rattle.design_core.specs.Explained.{place_width, row_of, IsRow}

-- a word for each of some places, of the place's width
abbrev pub row_fits : Design → List ℕ → List Bits → Bool
row_fits d [] [] = true
row_fits d [] (word ∷ words) = false
row_fits d (place ∷ places) [] = false
row_fits d (place ∷ places) (word ∷ words) = width_of word == place_width d place && row_fits d places words

-- each row of a number below one has a word for each place, of the place's width
abbrev pub AreRowsBefore : Design → Values → ℕ → Type 0
AreRowsBefore d values n = (r : ℕ) → r < n → IsRow d values.places.items (row_of values.places.items values.rows.items r)
