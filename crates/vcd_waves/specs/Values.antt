-- What the parts of the writer show.
use Rattle.std.specs.Prelude.{ℕ, Bool, if◌then◌else◌, Option}
use Rattle.loc_base.specs.Bits.{width_of, value_of}
use Rattle.vcd_waves.specs.declared.values.Value.{Value}
use Rattle.vcd_waves.specs.declared.values.Row as row
use Rattle.vcd_waves.specs.declared.values.Changes.{Changes}
use Rattle.vcd_waves.specs.declared.values.Changes.TheVariants as changes
use Rattle.vcd_waves.specs.declared.variable.Kind.{Kind}
use Rattle.vcd_waves.specs.Lines.{Shown, Row, shown_in, clock_shown}

abbrev pub shown_of : Value → Shown
shown_of value = record { width = width_of value.bits; value = value_of value.bits; mask = value.mask }

abbrev pub row_of : row.Row → Row
row_of r = record { samples = r.samples.now; expected = r.expected.now; chosen = r.chosen.now }

abbrev pub bit_number : Bool → ℕ
bit_number bit = if bit then 1 else 0

-- what a moment shows of the variable at a place in the list of its kind
abbrev pub shown_by : Changes → Kind → ℕ → Option Shown
shown_by (changes.Clock bit) kind place = clock_shown (bit_number bit) kind place
shown_by (changes.Row r) kind place = shown_in (row_of r) kind place
