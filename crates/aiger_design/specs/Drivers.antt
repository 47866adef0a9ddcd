-- The drivers, the clocked blocks and the places: a continuous assignment for each AND, which is a place, and for each output, which is
-- none; a clocked block for each latch, whose assignment is a place. Each stands on the line of its row.
use Rattle.std.specs.Prelude.{ℕ, ◌+◌, true, List, [], ◌∷◌, ◌++◌, map, None, Some}
use Rattle.std.specs.List.{range_with_len}
use Rattle.loc_base.specs.declared.span.Span.{Span}
use Rattle.design_core.specs.declared.statement.Part.TheVariants.{Whole}
use Rattle.design_core.specs.declared.statement.Target.{Target}
use Rattle.design_core.specs.declared.statement.Stmt.TheVariants.{Set}
use Rattle.design_core.specs.declared.driver.Driver.{Driver}
use Rattle.design_core.specs.declared.driver.Driver.TheVariants.{Cont}
use Rattle.design_core.specs.declared.driver.Clocked.{Clocked}
use Rattle.design_core.specs.declared.place.Place.{Place}
use Rattle.design_core.specs.declared.place.PlaceKind.{PlaceKind}
use Rattle.design_core.specs.declared.place.PlaceKind.TheVariants.{And, Step}
use Rattle.aiger_text.specs.declared.row.Row.{Row}
use Rattle.aiger_text.specs.Rows.{first_latch, first_output, first_and}
use Rattle.aiger_design.specs.declared.numbering.Numbering.{Numbering}
use Rattle.aiger_design.specs.Numbering.{and_signal, latch_signal, output_signal, and_number, latch_number}
use Rattle.aiger_design.specs.Signals.{row_path}
use Rattle.aiger_design.specs.Values.{and_value, first_value}

-- a left side that is a whole signal
abbrev pub whole : ℕ → Target
whole s = record { parts = Whole s ∷ [] }

-- the line of a row, counted from 1, as the span of a driver
abbrev pub line_span : ℕ → Span
line_span row = record { from = row + 2; to = row + 2 }

-- the driver of an AND's row, and of an output's
abbrev pub and_driver : List Row → Numbering → ℕ → Driver
and_driver rows n row = Cont (whole (and_signal n row)) (and_value rows n row) (Some (and_number n row)) (line_span row)

abbrev pub output_driver : List Row → Numbering → ℕ → Driver
output_driver rows n row = Cont (whole (output_signal n row)) (first_value rows n row) None (line_span row)

-- those of the ANDs, then those of the outputs
abbrev pub and_drivers : List Row → Numbering → List Driver
and_drivers rows n = map (and_driver rows n) (range_with_len (first_and n.counts) n.counts.ands)

abbrev pub output_drivers : List Row → Numbering → List Driver
output_drivers rows n = map (output_driver rows n) (range_with_len (first_output n.counts) n.counts.outputs)

abbrev pub drivers_of : List Row → Numbering → List Driver
drivers_of rows n = and_drivers rows n ++ output_drivers rows n

-- the block of a latch's row, which takes the value that the row reads
abbrev pub latch_block : List Row → Numbering → ℕ → Clocked
latch_block rows n row = record {
  reset = None;
  body = Set (latch_number n row) (whole (latch_signal n row)) (first_value rows n row) true;
}

abbrev pub blocks_of : List Row → Numbering → List Clocked
blocks_of rows n = map (latch_block rows n) (range_with_len (first_latch n.counts) n.counts.latches)

-- a place on a line
abbrev pub place : PlaceKind → List ℕ → List ℕ → ℕ → ℕ → Place
place kind top path line s =
    record { kind = kind; width = 1; site = line; home = line; copy = 0; line = line; «module» = top; path = path; signal = s }

-- the place of an AND's row has its path, that of a latch's row the top's
abbrev pub and_place : List Row → Numbering → List ℕ → ℕ → Place
and_place rows n top row = place And top (row_path rows 97 row) (row + 2) (and_signal n row)

abbrev pub latch_place : Numbering → List ℕ → ℕ → Place
latch_place n top row = place Step top top (row + 2) (latch_signal n row)

-- those of the ANDs, then those of the latches
abbrev pub and_places : List Row → Numbering → List ℕ → List Place
and_places rows n top = map (and_place rows n top) (range_with_len (first_and n.counts) n.counts.ands)

abbrev pub latch_places : Numbering → List ℕ → List Place
latch_places n top = map (latch_place n top) (range_with_len (first_latch n.counts) n.counts.latches)

abbrev pub places_of : List Row → Numbering → List ℕ → List Place
places_of rows n top = and_places rows n top ++ latch_places n top
