-- What the reading of changes says of the text, piece by piece.
use Rattle.std.specs.Prelude.{ℕ, ◌≡◌, false, List, [], Result, Ok, Err}
use Rattle.vcd_words.specs.Words.{words_left}
use Rattle.vcd_reading.specs.declared.error.VcdErr.{VcdErr}
use Rattle.vcd_traces.specs.declared.reader.Reading.{Reading}
use Rattle.vcd_traces.specs.declared.reader.Plan.{Plan}
use Rattle.vcd_reading.specs.Scopes.{Sought}
use Rattle.vcd_reading.specs.Changes.{Past, stamps_of}
use Rattle.vcd_traces.specs.Samples.{Watches, moments}
use Rattle.vcd_traces.specs.Table.{cell_codes}
use Rattle.vcd_traces.specs.Rows.{rows_of}
use Rattle.vcd_traces.specs.Kept.{AreKept}
use Rattle.vcd_reading.specs.Reading.{Step, goes, stops, ReadsText}
use Rattle.vcd_reading.specs.Outcomes.{IsAt, ReadsOn}
use Rattle.vcd_traces.specs.Plan.{Holds}

-- a call does what a step says: it leaves what stands behind a piece, or refuses its wrong word
abbrev pub Goes : List ℕ → Step → (Past → Type 0) → Result ℕ VcdErr → Type 0
Goes text step holds (Ok next) = (past : Past) × (step ≡ goes past (words_left text next)) × holds past
Goes text step holds (Err fault) = IsAt (λ at. step ≡ stops at) fault

-- what is kept is that of what stands before a place, the header being the same
abbrev pub Holding : Watches → Plan → Past → Reading → Past → Type 0
Holding w plan start reading past = (past.header ≡ start.header) × Holds w (cell_codes plan.table) past reading

-- what is kept where the reading has come to a place: that of what stands before it
pub record Going (sought : Sought) (w : Watches) (plan : Plan) (text : List ℕ) (start : Past) (at : ℕ) (reading : Reading) : Type 0 where
  pub past : Past
  pub holding : Holding w plan start reading past
  pub unended : start.header.ended ≡ false → words_left text at ≡ []
  pub reads : ReadsOn sought text past at

-- what is kept at the text's end: the cycles of all stamps
pub record Gone (sought : Sought) (w : Watches) (text : List ℕ) (start : Past) (reading : Reading) : Type 0 where
  pub past : Past
  pub same : past.header ≡ start.header
  pub reads : ReadsText sought text (Ok past)
  pub rows : AreKept w past.events (moments w.clock past.events (stamps_of past)) (rows_of reading.rows)

-- what comes of reading to the text's end
abbrev pub Ends : Sought → Watches → List ℕ → Past → Result (Unit {0}) VcdErr → Reading → Type 0
Ends sought w text start (Ok done) reading = Gone sought w text start reading
Ends sought w text start (Err fault) reading = IsAt (λ at. ReadsText sought text (Err at)) fault
