-- A dump whose header is read, and what comes of the rest.
use Rattle.std.specs.Prelude.{ℕ, ◌≡◌, false, List, [], map, All, Some, Result, Ok, Err}
use Rattle.design_core.specs.declared.design.Design.{Design}
use Rattle.vcd_words.specs.Words.{words_left}
use Rattle.vcd_reading.specs.declared.error.VcdErr.{VcdErr}
use Rattle.vcd_reading.specs.Header.{Header}
use Rattle.vcd_reading.specs.HeaderView.{header_of}
use Rattle.vcd_reading.specs.Scopes.{Sought, ports_of, scope_of}
use Rattle.vcd_reading.specs.Changes.{Past, stamps_of}
use Rattle.vcd_reading.specs.Reading.{ReadsText}
use Rattle.vcd_reading.specs.Outcomes.{IsAt, ReadsOn, begun}
use Rattle.vcd_traces.specs.declared.dump.Dump.{Dump}
use Rattle.vcd_traces.specs.declared.rows.Rows.{Rows}
use Rattle.vcd_traces.specs.declared.sites.Site.{Site}
use Rattle.vcd_traces.specs.Samples.{Manner, Watches, moments, sought_of}
use Rattle.vcd_traces.specs.Rows.{rows_of}
use Rattle.vcd_traces.specs.Kept.{AreKept}
use Rattle.vcd_traces.specs.Sites.{site_port, IsSite}

abbrev pub dump_header : Dump → Header
dump_header dump = header_of dump.front.header

-- whatever comes of the words behind the header comes of the text
pub record IsFront (sought : Sought) (dump : Dump) : Type 0 where
  pub reads : ReadsOn sought dump.text.now (begun (dump_header dump)) dump.front.stop
  pub unended : (dump_header dump).ended ≡ false → words_left dump.text.now dump.front.stop ≡ []

-- the ports of a design have their variables in the scope of the ports
pub record AreFound (d : Design) (by : Manner) (dump : Dump) (sites : List Site) : Type 0 where
  pub front : IsFront (sought_of d by) dump
  pub scope : ℕ
  pub first : scope_of (dump_header dump) (sought_of d by) ≡ Some scope
  pub same : map site_port sites ≡ ports_of d by.clock
  pub each : All (IsSite (dump_header dump) (sought_of d by)) sites

-- a text that reads to its end, with the cycles that are kept of it
pub record EndsWith (sought : Sought) (w : Watches) (text : List ℕ) (h : Header) (rows : Rows) : Type 0 where
  pub past : Past
  pub same : past.header ≡ h
  pub reads : ReadsText sought text (Ok past)
  pub kept : AreKept w past.events (moments w.clock past.events (stamps_of past)) (rows_of rows)

-- what comes of the rest of a text
abbrev pub Comes : Sought → Watches → List ℕ → Header → Result Rows VcdErr → Type 0
Comes sought w text h (Ok rows) = EndsWith sought w text h rows
Comes sought w text h (Err fault) = IsAt (λ at. ReadsText sought text (Err at)) fault
