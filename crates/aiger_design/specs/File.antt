-- The design that a file means.
use Rattle.std.specs.Prelude.{ℕ, ◌≡◌, List, Option}
use Rattle.std.specs.List.{range_with_len}
use Rattle.design_core.specs.declared.design.Design.{Design}
use Rattle.aiger_text.specs.declared.row.Row.{Row}
use Rattle.aiger_text.specs.Content.{Content}
use Rattle.aiger_rules.specs.Ports.{port_names}
use Rattle.aiger_design.specs.declared.numbering.Numbering.{Numbering}
use Rattle.aiger_design.specs.Numbering.{input_count, first_result, numbering_of}
use Rattle.aiger_design.specs.Signals.{signals_of}
use Rattle.aiger_design.specs.Drivers.{drivers_of, blocks_of, places_of}

-- the design of rows, by the names of their ports and the top's name
pub record IsDesignBy (rows : List Row) (n : Numbering) (names : List (List ℕ)) (top : List ℕ) (d : Design) : Type 0 where
  pub signals : d.signals.items ≡ signals_of rows n names
  pub drivers : d.drivers.items ≡ drivers_of rows n
  pub clocked : d.clocked.items ≡ blocks_of rows n
  pub places : d.places.items ≡ places_of rows n top
  pub inputs : d.inputs.items ≡ range_with_len n.clocks (input_count n)
  pub outputs : d.outputs.items ≡ range_with_len (first_result n) n.counts.outputs

-- the design of what a text has
abbrev pub IsDesignOf : Content → List ℕ → Option (List ℕ) → Design → Type 0
IsDesignOf w top clock d = IsDesignBy w.rows (numbering_of w clock) (port_names w clock) top d
