-- The header and the rows behind it (Biere, The AIGER And-Inverter Graph (AIG) Format, 2007, the ASCII format): one line for each
-- input, latch, output and AND, in this order. A latch may have a third number, its start value (Biere, Heljanko, Wieringa, AIGER
-- 1.9 And Beyond, 2011, section 3.1), which here is 0.
use Rattle.std.specs.Prelude.{ℕ, ◌+◌, ◌==◌, nat_lt, ◌&&◌, ◌||◌, if◌then◌else◌, codes, List, length, drop, slice_index, Option, None, Some}
use Rattle.std.specs.Str.{bytes_eq}
use Rattle.std.specs.Option.{option_and_then}
use Rattle.aiger_text.specs.declared.row.Counts.{Counts}
use Rattle.aiger_text.specs.declared.row.Row.{Row}
use Rattle.aiger_text.specs.declared.row.Row.TheVariants as row
use Rattle.aiger_text.specs.declared.row.Section.{Section}
use Rattle.aiger_text.specs.declared.row.Section.TheVariants.{Inputs, Latches, Outputs, Ands}
use Rattle.aiger_text.specs.Lines.{Parts, cut_at, first_line}
use Rattle.aiger_text.specs.Numbers.{numbers_in}

-- the counts that five numbers give: the greatest variable, then how many inputs, latches, outputs and ANDs there are
abbrev pub counts_of : List ℕ → Option Counts
counts_of numbers =
    if length numbers == 5
    then Some (record {
      most = slice_index numbers 0;
      inputs = slice_index numbers 1;
      latches = slice_index numbers 2;
      outputs = slice_index numbers 3;
      ands = slice_index numbers 4;
    })
    else None

-- the header `aag M I L O A` that a line is
abbrev pub header_in : List ℕ → Option Counts
header_in line =
    option_and_then (λ (cut : Parts). if bytes_eq cut.front (codes "aag") then option_and_then counts_of (numbers_in cut.back) else None) (cut_at 32 line)

-- the header of a text's lines
abbrev pub header : List (List ℕ) → Option Counts
header lines = option_and_then header_in (first_line lines)

-- the numbers of the first row behind the inputs, behind the latches, behind the outputs, and of all rows
abbrev pub first_latch : Counts → ℕ
first_latch c = c.inputs

abbrev pub first_output : Counts → ℕ
first_output c = c.inputs + c.latches

abbrev pub first_and : Counts → ℕ
first_and c = c.inputs + c.latches + c.outputs

abbrev pub row_count : Counts → ℕ
row_count c = c.inputs + c.latches + c.outputs + c.ands

-- what the row of a number, counted from 0, describes
abbrev pub section_at : Counts → ℕ → Section
section_at c k =
    if nat_lt k (first_latch c) then Inputs
    else if nat_lt k (first_output c) then Latches
    else if nat_lt k (first_and c) then Outputs
    else Ands

-- the row that numbers are, by what it describes
abbrev pub row_of : Section → List ℕ → Option Row
row_of Inputs numbers = if length numbers == 1 then Some (row.Input (slice_index numbers 0)) else None
row_of Latches numbers =
    if length numbers == 2 || (length numbers == 3 && slice_index numbers 2 == 0)
    then Some (row.Latch (slice_index numbers 0) (slice_index numbers 1))
    else None
row_of Outputs numbers = if length numbers == 1 then Some (row.Output (slice_index numbers 0)) else None
row_of Ands numbers =
    if length numbers == 3 then Some (row.And (slice_index numbers 0) (slice_index numbers 1) (slice_index numbers 2)) else None

-- the row that the first of some lines is
abbrev pub first_row : Section → List (List ℕ) → Option Row
first_row section lines = option_and_then (λ line. option_and_then (row_of section) (numbers_in line)) (first_line lines)

-- the row of a number among the lines behind the header, where its line stands and is of its shape
abbrev pub row_at : List (List ℕ) → Counts → ℕ → Option Row
row_at lines c k = first_row (section_at c k) (drop k lines)
