-- The numbers of signals and places. Signals: the clock where one is named, the inputs, the latches, the ANDs, the outputs. Places: the
-- ANDs, then the latches. The input that is the clock has the clock's number.
use Rattle.std.specs.Prelude.{ℕ, ◌≡◌, ◌+◌, ◌-◌, ◌<◌, ◌≤◌, ◌==◌, Bool, ◌||◌, nat_lt, if◌then◌else◌, List, length, Option}
use Rattle.std.specs.Option.{option_to_list}
use Rattle.aiger_text.specs.declared.row.Row.{Row}
use Rattle.aiger_text.specs.Rows.{first_latch, first_output, first_and, row_count}
use Rattle.aiger_text.specs.Content.{Content}
use Rattle.aiger_rules.specs.Ports.{left_out}
use Rattle.aiger_design.specs.declared.numbering.Numbering.{Numbering}

-- that of a content: its counts, how many clocks there are, and the row of the input that is the clock
abbrev pub numbering_of : Content → Option (List ℕ) → Numbering
numbering_of w clock = record { counts = w.counts; clocks = length (option_to_list clock); left_out = left_out w clock }

-- how many inputs there are without the clock's
abbrev pub input_count : Numbering → ℕ
input_count n = n.left_out + (n.counts.inputs - (n.left_out + 1))

-- the first signal of a latch, of an AND and of an output, and how many signals there are
abbrev pub first_register : Numbering → ℕ
first_register n = n.clocks + input_count n

abbrev pub first_net : Numbering → ℕ
first_net n = first_register n + n.counts.latches

abbrev pub first_result : Numbering → ℕ
first_result n = first_net n + n.counts.ands

abbrev pub signal_count : Numbering → ℕ
signal_count n = first_result n + n.counts.outputs

-- the signal of an input's row: those behind the clock's input are moved down by one
abbrev pub input_signal : Numbering → ℕ → ℕ
input_signal n row = if row == n.left_out then 0 else if nat_lt row n.left_out then n.clocks + row else n.clocks + row - 1

-- the signal of a latch's row, of an AND's, and of an output's
abbrev pub latch_signal : Numbering → ℕ → ℕ
latch_signal n row = first_register n + (row - first_latch n.counts)

abbrev pub and_signal : Numbering → ℕ → ℕ
and_signal n row = first_net n + (row - first_and n.counts)

abbrev pub output_signal : Numbering → ℕ → ℕ
output_signal n row = first_result n + (row - first_output n.counts)

-- the signal of a row that defines a variable
abbrev pub row_signal : Numbering → ℕ → ℕ
row_signal n row =
    if nat_lt row (first_latch n.counts) then input_signal n row
    else if nat_lt row (first_output n.counts) then latch_signal n row
    else and_signal n row

-- the place of an AND's row, and of a latch's
abbrev pub and_number : Numbering → ℕ → ℕ
and_number n row = row - first_and n.counts

abbrev pub latch_number : Numbering → ℕ → ℕ
latch_number n row = n.counts.ands + (row - first_latch n.counts)

-- whether there are more than 65536 places, or more than 1048576 signals, or more than 1048576 drivers and clocked blocks
abbrev pub is_too_large : Numbering → Bool
is_too_large n =
    nat_lt 65536 (n.counts.ands + n.counts.latches) || nat_lt 1048576 (signal_count n)
    || nat_lt 1048576 (n.counts.ands + n.counts.outputs + n.counts.latches)

-- one clock at most, the clock's input is one where a clock is named, and there are not too many signals
pub record IsSmall (n : Numbering) : Type 0 where
  pub clocks : n.clocks ≤ 1
  pub out : n.left_out ≤ n.counts.inputs
  pub named : n.left_out < n.counts.inputs → n.clocks ≡ 1
  pub few : signal_count n ≤ 1048576

-- and rows are as many as are counted
pub record IsNumbered (rows : List Row) (n : Numbering) : Type 0 where
  pub long : length rows ≡ row_count n.counts
  pub small : IsSmall n
