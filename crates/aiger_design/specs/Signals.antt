-- The signals: an input of the top for each input, a register that begins at 0 for each latch, a net for each AND and each output.
use Rattle.std.specs.Prelude.{ℕ, pos, decimal, Bool, false, if◌then◌else◌, List, ◌∷◌, ◌++◌, map, slice_index_or, []}
use Rattle.std.proofs.Common.{lit≤, lit<}
use Rattle.std.specs.List.{range_with_len}
use Rattle.loc_base.specs.declared.bits.Bits.{Bits}
use Rattle.design_core.specs.declared.signal.Signal.{Signal}
use Rattle.design_core.specs.declared.signal.SignalKind.{SignalKind}
use Rattle.design_core.specs.declared.signal.SignalKind.TheVariants.{Input, Net, Reg}
use Rattle.aiger_text.specs.declared.row.Row.{Row}
use Rattle.aiger_text.specs.declared.row.Counts.{Counts}
use Rattle.aiger_text.specs.Rows.{first_latch, first_output, first_and, row_count}
use Rattle.aiger_rules.specs.Ports.{literal_at}
use Rattle.aiger_design.specs.declared.numbering.Numbering.{Numbering}
use Rattle.aiger_design.specs.declared.signals.RowSignals.{RowSignals}
use Rattle.aiger_design.specs.Numbering.{first_register}

-- the word of one bit that is 0
abbrev pub zero_word : Bits
zero_word = record { width = 1; value = 0; at_least_one = lit≤ tt; at_most_128 = lit≤ tt; in_range = lit< tt }

-- and the one that is 1
abbrev pub one_word : Bits
one_word = record { width = 1; value = 1; at_least_one = lit≤ tt; at_most_128 = lit≤ tt; in_range = lit< tt }

-- that of a bit
abbrev pub bit_word : Bool → Bits
bit_word bit = if bit then one_word else zero_word

-- a signal of one bit that begins at 0
abbrev pub signal : SignalKind → List ℕ → Signal
signal kind path = record { path = path; width = 1; signed = false; left = pos 0; right = pos 0; kind = kind; start = zero_word }

-- the path of a row: a letter, `l` of a latch or `a` of an AND, and its literal
abbrev pub row_path : List Row → ℕ → ℕ → List ℕ
row_path rows letter row = letter ∷ decimal (literal_at rows row)

-- the signal of a port, by the place of its name
abbrev pub port_signal : List (List ℕ) → SignalKind → ℕ → Signal
port_signal names kind place = signal kind (slice_index_or names place [])

-- the signal of a latch's or an AND's row
abbrev pub row_signal_of : List Row → SignalKind → ℕ → ℕ → Signal
row_signal_of rows kind letter row = signal kind (row_path rows letter row)

-- the names of ports in front of the first latch are inputs, those behind them outputs
abbrev pub signals_of : List Row → Numbering → List (List ℕ) → List Signal
signals_of rows n names =
    map (port_signal names Input) (range_with_len 0 (first_register n))
    ++ map (row_signal_of rows Reg 108) (range_with_len (first_latch n.counts) n.counts.latches)
    ++ map (row_signal_of rows Net 97) (range_with_len (first_and n.counts) n.counts.ands)
    ++ map (port_signal names Net) (range_with_len (first_register n) n.counts.outputs)

-- private: the rows of latches and of ANDs, as the code walks over them
abbrev pub latch_signals : Counts → RowSignals
latch_signals c = record { kind = Reg; letter = 108; from = first_latch c; to = first_output c }

abbrev pub and_signals : Counts → RowSignals
and_signals c = record { kind = Net; letter = 97; from = first_and c; to = row_count c }
