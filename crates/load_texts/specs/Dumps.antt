-- What is printed where a dump holds no trace, and the status of the program. Offsets are of bytes; traces are counted from 1, cycles
-- from 0; a port is given by its name.
use Rattle.std.specs.Prelude.{ℕ, List, [], ◌++◌, slice_get, codes, decimal}
use Rattle.std.specs.Option.{option_map_or}
use Rattle.printed_text.specs.Numerals.{newline}
use Rattle.refusal.specs.Lines.{limit_line, memory_line}
use Rattle.design_core.specs.declared.signal.Signal.{Signal}
use Rattle.vcd_reading.specs.declared.error.VcdErr.{VcdErr}
use Rattle.vcd_reading.specs.declared.error.VcdErr.TheVariants as vcd

-- the name of a port, by the number of its signal
abbrev pub port_name : List Signal → ℕ → List ℕ
port_name signals port = option_map_or (λ (signal : Signal). signal.path) (slice_get signals port) []

-- `input CODE TRACE`, and what stands behind it
abbrev pub trace_line : List ℕ → ℕ → List ℕ → List ℕ
trace_line code trace more = codes "input " ++ code ++ codes " " ++ decimal trace ++ more ++ newline

-- the text of a dump that holds no trace of a design with these signals
abbrev pub dump_line : List Signal → ℕ → VcdErr → List ℕ
dump_line signals trace (vcd.Syntax offset) = trace_line (codes "T1") trace (codes " " ++ decimal offset)
dump_line signals trace vcd.MissingPort = trace_line (codes "T2") trace []
dump_line signals trace (vcd.PortWidth port) = trace_line (codes "T3") trace (codes " " ++ port_name signals port)
dump_line signals trace vcd.NoCycle = trace_line (codes "T4") trace []
dump_line signals trace (vcd.UnknownInput cycle port) =
    trace_line (codes "T5") trace (codes " " ++ decimal cycle ++ codes " " ++ port_name signals port)
dump_line signals trace vcd.Cycles = limit_line (codes "Z3")
dump_line signals trace vcd.NoMemory = memory_line

-- 3, at a limit 4, at want of memory 7
abbrev pub dump_status : VcdErr → ℕ
dump_status vcd.Cycles = 4
dump_status vcd.NoMemory = 7
dump_status _ = 3
