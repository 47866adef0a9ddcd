-- A dump that holds no trace ends a run with 3 or 4, or with 7 where memory is wanted; then `memory` is printed.
use Rattle.std.proofs.Common.{ℕ, ◌≡◌, List, refl, arith}
use Rattle.design_core.specs.declared.signal.Signal.{Signal}
use Rattle.refusal.proofs.Statuses.{Known, input, limit, memory}
use Rattle.vcd_reading.specs.declared.error.VcdErr.{VcdErr}
use Rattle.vcd_reading.specs.declared.error.VcdErr.TheVariants as vcd
use Rattle.load_texts.specs.Dumps.{dump_line, dump_status}

pub dump-known : (signals : List Signal) (trace : ℕ) (fault : VcdErr) → Known (dump_line signals trace fault) (dump_status fault)
dump-known signals trace (vcd.Syntax offset) = input
dump-known signals trace vcd.MissingPort = input
dump-known signals trace (vcd.PortWidth port) = input
dump-known signals trace vcd.NoCycle = input
dump-known signals trace (vcd.UnknownInput cycle port) = input
dump-known signals trace vcd.Cycles = limit
dump-known signals trace vcd.NoMemory = memory refl

-- none of these is that of a load that failed
pub known-not_five : (line : List ℕ) (status : ℕ) → Known line status → status ≡ 5 → ⊥
known-not_five line status input e = omega (arith, e)
known-not_five line status limit e = omega (arith, e)
known-not_five line status (memory is) e = omega (arith, e)
