use Rattle.std.proofs.Common.{◌+◌, ◌-◌, length}
use Rattle.std.specs.Io.KnownBytes.{Consumes}
use Rattle.io_ports.proofs.transfer.read_through.Given as goal

abbrev pub invariant-loop-reader : goal.invariant-loop-reader
invariant-loop-reader g l = Consumes (g.R.Read.remaining l.fn.reader) (g.R.Read.remaining l.reader) l.text

abbrev pub decreases-loop-reader : goal.decreases-loop-reader
decreases-loop-reader g l = l.fn.limit + 1 - length l.text
