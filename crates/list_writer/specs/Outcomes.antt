-- How a listing ended: its status, what stands then, and which count of faults rose.
use Rattle.std.specs.Prelude.{ℕ}
use Rattle.command_contract.specs.Contract.{Counts, NoneRose, WriteFailed}
use Rattle.write_order.specs.Writes.{Outputs}
use Rattle.list_writer.specs.declared.outcome.Outcome.{Outcome}
use Rattle.list_writer.specs.declared.outcome.Outcome.TheVariants.{Ended, Failed, Memory}
use Rattle.list_writer.specs.Asked.{Asked}
use Rattle.list_writer.specs.Due.{IsCut, IsListedTo, IsStopped}
use Rattle.list_writer.specs.Lines.{ending_status}

-- the status of the program
abbrev pub status_of : Outcome → ℕ
status_of (Ended ending) = ending_status ending
status_of Failed = 6
status_of Memory = 7

-- what stands on the outputs; the ending that is named is the one that is written
abbrev pub Leaves : Asked → Outputs → Outcome → Type 0
Leaves asked o (Ended ending) = IsListedTo asked o ending
Leaves asked o Failed = IsStopped asked o
Leaves asked o Memory = IsCut asked o

-- a count of faults of writes rose where one failed, and no other outcome lets a count rise
abbrev pub OutcomeCause : Counts → Outcome → Type 0
OutcomeCause counts (Ended ending) = NoneRose counts
OutcomeCause counts Failed = WriteFailed counts
OutcomeCause counts Memory = NoneRose counts
