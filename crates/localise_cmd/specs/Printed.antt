-- What a run leaves that prints one text, where it doesn't come to the text's end. Nothing is written.
use Rattle.std.specs.Prelude.{ℕ, ◌≡◌, ◌⊎◌, ◌++◌, List}
use Rattle.io_ports.specs.Faults.{Rose}
use Rattle.io_ports.specs.Shelf.{AppendsFront}
use Rattle.refusal.specs.Lines.{memory_line}
use Rattle.command_contract.specs.Contract.{NothingWritten, Run}

-- the sink failed in the text, or in the line that says that memory was wanted
pub record TextStopped (text : List ℕ) (run : Run) : Type 0 where
  pub sink_failed : Rose run.counts.sink run.counts.now_sink
  pub printed : AppendsFront text run.printed run.now_printed ⊎ AppendsFront memory_line run.printed run.now_printed
  pub nothing_written : NothingWritten run

-- memory was wanted: nothing is printed, or `memory`
pub record TextCut (run : Run) : Type 0 where
  pub printed : (run.now_printed ≡ run.printed) ⊎ (run.now_printed ≡ run.printed ++ memory_line)
  pub nothing_written : NothingWritten run
