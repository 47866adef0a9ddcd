-- What a run leaves that ends by the line of a refusal, or for want of memory, and writes nothing: where the sink failed in that line,
-- and where memory was wanted.
use Rattle.std.specs.Prelude.{ℕ, ◌≡◌, ◌⊎◌, ◌++◌, List}
use Rattle.io_ports.specs.Faults.{Rose}
use Rattle.io_ports.specs.Shelf.{AppendsFront}
use Rattle.refusal.specs.Lines.{memory_line}
use Rattle.command_contract.specs.Contract.{NamesFault, Run}

-- 6: the sink failed in a line that was due with its status, with 5 by the load that failed, or in that of want of memory: a front of
-- it is printed, and nothing is written
pub record LineStops (IsDue : ℕ → List ℕ → Type 0) (run : Run) : Type 0 where
  pub line : List ℕ
  pub is_due : ((status : ℕ) × IsDue status line × NamesFault run.counts.shelf run.counts.now_shelf status line) ⊎ (line ≡ memory_line)
  pub printed : AppendsFront line run.printed run.now_printed
  pub sink_failed : Rose run.counts.sink run.counts.now_sink
  pub nothing_written : run.now_written ≡ run.written

-- 7: memory is wanted: nothing is printed, or `memory`, and nothing is written
pub record LineCut (run : Run) : Type 0 where
  pub printed : (run.now_printed ≡ run.printed) ⊎ (run.now_printed ≡ run.printed ++ memory_line)
  pub nothing_written : run.now_written ≡ run.written
