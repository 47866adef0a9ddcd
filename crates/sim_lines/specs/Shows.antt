-- What is printed of lines that are due, each by one put.
use Rattle.std.specs.Prelude.{ℕ, ◌≡◌, List, ◌++◌, take, Result, Ok, Err}
use Rattle.io_ports.specs.Shelf.{AppendsFront}
use Rattle.io_ports.specs.declared.errors.SinkFault.{SinkFault}
use Rattle.io_ports.specs.declared.errors.SinkFault.TheVariants.{Failed, NoMemory}
use Rattle.sim_lines.specs.Lines.{Line, text_of}

-- so many of the lines, from the first on, were printed
pub record PrintsSome (lines : List Line) (old new : List ℕ) : Type 0 where
  pub count : ℕ
  pub is : new ≡ old ++ text_of (take count lines)

-- all of them, a front of their text where a put failed, some whole lines where memory was wanted
abbrev pub Shows : {X : Type 0} → List Line → List ℕ → List ℕ → Result X SinkFault → Type 0
Shows lines old new (Ok _) = new ≡ old ++ text_of lines
Shows lines old new (Err (Failed _)) = AppendsFront (text_of lines) old new
Shows lines old new (Err NoMemory) = PrintsSome lines old new
