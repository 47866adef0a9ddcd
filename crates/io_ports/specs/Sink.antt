-- What the answers of a sink say: of its count of faults, and of the text that is written.
use Rattle.std.specs.Prelude.{◌≡◌, ℕ, List, ◌++◌, Result, Ok, Err}
use Rattle.io_ports.specs.Faults.{Rose}
use Rattle.io_ports.specs.Shelf.{AppendsFront}
use Rattle.io_ports.specs.declared.errors.SinkFault.{SinkFault}
use Rattle.io_ports.specs.declared.errors.SinkFault.TheVariants.{Failed, NoMemory}

-- a put failed: whatever the kind of the fault
abbrev pub IsFailedPut : {X : Type 0} → Result X SinkFault → Type 0
IsFailedPut (Ok _) = ⊥
IsFailedPut (Err (Failed _)) = Unit {0}
IsFailedPut (Err NoMemory) = ⊥

-- the cause of an answer of `put`: only a failure raises the count of faults, and it does
abbrev pub SinkCause : {X : Type 0} → ℕ → ℕ → Result X SinkFault → Type 0
SinkCause old new (Ok _) = new ≡ old
SinkCause old new (Err (Failed _)) = Rose old new
SinkCause old new (Err NoMemory) = new ≡ old

-- the written text after `put` of a piece: longer by the piece; after a failure by a front of it
abbrev pub SinkAppends : {X : Type 0} → List ℕ → List ℕ → List ℕ → Result X SinkFault → Type 0
SinkAppends piece old new (Ok _) = new ≡ old ++ piece
SinkAppends piece old new (Err (Failed _)) = AppendsFront piece old new
SinkAppends piece old new (Err NoMemory) = new ≡ old
