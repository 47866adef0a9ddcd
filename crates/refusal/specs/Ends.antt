-- What the last line of a run says, why it comes, and what its print leaves.
use Rattle.std.specs.Prelude.{ℕ, ◌≡◌, ◌≢◌, ◌⊎◌, List, ◌++◌, Result, Ok, Err}
use Rattle.io_ports.specs.Faults.{FaultCounts, Rose}
use Rattle.io_ports.specs.Shelf.{AppendsFront}
use Rattle.command_contract.specs.Contract.{IsInputRefusal, NamesFault}
use Rattle.refusal.specs.declared.last_line.LastLine.{LastLine}
use Rattle.refusal.specs.declared.last_line.LastLine.TheVariants.{Line, Memory}
use Rattle.refusal.specs.Lines.{memory_line}

-- ---- what it says
-- the status of a line is one of a refusal of inputs
abbrev pub HasStatus : LastLine → Type 0
HasStatus (Line status line) = IsInputRefusal status
HasStatus Memory = Unit {0}

-- it says a line, with a status; at want of memory it says nothing of them
abbrev pub Says : LastLine → ℕ → List ℕ → Type 0
Says (Line status line) s text = (status ≡ s) × (line.items ≡ text)
Says Memory s text = Unit {0}

-- it says no line: memory was wanted
abbrev pub IsMemory : LastLine → Type 0
IsMemory (Line status line) = ⊥
IsMemory Memory = Unit {0}

-- ---- why it comes
-- for the cause that its line says
abbrev pub HasCause : (ℕ → List ℕ → Type 0) → LastLine → Type 0
HasCause Refuses (Line status line) = Refuses status line.items
HasCause Refuses Memory = Unit {0}

-- it comes although nothing stands against a run: a fault of the shelf, or want of memory
abbrev pub IsSpared : LastLine → Type 0
IsSpared (Line status line) = status ≡ 5
IsSpared Memory = Unit {0}

-- a load of the shelf failed at 5, the last of them that of the text which the line names, and at no other status its faults changed
abbrev pub RefusalCounts : FaultCounts → FaultCounts → LastLine → Type 0
RefusalCounts old new (Line status line) = NamesFault old new status line.items × (status ≢ 5 → new ≡ old)
RefusalCounts old new Memory = Unit {0}

abbrev pub CountsOf : {X : Type 0} → FaultCounts → FaultCounts → Result X LastLine → Type 0
CountsOf old new (Ok _) = new ≡ old
CountsOf old new (Err last) = RefusalCounts old new last

-- ---- its print
abbrev pub line_of : LastLine → List ℕ
line_of (Line status line) = line.items
line_of Memory = memory_line

abbrev pub status_of : LastLine → ℕ
status_of (Line status line) = status
status_of Memory = 7

-- a line is printed, with its status; or a front of it, where the sink failed; or nothing, where memory was wanted
abbrev pub Prints : List ℕ → ℕ → List ℕ → List ℕ → ℕ → Type 0
Prints line whole old new status =
    ((status ≡ whole) × (new ≡ old ++ line))
    ⊎ (((status ≡ 6) × AppendsFront line old new) ⊎ ((status ≡ 7) × (new ≡ old)))

-- the count of the sink's faults then
abbrev pub PrintCounts : ℕ → ℕ → ℕ → ℕ → Type 0
PrintCounts whole old new status =
    ((status ≡ 6) × Rose old new) ⊎ (((status ≡ whole) ⊎ (status ≡ 7)) × (new ≡ old))
