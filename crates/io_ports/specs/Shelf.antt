-- What the answers of a shelf say: of its faults, of the text that is loaded, and of the text that is written.
-- A text under a name is `None` where there is none.
use Rattle.std.specs.Prelude.{◌≡◌, ℕ, ◌<◌, ◌≤◌, ◌⊎◌, List, [], ◌++◌, length, take, Option, Some, unwrap_or, IsSomeAnd, Result, Ok, Err}
use Rattle.io_ports.specs.Faults.{FaultCounts, LoadRoseOf, WriteRose}
use Rattle.io_ports.specs.declared.errors.LoadErr.{LoadErr}
use Rattle.io_ports.specs.declared.errors.LoadErr.TheVariants as load
use Rattle.io_ports.specs.declared.errors.PutErr.{PutErr}
use Rattle.io_ports.specs.declared.errors.PutErr.TheVariants as put

-- a load failed, and a write failed: whatever the kind of the fault
abbrev pub IsFailedLoad : {X : Type 0} → Result X LoadErr → Type 0
IsFailedLoad (Ok _) = ⊥
IsFailedLoad (Err load.TooBig) = ⊥
IsFailedLoad (Err (load.Failed _)) = Unit {0}
IsFailedLoad (Err load.NoMemory) = ⊥

abbrev pub IsFailedWrite : {X : Type 0} → Result X PutErr → Type 0
IsFailedWrite (Ok _) = ⊥
IsFailedWrite (Err (put.Failed _)) = Unit {0}
IsFailedWrite (Err put.NoMemory) = ⊥

-- the cause of an answer of `load` of the text under a name: only a failure raises the count of all faults, by one, and the name is
-- that of the last then; none raises that of writes
abbrev pub LoadCause : List ℕ → FaultCounts → FaultCounts → Result (List ℕ) LoadErr → Type 0
LoadCause name old new (Ok _) = new ≡ old
LoadCause name old new (Err load.TooBig) = new ≡ old
LoadCause name old new (Err (load.Failed _)) = LoadRoseOf name old new
LoadCause name old new (Err load.NoMemory) = new ≡ old

-- the answer of `load` of a text with a limit: the text where it is within the limit, and too big only where it isn't
abbrev pub Loads : Option (List ℕ) → ℕ → Result (List ℕ) LoadErr → Type 0
Loads text limit (Ok bytes) = (text ≡ Some bytes) × (length bytes ≤ limit)
Loads text limit (Err load.TooBig) = IsSomeAnd text (λ bytes. limit < length bytes)
Loads text limit (Err (load.Failed _)) = Unit {0}
Loads text limit (Err load.NoMemory) = Unit {0}

-- the cause of an answer of `can_begin`, `begin` and `put`: only a failure raises a count of faults, and it raises both; the name stays
abbrev pub PutCause : {X : Type 0} → FaultCounts → FaultCounts → Result X PutErr → Type 0
PutCause old new (Ok _) = new ≡ old
PutCause old new (Err (put.Failed _)) = WriteRose old new
PutCause old new (Err put.NoMemory) = new ≡ old

-- the written text after `begin`: empty; after a failure as before or empty
abbrev pub Begins : {X : Type 0} → Option (List ℕ) → Option (List ℕ) → Result X PutErr → Type 0
Begins old new (Ok _) = new ≡ Some []
Begins old new (Err (put.Failed _)) = (new ≡ old) ⊎ (new ≡ Some [])
Begins old new (Err put.NoMemory) = new ≡ old

-- a front of a piece was appended to a text
pub record AppendsFront (piece old new : List ℕ) : Type 0 where
  pub count : ℕ
  pub is : new ≡ old ++ take count piece

-- the written text after `put` of a piece: longer by the piece; after a failure by a front of it
abbrev pub Appends : {X : Type 0} → List ℕ → Option (List ℕ) → Option (List ℕ) → Result X PutErr → Type 0
Appends piece old new (Ok _) = new ≡ Some (unwrap_or old [] ++ piece)
Appends piece old new (Err (put.Failed _)) = IsSomeAnd new (AppendsFront piece (unwrap_or old []))
Appends piece old new (Err put.NoMemory) = new ≡ old
