-- Writes in order: texts under names are begun and grow by pieces, and pieces are printed. What stands once writes are carried
-- out, and what stands where one of them fails.
use Rattle.std.specs.Prelude.{ℕ, ◌≡◌, ◌<◌, ◌⊎◌, if◌then◌else◌, List, [], ◌∷◌, ◌++◌, length, take, slice_get, Option, Some, unwrap_or}
use Rattle.std.specs.Prelude.{Result, Ok, Err}
use Rattle.std.specs.List.{flat_map}
use Rattle.std.specs.Str.{bytes_eq}
use Rattle.io_ports.specs.Faults.{FaultCounts, Rose, WriteRose}
use Rattle.write_order.specs.declared.write.WriteErr.{WriteErr}
use Rattle.write_order.specs.declared.write.WriteErr.TheVariants.{Failed, NoMemory}

-- a text under a name is made empty, or a piece is put behind it, or a piece is printed
pub data Write : Type 0 where
  begin_text : (name : List ℕ) → Write
  put_piece : (name : List ℕ) → (piece : List ℕ) → Write
  print_piece : (piece : List ℕ) → Write

-- what stands before and after: the texts under their names, where there are any, and the text that is printed
pub record Outputs : Type 0 where
  pub written : List ℕ → Option (List ℕ)
  pub now_written : List ℕ → Option (List ℕ)
  pub printed : List ℕ
  pub now_printed : List ℕ

-- the same, where nothing is printed, and where no text is written
abbrev pub on_shelf : (List ℕ → Option (List ℕ)) → (List ℕ → Option (List ℕ)) → List ℕ → Outputs
on_shelf old new printed = record { written = old; now_written = new; printed = printed; now_printed = printed }

abbrev pub on_sink : (List ℕ → Option (List ℕ)) → List ℕ → List ℕ → Outputs
on_sink written old new = record { written = written; now_written = written; printed = old; now_printed = new }

-- ---- what is carried out
-- the text under a name after a write
abbrev pub text_after : List ℕ → Write → Option (List ℕ) → Option (List ℕ)
text_after name (begin_text other) text = if bytes_eq name other then Some [] else text
text_after name (put_piece other piece) text = if bytes_eq name other then Some (unwrap_or text [] ++ piece) else text
text_after name (print_piece piece) text = text

-- and after writes, one after another
abbrev pub text_behind : List ℕ → List Write → Option (List ℕ) → Option (List ℕ)
text_behind name [] text = text
text_behind name (write ∷ writes) text = text_behind name writes (text_after name write text)

-- what a write prints
abbrev pub printed_by : Write → List ℕ
printed_by (begin_text name) = []
printed_by (put_piece name piece) = []
printed_by (print_piece piece) = piece

-- writes were carried out, in order, and no others
pub record AreDone (writes : List Write) (o : Outputs) : Type 0 where
  pub texts : (name : List ℕ) → o.now_written name ≡ text_behind name writes (o.written name)
  pub printed : o.now_printed ≡ o.printed ++ flat_map printed_by writes

-- ---- what fails
-- what was done of a write that failed: a text was begun or not; a front of a piece, the empty one too, was put or printed
abbrev pub IsPartOf : Write → List Write → Type 0
IsPartOf (begin_text name) part = (part ≡ []) ⊎ (part ≡ begin_text name ∷ [])
IsPartOf (put_piece name piece) part = (count : ℕ) × (part ≡ put_piece name (take count piece) ∷ [])
IsPartOf (print_piece piece) part = (count : ℕ) × (part ≡ print_piece (take count piece) ∷ [])

-- one of the writes failed: those before it were carried out, and it in part; nothing was written behind it
pub record StopsIn (writes : List Write) (o : Outputs) : Type 0 where
  pub count : ℕ
  pub failed : Write
  pub at : slice_get writes count ≡ Some failed
  pub part : List Write
  pub is_part : IsPartOf failed part
  pub done : AreDone (take count writes ++ part) o

-- some of the writes were carried out, from the first one on, but not all
pub record AreBegun (writes : List Write) (o : Outputs) : Type 0 where
  pub count : ℕ
  pub within : count < length writes
  pub done : AreDone (take count writes) o

-- what stands where writes were to be carried out: all of them, or a part where one failed, or some, but not all, where memory was
-- refused
abbrev pub Leaves : {X : Type 0} → List Write → Outputs → Result X WriteErr → Type 0
Leaves writes o (Ok _) = AreDone writes o
Leaves writes o (Err Failed) = StopsIn writes o
Leaves writes o (Err NoMemory) = AreBegun writes o

-- the cause of an answer of a shelf: its counts of faults rose where a write failed, and no other answer lets one rise
abbrev pub WriteCause : {X : Type 0} → FaultCounts → FaultCounts → Result X WriteErr → Type 0
WriteCause old new (Ok _) = new ≡ old
WriteCause old new (Err Failed) = WriteRose old new
WriteCause old new (Err NoMemory) = new ≡ old

-- and of a sink
abbrev pub PrintCause : {X : Type 0} → ℕ → ℕ → Result X WriteErr → Type 0
PrintCause old new (Ok _) = new ≡ old
PrintCause old new (Err Failed) = Rose old new
PrintCause old new (Err NoMemory) = new ≡ old
