-- Notes of what the right sides of places read, for what is private to this crate.
use Rattle.std.specs.Prelude.{ℕ, ◌≡◌, ◌==◌, Bool, ◌&&◌, ◌||◌, List, nat_le, nat_lt}
use Rattle.std.specs.List.{list_any}
use Rattle.design_core.specs.Drives.{is_among}
use Rattle.place_functions.specs.declared.note.Note.{Note}
use Rattle.place_functions.specs.declared.signal_bit.SignalBit.{SignalBit}

-- whether a note is of a place, and of bits of a signal
abbrev pub note_names : ℕ → ℕ → Note → Bool
note_names p s note = (note.place == p) && is_among note.first note.count s

-- whether a note says that the right side of a place reads a bit, and whether some note does
abbrev pub note_has : ℕ → ℕ → ℕ → Note → Bool
note_has p s b note = note_names p s note && is_among note.from note.width b

abbrev pub notes_have : List Note → ℕ → ℕ → ℕ → Bool
notes_have notes p s b = list_any (note_has p s b) notes

-- a test of bits, for one place
abbrev pub of_place : ℕ → (ℕ → ℕ → Bool) → ℕ → ℕ → ℕ → Bool
of_place place test p s b = (place == p) && test s b

-- notes have what others have, and what passes a test of a place and a bit
pub record AddsNotes (old new : List Note) (test : ℕ → ℕ → ℕ → Bool) : Type 0 where
  pub bits : (p s b : ℕ) → notes_have new p s b ≡ (notes_have old p s b || test p s b)

-- the place of a note
abbrev pub place_of : Note → ℕ
place_of note = note.place

-- whether a note is of a bit, whatever its place, and whether some note is
abbrev pub note_reads : ℕ → ℕ → Note → Bool
note_reads s b note = is_among note.first note.count s && is_among note.from note.width b

abbrev pub some_reads : List Note → ℕ → ℕ → Bool
some_reads notes s b = list_any (note_reads s b) notes

-- whether a number is from one on and below another
abbrev pub between : ℕ → ℕ → ℕ → Bool
between from end n = nat_le from n && nat_lt n end

-- whether it is that bit, and whether a list has it
abbrev pub is_bit : ℕ → ℕ → SignalBit → Bool
is_bit s b bit = (bit.signal == s) && (bit.position == b)

abbrev pub lists : List SignalBit → ℕ → ℕ → Bool
lists bits s b = list_any (is_bit s b) bits

-- a list has what another has, and the bits that pass a test
pub record AddsBits (old new : List SignalBit) (test : ℕ → ℕ → Bool) : Type 0 where
  pub bits : (s b : ℕ) → lists new s b ≡ (lists old s b || test s b)
