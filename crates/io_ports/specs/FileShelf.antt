-- What a shelf of the system's files keeps of its calls, and what it gives to files and takes from them whose bytes are known.
use Rattle.std.specs.Prelude.{◌≡◌, ℕ, Bool, List, [], ◌∷◌, ◌++◌, Option, IfSome, string_bytes}
use Rattle.std.specs.Io.KnownBytes.{Appends}
use Rattle.io_ports.specs.Transfer.{IsAllOf, IsMoreThan}
use Rattle.io_ports.specs.declared.file_shelf.OpenText.{OpenText}
use Rattle.io_ports.specs.declared.file_use.FileUse.{FileUse}

-- one use was kept, of the file of that name, which was loaded or not
pub record Keeps (name : List ℕ) (was_loaded : Bool) (old new : List FileUse) : Type 0 where
  pub entry : FileUse
  pub kept : new ≡ old ++ entry ∷ []
  pub named : string_bytes entry.name ≡ name
  pub loaded : entry.was_loaded ≡ was_loaded

-- a text is all that a file gave
pub record IsReadOf {F : Type 0} (remaining : F → Option (List ℕ)) (text : List ℕ) : Type 0 where
  pub file : F
  pub whole : IsAllOf (remaining file) text

-- a file has more than a limit
pub record IsLongerFile {F : Type 0} (remaining : F → Option (List ℕ)) (limit : ℕ) : Type 0 where
  pub file : F
  pub more : IsMoreThan limit (remaining file)

-- a text is open under a name, and it is the one that was open, where that had the name
pub record IsOpenUnder {F : Type 0} (name : List ℕ) (old : Option (OpenText F)) (text : OpenText F) : Type 0 where
  pub named : string_bytes text.name ≡ name
  pub same : IfSome old (λ was. string_bytes was.name ≡ name → text ≡ was)

-- the text that is open under a name took a piece: at its end, where it was open
pub record Took {F : Type 0} (contents : F → Option (List ℕ)) (name piece : List ℕ) (old : Option (OpenText F)) (new : OpenText F) : Type 0 where
  pub before : OpenText F
  pub is_open : IsOpenUnder name old before
  pub named : string_bytes new.name ≡ name
  pub taken : Appends (contents before.file) (contents new.file) piece
