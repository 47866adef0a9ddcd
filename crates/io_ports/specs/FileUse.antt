-- Uses of files in a run, and which of them forbid to begin a text: two names can lead to one file (POSIX.1-2017, 4.13).
use Rattle.std.specs.Prelude.{◌≡◌, ◌≢◌, ◌⊎◌, ℕ, List, Some, IsTrue, string_bytes}
use Rattle.io_ports.specs.declared.file_use.FileId.{FileId}
use Rattle.io_ports.specs.declared.file_use.FileUse.{FileUse}

-- the use is of that file, which was loaded under any name, or begun under another one
abbrev pub Forbids : FileUse → FileId → List ℕ → Type 0
Forbids entry file name = (entry.file ≡ Some file) × (IsTrue entry.was_loaded ⊎ (string_bytes entry.name ≢ name))
