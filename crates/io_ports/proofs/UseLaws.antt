-- The uses of files that a shelf of the system's files keeps.
use Rattle.std.proofs.Common.{◌≡◌, ℕ, List, [], ◌∷◌, ◌++◌, Result, Ok, Err, IsOk, is_ok, if◌then◌else◌, string_bytes, ap, ◌∙◌, refl}
use Rattle.io_ports.specs.FileShelf.{Keeps}
use Rattle.io_ports.specs.declared.file_use.FileUse.{FileUse}

-- a use was pushed to those that stood there
pub keeps_one : {T E : Type 0} (name : List ℕ) (entry : FileUse) (old mid new : List FileUse) (pushed : Result T E) →
    mid ≡ old → new ≡ (if is_ok pushed then mid ++ entry ∷ [] else mid) → IsOk pushed → string_bytes entry.name ≡ name →
    Keeps name entry.was_loaded old new
keeps_one name entry old mid new (Ok value) same is ok named = record {
  entry = entry;
  kept = is ∙ ap (λ uses. uses ++ entry ∷ []) same;
  named = named;
  loaded = refl;
}
keeps_one name entry old mid new (Err error) same is ok named = cc
