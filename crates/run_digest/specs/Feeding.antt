-- What a hasher took; for private clauses.
use Rattle.std.specs.Prelude.{ℕ, List, ◌++◌}
use Rattle.sha2.specs.Hashers.{Holds256}
use Rattle.sha2.specs.declared.Sha256.{Sha256}

-- the hasher holds its message and then the text
abbrev pub Took : Sha256 → Sha256 → List ℕ → Type 0
Took old new text = (message : List ℕ) → Holds256 old message → Holds256 new (message ++ text)
