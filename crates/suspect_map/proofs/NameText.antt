-- The bytes of a name are a text.
use Rattle.std.proofs.Common.{ℕ, ◌<◌, List, arith}
use Rattle.std.specs.Prelude.{IsAscii}
use Rattle.std.proofs.lemmas.Str.{IsUtf8-from_ascii}
use Rattle.std.proofs.lemmas.Str.Ascii.{IsAscii-from_all}
use Rattle.loc_base.specs.Name.{IsName}

-- they are ASCII
pub IsAscii-name : (name : List ℕ) → IsName name → IsAscii name
IsAscii-name name h = IsAscii-from_all name (λ k d lt. omega (arith, (h.1 k d lt).1))

pub ruleset name_text = (IsAscii-name, IsUtf8-from_ascii)
