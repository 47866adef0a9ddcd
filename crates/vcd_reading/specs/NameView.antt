-- What a table of variables by scope and name shows.
use Rattle.std.specs.Prelude.{ℕ, ◌==◌, ◌&&◌, Bool, if◌then◌else◌, List, Option, Some, None}
use Rattle.std.specs.HashMap as hash
use Rattle.std.specs.Option.{option_or}
use Rattle.vcd_reading.specs.declared.names.Key.{Key}
use Rattle.vcd_reading.specs.declared.names.Names.{Names}
use Rattle.vcd_reading.specs.Commands.{same_bytes}

-- whether a key is that of a scope and a name
abbrev pub is_key : ℕ → List ℕ → Key → Bool
is_key scope name key = scope == key.scope && same_bytes name key.name.now

-- the number of the variable of a name in a scope, where there is one
abbrev pub number_at : Names → ℕ → List ℕ → Option ℕ
number_at names scope name = hash.get_by (is_key scope name) names.numbers

-- the numbers of variables, with that of one more, where there was none
abbrev pub with_first : ℕ → List ℕ → ℕ → (ℕ → List ℕ → Option ℕ) → ℕ → List ℕ → Option ℕ
with_first scope name number numbers s n =
    option_or (numbers s n) (if scope == s && same_bytes name n then Some number else None)
