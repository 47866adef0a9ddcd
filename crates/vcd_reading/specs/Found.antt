-- The variables of a header found by scope and name.
use Rattle.std.specs.Prelude.{ℕ, ◌≡◌, List}
use Rattle.vcd_reading.specs.declared.names.Names.{Names}
use Rattle.vcd_reading.specs.Header.{Variable}
use Rattle.vcd_reading.specs.Scopes.{is_named, place_of}
use Rattle.vcd_reading.specs.NameView.{number_at}

-- the numbers of variables by scope and name are those of the first ones
abbrev pub IsIndex : List Variable → Names → Type 0
IsIndex variables names = (scope : ℕ) (name : List ℕ) → number_at names scope name ≡ place_of (is_named scope name) variables
