-- What a scope and the places of ports in it show.
use Rattle.std.specs.Prelude.{ℕ, ◌≡◌, map}
use Rattle.vcd_reading.specs.declared.place as code
use Rattle.vcd_reading.specs.Header.{Header}
use Rattle.vcd_reading.specs.HeaderView.{variable_of}
use Rattle.vcd_reading.specs.Scopes.{Place}
use Rattle.vcd_reading.specs.Found.{IsIndex}

abbrev pub place_of : code.Place.Place → Place
place_of place = record { variable = variable_of place.variable; part = place.part }

-- a scope, with the variables of a header
pub record IsScope (h : Header) (scope : code.Scope.Scope) : Type 0 where
  pub variables : h.variables ≡ map variable_of scope.variables.now
  pub index : IsIndex h.variables scope.names.now
