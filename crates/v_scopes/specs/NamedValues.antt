-- What is met of values by name, as contracts see it.
use Rattle.std.specs.Prelude.{map}
use Rattle.v_hierarchy.specs.Parameters as parameters
use Rattle.v_hierarchy.specs.Views.{given_of}
use Rattle.v_scopes.specs.declared.given.Naming.{Naming}
use Rattle.v_scopes.specs.Listed.{listed}

abbrev pub naming_of : Naming → parameters.Naming
naming_of met = record { seen = listed met.seen; done = map given_of met.done }
