-- The values that an instance gives, as contracts see them.
use Rattle.std.specs.Prelude.{List, map}
use Rattle.v_hierarchy.specs.Parameters.{Given}
use Rattle.v_hierarchy.specs.Views.{given_of}
use Rattle.v_scopes.specs.declared.values.Values.{Values}

abbrev pub values_of : Values → List Given
values_of values = map given_of values.list
