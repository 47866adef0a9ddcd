-- A module's header, as contracts see it.
use Rattle.std.specs.Prelude.{List}
use Rattle.v_syntax.specs.ModuleTree.{PlainPorts, ports_of}
use Rattle.v_hierarchy.specs.Parameters.{Given}
use Rattle.v_scopes.specs.Valued.{values_of}
use Rattle.v_connections.specs.declared.place.Header.{Header}

abbrev pub header_of : Header → PlainPorts × List Given
header_of h = (ports_of h.ports.now, values_of h.values)
