-- What contracts see of the parts of assignments, gates and instances that a reader found.
use Rattle.std.specs.Prelude.{ℕ, Option, option_map}
use Rattle.v_syntax.specs.declared.item.NetAssignment.{NetAssignment}
use Rattle.v_syntax.specs.declared.item.GateInstance.{GateInstance}
use Rattle.v_syntax.specs.declared.item.NamedConnection.{NamedConnection}
use Rattle.v_syntax.specs.declared.item.Connections.{Connections}
use Rattle.v_syntax.specs.declared.item.Instance.{Instance}
use Rattle.v_syntax.specs.ItemTree.{PlainAssignment, assignment_of, PlainGate, gate_of, PlainConnection, connection_of, PlainConnections, connections_of, PlainInstance, instance_of}

abbrev pub seen_assignment : NetAssignment × ℕ → PlainAssignment × ℕ
seen_assignment x = (assignment_of x.0, x.1)

abbrev pub seen_gate : GateInstance × ℕ → PlainGate × ℕ
seen_gate x = (gate_of x.0, x.1)

abbrev pub seen_connection : NamedConnection × ℕ → PlainConnection × ℕ
seen_connection x = (connection_of x.0, x.1)

abbrev pub seen_connections : Connections × ℕ → PlainConnections × ℕ
seen_connections x = (connections_of x.0, x.1)

abbrev pub seen_connections_if : Option Connections × ℕ → Option PlainConnections × ℕ
seen_connections_if x = (option_map connections_of x.0, x.1)

abbrev pub seen_instance : Instance × ℕ → PlainInstance × ℕ
seen_instance x = (instance_of x.0, x.1)
