-- The ports of the children of an instance, as definitions have them.
use Rattle.std.specs.Prelude.{List, [], map, get_or}
use Rattle.v_binding.specs.Connections as connections
use Rattle.bind_scopes.specs.Views.{socket_of}
use Rattle.v_design.specs.declared.children.Children.{Children}

abbrev pub children_of : Children → List (List connections.Socket)
children_of c = map (λ number. map socket_of (get_or c.ports.now number [])) c.numbers.now
