-- The names of the ports of an instance.
use Rattle.std.specs.Prelude.{ℕ, List, map}
use Rattle.v_hierarchy.specs.declared.instance.Port.{Port}
use Rattle.v_hierarchy.specs.Views.{port_of}

abbrev pub port_names : List Port → List (List ℕ)
port_names ports = map (λ p. p.name.name) (map port_of ports)
