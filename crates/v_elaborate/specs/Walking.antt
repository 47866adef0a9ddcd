-- The parts of the walk, as private contracts cite them.
use Rattle.std.specs.Prelude.{⊤, List, [], None, Result, Ok, map}
use Rattle.v_syntax.specs.ModuleTree.{PlainModule}
use Rattle.v_hierarchy.specs.declared.error.ElabErr.{ElabErr}
use Rattle.v_hierarchy.specs.Headers.{header_ports}
use Rattle.v_hierarchy.specs.Instances.{Instance, Found, unit_name, most_left, walked}
use Rattle.v_hierarchy.specs.Items.{Child}
use Rattle.v_hierarchy.specs.Names.{Entry}
use Rattle.v_hierarchy.specs.Parameters.{header_parameters}
use Rattle.v_hierarchy.specs.Steps.{◌>>=◌, each}
use Rattle.v_hierarchy.specs.Views.{instance_of}
use Rattle.v_elaborate.specs.declared.walk.Walk.{Walk}

-- the names of an instance's header
abbrev pub opened : Child → Result (List Entry) ElabErr
opened c = header_parameters c.values c.«module».parameters >>= header_ports c.«module»

-- the walk as contracts see it
abbrev pub found_of : Walk → Found
found_of w = record { list = map instance_of w.list; left = w.left }

-- no two modules have one name
abbrev pub names_differ : List PlainModule → Result ⊤ ElabErr
names_differ units = each unit_name units [] >>= λ _. Ok tt

-- the walk from the top
abbrev pub listed_from : List PlainModule → Child → Result (List Instance) ElabErr
listed_from units c = walked units 64 None c (record { list = []; left = most_left }) >>= λ found. Ok found.list
