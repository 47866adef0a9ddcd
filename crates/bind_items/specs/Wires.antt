-- What ports are connected to, as the code has it; only private contracts cite it.
use Rattle.std.specs.Prelude.{ℕ, suc, if◌then◌else◌, List, [], ◌∷◌, Option, Some, None, option_map}
use Rattle.v_syntax.specs.Tree.{tree_of}
use Rattle.v_syntax.specs.ItemTree.{PlainConnection}
use Rattle.v_hierarchy.specs.Names.{same_name}
use Rattle.v_binding.specs.Connections as plain
use Rattle.bind_items.specs.declared.wires.Wire.{Wire}

abbrev pub wire_in : Wire → plain.Wire
wire_in w = record { site = w.site; value = tree_of w.value.now }

-- where a name stands first in a list of connections
abbrev pub first_named : List ℕ → List PlainConnection → Option ℕ
first_named name [] = None
first_named name (c ∷ cs) = if same_name c.name.name name then Some 0 else option_map suc (first_named name cs)
