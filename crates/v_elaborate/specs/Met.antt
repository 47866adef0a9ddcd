-- What is met of a scope so far, as contracts see it.
use Rattle.std.specs.Prelude.{List, map}
use Rattle.v_hierarchy.specs.declared.instance.Block.{Block}
use Rattle.v_hierarchy.specs.declared.left.Left.{Left}
use Rattle.v_hierarchy.specs.Items as items
use Rattle.v_hierarchy.specs.Names.{Entry}
use Rattle.v_hierarchy.specs.Views.{entry_of, copied_of, copies_of}
use Rattle.v_scopes.specs.Around.{names_in, outer_of, frames_of}
use Rattle.v_elaborate.specs.declared.met.Met.{Met}

-- what is met of the innermost scope
abbrev pub met_of : Met → items.Met
met_of m = record { names = names_in m.position.scopes; copies = copies_of (map copied_of m.copies); left = m.position.left }

-- the scopes around it
abbrev pub outer_at : Met → List (List Entry)
outer_at m = outer_of m.position.scopes

-- it and the scopes around it
abbrev pub frames_at : Met → List (List Entry)
frames_at m = frames_of m.position.scopes

-- what is met of a scope that ended
abbrev pub inside : Block → Left → items.Met
inside own left = record { names = map entry_of own.names; copies = copies_of (map copied_of own.copies); left = left }
