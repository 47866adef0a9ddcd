-- The scopes around a place as contracts see them: the names of each, the innermost scope first.
use Rattle.std.specs.Prelude.{List, ◌∷◌}
use Rattle.v_hierarchy.specs.Frames.{names_of}
use Rattle.v_hierarchy.specs.Names.{Entry}
use Rattle.v_scopes.specs.declared.scope_stack.Scopes.{Scopes}
use Rattle.v_scopes.specs.Outer.{around}

-- the names of the innermost scope
abbrev pub names_in : Scopes → List Entry
names_in scopes = names_of scopes.inner

-- the scopes around the innermost
abbrev pub outer_of : Scopes → List (List Entry)
outer_of scopes = around scopes.outer.items

abbrev pub frames_of : Scopes → List (List Entry)
frames_of scopes = names_in scopes ∷ outer_of scopes
