-- A scope as contracts see it: what each name stands for, and which names have an entry.
use Rattle.std.specs.Prelude.{ℕ, Bool, List}
use Rattle.v_sizes.specs.declared.scope.Scope.{Scope}
use Rattle.v_sizes.specs.Look.{Look}
use Rattle.v_sizes.specs.Table.{meaning_in, is_in}

abbrev pub look_of : Scope → Look
look_of scope = meaning_in scope.table

-- whether a name has a place in the scope, so that what it stands for can be changed without memory
abbrev pub has_entry : Scope → List ℕ → Bool
has_entry scope = is_in scope.table
