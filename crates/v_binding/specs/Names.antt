-- What the names of scopes stand for once signals have numbers (IEEE 1364-2005, 12.7): a name is looked up in its scope, then in
-- the scopes around it.
use Rattle.std.specs.Prelude.{ℕ, if◌then◌else◌, List, [], ◌∷◌, Option, Some, None}
use Rattle.std.specs.Option.{option_and_then}
use Rattle.v_syntax.specs.declared.declaration.Identifier.{Identifier}
use Rattle.v_sizes.specs.declared.meaning.Const.{Const}
use Rattle.v_sizes.specs.Look.{Look}
use Rattle.v_hierarchy.specs.Names.{same_name}
use Rattle.v_binding.specs.declared.known.Use.{Use}
use Rattle.v_binding.specs.declared.known.Use.TheVariants.{AtTurn as at_turn}
use Rattle.v_binding.specs.Uses.{meaning_of}

pub record Known : Type 0 where
  pub name : List ℕ
  pub use_of : Use

-- the names that are seen from a place, the innermost first
abbrev pub Names : Type 0
Names = List Known

abbrev pub find : Names → List ℕ → Option Use
find [] name = None
find (k ∷ ks) name = if same_name k.name name then Some k.use_of else find ks name

abbrev pub look_in : Names → Look
look_in names name = option_and_then meaning_of (find names name)

-- a name that stands for something
abbrev pub known : List ℕ → Use → Known
known name u = record { name = name; use_of = u }

-- the names of a scope, which hide those around it
abbrev pub within : List Known → Names → Names
within [] names = names
within (k ∷ ks) names = within ks (k ∷ names)

-- the names at a turn of a loop: its variable hides what has its name
abbrev pub turned : Identifier → Const → Names → Names
turned variable value names = known variable.name (at_turn value) ∷ names
