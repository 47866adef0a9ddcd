-- A value by order, for the name at its place, where there is one.
use Rattle.std.specs.Prelude.{ℕ, List, Option, Some, None, Result, Ok}
use Rattle.v_syntax.specs.Tree.{Tree}
use Rattle.v_sizes.specs.Look.{Look}
use Rattle.v_hierarchy.specs.declared.error.ElabErr.{ElabErr}
use Rattle.v_hierarchy.specs.Parameters.{Given, given_value, no_value}
use Rattle.v_hierarchy.specs.Steps.{◌>>=◌}

abbrev pub value_for : Look → Option (List ℕ) → Option Tree → List Given → Result (List Given) ElabErr
value_for look (Some name) value done = given_value look name value done
value_for look None value done = no_value value >>= λ _. Ok done
