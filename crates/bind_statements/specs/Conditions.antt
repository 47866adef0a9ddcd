-- The condition of a block with two arms, over lists, for what is private to this crate.
use Rattle.std.specs.Prelude.{Bool, true, false, List, [], ◌∷◌, Option, Some, None}
use Rattle.v_syntax.specs.Tree.{Tree, Selections, no_select, select}
use Rattle.v_hierarchy.specs.Unrolled.{Steps, branch}

abbrev pub condition_here : Steps → Option Tree
condition_here (branch condition _ _) = Some condition
condition_here _ = None

-- of the one statement of a list
abbrev pub condition_listed : List Steps → Option Tree
condition_listed (s ∷ []) = condition_here s
condition_listed _ = None

-- whether there are no selects
abbrev pub has_none : Selections → Bool
has_none no_select = true
has_none (select _ _) = false
