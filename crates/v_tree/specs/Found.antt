-- What contracts see of what a reader found.
use Rattle.std.specs.Prelude.{◌≡◌, ℕ, ◌≤◌, List, length, map}
use Rattle.v_lexer.specs.Lexeme.{Lexeme}
use Rattle.v_syntax.specs.declared.expression.Expr.{Expr}
use Rattle.v_syntax.specs.declared.expression.Select.{Select}
use Rattle.v_tree.specs.declared.found.Found.{Found}
use Rattle.std.specs.declared.vec.Vec.{Vec}
use Rattle.std.specs.declared.alloc.Global.{Global}
use Rattle.v_syntax.specs.Tree.{Tree, tree_of, Trees, trees_of, Selection, selection_of, Selections, selections_of}
use Rattle.v_tree.specs.Depth.{levels, levels_of_parts, levels_of_select, levels_of_selects}

-- what was found, and the place behind it
abbrev pub seen : Found Expr → Tree × ℕ
seen found = (tree_of found.tree, found.end)

abbrev pub seen_parts : Found (Vec Expr Global) → Trees × ℕ
seen_parts found = (trees_of (map tree_of found.tree.items), found.end)

abbrev pub seen_select : Found Select → Selection × ℕ
seen_select found = (selection_of found.tree, found.end)

abbrev pub seen_selects : Found (Vec Select Global) → Selections × ℕ
seen_selects found = (selections_of (map selection_of found.tree.items), found.end)

-- it counts the levels of the tree, they are within those that were left, and the end is within the tokens
pub record IsSized (tokens : List Lexeme) (levels_left true_levels counted end : ℕ) : Type 0 where
  pub counts : counted ≡ true_levels
  pub rises : counted ≤ levels_left
  pub within : end ≤ length tokens

abbrev pub Sized : List Lexeme → ℕ → Found Expr → Type 0
Sized tokens levels_left found = IsSized tokens levels_left (levels (tree_of found.tree)) found.levels found.end

abbrev pub SizedParts : List Lexeme → ℕ → Found (Vec Expr Global) → Type 0
SizedParts tokens levels_left found = IsSized tokens levels_left (levels_of_parts (trees_of (map tree_of found.tree.items))) found.levels found.end

abbrev pub SizedSelect : List Lexeme → ℕ → Found Select → Type 0
SizedSelect tokens levels_left found = IsSized tokens levels_left (levels_of_select (selection_of found.tree)) found.levels found.end

abbrev pub SizedSelects : List Lexeme → ℕ → Found (Vec Select Global) → Type 0
SizedSelects tokens levels_left found = IsSized tokens levels_left (levels_of_selects (selections_of (map selection_of found.tree.items))) found.levels found.end
