-- How deep an expression nests, and of how many levels its tree is.
use Rattle.std.specs.Prelude.{ℕ, ◌+◌, max}
use Rattle.v_syntax.specs.Tree.{Tree, number, wild, name, parens, concat, repeat, system, unary, binary, conditional, Trees, no_tree, tree, Selection, bit, part, Selections, no_select, select}

-- the most constructs that are open at one token: parentheses, concatenations, replications, selects, system calls, unary
-- operators, and conditional operators from their `?` on
abbrev mutual
  pub nesting : Tree → ℕ
  nesting (number s text) = 0
  nesting (wild s text) = 0
  nesting (name s text selects) = nesting_of_selects selects
  nesting (parens s inner) = nesting inner + 1
  nesting (concat s parts) = nesting_of_parts parts + 1
  nesting (repeat s count parts) = max (nesting count) (nesting_of_parts parts) + 1
  nesting (system s function argument) = nesting argument + 1
  nesting (unary s operator operand) = nesting operand + 1
  nesting (binary s operator left right) = max (nesting left) (nesting right)
  nesting (conditional s condition then other) = max (nesting condition) (max (nesting then) (nesting other) + 1)

  pub nesting_of_parts : Trees → ℕ
  nesting_of_parts no_tree = 0
  nesting_of_parts (tree t ts) = max (nesting t) (nesting_of_parts ts)

  pub nesting_of_select : Selection → ℕ
  nesting_of_select (bit s index) = nesting index + 1
  nesting_of_select (part s kind left right) = max (nesting left) (nesting right) + 1

  pub nesting_of_selects : Selections → ℕ
  nesting_of_selects no_select = 0
  nesting_of_selects (select s ss) = max (nesting_of_select s) (nesting_of_selects ss)

-- a literal and a plain name are of level 0, parentheses are read through, and all else is one above its deepest operand
abbrev mutual
  pub levels : Tree → ℕ
  levels (number s text) = 0
  levels (wild s text) = 0
  levels (name s text selects) = levels_of_selects selects
  levels (parens s inner) = levels inner
  levels (concat s parts) = levels_of_parts parts + 1
  levels (repeat s count parts) = max (levels count) (levels_of_parts parts) + 1
  levels (system s function argument) = levels argument + 1
  levels (unary s operator operand) = levels operand + 1
  levels (binary s operator left right) = max (levels left) (levels right) + 1
  levels (conditional s condition then other) = max (levels condition) (max (levels then) (levels other)) + 1

  pub levels_of_parts : Trees → ℕ
  levels_of_parts no_tree = 0
  levels_of_parts (tree t ts) = max (levels t) (levels_of_parts ts)

  pub levels_of_select : Selection → ℕ
  levels_of_select (bit s index) = levels index + 1
  levels_of_select (part s kind left right) = max (levels left) (levels right) + 1

  pub levels_of_selects : Selections → ℕ
  levels_of_selects no_select = 0
  levels_of_selects (select s ss) = max (levels_of_select s) (levels_of_selects ss)
