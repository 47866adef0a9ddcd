use Rattle.std.proofs.Common.{◌≡◌, ◌+◌, ◌-◌, ◌*◌, map, Ok}
use Rattle.v_syntax.specs.Tree.{tree_of, selection_of, trees_of, selections_of, append_parts, append_selects}
use Rattle.v_tree.specs.Depth.{levels_of_parts, levels_of_selects}
use Rattle.v_tree.specs.Found.{Sized, IsSized}
use Rattle.v_tree.specs.Reading.{readers, below, climb, chain, more_parts, parts_from, selects_at, ◌>>=◌}
use Rattle.v_tree.proofs.read.+read.Given as goal

abbrev pub decreases-parts_from : goal.decreases-parts_from
decreases-parts_from l = 40 * l.nesting_left + 35

abbrev pub decreases-whole : goal.decreases-whole
decreases-whole l = 40 * l.nesting_left + 30

abbrev pub decreases-climb : goal.decreases-climb
decreases-climb l = 40 * l.nesting_left + 10 + (12 - l.least)

abbrev pub decreases-operand : goal.decreases-operand
decreases-operand l = 40 * l.nesting_left + 9

abbrev pub decreases-unary : goal.decreases-unary
decreases-unary l = 40 * l.nesting_left + 8

abbrev pub decreases-system : goal.decreases-system
decreases-system l = 40 * l.nesting_left + 8

abbrev pub decreases-parens : goal.decreases-parens
decreases-parens l = 40 * l.nesting_left + 8

abbrev pub decreases-braces : goal.decreases-braces
decreases-braces l = 40 * l.nesting_left + 8

abbrev pub decreases-selects : goal.decreases-selects
decreases-selects l = 40 * l.nesting_left + 8

abbrev pub decreases-select : goal.decreases-select
decreases-select l = 40 * l.nesting_left + 7

abbrev pub invariant-climb-loop : goal.invariant-climb-loop
invariant-climb-loop l =
    let right = climb l.tokens (readers l.tokens l.nesting_left).operand 11 in
    record {
      sized : Sized l.tokens l.levels_left l.left;
      goes_on : chain l.tokens right l.least l.levels_left l.at l.end (tree_of l.initial.left.tree) l.initial.left.end
          ≡ chain l.tokens right l.least l.levels_left l.at (l.end - l.counter) (tree_of l.left.tree) l.left.end;
    }

abbrev pub invariant-parts_from-loop : goal.invariant-parts_from-loop
invariant-parts_from-loop l =
    let whole = (readers l.tokens l.nesting_left).whole in
    record {
      sized : IsSized l.tokens l.levels_left (levels_of_parts (trees_of (map tree_of l.parts.items))) l.levels l.end-2;
      goes_on : parts_from l.tokens whole l.levels_left (tree_of l.fn.first.tree) l.fn.first.end
          ≡ (more_parts l.tokens whole l.levels_left (l.end - l.counter) l.end-2 >>= λ xs. Ok (append_parts (trees_of (map tree_of l.parts.items)) xs.0, xs.1));
    }

abbrev pub invariant-selects-loop : goal.invariant-selects-loop
invariant-selects-loop l =
    let whole = (below l.tokens l.nesting_left).whole in
    record {
      sized : IsSized l.tokens l.levels_left (levels_of_selects (selections_of (map selection_of l.found.items))) l.levels l.end;
      goes_on : selects_at l.tokens l.nesting_left whole l.levels_left 2 l.at
          ≡ (selects_at l.tokens l.nesting_left whole l.levels_left (2 - l.counter) l.end >>= λ xs. Ok (append_selects (selections_of (map selection_of l.found.items)) xs.0, xs.1));
    }
