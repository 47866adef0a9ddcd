use Rattle.std.proofs.Common.{◌≡◌, map, drop}
use Rattle.v_syntax.specs.Tree.{tree_of, trees_of, selection_of, selections_of}
use Rattle.v_binding.specs.Unknown.{unknown_parts, unknown_selects}
use Rattle.v_binding.specs.Seen.{names_in}
use Rattle.bind_scopes.proofs.unknown.+unknown.Given as goal

abbrev pub invariant-unknown_selects-loop-select : goal.invariant-unknown_selects-loop-select
invariant-unknown_selects-loop-select l =
    unknown_selects (names_in l.names) (selections_of (map selection_of (drop l.select-index l.selects))) l.found
    ≡ unknown_selects (names_in l.names) (selections_of (map selection_of l.selects)) l.fn.before

abbrev pub invariant-unknown_parts-loop-part : goal.invariant-unknown_parts-loop-part
invariant-unknown_parts-loop-part l =
    unknown_parts (names_in l.names) (trees_of (map tree_of (drop l.part-index l.parts))) l.found
    ≡ unknown_parts (names_in l.names) (trees_of (map tree_of l.parts)) l.fn.before
