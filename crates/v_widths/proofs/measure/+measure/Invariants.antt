use Rattle.std.proofs.Common.{◌≡◌, ◌++◌, map, drop}
use Rattle.v_syntax.specs.Tree.{tree_of, trees_of, selection_of, selections_of}
use Rattle.v_sizes.specs.Scopes.{look_of}
use Rattle.v_widths.specs.Parts.{no_parts, with_parts}
use Rattle.v_widths.specs.Opening.{opened_parts, opened_selects}
use Rattle.v_widths.proofs.measure.+measure.Given as goal

abbrev pub invariant-measured_parts-loop-part : goal.invariant-measured_parts-loop-part
invariant-measured_parts-loop-part l =
    with_parts l.joined (opened_parts (look_of l.scope) l.only (trees_of (map tree_of (drop l.part-index l.parts))))
    ≡ with_parts no_parts (opened_parts (look_of l.scope) l.only (trees_of (map tree_of l.parts)))

abbrev pub invariant-measured_selects-loop-select : goal.invariant-measured_selects-loop-select
invariant-measured_selects-loop-select l =
    (l.all ++ opened_selects (look_of l.scope) l.here l.only.later (selections_of (map selection_of (drop l.select-index l.selects))))
    ≡ opened_selects (look_of l.scope) l.only.first l.only.later (selections_of (map selection_of l.selects))
