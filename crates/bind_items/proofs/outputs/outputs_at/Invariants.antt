use Rattle.std.proofs.Common.{◌≡◌, [], drop, map}
use Rattle.v_syntax.specs.Tree.{tree_of}
use Rattle.v_binding.specs.Steps.{each}
use Rattle.v_binding.specs.Gates.{output_at}
use Rattle.v_binding.specs.Seen.{names_in}
use Rattle.bind_items.proofs.outputs.outputs_at.Given as goal

abbrev pub invariant-loop-e : goal.invariant-loop-e
invariant-loop-e l =
    each (output_at (names_in l.names)) (map tree_of (drop l.e-index l.terminals)) l.outputs ≡ each (output_at (names_in l.names)) (map tree_of l.terminals) []
