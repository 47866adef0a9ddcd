use Rattle.std.proofs.Common.{◌≡◌, None, drop, map}
use Rattle.v_syntax.specs.Tree.{tree_of}
use Rattle.v_binding.specs.Steps.{each}
use Rattle.v_binding.specs.Gates.{input_at}
use Rattle.v_binding.specs.Seen.{names_in}
use Rattle.bind_items.proofs.inputs.inputs_at.Given as goal

abbrev pub invariant-loop-e : goal.invariant-loop-e
invariant-loop-e l =
    each (input_at (names_in l.names) l.kind) (map tree_of (drop l.e-index l.terminals)) l.inputs
    ≡ each (input_at (names_in l.names) l.kind) (map tree_of l.terminals) None
