use Rattle.std.proofs.Common.{◌≡◌, map, drop}
use Rattle.v_syntax.specs.PartTree.{left_of, lefts_of}
use Rattle.v_binding.specs.Lefts.{nothing_named, targets}
use Rattle.v_binding.specs.Seen.{names_in}
use Rattle.bind_scopes.proofs.left_side.+left_side.Given as goal

abbrev pub invariant-targets-loop-left : goal.invariant-targets-loop-left
invariant-targets-loop-left l =
    targets (names_in l.names) (lefts_of (map left_of (drop l.left-index l.lefts))) l.done
    ≡ targets (names_in l.names) (lefts_of (map left_of l.lefts)) nothing_named
