use Rattle.std.proofs.Common.{◌≡◌, map, drop}
use Rattle.v_syntax.specs.Tree.{selection_of, selections_of}
use Rattle.v_binding.specs.Lefts.{indexes_at}
use Rattle.v_binding.specs.Seen.{names_in}
use Rattle.bind_scopes.proofs.named_parts.indexes_at.Given as goal

abbrev pub invariant-loop-select : goal.invariant-loop-select
invariant-loop-select l =
    indexes_at (names_in l.names) l.only (selections_of (map selection_of (drop l.select-index l.selects)))
    ≡ indexes_at (names_in l.names) l.only (selections_of (map selection_of l.selects))
