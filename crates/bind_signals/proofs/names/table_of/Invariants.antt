use Rattle.std.proofs.Common.{◌≡◌, ◌||◌, ℕ, List, drop}
use Rattle.v_hierarchy.specs.Parameters.{is_among}
use Rattle.bind_signals.specs.Tables.{is_in}
use Rattle.bind_signals.specs.LoopNames.{named}
use Rattle.bind_signals.proofs.names.table_of.Given as goal

abbrev pub invariant-loop-name : goal.invariant-loop-name
invariant-loop-name l = (q : List ℕ) → (is_in l.table q || is_among q (named (drop l.name-index l.names))) ≡ is_among q (named l.names)
