use Rattle.std.proofs.Common.{◌≡◌, List, drop}
use Rattle.v_hierarchy.specs.Names.{Entry}
use Rattle.bind_signals.specs.Tables.{HasFirsts}
use Rattle.bind_signals.specs.LoopNames.{listed, with_unhidden}
use Rattle.bind_signals.proofs.looped.add_unhidden.Given as goal

abbrev pub invariant-loop-variable : goal.invariant-loop-variable
invariant-loop-variable l =
    (entries : List Entry) → HasFirsts l.declared entries
    → with_unhidden entries (listed (drop l.variable-index l.inside)) (listed l.names) ≡ with_unhidden entries (listed l.inside) (listed l.initial.names)
