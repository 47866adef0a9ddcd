use Rattle.std.proofs.Common.{◌≡◌, drop}
use Rattle.std.specs.List.{list_any}
use Rattle.design_core.specs.Drives.{some_set}
use Rattle.plain_sim.specs.EvaluateCycle.{asked_of, item_passes}
use Rattle.plain_sim.proofs.cycle.drives.+sets.Given as goal

abbrev pub invariant-some_set_of-loop-statement : goal.invariant-some_set_of-loop-statement
invariant-some_set_of-loop-statement l =
    let test = some_set (asked_of l.signals l.asked) in
    list_any test (drop l.statement-index l.statements) ≡ list_any test l.statements

abbrev pub invariant-some_set_in-loop-item : goal.invariant-some_set_in-loop-item
invariant-some_set_in-loop-item l =
    let test = item_passes (asked_of l.signals l.asked) in
    list_any test (drop l.item-index l.items) ≡ list_any test l.items
