use Rattle.std.proofs.Common.{◌≡◌, drop}
use Rattle.std.specs.List.{list_all}
use Rattle.design_core.specs.WellFormed.{statement_fits}
use Rattle.plain_values.specs.Evaluate.{item_fits}
use Rattle.design_fits.proofs.statement.+statement.Given as goal

abbrev pub invariant-statements_fit-loop-statement : goal.invariant-statements_fit-loop-statement
invariant-statements_fit-loop-statement l =
    let test = statement_fits l.signals l.places in
    list_all test (drop l.statement-index l.statements) ≡ list_all test l.statements

abbrev pub invariant-items_fit-loop-item : goal.invariant-items_fit-loop-item
invariant-items_fit-loop-item l =
    let test = item_fits l.signals l.places l.width in
    list_all test (drop l.item-index l.items) ≡ list_all test l.items
