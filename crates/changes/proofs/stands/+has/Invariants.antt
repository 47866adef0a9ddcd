use Rattle.std.proofs.Common.{◌≡◌, drop}
use Rattle.std.specs.List.{list_any}
use Rattle.changes.specs.Lists.{item_stands, stands_in}
use Rattle.changes.proofs.stands.+has.Given as goal

abbrev pub invariant-some_has_place-loop-statement : goal.invariant-some_has_place-loop-statement
invariant-some_has_place-loop-statement l =
    list_any (stands_in l.place) (drop l.statement-index l.statements) ≡ list_any (stands_in l.place) l.statements

abbrev pub invariant-item_has_place-loop-item : goal.invariant-item_has_place-loop-item
invariant-item_has_place-loop-item l =
    list_any (item_stands l.place) (drop l.item-index l.items) ≡ list_any (item_stands l.place) l.items
