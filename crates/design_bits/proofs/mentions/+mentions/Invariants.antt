use Rattle.std.proofs.Common.{take, ◌&&◌, not}
use Rattle.std.specs.List.{list_any}
use Rattle.design_core.specs.Mentions.{statement_mentions}
use Rattle.design_bits.specs.Masks.{Adds, has}
use Rattle.design_bits.specs.Rows.{item_mentions}
use Rattle.design_bits.proofs.mentions.+mentions.Given as goal

abbrev pub invariant-add_statements-loop-statement : goal.invariant-add_statements-loop-statement
invariant-add_statements-loop-statement l =
    Adds l.initial.set l.set (λ s b. list_any (λ y. statement_mentions l.signals s b y) (take l.statement-index l.statements) && not (has l.sure s b))

abbrev pub invariant-add_items-loop-item : goal.invariant-add_items-loop-item
invariant-add_items-loop-item l = Adds l.initial.set l.set (λ s b. list_any (λ y. item_mentions l.signals s b y) (take l.item-index l.items) && not (has l.sure s b))
