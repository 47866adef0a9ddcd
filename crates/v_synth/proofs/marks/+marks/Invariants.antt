use Rattle.std.proofs.Common.{take}
use Rattle.std.specs.List.{list_any}
use Rattle.design_core.specs.Drives.{assigns_later}
use Rattle.v_synth.specs.Rows.{Marked, item_assigns_later}
use Rattle.v_synth.proofs.marks.+marks.Given as goal

abbrev pub invariant-mark_statements-loop-statement : goal.invariant-mark_statements-loop-statement
invariant-mark_statements-loop-statement l = Marked l.mark l.initial.marks l.marks (λ s. list_any (assigns_later s) (take l.statement-index l.statements))

abbrev pub invariant-mark_items-loop-item : goal.invariant-mark_items-loop-item
invariant-mark_items-loop-item l = Marked l.mark l.initial.marks l.marks (λ s. list_any (item_assigns_later s) (take l.item-index l.items))
