use Rattle.std.proofs.Common.{take, length}
use Rattle.std.specs.List.{list_any, list_all}
use Rattle.design_core.specs.Reads.{assigns}
use Rattle.design_bits.specs.Paths.{sequence_reads, item_reads, item_assigns}
use Rattle.design_bits.specs.Waits.{IsInBlock, IsInItems}
use Rattle.design_bits.proofs.waits.+waits.Given as goal

abbrev pub invariant-read_block-loop-statement : goal.invariant-read_block-loop-statement
invariant-read_block-loop-statement l =
    let S = l.design.signals.items in
    IsInBlock (length S) l.initial.walk l.walk l.before.items l.all.items (λ s b. sequence_reads S s b (take l.statement-index l.statements))
    (λ s b. list_any (λ y. assigns S s b y) (take l.statement-index l.statements))

abbrev pub invariant-read_items-loop-item : goal.invariant-read_items-loop-item
invariant-read_items-loop-item l =
    let S = l.design.signals.items in
    IsInItems (length S) l.initial.walk l.walk l.initial.shared l.shared l.item-index (λ s b. list_any (λ y. item_reads S s b y) (take l.item-index l.items))
    (λ s b. list_all (λ y. item_assigns S s b y) (take l.item-index l.items))
