use Rattle.std.proofs.Common.{take, ◌&&◌}
use Rattle.std.specs.Prelude.{not}
use Rattle.std.specs.List.{list_any}
use Rattle.design_core.specs.Mentions.{block_mentions}
use Rattle.design_bits.specs.Masks.{Adds, has}
use Rattle.design_rules.proofs.undriven.add_blocks_reads.Given as goal

abbrev pub invariant-loop-block : goal.invariant-loop-block
invariant-loop-block l = Adds l.initial.used l.used (λ s b. list_any (λ y. block_mentions l.design.signals.items s b y) (take l.block-index l.design.clocked.items) && not (has l.driven s b))
