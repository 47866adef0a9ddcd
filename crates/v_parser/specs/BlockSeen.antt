-- What contracts see of what a generate loop or condition holds.
use Rattle.std.specs.Prelude.{ℕ}
use Rattle.v_syntax.specs.declared.item.GenerateBlock.{GenerateBlock}
use Rattle.v_syntax.specs.ItemTree.{PlainBlock, block_of}

abbrev pub seen_block : GenerateBlock × ℕ → PlainBlock × ℕ
seen_block x = (block_of x.0, x.1)
