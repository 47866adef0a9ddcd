use Rattle.std.proofs.Common.{◌≡◌, take}
use Rattle.bind_items.proofs.copies.+copy.Given as goal

abbrev pub invariant-copied_parts-loop-part : goal.invariant-copied_parts-loop-part
invariant-copied_parts-loop-part l = l.copy ≡ take l.part-index l.parts
