use Rattle.std.proofs.Common.{take}
use Rattle.plain_list.specs.Trial.{AreNumbersFor}
use Rattle.plain_list.proofs.works.zeros.Given as goal

abbrev pub invariant-loop-place : goal.invariant-loop-place
invariant-loop-place l = AreNumbersFor l.d (take l._place-index l.places) l.numbers.items
