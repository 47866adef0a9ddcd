use Rattle.std.proofs.Common.{◌-◌}
use Rattle.v_parts.proofs.ListSteps.{Listing}
use Rattle.v_parts.proofs.lists.listed.Given as goal

abbrev pub invariant-loop : goal.invariant-loop
invariant-loop g l =
    Listing l.tokens (g.R.PartReader.part_at l.reader l.tokens) g.R.PartReader.plain l.at l.list.items (l.end - l.counter) l.end-2
