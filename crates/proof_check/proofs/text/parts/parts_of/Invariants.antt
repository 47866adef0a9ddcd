use Rattle.std.proofs.Common.{◌≤◌, ◌-◌, length, All}
use Rattle.proof_check.specs.Parts.{Covers, IsPartOf}
use Rattle.proof_check.proofs.text.parts.parts_of.Given as goal

abbrev pub invariant-loop-from : goal.invariant-loop-from
invariant-loop-from l = record {
  within : l.from ≤ length l.text;
  parts : All (IsPartOf l.text) l.parts.items;
  cover : Covers 0 l.from l.parts.items;
}

abbrev pub decreases-loop-from : goal.decreases-loop-from
decreases-loop-from l = length l.text - l.from
