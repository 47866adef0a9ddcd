use Rattle.suspect_map.specs.Grouping.{IsChained}
use Rattle.suspect_map.proofs.chains.Chains.new.Given as goal

abbrev pub invariant-loop-place : goal.invariant-loop-place
invariant-loop-place l = IsChained l.firsts l.place l.heads.items l.next.items
