use Rattle.std.proofs.Common.{◌≡◌, ◌<◌, ℕ, List, None, Some, length, get_or}
use Rattle.suspect_map.specs.Grouping.{RunsThrough}
use Rattle.suspect_map.proofs.ChainLaws.{Follows, far}
use Rattle.suspect_map.proofs.chains.Chains.places_of.Given as goal

abbrev pub invariant-loop-at : goal.invariant-loop-at
invariant-loop-at l = record {
  within : (q : ℕ) → l.at ≡ Some q → q < length l.self.next.items;
  follows : (list : List ℕ) → RunsThrough l.self.next.items (get_or l.self.heads.items l.first None) list → Follows l.self.next.items (get_or l.self.heads.items l.first None) l.places l.at list;
}

abbrev pub decreases-loop-at : goal.decreases-loop-at
decreases-loop-at l = far (length l.self.next.items) l.at
