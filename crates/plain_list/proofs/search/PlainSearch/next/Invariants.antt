use Rattle.std.proofs.Common.{◌≡◌, ◌-◌, ◌≤◌, length}
use Rattle.plain_list.specs.Search.{found_of, size_of, IsSearch}
use Rattle.plain_list.proofs.search.PlainSearch.next.Given as goal

abbrev pub invariant-loop-self : goal.invariant-loop-self
invariant-loop-self l =
    IsSearch l.design l.traces l.self × (found_of l.self ≡ found_of l.initial.self) × (size_of l.self ≡ size_of l.initial.self)
    × (l.initial.self.at ≤ l.self.at) × (l.self.candidates.items ≡ l.initial.self.candidates.items)

abbrev pub decreases-loop-self : goal.decreases-loop-self
decreases-loop-self l = length l.self.candidates.items - l.self.at
