use Rattle.std.proofs.Common.{◌≡◌, ℕ, [], length, get_or}
use Rattle.trail_core.specs.ShortListing.{no_shorts}
use Rattle.trail_core.proofs.shorts.empty_lists.Given as goal

abbrev pub invariant-loop : goal.invariant-loop
invariant-loop l = record {
  size : length l.lists.items ≡ l.counter;
  empty : (i : ℕ) → (get_or l.lists.items i no_shorts).clauses ≡ [];
}
