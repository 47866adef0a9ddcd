use Rattle.std.proofs.Common.{◌≡◌, ℕ, length, get_or}
use Rattle.trail_core.specs.Listing.{nothing}
use Rattle.trail_core.proofs.watches.no_lists.Given as goal

abbrev pub invariant-loop : goal.invariant-loop
invariant-loop l = record {
  size : length l.lists.items ≡ l.counter;
  empty : (i : ℕ) → get_or l.lists.items i nothing ≡ nothing;
}
