-- Pieces of a log.
use Rattle.std.proofs.Common.{ℕ, ◌*◌, ◌<◌, ◌≤◌, arith}
use Rattle.std.specs.Int.{div_ceil}
use Rattle.std.proofs.lemmas.Grind.{div_ceil_times}

-- pieces of so many steps have each step
pub share-cover : (steps workers : ℕ) → 0 < workers → steps ≤ workers * div_ceil steps workers
share-cover steps workers some = let enough = (div_ceil_times steps workers some).0 in omega (arith, enough)

pub ruleset share_rules = (share-cover)
