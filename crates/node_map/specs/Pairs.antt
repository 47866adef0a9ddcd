-- What the arms of a branch leave in two maps, as entries.
use Rattle.std.specs.Prelude.{ℕ, ◌≡◌, ◌<◌, List, length, map, get_or, All, Contains}
use Rattle.std.specs.List.Sorted.{IsStrictlyIncreasing}
use Rattle.node_map.specs.declared.pair.Kept.{Kept}
use Rattle.node_map.specs.Entries.{entry_at, put, Tracked}

-- what stands in two maps at some signals
pub record AreEntries (now past signals : List ℕ) (kept : Kept) : Type 0 where
  pub current : kept.current ≡ map (entry_at now) signals
  pub later : kept.later ≡ map (entry_at past) signals

-- the two maps are the same, and no branch is under way
pub record IsSettled (current past : Tracked) : Type 0 where
  pub base : current.base ≡ current.now
  pub later : past.now ≡ current.now
  pub base_later : past.base ≡ current.now

-- what an arm left in two maps, at signals among which are all in which it differs from them; the arm's entries are put where the
-- maps were when the branch began
pub record IsBeside (current later : Tracked) (arm kept : Kept) : Type 0 where
  pub signals : List ℕ
  pub rises : IsStrictlyIncreasing signals
  pub within : All (λ s. s < length current.now) signals
  pub entries : AreEntries (put arm.current current.base) (put arm.later later.base) signals kept
  pub same_current : (s : ℕ) → ¬ Contains signals s → get_or (put arm.current current.base) s 0 ≡ get_or current.now s 0
  pub same_later : (s : ℕ) → ¬ Contains signals s → get_or (put arm.later later.base) s 0 ≡ get_or later.now s 0
