-- Counts of faults and of calls. A count never falls, and one at its last value counts as having risen.
use Rattle.std.specs.Prelude.{ℕ, ◌≡◌, ◌+◌, ◌<◌, ◌≤◌, List, min}

-- the last value of a count
abbrev pub last_count : ℕ
last_count = 18446744073709551615

-- a count rose from one value to another: it is greater, or it stands at its last value
abbrev pub Rose : ℕ → ℕ → Type 0
Rose old new = (old ≤ new) × (new < last_count → old < new)

-- one more, but for the last value of a count
abbrev pub one_more : ℕ → ℕ
one_more count = min (count + 1) last_count

-- ---- the faults of a shelf
-- how many of its calls failed, how many of those were writes, which are `can_begin`, `begin` and `put`, and the name of the text
-- whose load failed last: no bytes before the first
pub record FaultCounts : Type 0 where
  pub all : ℕ
  pub writes : ℕ
  pub failed_name : List ℕ

abbrev pub fault_counts : ℕ → ℕ → List ℕ → FaultCounts
fault_counts all writes failed_name = record { all = all; writes = writes; failed_name = failed_name }

-- one load failed, and no write
abbrev pub LoadRose : FaultCounts → FaultCounts → Type 0
LoadRose old new = Rose old.all new.all × (new.writes ≡ old.writes) × (new.all ≡ one_more old.all)

-- and the last that failed was that of the text under a name
abbrev pub LoadRoseOf : List ℕ → FaultCounts → FaultCounts → Type 0
LoadRoseOf name old new = LoadRose old new × (new.failed_name ≡ name)

-- a write failed; the name stays
abbrev pub WriteRose : FaultCounts → FaultCounts → Type 0
WriteRose old new = Rose old.all new.all × (Rose old.writes new.writes × (new.failed_name ≡ old.failed_name))
