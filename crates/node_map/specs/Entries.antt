-- Signals with nodes, and what they leave in a map where they are put.
use Rattle.std.specs.Prelude.{ℕ, ◌≡◌, ◌<◌, List, [], ◌∷◌, length, map, get_or, set, All, Contains}
use Rattle.node_map.specs.declared.entry.Entry.{Entry}

-- what stands at a signal
abbrev pub entry_at : List ℕ → ℕ → Entry
entry_at nodes s = record { signal = s; node = get_or nodes s 0 }

-- entries put into a map, from the last one
unfoldable pub put : List Entry → List ℕ → List ℕ
put [] nodes = nodes
put (entry ∷ entries) nodes = set (put entries nodes) entry.signal entry.node

-- the signals of entries
abbrev pub signals_of : List Entry → List ℕ
signals_of entries = map (λ (entry : Entry). entry.signal) entries

-- the signals of entries are among so many
abbrev pub AreWithin : ℕ → List Entry → Type 0
AreWithin count entries = All (λ (entry : Entry). entry.signal < count) entries

-- a map, and what it was when the branch began
pub record Tracked : Type 0 where
  pub now : List ℕ
  pub base : List ℕ

-- signals of the map, among which are all that have another node than when the branch began
pub record Covers (signals : List ℕ) (map : Tracked) : Type 0 where
  pub within : All (λ s. s < length map.now) signals
  pub same : (s : ℕ) → ¬ Contains signals s → get_or map.now s 0 ≡ get_or map.base s 0
