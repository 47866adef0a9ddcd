-- The names of waves: `P-S-T.vcd` for the set and the trace of these numbers, both from 1.
use Rattle.std.specs.Prelude.{ℕ, ◌≡◌, ◌≢◌, ◌≤◌, List, ◌++◌, Option, Some, None, codes, decimal}

abbrev pub wave_name : List ℕ → ℕ → ℕ → List ℕ
wave_name prefix set trace = prefix ++ codes "-" ++ decimal set ++ codes "-" ++ decimal trace ++ codes ".vcd"

-- a name is that of a wave, of at most so many sets and traces
pub record IsWaveName (prefix : List ℕ) (sets traces : ℕ) (name : List ℕ) : Type 0 where
  pub set : ℕ
  pub trace : ℕ
  pub from_set : 1 ≤ set
  pub to_set : set ≤ sets
  pub from_trace : 1 ≤ trace
  pub to_trace : trace ≤ traces
  pub is : name ≡ wave_name prefix set trace

-- a name that no wave has: it doesn't begin with the prefix and a hyphen
abbrev pub IsNoWave : Option (List ℕ) → List ℕ → Type 0
IsNoWave None name = Unit {0}
IsNoWave (Some prefix) name = (rest : List ℕ) → name ≢ prefix ++ codes "-" ++ rest

-- a name is that of a wave, where there is a prefix
abbrev pub IsWave : Option (List ℕ) → ℕ → ℕ → List ℕ → Type 0
IsWave None sets traces name = ⊥
IsWave (Some prefix) sets traces name = IsWaveName prefix sets traces name
