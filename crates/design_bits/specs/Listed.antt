-- Lists of bits of signals, for what is private to this crate.
use Rattle.std.specs.Prelude.{ℕ, ◌≡◌, ◌<◌, ◌==◌, Bool, ◌&&◌, List, [], ◌∷◌, slice_set}
use Rattle.std.specs.List.{list_any}
use Rattle.design_core.specs.Valuation.{bit}
use Rattle.design_bits.specs.declared.listed.SignalBits.{SignalBits}

-- whether an entry has a bit, and whether a list does
abbrev pub entry_has : ℕ → ℕ → SignalBits → Bool
entry_has s b entry = entry.signal == s && bit entry.mask b

abbrev pub lists : List SignalBits → ℕ → ℕ → Bool
lists entries s b = list_any (entry_has s b) entries

-- a list has the bits of the first n signals that pass a test
pub record Lists (n : ℕ) (entries : List SignalBits) (test : ℕ → ℕ → Bool) : Type 0 where
  pub bits : (s b : ℕ) → s < n → b < 128 → lists entries s b ≡ test s b

-- a table with what stood there before, the last note put back first
abbrev pub undone : List SignalBits → List ℕ → List ℕ
undone [] table = table
undone (entry ∷ rest) table = slice_set (undone rest table) entry.signal entry.mask
