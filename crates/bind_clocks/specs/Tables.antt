-- Roots by the numbers of their signals, for what is private to this crate.
use Rattle.std.specs.Prelude.{ℕ, ◌≡◌, ◌<◌, ◌==◌, true, false, List, All, Option, Some, None, length, slice_index_or}
use Rattle.std.specs.List.{list_any}
use Rattle.v_binding.specs.Bound.{Root}
use Rattle.v_binding.specs.Clocks.{root_of}
use Rattle.bind_clocks.specs.declared.roots.Entry.{Entry}
use Rattle.bind_clocks.specs.Rooted.{has_root}

-- one root more
abbrev pub with_root : Option Entry → ℕ → Entry
with_root None input = record { input = input; again = false }
with_root (Some e) input = record { input = e.input; again = true }

-- what an entry says of the roots of its signal
abbrev pub IsEntry : List Root → ℕ → Option Entry → Type 0
IsEntry roots s None = (root_of roots s ≡ None) × ((input : ℕ) → list_any (has_root s input) roots ≡ false)
IsEntry roots s (Some e) = (root_of roots s ≡ Some e.input) × (e.again ≡ false → (input : ℕ) → list_any (has_root s input) roots ≡ (input == e.input))

-- a table has an entry for each signal
pub record AreRooted (roots : List Root) (table : List (Option Entry)) : Type 0 where
  pub entries : (s : ℕ) → IsEntry roots s (slice_index_or table s None)
  pub within : All (λ r. r.signal < length table) roots
