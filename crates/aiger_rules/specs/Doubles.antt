-- Private, for the functions that look for two ports of one name: a port without a symbol has a name of its own, so that only the names of
-- symbols and the clock's are held in tables.
use Rattle.std.specs.Prelude.{ℕ, ◌≡◌, ◌≢◌, ◌+◌, ◌<◌, Bool, true, false, ◌&&◌, ◌||◌, nat_le, nat_lt, List, [], length, slice_index, slice_index_or, if◌then◌else◌}
use Rattle.std.specs.Str.{bytes_eq}
use Rattle.loc_base.specs.declared.name_table.NameTable.{NameTable}
use Rattle.loc_base.specs.NameTable.{has_number}

-- whether a line is that of a row, where there are so many
abbrev pub is_own : ℕ → ℕ → Bool
is_own rows line = nat_le 2 line && nat_lt line (rows + 2)

-- two ports whose lines are those of rows have two names
abbrev pub OwnDiffer : ℕ → List (List ℕ) → List ℕ → Type 0
OwnDiffer rows names lines =
    (i j : ℕ) → i < j → j < length names → is_own rows (slice_index lines i) ≡ true → is_own rows (slice_index lines j) ≡ true
    → slice_index_or names i [] ≢ slice_index_or names j []

-- a table has the names of all ports below a place whose lines are those of symbols, and the clock's
abbrev pub AreShared : ℕ → List (List ℕ) → List ℕ → ℕ → NameTable → Type 0
AreShared rows names lines count table =
    (place : ℕ) → place < count → is_own rows (slice_index lines place) ≡ false
    → has_number table (slice_index_or names place []) ≡ true

-- which names were met, with one more if it is shared
abbrev pub met_with : (List ℕ → Bool) → (List ℕ → Bool) → List ℕ → List ℕ → Bool
met_with shared met name other = if shared name then bytes_eq name other || met other else met other
