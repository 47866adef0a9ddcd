-- Which lines name something wrongly: a symbol without a place, a second one of a place, one without a name, and a port that has the
-- name of an earlier one. That port's line is the one of its symbol, and where it has none, the one of its row.
use Rattle.std.specs.Prelude.{ℕ, ◌≡◌, ◌<◌, ◌≤◌, ◌==◌, Bool, true, false, not, ◌||◌, List, [], length, take, slice_get, slice_index, slice_index_or, Option, None, Some, if◌then◌else◌, nat_lt, ◌⊎◌}
use Rattle.std.specs.Str.{bytes_eq}
use Rattle.std.specs.List.{list_any}
use Rattle.std.specs.Option.{option_map_or}
use Rattle.aiger_text.specs.Symbols.{PlainSymbol}
use Rattle.aiger_text.specs.Content.{Content}
use Rattle.aiger_rules.specs.First.{is_key}
use Rattle.aiger_rules.specs.Names.{named_row, symbol_of}
use Rattle.aiger_rules.specs.Ports.{port_names, port_lines, symbol_line}

-- whether the symbol at a place names no row, or one that an earlier symbol names, or has no name
abbrev pub is_bad_symbol : Content → ℕ → PlainSymbol → Bool
is_bad_symbol w place symbol =
    option_map_or (λ row. not (is_key place (symbol_of w row))) (named_row w.counts symbol) true || length symbol.text == 0

-- the same of the symbol at a place, where there is one
abbrev pub is_misplaced : Content → ℕ → Bool
is_misplaced w place = option_map_or (is_bad_symbol w place) (slice_get w.symbols place) false

-- whether a name is one of some names
abbrev pub is_among : List (List ℕ) → List ℕ → Bool
is_among names name = list_any (λ own. bytes_eq own name) names

-- whether the name at a place is one of those before it
abbrev pub is_double : List (List ℕ) → ℕ → Bool
is_double names place = is_among (take place names) (slice_index_or names place [])

-- a line is that of a place, below a number, that passes a test
abbrev pub IsLineOf : (ℕ → Bool) → (ℕ → ℕ) → ℕ → ℕ → Type 0
IsLineOf test line_of count line = (place : ℕ) × (place < count) × (test place ≡ true) × (line ≡ line_of place)

-- a line names something wrongly: a symbol that is misplaced stands there, or it is that of a port with a name of an earlier one
abbrev pub IsMisnaming : Content → Option (List ℕ) → ℕ → Type 0
IsMisnaming w clock line =
    IsLineOf (is_misplaced w) (symbol_line w) (length w.symbols) line
    ⊎ IsLineOf (is_double (port_names w clock)) (slice_index (port_lines w clock)) (length (port_names w clock)) line

-- a number is the least of a kind, or there is none
abbrev pub IsLeastOf : (ℕ → Type 0) → Option ℕ → Type 0
IsLeastOf P None = (n : ℕ) → ¬ P n
IsLeastOf P (Some least) = P least × ((n : ℕ) → P n → least ≤ n)

-- the lesser of two numbers, where there are some
abbrev pub lesser : Option ℕ → Option ℕ → Option ℕ
lesser None other = other
lesser (Some one) None = Some one
lesser (Some one) (Some other) = if nat_lt other one then Some other else Some one

-- the first line that names something wrongly
abbrev pub IsMisnamed : Content → Option (List ℕ) → ℕ → Type 0
IsMisnamed w clock line = IsLeastOf (IsMisnaming w clock) (Some line)

-- no line does
abbrev pub IsNamedWell : Content → Option (List ℕ) → Type 0
IsNamedWell w clock = IsLeastOf (IsMisnaming w clock) None
