-- Words: the reserved ones, and the names of the system functions that are known.
use Rattle.std.specs.Prelude.{ℕ, Bool, List, bytes_eq, is_some}
use Rattle.std.specs.List.{list_any}
use Rattle.v_lexer.specs.Terminals.{reserved_word, system_function}

-- the text is one of the words
abbrev pub is_among : List ℕ → List (List ℕ) → Bool
is_among text words = list_any (bytes_eq text) words

-- the text is a reserved word (IEEE 1364-2005, annex B, without those of configurations, which may be names here)
unfoldable pub is_reserved : List ℕ → Bool
is_reserved text = is_some (reserved_word text)

-- the text is the name of a system function that is known (IEEE 1364-2005, 17.7.1 and 17.11.1)
unfoldable pub is_system : List ℕ → Bool
is_system text = is_some (system_function text)
