-- The symbols: operators and marks of punctuation (IEEE 1364-2005, 3.4 and 5.1).
use Rattle.std.specs.Prelude.{ℕ, Bool, false, ◌&&◌, ◌||◌, List, [], ◌∷◌, if◌then◌else◌, ◌==◌, codes}
use Rattle.std.specs.List.{list_any}
use Rattle.v_syntax.specs.Bytes.{is_mark}

-- the bytes that make a symbol of two bytes when they stand behind this one:
-- ** ~& ~| ~^ ^~ && || << <= >> >= == != +: -:
unfoldable pub seconds : ℕ → List ℕ
seconds first =
    if first == 42 then codes "*"
    else if first == 126 then codes "&|^"
    else if first == 94 then codes "~"
    else if first == 38 then codes "&"
    else if first == 124 then codes "|"
    else if first == 60 then codes "<="
    else if first == 62 then codes ">="
    else if first == 61 then codes "="
    else if first == 33 then codes "="
    else if first == 43 then codes ":"
    else if first == 45 then codes ":"
    else []

-- the two bytes are a symbol
abbrev pub is_double : ℕ → ℕ → Bool
is_double first second = list_any (λ byte. second == byte) (seconds first)

-- the three bytes are a symbol: <<< or >>>
abbrev pub is_triple : ℕ → ℕ → ℕ → Bool
is_triple first second third = (first == 60 || first == 62) && second == first && third == first

-- the bytes are a symbol
abbrev pub is_symbol : List ℕ → Bool
is_symbol [] = false
is_symbol (first ∷ []) = is_mark first
is_symbol (first ∷ second ∷ []) = is_double first second
is_symbol (first ∷ second ∷ third ∷ []) = is_triple first second third
is_symbol (first ∷ second ∷ third ∷ fourth ∷ rest) = false
