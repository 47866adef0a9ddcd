-- The value of a number of the text before it is cut to its width.
use Rattle.std.specs.Prelude.{ℕ, ◌+◌, List, drop}
use Rattle.std.specs.Option.{option_map_or}
use Rattle.v_syntax.specs.Literals.{value_of}
use Rattle.v_sizes.specs.Literal.{quote_in, value_behind}

abbrev pub written_value : List ℕ → ℕ
written_value text = option_map_or (λ at. value_behind (drop (at + 1) text)) (quote_in text) (value_of 10 text)
