-- Whether a flag is given: clap (4.5, `ArgAction::SetTrue`) gives it the value `true` where its word stands, and else `false`.
use Rattle.std.specs.Prelude.{ℕ, Bool, List, codes}
use Rattle.std.specs.Str.{bytes_eq}
use Rattle.word_values.specs.Arguments.{Row}
use Rattle.word_values.specs.Numbers.{given_or}

abbrev pub is_given : List ℕ → List Row → Bool
is_given id rows = bytes_eq (given_or id (codes "false") rows) (codes "true")
