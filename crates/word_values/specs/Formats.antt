-- How texts are read: the format of the design's, `verilog`, which stands where the words name none, or `aiger`; and whether unknown
-- inputs of the traces are 0, which `0` says, and no other word.
use Rattle.std.specs.Prelude.{ℕ, Bool, ◌||◌, ◌&&◌, if◌then◌else◌, is_some, List, codes}
use Rattle.std.specs.Str.{bytes_eq}
use Rattle.front_end.specs.declared.format.Format.{Format}
use Rattle.front_end.specs.declared.format.Format.TheVariants.{Verilog, Aiger}
use Rattle.word_values.specs.Arguments.{Row, first_of}
use Rattle.word_values.specs.Numbers.{given_or}
use Rattle.word_values.specs.Values.{option_all}

-- what the words name
abbrev pub format_word : List Row → List ℕ
format_word rows = given_or (codes "format") (codes "verilog") rows

-- whether it is a format
abbrev pub is_format : List ℕ → Bool
is_format word = bytes_eq word (codes "verilog") || bytes_eq word (codes "aiger")

-- the format that it is
abbrev pub format_of : List ℕ → Format
format_of word = if bytes_eq word (codes "aiger") then Aiger else Verilog

-- what is named for unknown inputs, if something is, is 0
abbrev pub is_zero_word : List Row → Bool
is_zero_word rows = option_all (λ word. bytes_eq word (codes "0")) (first_of (codes "x-inputs") rows)

-- unknown inputs are to be read as 0
abbrev pub are_zero_inputs : List Row → Bool
are_zero_inputs rows = is_some (first_of (codes "x-inputs") rows)

-- whether texts can be read as the words say
abbrev pub is_reading_known : List Row → Bool
is_reading_known rows = is_format (format_word rows) && is_zero_word rows
