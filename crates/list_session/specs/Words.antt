-- The words behind the code of a line that says what of a list fails. Sets, steps and traces are counted from 1, cycles from 0; an output is
-- given by its name.
use Rattle.std.specs.Prelude.{ℕ, ◌+◌, List, [], ◌++◌, slice_get, codes, decimal}
use Rattle.std.specs.Option.{option_map_or}
use Rattle.cycle_sim.specs.declared.miss.Miss.{Miss}
use Rattle.design_core.specs.declared.design.Design.{Design}
use Rattle.load_texts.specs.Dumps.{port_name}

-- the name of the output of a number, from 0
abbrev pub output_name : Design → ℕ → List ℕ
output_name d number = option_map_or (port_name d.signals.items) (slice_get d.outputs.items number) []

-- a space and a number
abbrev pub number_word : ℕ → List ℕ
number_word n = codes " " ++ decimal n

-- two of them
abbrev pub pair_words : ℕ → ℕ → List ℕ
pair_words one other = number_word one ++ number_word other

-- `TRACE CYCLE OUTPUT`, each after a space
abbrev pub miss_words : Design → Miss → List ℕ
miss_words d miss = number_word (miss.trace + 1) ++ number_word miss.cycle ++ codes " " ++ output_name d miss.output
