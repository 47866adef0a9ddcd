-- The arguments that a table of code says.
use Rattle.std.specs.Prelude.{map, option_map}
use Rattle.word_values.specs.declared.table.Table.{Table}
use Rattle.word_values.specs.Arguments.{Arguments}

abbrev pub arguments_of : Table → Arguments
arguments_of table = record {
  command = table.command.now;
  words = map (λ word. word.now) table.words.now;
  rest = option_map (λ word. word.now) table.rest;
  options = map (λ word. word.now) table.options.now;
  flags = map (λ word. word.now) table.flags.now;
}
