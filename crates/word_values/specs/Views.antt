-- What values that aren't copied yet say: for contracts of the crates that read words.
use Rattle.std.specs.Prelude.{map, option_map}
use Rattle.word_values.specs.declared.numbers.Numbers.{Numbers}
use Rattle.word_values.specs.declared.sources.Sources.{Sources}
use Rattle.word_values.specs.Numbers.{Numbers as ListNumbers}
use Rattle.requests.specs.Asked.{TextsAsked}

abbrev pub numbers_view : Numbers → ListNumbers
numbers_view numbers = record {
  size = numbers.size;
  budget = numbers.budget;
  sets = numbers.sets;
  workers = numbers.workers;
}

abbrev pub sources_view : Sources → TextsAsked
sources_view sources = record {
  design = sources.design.now;
  format = sources.format;
  top = sources.top.now;
  traces = map (λ word. word.now) sources.traces.now;
  scope = option_map (λ word. word.now) sources.scope;
  zero_inputs = sources.zero_inputs;
}
