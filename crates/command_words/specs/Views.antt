-- What is asked for by values that aren't copied yet: for contracts in the crate alone.
use Rattle.std.specs.Option.{option_map}
use Rattle.requests.specs.Asked.{CheckAsked, FindAsked, ListingAsked, MakeAsked, SessionNames, SourcesAsked}
use Rattle.command_words.specs.declared.check.CheckValues.{CheckValues}
use Rattle.command_words.specs.declared.find.FindValues.{FindValues}
use Rattle.command_words.specs.declared.listing.ListingValues.{ListingValues}
use Rattle.command_words.specs.declared.make.MakeValues.{MakeValues}
use Rattle.command_words.specs.declared.session.SessionValues.{SessionValues}
use Rattle.command_words.specs.declared.sim.SimValues.{SimValues}
use Rattle.word_values.specs.Values.{kinds_in}
use Rattle.word_values.specs.Views.{sources_view}

abbrev pub sim_values : SimValues → SourcesAsked
sim_values values = record { texts = sources_view values.texts; clock = option_map (λ word. word.now) values.clock }

abbrev pub listing_values : ListingValues → ListingAsked
listing_values values = record {
  suspects = kinds_in values.suspects.now;
  size = values.numbers.size;
  budget = values.numbers.budget;
  sets = values.numbers.sets;
  workers = values.numbers.workers;
  log = values.log.now;
  report = values.report.now;
}

abbrev pub session_values : SessionValues → SessionNames
session_values values = record { report = values.report.now; log = values.log.now }

abbrev pub find_values : FindValues → FindAsked
find_values values = record {
  sources = sim_values values.sources;
  listing = listing_values values.listing;
  resume = option_map session_values values.resume;
  waves = option_map (λ word. word.now) values.waves;
  checkpoints = option_map (λ word. word.now) values.checkpoints;
}

abbrev pub check_values : CheckValues → CheckAsked
check_values values = record {
  texts = sources_view values.texts;
  report = values.report.now;
  log = values.log.now;
  workers = values.workers;
}

abbrev pub make_values : MakeValues → MakeAsked
make_values values = record {
  number = values.number;
  design = values.design.now;
  trace = values.trace.now;
  listing = listing_values values.listing;
}
