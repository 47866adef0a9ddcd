-- What requests ask.
use Rattle.std.specs.Prelude.{map, string_bytes}
use Rattle.std.specs.Option.{option_copied, option_map}
use Rattle.requests.specs.declared.help.HelpRequest.{HelpRequest}
use Rattle.requests.specs.declared.listing.Listing.{Listing}
use Rattle.requests.specs.declared.requests.CheckRequest.{CheckRequest}
use Rattle.requests.specs.declared.requests.FindRequest.{FindRequest}
use Rattle.requests.specs.declared.requests.MakeRequest.{MakeRequest}
use Rattle.requests.specs.declared.requests.Request.{Request}
use Rattle.requests.specs.declared.requests.Request.TheVariants.{Find, Sim, Check, Make, Help}
use Rattle.requests.specs.declared.requests.SimRequest.{SimRequest}
use Rattle.requests.specs.declared.session.SessionNames.{SessionNames as NamesInCode}
use Rattle.requests.specs.declared.sources.Reading.{Reading}
use Rattle.requests.specs.declared.sources.Sources.{Sources}
use Rattle.requests.specs.declared.texts.Texts.{Texts}
use Rattle.requests.specs.declared.wanted.Wanted.{Wanted}
use Rattle.requests.specs.Asked.{Asked, CheckAsked, FindAsked, HelpAsked, ListingAsked, MakeAsked, SessionNames, SimAsked, SourcesAsked, TextsAsked, WantedAsked, find, sim, check, make, help}

-- ---- what is read
abbrev pub texts_asked : Texts → TextsAsked
texts_asked texts = record {
  design = string_bytes texts.design;
  format = texts.format;
  top = texts.top;
  traces = map string_bytes texts.traces.items;
  scope = texts.scope;
  zero_inputs = texts.zero_inputs;
}

abbrev pub reading_asked : Reading → SourcesAsked
reading_asked reading = record { texts = texts_asked reading.texts; clock = reading.clock }

abbrev pub sources_asked : Sources → SourcesAsked
sources_asked sources = record { texts = texts_asked sources.texts.now; clock = option_copied sources.clock }

-- ---- a list
abbrev pub wanted_asked : Wanted → WantedAsked
wanted_asked wanted = record {
  sources = sources_asked wanted.sources;
  suspects = wanted.suspects.now;
  size = wanted.size;
}

abbrev pub listing_asked : Listing → ListingAsked
listing_asked listing = record {
  suspects = listing.suspects.items;
  size = listing.size;
  budget = listing.budget;
  sets = listing.sets;
  workers = listing.workers;
  log = string_bytes listing.log;
  report = string_bytes listing.report;
}

-- ---- the commands
abbrev pub session_names : NamesInCode → SessionNames
session_names names = record { report = string_bytes names.report; log = string_bytes names.log }

abbrev pub find_asked : FindRequest → FindAsked
find_asked request = record {
  sources = reading_asked request.reading;
  listing = listing_asked request.listing;
  resume = option_map session_names request.resume;
  waves = option_map string_bytes request.waves;
  checkpoints = option_map string_bytes request.checkpoints;
}

abbrev pub sim_asked : SimRequest → SimAsked
sim_asked request = record { sources = reading_asked request.reading; exit_code = request.exit_code }

abbrev pub check_asked : CheckRequest → CheckAsked
check_asked request = record {
  texts = texts_asked request.texts;
  report = string_bytes request.report;
  log = string_bytes request.log;
  workers = request.workers;
}

abbrev pub make_asked : MakeRequest → MakeAsked
make_asked request = record {
  number = request.number;
  design = string_bytes request.design;
  trace = string_bytes request.trace;
  listing = listing_asked request.listing;
}

abbrev pub help_asked : HelpRequest → HelpAsked
help_asked request = record { page = request.page }

abbrev pub asked_of : Request → Asked
asked_of (Find request) = find (find_asked request)
asked_of (Sim request) = sim (sim_asked request)
asked_of (Check request) = check (check_asked request)
asked_of (Make request) = make (make_asked request)
asked_of (Help request) = help (help_asked request)
