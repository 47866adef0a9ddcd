-- What holds of a simulation whose names pass.
use Rattle.std.proofs.Common.{◌≡◌, true}
use Rattle.std.proofs.lemmas.Bool.{and_parts}
use Rattle.word_values.specs.Sources.{are_source_names}
use Rattle.word_values.specs.Values.{is_name, option_all}
use Rattle.word_values.proofs.Holding.{sources-hold}
use Rattle.requests.specs.Asked.{SourcesAsked}
use Rattle.command_words.specs.Sim.{IsSimAsked, are_sim_names}

pub sim-holds : (asked : SourcesAsked) → are_sim_names asked ≡ true → IsSimAsked asked
sim-holds asked names =
    let both = and_parts (are_source_names asked.texts) (option_all is_name asked.clock) names in
    record { texts = sources-hold asked.texts both.0; clock = both.1 }
