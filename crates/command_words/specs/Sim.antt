-- What the words of `sim` ask for: the values of its arguments, or the first thing that is wrong with them.
use Rattle.std.specs.Prelude.{◌≡◌, true, ℕ, Bool, ◌&&◌, List, [], ◌∷◌, Option, Some, None, Result, Ok, Err, codes}
use Rattle.requests.specs.Asked.{SimAsked, SourcesAsked, TextsAsked}
use Rattle.word_values.specs.declared.usage.Usage.{Usage}
use Rattle.word_values.specs.declared.usage.Usage.TheVariants.{Words}
use Rattle.word_values.specs.Arguments.{Arguments, Row, first_of, values_of}
use Rattle.word_values.specs.Flags.{is_given}
use Rattle.word_values.specs.Sources.{AreSources, are_source_names, sources_in}
use Rattle.word_values.specs.Standing.{named, standing, with_format}
use Rattle.word_values.specs.Values.{is_name, option_all}

-- `sim DESIGN TOP TRACE.. [--clock NAME] [--format F] [--scope S] [--x-inputs 0] [--exit-code]`
unfoldable pub sim_arguments : Arguments
sim_arguments = record {
  command = codes "sim";
  words = codes "design" ∷ codes "top" ∷ [];
  rest = Some (codes "trace");
  options = codes "clock" ∷ codes "format" ∷ codes "scope" ∷ codes "x-inputs" ∷ [];
  flags = codes "exit-code" ∷ [];
}

-- ---- what is asked
abbrev pub sim_of : Option TextsAsked → Option (List ℕ) → Result SourcesAsked Usage
sim_of (Some texts) clock =
    Ok (record { texts = texts; clock = clock })
sim_of None clock = Err Words

abbrev pub sim_in : List Row → Result SourcesAsked Usage
sim_in rows = sim_of (sources_in rows) (first_of (codes "clock") rows)

-- the names are names, and there are 1 to 256 traces
abbrev pub are_sim_names : SourcesAsked → Bool
are_sim_names asked = are_source_names asked.texts && option_all is_name asked.clock

-- the words of the command, itself the first
abbrev pub simulated : Bool → Result SourcesAsked Usage → Result SimAsked Usage
simulated exit_code (Ok sources) = Ok (record { sources = sources; exit_code = exit_code })
simulated exit_code (Err usage) = Err usage

abbrev pub simulation_in : List Row → Result SimAsked Usage
simulation_in rows = simulated (is_given (codes "exit-code") rows) (sim_in rows)

abbrev pub are_simulation_names : SimAsked → Bool
are_simulation_names asked = are_sim_names asked.sources

abbrev pub sim_asked : List (List ℕ) → Result SimAsked Usage
sim_asked words = named are_simulation_names (standing (with_format simulation_in) (values_of sim_arguments words))

-- ---- what holds of what is asked for
pub record IsSimAsked (asked : SourcesAsked) : Type 0 where
  pub texts : AreSources asked.texts
  pub clock : option_all is_name asked.clock ≡ true
