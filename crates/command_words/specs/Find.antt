-- What the words of `find` ask for: the values of its arguments, with those that stand where an option isn't
-- given, or the first thing that is wrong with them: the numbers, then the names, then the kinds of suspects.
use Rattle.std.specs.Prelude.{◌≡◌, true, ℕ, Bool, not, ◌&&◌, List, [], ◌∷◌, ◌++◌, All, IfSome, Option, Some, None, Result, Ok, Err, codes}
use Rattle.std.specs.List.{list_any}
use Rattle.requests.specs.Asked.{FindAsked, ListingAsked, SessionNames, SourcesAsked}
use Rattle.word_values.specs.declared.usage.Usage.{Usage}
use Rattle.word_values.specs.declared.usage.Usage.TheVariants.{Number}
use Rattle.word_values.specs.Arguments.{Arguments, Row, first_of, values_of}
use Rattle.word_values.specs.Standing.{kinded, named, standing, with_format}
use Rattle.word_values.specs.Paths.{IsOtherPath, is_path_of_one, is_same_path, path_begins}
use Rattle.word_values.specs.Values.{is_file_name, option_all}
use Rattle.command_words.specs.Listing.{IsListingAsked, listing_in}
use Rattle.command_words.specs.Session.{AreSessionNames, are_session_names, session_in, session_texts}
use Rattle.command_words.specs.Sim.{IsSimAsked, are_sim_names, sim_in}

-- `find DESIGN TOP TRACE..` and its options
unfoldable pub find_arguments : Arguments
find_arguments = record {
  command = codes "find";
  words = codes "design" ∷ codes "top" ∷ [];
  rest = Some (codes "trace");
  options = codes "clock" ∷ codes "size" ∷ codes "budget" ∷ codes "sets" ∷ codes "suspects" ∷ codes "workers" ∷ codes "log"
      ∷ codes "report" ∷ codes "resume" ∷ codes "resume-log" ∷ codes "waves" ∷ codes "checkpoint" ∷ codes "format"
      ∷ codes "scope" ∷ codes "x-inputs" ∷ [];
  flags = [];
}

-- ---- what is asked
abbrev pub find_resumed : SourcesAsked → List Row → ListingAsked → Result (Option SessionNames) Usage → Result FindAsked Usage
find_resumed sources rows listing (Ok resume) = Ok (record {
  sources = sources;
  listing = listing;
  resume = resume;
  waves = first_of (codes "waves") rows;
  checkpoints = first_of (codes "checkpoint") rows;
})
find_resumed sources rows listing (Err usage) = Err usage

abbrev pub find_listed : SourcesAsked → List Row → Option ListingAsked → Result FindAsked Usage
find_listed sources rows None = Err Number
find_listed sources rows (Some listing) = find_resumed sources rows listing (session_in rows)

abbrev pub find_of : Result SourcesAsked Usage → List Row → Result FindAsked Usage
find_of (Ok sources) rows = find_listed sources rows (listing_in rows)
find_of (Err usage) rows = Err usage

abbrev pub find_in : List Row → Result FindAsked Usage
find_in rows = find_of (sim_in rows) rows

-- what is read: the design, the traces, and the texts of a session that is gone on from
abbrev pub read_names : FindAsked → List (List ℕ)
read_names asked = asked.sources.texts.design ∷ asked.sources.texts.traces ++ session_texts asked.resume

-- nothing that is read lies there
abbrev pub is_own : FindAsked → List ℕ → Bool
is_own asked name = not (is_path_of_one (read_names asked) name)

-- the log and the report have names of their own
abbrev pub are_written_names : FindAsked → Bool
are_written_names asked =
    is_file_name asked.listing.log && is_file_name asked.listing.report
    && not (is_same_path asked.listing.log asked.listing.report) && is_own asked asked.listing.log && is_own asked asked.listing.report

-- what the names of waves, or of checkpoints, begin with is the name of a file, and with it and `-` no other name begins, as a path
abbrev pub other_names : FindAsked → List (List ℕ)
other_names asked =
    asked.sources.texts.design ∷ asked.listing.log ∷ asked.listing.report ∷ asked.sources.texts.traces ++ session_texts asked.resume

abbrev pub is_prefix : FindAsked → List ℕ → Bool
is_prefix asked prefix = is_file_name prefix && not (list_any (path_begins (prefix ++ codes "-")) (other_names asked))

-- and no name of a wave can begin as one of a checkpoint, nor the other way round
abbrev pub are_fronts_apart : List ℕ → List ℕ → Bool
are_fronts_apart waves checkpoints =
    not (path_begins (checkpoints ++ codes "-") (waves ++ codes "-")) && not (path_begins (waves ++ codes "-") (checkpoints ++ codes "-"))

abbrev pub are_prefixes_apart : Option (List ℕ) → Option (List ℕ) → Bool
are_prefixes_apart (Some waves) (Some checkpoints) = are_fronts_apart waves checkpoints
are_prefixes_apart _ _ = true

abbrev pub are_find_names : FindAsked → Bool
are_find_names asked =
    are_sim_names asked.sources && option_all are_session_names asked.resume && are_written_names asked
    && option_all (is_prefix asked) asked.waves && option_all (is_prefix asked) asked.checkpoints
    && are_prefixes_apart asked.waves asked.checkpoints

-- the words of the command, itself the first, where kinds of suspects of these names are known
abbrev pub find_asked : List (List ℕ) → List (List ℕ) → Result FindAsked Usage
find_asked known words =
    kinded known (λ asked. asked.listing.suspects) (named are_find_names (standing (with_format find_in) (values_of find_arguments words)))

-- ---- what holds of what is asked for
-- the names of waves, or of checkpoints, begin with a file's name and `-`, and no other name is the path of one that does
pub record IsPrefix (asked : FindAsked) (prefix : List ℕ) : Type 0 where
  pub is_name : is_file_name prefix ≡ true
  pub own : All (λ name. (rest : List ℕ) → IsOtherPath name ((prefix ++ codes "-") ++ rest)) (other_names asked)

-- where kinds of suspects of these names are known
pub record IsFindAsked (known : List (List ℕ)) (asked : FindAsked) : Type 0 where
  pub sources : IsSimAsked asked.sources
  pub listing : IsListingAsked known asked.listing
  pub resume : IfSome asked.resume AreSessionNames
  pub log : is_file_name asked.listing.log ≡ true
  pub report : is_file_name asked.listing.report ≡ true
  -- the log and the report have paths of their own, and so have the waves and the checkpoints
  pub apart : IsOtherPath asked.listing.log asked.listing.report
  pub own_log : All (λ name. IsOtherPath name asked.listing.log) (read_names asked)
  pub own_report : All (λ name. IsOtherPath name asked.listing.report) (read_names asked)
  pub waves : IfSome asked.waves (IsPrefix asked)
  pub checkpoints : IfSome asked.checkpoints (IsPrefix asked)
