-- What holds of a list of sets whose names and kinds pass.
use Rattle.std.proofs.Common.{ℕ, ◌≡◌, ◌≢◌, ◌&&◌, true, not, List, [], ◌++◌, Option, Some, None, codes}
use Rattle.std.specs.Prelude.{All, IfSome}
use Rattle.std.specs.List.{list_any}
use Rattle.std.proofs.lemmas.Bool.{and_parts}
use Rattle.word_values.specs.Numbers.{AreNumbers}
use Rattle.word_values.specs.Values.{are_kinds, is_file_name, option_all}
use Rattle.word_values.specs.Paths.{IsOtherPath, is_same_path, path_begins}
use Rattle.word_values.proofs.SamePaths.{no_path-All, no_path-begins, paths-apart}
use Rattle.requests.specs.Asked.{FindAsked, SessionNames}
use Rattle.command_words.specs.Listing.{numbers_of}
use Rattle.command_words.specs.Find.{IsFindAsked, IsPrefix, are_find_names, are_prefixes_apart, are_written_names, is_own, is_prefix, other_names, read_names}
use Rattle.command_words.specs.Session.{AreSessionNames, are_session_names}
use Rattle.command_words.specs.Sim.{are_sim_names}
use Rattle.command_words.proofs.ListingHolding.{listing-holds}
use Rattle.command_words.proofs.SimHolding.{sim-holds}

-- ---- names
record AreWritten (asked : FindAsked) : Type 0 where
  pub log : is_file_name asked.listing.log ≡ true
  pub report : is_file_name asked.listing.report ≡ true
  pub apart_names : IsOtherPath asked.listing.log asked.listing.report
  pub own_log : All (λ name. IsOtherPath name asked.listing.log) (read_names asked)
  pub own_report : All (λ name. IsOtherPath name asked.listing.report) (read_names asked)

written-hold : (asked : FindAsked) → are_written_names asked ≡ true → AreWritten asked
written-hold asked names =
    let log = is_file_name asked.listing.log in
    let report = is_file_name asked.listing.report in
    let differ = not (is_same_path asked.listing.log asked.listing.report) in
    let last = and_parts (log && report && differ && is_own asked asked.listing.log) (is_own asked asked.listing.report) names in
    let own = and_parts (log && report && differ) (is_own asked asked.listing.log) last.0 in
    let two = and_parts (log && report) differ own.0 in
    let first = and_parts log report two.0 in
    record {
      log = first.0;
      report = first.1;
      apart_names = paths-apart asked.listing.log asked.listing.report two.1;
      own_log = no_path-All (read_names asked) asked.listing.log own.1;
      own_report = no_path-All (read_names asked) asked.listing.report last.1;
    }

session-holds : (resume : Option SessionNames) → option_all are_session_names resume ≡ true → IfSome resume AreSessionNames
session-holds None names = tt
session-holds (Some session) names =
    let both = and_parts (is_file_name session.report) (is_file_name session.log) names in
    record { report = both.0; log = both.1 }

prefix-holds : (asked : FindAsked) (prefix : Option (List ℕ)) → option_all (is_prefix asked) prefix ≡ true
    → IfSome prefix (IsPrefix asked)
prefix-holds asked None names = tt
prefix-holds asked (Some prefix) names =
    let both = and_parts (is_file_name prefix) (not (list_any (path_begins (prefix ++ codes "-")) (other_names asked))) names in
    record { is_name = both.0; own = no_path-begins prefix (other_names asked) both.1 }

-- ---- a list of sets
pub find-holds : (known : List (List ℕ)) (asked : FindAsked) → are_find_names asked ≡ true → are_kinds known asked.listing.suspects ≡ true
    → asked.listing.suspects ≢ [] → AreNumbers (numbers_of asked.listing) → IsFindAsked known asked
find-holds known asked names kinds some within =
    let waves = option_all (is_prefix asked) asked.waves in
    let session = option_all are_session_names asked.resume in
    let checkpoints = option_all (is_prefix asked) asked.checkpoints in
    let apart = and_parts (are_sim_names asked.sources && session && are_written_names asked && waves && checkpoints)
    (are_prefixes_apart asked.waves asked.checkpoints) names in
    let both = and_parts (are_sim_names asked.sources && session && are_written_names asked && waves) checkpoints apart.0 in
    let all = and_parts (are_sim_names asked.sources && session && are_written_names asked) waves both.0 in
    let read = and_parts (are_sim_names asked.sources && session) (are_written_names asked) all.0 in
    let first = and_parts (are_sim_names asked.sources) session read.0 in
    let written = written-hold asked read.1 in
    record {
      sources = sim-holds asked.sources first.0;
      listing = listing-holds known asked.listing kinds some within;
      resume = session-holds asked.resume first.1;
      log = written.log;
      report = written.report;
      apart = written.apart_names;
      own_log = written.own_log;
      own_report = written.own_report;
      waves = prefix-holds asked asked.waves all.1;
      checkpoints = prefix-holds asked asked.checkpoints both.1;
    }
