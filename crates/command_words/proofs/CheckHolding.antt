-- What holds of a check whose names pass.
use Rattle.std.proofs.Common.{◌≡◌, ◌&&◌, true}
use Rattle.std.proofs.lemmas.Bool.{and_parts}
use Rattle.word_values.specs.Numbers.{IsFrom}
use Rattle.word_values.specs.Sources.{AreSources, are_source_names}
use Rattle.word_values.specs.Values.{is_file_name}
use Rattle.word_values.proofs.Holding.{sources-hold}
use Rattle.requests.specs.Asked.{CheckAsked}
use Rattle.command_words.specs.Check.{IsCheckAsked, are_check_names}

-- the names pass
record AreChecked (asked : CheckAsked) : Type 0 where
  pub texts : AreSources asked.texts
  pub report : is_file_name asked.report ≡ true
  pub log : is_file_name asked.log ≡ true

names-hold : (asked : CheckAsked) → are_check_names asked ≡ true → AreChecked asked
names-hold asked names =
    let texts = are_source_names asked.texts in
    let both = and_parts (texts && is_file_name asked.report) (is_file_name asked.log) names in
    let first = and_parts texts (is_file_name asked.report) both.0 in
    record { texts = sources-hold asked.texts first.0; report = first.1; log = both.1 }

pub texts-named : (asked : CheckAsked) → are_check_names asked ≡ true → are_source_names asked.texts ≡ true
texts-named asked names =
    let both = and_parts (are_source_names asked.texts && is_file_name asked.report) (is_file_name asked.log) names in
    (and_parts (are_source_names asked.texts) (is_file_name asked.report) both.0).0

pub check-holds : (asked : CheckAsked) → are_check_names asked ≡ true → IsFrom 1 64 asked.workers → IsCheckAsked asked
check-holds asked names workers =
    let held = names-hold asked names in
    record { texts = held.texts; report = held.report; log = held.log; workers = workers }
