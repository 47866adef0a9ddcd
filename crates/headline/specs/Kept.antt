-- What is promised of each run of `run_words`, as a run of this crate has it.
use Rattle.std.specs.Prelude.{ℕ, ◌≡◌, List, Ok, true}
use Rattle.command_words.specs.Words.{asked as asked_by}
use Rattle.requests.specs.Asked.{Asked, check, find}
use Rattle.localise_cmd.specs.Commands.{KeepsWords, Tools, tools_of}
use Rattle.localise_cmd.specs.Formats.{HasError, means_by}
use Rattle.headline.specs.Runs.{CheckRun, FindRun, WordsRun}

-- a run works with these kinds, and its designs are in the format that the words name
abbrev pub tools_for : WordsRun → Tools
tools_for of = tools_of means_by HasError of.known of.suspecting

-- shelf and sink tell what they hold, the words ask for this, and the run keeps what is promised of it
pub record IsKept (of : WordsRun) (asked : Asked) : Type 0 where
  pub keeps : KeepsWords (tools_for of) of.words of.run of.status
  pub told : of.run.told ≡ true
  pub words : asked_by of.known of.words ≡ Ok asked

abbrev pub IsKeptFind : FindRun → Type 0
IsKeptFind r = IsKept r.of (find r.asked)

abbrev pub IsKeptCheck : CheckRun → Type 0
IsKeptCheck r = IsKept r.of (check r.asked)
