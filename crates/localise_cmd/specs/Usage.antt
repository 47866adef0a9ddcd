-- The case of words that ask for nothing: the first thing that is wrong with them is printed, with status 2, and
-- nothing is written.
use Rattle.std.specs.Prelude.{ℕ, ◌≡◌, ◌++◌, List, codes}
use Rattle.printed_text.specs.Numerals.{newline}
use Rattle.command_contract.specs.Contract.{Case, NothingWritten, Run}
use Rattle.word_values.specs.declared.usage.Usage.{Usage}
use Rattle.word_values.specs.declared.usage.Usage.TheVariants.{Command, Words, Number, Name, Kind}
use Rattle.localise_cmd.specs.Printed.{TextCut, TextStopped}

abbrev pub usage_word : Usage → List ℕ
usage_word Command = codes "command"
usage_word Words = codes "words"
usage_word Number = codes "number"
usage_word Name = codes "name"
usage_word Kind = codes "kind"

-- `usage W`
abbrev pub usage_line : Usage → List ℕ
usage_line usage = codes "usage " ++ usage_word usage ++ newline

-- nothing but a line is printed, and nothing is written
pub record SaysUsage (usage : Usage) (run : Run) (status : ℕ) (line : List ℕ) : Type 0 where
  pub has_status : status ≡ 2
  pub has_line : line ≡ usage_line usage

-- nothing is an answer, and nothing may be written
abbrev pub no_request : Usage → Case
no_request usage = record {
  MayAnswer = λ status. ⊥;
  MayRefuse = λ status. status ≡ 2;
  Answered = λ run status. ⊥;
  Refused = SaysUsage usage;
  Stands = NothingWritten;
  Stopped = TextStopped (usage_line usage);
  Cut = TextCut;
  Writes = λ name. ⊥;
  Ready = λ run. ⊥;
}
