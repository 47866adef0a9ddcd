-- The case of words that ask for a page of help: the page is printed, with status 0, and nothing is written.
use Rattle.std.specs.Prelude.{◌≡◌, ◌++◌}
use Rattle.command_contract.specs.Contract.{Case, NothingWritten, Run}
use Rattle.requests.specs.declared.help.HelpPage.{HelpPage}
use Rattle.requests.specs.Asked.{HelpAsked}
use Rattle.command_words.specs.Pages.{page_text}
use Rattle.localise_cmd.specs.Printed.{TextCut, TextStopped}

-- the page is printed and nothing else, and nothing is written
pub record Helped (page : HelpPage) (run : Run) : Type 0 where
  pub printed : run.now_printed ≡ run.printed ++ page_text page
  pub nothing_written : NothingWritten run

-- a page is never refused, nothing stands against it, and nothing may be written
abbrev pub helping : HelpAsked → Case
helping asked = record {
  MayAnswer = λ status. status ≡ 0;
  MayRefuse = λ status. ⊥;
  Answered = λ run status. Helped asked.page run;
  Refused = λ run status line. ⊥;
  Stands = NothingWritten;
  Stopped = TextStopped (page_text asked.page);
  Cut = TextCut;
  Writes = λ name. ⊥;
  Ready = λ run. Unit {0};
}
