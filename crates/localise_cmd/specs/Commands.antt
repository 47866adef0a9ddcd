-- Which case the words behind the program's name are: that of the command or the page of help that they ask for, or of words that
-- ask for nothing; and what is promised of a run of the program.
use Rattle.std.specs.Prelude.{ℕ, List, Result, Ok, Err}
use Rattle.command_contract.specs.Contract.{Case, Keeps, Run}
use Rattle.word_values.specs.declared.usage.Usage.{Usage}
use Rattle.requests.specs.Asked.{Asked, find, sim, check, make, help}
use Rattle.command_words.specs.Words.{asked as asked_by}
use Rattle.check_cmd.specs.Checking.{checking}
use Rattle.find_cmd.specs.Finding.{finding}
use Rattle.load_problem.specs.Means.{Suspecting}
use Rattle.make_cmd.specs.Making.{making}
use Rattle.front_end.specs.Means.{Meaning, Refusing}
use Rattle.sim_cmd.specs.Simulation.{simulation}
use Rattle.localise_cmd.specs.Help.{helping}
use Rattle.localise_cmd.specs.Usage.{no_request}

-- ---- what a run works with
-- what designs mean, and why a text means none; the names of the kinds of suspects, and which suspects kinds make
pub record Tools : Type 1 where
  pub means : Meaning
  pub refuses : Refusing
  pub known : List (List ℕ)
  pub suspecting : Suspecting

abbrev pub tools_of : Meaning → Refusing → List (List ℕ) → Suspecting → Tools
tools_of M R known suspecting = record { means = M; refuses = R; known = known; suspecting = suspecting }

-- ---- the case
-- of a request
abbrev pub case_of : Tools → Result Asked Usage → Case
case_of tools (Ok (find asked)) = finding tools.means tools.refuses tools.suspecting asked
case_of tools (Ok (sim asked)) = simulation tools.means tools.refuses asked
case_of tools (Ok (check asked)) = checking tools.means tools.refuses tools.known tools.suspecting asked
case_of tools (Ok (make asked)) = making tools.means tools.refuses tools.suspecting asked
case_of tools (Ok (help asked)) = helping asked
case_of tools (Err usage) = no_request usage

-- a run for these words that ends with a status keeps the promises of their case
unfoldable pub KeepsWords : Tools → List (List ℕ) → Run → ℕ → Type 0
KeepsWords tools words run status = Keeps (case_of tools (asked_by tools.known words)) run status
