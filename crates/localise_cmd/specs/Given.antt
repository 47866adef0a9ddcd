-- Which words a run of the program has, by the arguments that it is given, and what is promised of the run.
use Rattle.std.specs.Prelude.{ℕ, ◌≡◌, List, [], ◌∷◌, Option, Some, None, codes, drop}
use Rattle.command_contract.specs.Contract.{Run}
use Rattle.localise_cmd.specs.Commands.{KeepsWords, Tools}

-- the first argument is the program's name, and the words are all others; where none are given, since they aren't all UTF-8 or memory
-- was wanted for them, the words are some first one and `--`, which ask for nothing
abbrev pub AreWords : Option (List (List ℕ)) → List (List ℕ) → Type 0
AreWords (Some arguments) words = words ≡ drop 1 arguments
AreWords None words = drop 1 words ≡ codes "--" ∷ []

-- a run that is given these arguments and ends with a status keeps the promises of its words
pub record KeepsGiven (tools : Tools) (given : Option (List (List ℕ))) (run : Run) (status : ℕ) : Type 0 where
  pub words : List (List ℕ)
  pub are_words : AreWords given words
  pub keeps : KeepsWords tools words run status
