-- What the words behind the program's name ask for, or the first thing that is wrong with them: the command's name,
-- then how its words stand, then the numbers, then the names, then the kinds of suspects. The first word is the command.
use Rattle.std.specs.Prelude.{ℕ, if◌then◌else◌, List, [], ◌∷◌, Result, Ok, Err, codes}
use Rattle.std.specs.Str.{bytes_eq}
use Rattle.word_values.specs.declared.usage.Usage.{Usage}
use Rattle.word_values.specs.declared.usage.Usage.TheVariants.{Command}
use Rattle.command_words.specs.Check.{check_asked}
use Rattle.command_words.specs.Find.{find_asked}
use Rattle.command_words.specs.Help.{page_asked}
use Rattle.command_words.specs.Sim.{sim_asked}
use Rattle.command_words.specs.Make.{make_asked}
use Rattle.requests.specs.Asked.{Asked, find, sim, check, make, help}

-- what one command's words ask for, as what any command's do
abbrev pub as_asked : {A : Type 0} → (A → Asked) → Result A Usage → Result Asked Usage
as_asked command (Ok asked) = Ok (command asked)
as_asked command (Err usage) = Err usage

abbrev pub asked_of_command : List (List ℕ) → List ℕ → List (List ℕ) → Result Asked Usage
asked_of_command known command words =
    if bytes_eq command (codes "find") then as_asked find (find_asked known words)
    else (if bytes_eq command (codes "sim") then as_asked sim (sim_asked words)
    else (if bytes_eq command (codes "check") then as_asked check (check_asked words)
    else (if bytes_eq command (codes "make") then as_asked make (make_asked known words)
    else as_asked (λ page. help (record { page = page })) (page_asked words))))

-- where kinds of suspects of these names are known
abbrev pub asked : List (List ℕ) → List (List ℕ) → Result Asked Usage
asked known [] = Err Command
asked known (command ∷ words) = asked_of_command known command (command ∷ words)
