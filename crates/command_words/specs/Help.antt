-- What words ask for that begin with no command that reads or makes texts: a page of help, or the first thing that is wrong with them.
use Rattle.std.specs.Prelude.{ℕ, if◌then◌else◌, List, [], ◌∷◌, Result, Ok, Err, codes}
use Rattle.std.specs.Str.{bytes_eq}
use Rattle.requests.specs.declared.help.HelpPage.{HelpPage}
use Rattle.requests.specs.declared.help.HelpPage.TheVariants.{Overview, Find, Sim, Check, Make, Version}
use Rattle.word_values.specs.declared.usage.Usage.{Usage}
use Rattle.word_values.specs.declared.usage.Usage.TheVariants.{Command, Words}

-- the page of a command
abbrev pub page_of_command : List ℕ → Result HelpPage Usage
page_of_command command =
    if bytes_eq command (codes "find") then Ok Find
    else (if bytes_eq command (codes "sim") then Ok Sim
    else (if bytes_eq command (codes "check") then Ok Check
    else (if bytes_eq command (codes "make") then Ok Make else Err Words)))

-- after `help` stands nothing, or a command
abbrev pub page_after_help : List (List ℕ) → Result HelpPage Usage
page_after_help [] = Ok Overview
page_after_help (command ∷ []) = page_of_command command
page_after_help (command ∷ word ∷ words) = Err Words

-- after a word that asks for a page by itself stands nothing
abbrev pub page_alone : HelpPage → List (List ℕ) → Result HelpPage Usage
page_alone page [] = Ok page
page_alone page (word ∷ words) = Err Words

-- `help`, `help COMMAND`, `--help`, `-h`, `--version`
abbrev pub page_by_word : List ℕ → List (List ℕ) → Result HelpPage Usage
page_by_word word words =
    if bytes_eq word (codes "help") then page_after_help words
    else (if bytes_eq word (codes "--help") then page_alone Overview words
    else (if bytes_eq word (codes "-h") then page_alone Overview words
    else (if bytes_eq word (codes "--version") then page_alone Version words else Err Command)))

abbrev pub page_asked : List (List ℕ) → Result HelpPage Usage
page_asked [] = Err Command
page_asked (word ∷ words) = page_by_word word words
