-- What holds of what is asked for.
use Rattle.std.specs.Prelude.{ℕ, List}
use Rattle.requests.specs.Asked.{Asked, find, sim, check, make, help}
use Rattle.command_words.specs.Check.{IsCheckAsked}
use Rattle.command_words.specs.Find.{IsFindAsked}
use Rattle.command_words.specs.Sim.{IsSimAsked}
use Rattle.command_words.specs.Make.{IsMakeAsked}

-- where kinds of suspects of these names are known
abbrev pub IsAsked : List (List ℕ) → Asked → Type 0
IsAsked known (find asked) = IsFindAsked known asked
IsAsked known (sim asked) = IsSimAsked asked.sources
IsAsked known (check asked) = IsCheckAsked asked
IsAsked known (make asked) = IsMakeAsked known asked
IsAsked known (help asked) = Unit {0}
