-- How the words of any command are read: as its table says, and then its names and its kinds of suspects are held against
-- what they must be.
use Rattle.std.specs.Prelude.{ℕ, Bool, if◌then◌else◌, List, Option, Some, None, Result, Ok, Err}
use Rattle.word_values.specs.declared.usage.Usage.{Usage}
use Rattle.word_values.specs.declared.usage.Usage.TheVariants.{Words, Name, Kind}
use Rattle.word_values.specs.Arguments.{Row}
use Rattle.word_values.specs.Formats.{is_reading_known}
use Rattle.word_values.specs.Values.{are_kinds}

-- what the values of its arguments ask for, where its words stand right
abbrev pub standing : {A : Type 0} → (List Row → Result A Usage) → Option (List Row) → Result A Usage
standing asked None = Err Words
standing asked (Some rows) = asked rows

-- what is asked for, where the format that is named is one, and what is named for unknown inputs is 0
abbrev pub formatted : {A : Type 0} → Bool → Result A Usage → Result A Usage
formatted known (Ok asked) = if known then Ok asked else Err Name
formatted known (Err usage) = Err usage

abbrev pub with_format : {A : Type 0} → (List Row → Result A Usage) → List Row → Result A Usage
with_format asked rows = formatted (is_reading_known rows) (asked rows)

-- what is asked for, where its names pass
abbrev pub named : {A : Type 0} → (A → Bool) → Result A Usage → Result A Usage
named pass (Ok asked) = if pass asked then Ok asked else Err Name
named pass (Err usage) = Err usage

-- what is asked for, where its kinds of suspects are known, each once
abbrev pub kinded : {A : Type 0} → List (List ℕ) → (A → List (List ℕ)) → Result A Usage → Result A Usage
kinded known kinds (Ok asked) = if are_kinds known (kinds asked) then Ok asked else Err Kind
kinded known kinds (Err usage) = Err usage
