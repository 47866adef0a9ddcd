-- What a text is read by, as plain data.
use Rattle.std.specs.Prelude.{ℕ, List, Option}
use Rattle.std.specs.Option.{option_copied}
use Rattle.front_end.specs.declared.format.Format.{Format}
use Rattle.front_end.specs.declared.read_by.ReadBy.{ReadBy}

-- the format; the names of the module that is the top, and of the clock, if one is given
pub record By : Type 0 where
  pub format : Format
  pub top : List ℕ
  pub clock : Option (List ℕ)

abbrev pub by_of : ReadBy → By
by_of by = record { format = by.format; top = by.top.now; clock = option_copied by.clock }
