-- What is bound so far: the lists of the design, and what the rules want to know beside them.
use Rattle.std.specs.Prelude.{ℕ, Bool, if◌then◌else◌, List, [], ◌∷◌, ◌++◌, Option, Some, None}
use Rattle.std.specs.Option.{option_or}
use Rattle.loc_base.specs.declared.span.Span.{Span}
use Rattle.design_core.specs.declared.driver.Driver.{Driver}
use Rattle.design_core.specs.declared.driver.Clocked.{Clocked}
use Rattle.design_core.specs.declared.place.Place.{Place}
use Rattle.v_binding.specs.Starts.{Start, Initial}

-- a 1-bit input of the top, or an input port that plain names connect to it
pub record Root : Type 0 where
  pub signal : ℕ
  pub input : ℕ

pub record Bound : Type 0 where
  pub places : List Place
  pub drivers : List Driver
  pub clocked : List Clocked
  -- the words of all arrays
  pub words : ℕ
  -- start values of declarations, and of initial blocks
  pub declared : List Start
  pub initial : List Initial
  pub roots : List Root
  -- the first clocked block that waits for another edge than the clock's, or has a reset of another form; and the first driver or
  -- block that reads the clock
  pub misclocked : Option Span
  pub clock_read : Option Span

abbrev pub with_places : List Place → Bound → Bound
with_places places b =
    record { places = places; drivers = b.drivers; clocked = b.clocked; words = b.words; declared = b.declared; initial = b.initial; roots = b.roots; misclocked = b.misclocked; clock_read = b.clock_read }

abbrev pub with_driver : Driver → Bound → Bound
with_driver driver b =
    record { places = b.places; drivers = b.drivers ++ driver ∷ []; clocked = b.clocked; words = b.words; declared = b.declared; initial = b.initial; roots = b.roots; misclocked = b.misclocked; clock_read = b.clock_read }

abbrev pub with_clocked : Clocked → Bound → Bound
with_clocked block b =
    record { places = b.places; drivers = b.drivers; clocked = b.clocked ++ block ∷ []; words = b.words; declared = b.declared; initial = b.initial; roots = b.roots; misclocked = b.misclocked; clock_read = b.clock_read }

abbrev pub with_words : ℕ → Bound → Bound
with_words words b =
    record { places = b.places; drivers = b.drivers; clocked = b.clocked; words = words; declared = b.declared; initial = b.initial; roots = b.roots; misclocked = b.misclocked; clock_read = b.clock_read }

abbrev pub with_declared : Start → Bound → Bound
with_declared start b =
    record { places = b.places; drivers = b.drivers; clocked = b.clocked; words = b.words; declared = b.declared ++ start ∷ []; initial = b.initial; roots = b.roots; misclocked = b.misclocked; clock_read = b.clock_read }

abbrev pub with_initial : Initial → Bound → Bound
with_initial start b =
    record { places = b.places; drivers = b.drivers; clocked = b.clocked; words = b.words; declared = b.declared; initial = b.initial ++ start ∷ []; roots = b.roots; misclocked = b.misclocked; clock_read = b.clock_read }

abbrev pub with_root : Root → Bound → Bound
with_root root b =
    record { places = b.places; drivers = b.drivers; clocked = b.clocked; words = b.words; declared = b.declared; initial = b.initial; roots = b.roots ++ root ∷ []; misclocked = b.misclocked; clock_read = b.clock_read }

abbrev pub with_misclocked : Bool → Span → Bound → Bound
with_misclocked breaks span b =
    record { places = b.places; drivers = b.drivers; clocked = b.clocked; words = b.words; declared = b.declared; initial = b.initial; roots = b.roots; misclocked = option_or b.misclocked (if breaks then Some span else None); clock_read = b.clock_read }

abbrev pub with_clock_read : Bool → Span → Bound → Bound
with_clock_read reads span b =
    record { places = b.places; drivers = b.drivers; clocked = b.clocked; words = b.words; declared = b.declared; initial = b.initial; roots = b.roots; misclocked = b.misclocked; clock_read = option_or b.clock_read (if reads then Some span else None) }
