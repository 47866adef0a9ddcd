-- What the rules want to know beside a design.
use Rattle.std.specs.Prelude.{ℕ, Bool, if◌then◌else◌, List, Option, Some, None}
use Rattle.std.specs.Option.{option_or}
use Rattle.loc_base.specs.declared.span.Span.{Span}
use Rattle.v_binding.specs.Starts.{Initial}

abbrev pub no_span : Span
no_span = record { from = 0; to = 0 }

pub record Beside : Type 0 where
  -- of each signal the first word of its array, and itself where it is no word of one; and the name that declares it
  pub homes : List ℕ
  pub spans : List Span
  -- the start values of initial blocks
  pub initial : List Initial
  -- where the rule of the clock is broken
  pub clock_fault : Option Span

-- the clock: that it is named, what blocks wait for, and what reads it
abbrev pub clock_fault : Bool → Option Span → Option Span → Option Span
clock_fault misnamed misclocked clock_read = option_or (if misnamed then Some no_span else None) (option_or misclocked clock_read)
