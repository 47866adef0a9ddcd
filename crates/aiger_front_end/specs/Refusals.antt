-- Why an AIGER text means no design: its file has none, or the drivers of the design have no order.
use Rattle.std.specs.Prelude.{ℕ, ◌≡◌, ◌≢◌, ◌≤◌, List, slice_get, Option, All, Contains}
use Rattle.std.specs.Option.{option_map_or}
use Rattle.loc_base.specs.declared.span.Span.{Span}
use Rattle.design_core.specs.declared.driver.Driver.{Driver}
use Rattle.design_core.specs.declared.driver.Driver.TheVariants as driver
use Rattle.design_core.specs.declared.design.Design.{Design}
use Rattle.design_order.specs.Circle.{IsCircle}
use Rattle.aiger_text.specs.declared.fault.AigerErr.{AigerErr}
use Rattle.aiger_text.specs.declared.fault.AigerErr.TheVariants.{NoMemory}
use Rattle.aiger_design.specs.Means.{IsFile, AigerCause}
use Rattle.aiger_front_end.specs.declared.error.GraphErr.{GraphErr}
use Rattle.aiger_front_end.specs.declared.error.GraphErr.TheVariants.{Text, Circle}

-- the span of a driver: the line of its row, twice
abbrev pub span_of : Driver → Span
span_of (driver.Cont _ _ _ span) = span
span_of (driver.Comb _ span) = span

-- that of the driver of a number
abbrev pub driver_span : Design → ℕ → Span
driver_span d number = option_map_or span_of (slice_get d.drivers.items number) (record { from = 0; to = 0 })

-- drivers that depend on each other in a circle, the least of which has the span
pub record ShowsCircle (d : Design) (span : Span) : Type 0 where
  pub drivers : List ℕ
  pub circle : IsCircle d drivers
  pub number : ℕ
  pub stands : Contains drivers number
  pub least : All (λ i. number ≤ i) drivers
  pub shown : span ≡ driver_span d number

-- the first rule that the text breaks
pub record BreaksRule (text : List ℕ) (clock : Option (List ℕ)) (fault : AigerErr) : Type 0 where
  pub rule : fault ≢ NoMemory
  pub cause : AigerCause text clock fault

-- it breaks none, and drivers of its file's design depend on each other in a circle
pub record HasNoOrder (text top : List ℕ) (clock : Option (List ℕ)) (span : Span) : Type 0 where
  pub design : Design
  pub is_file : IsFile text top clock design
  pub no_order : ShowsCircle design span

-- by the kind of the refusal; want of memory is none of the text's
abbrev pub IsRefusal : List ℕ → List ℕ → Option (List ℕ) → GraphErr → Type 0
IsRefusal text top clock (Text fault) = BreaksRule text clock fault
IsRefusal text top clock (Circle span) = HasNoOrder text top clock span
