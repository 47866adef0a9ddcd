-- The first rule that a bound design breaks. Of each rule the first signal or block in the order of the design is named: a signal
-- by its declaration, a block by its text.
use Rattle.std.specs.Prelude.{ℕ, ◌≡◌, ◌⊎◌, ◌==◌, Bool, true, false, not, ◌&&◌, ◌||◌, if◌then◌else◌, List, [], ◌∷◌, slice_get, Option, Some, None}
use Rattle.std.specs.Option.{option_map_or}
use Rattle.std.specs.List.{list_any}
use Rattle.loc_base.specs.declared.span.Span.{Span}
use Rattle.design_core.specs.declared.driver.Driver.{Driver}
use Rattle.design_core.specs.declared.driver.Driver.TheVariants as driver
use Rattle.design_core.specs.declared.design.Design.{Design}
use Rattle.design_rules.specs.First.{IsFirst}
use Rattle.design_rules.specs.Entries.{is_variable}
use Rattle.design_rules.specs.Size.{is_too_large}
use Rattle.design_rules.specs.OneDriver.{IsDrivenTwice}
use Rattle.design_rules.specs.DrivenReads.{IsUndriven}
use Rattle.design_rules.specs.Latches.{IsLatch}
use Rattle.design_rules.specs.Assignments.{is_misassigned}
use Rattle.design_rules.specs.Races.{IsRace}
use Rattle.v_binding.specs.declared.error.BindErr.{BindErr}
use Rattle.v_binding.specs.declared.error.BindErr.TheVariants as fault
use Rattle.v_binding.specs.Starts.{Initial}
use Rattle.bind_rules.specs.Beside.{Beside, no_span}

-- ---- where a broken rule is shown
abbrev pub span_at : List Span → ℕ → Span
span_at spans s = option_map_or (λ span. span) (slice_get spans s) no_span

abbrev pub span_of : Driver → Span
span_of (driver.Cont _ _ _ span) = span
span_of (driver.Comb _ span) = span

abbrev pub driver_span : Design → ℕ → Span
driver_span d i = option_map_or span_of (slice_get d.drivers.items i) no_span

-- ---- assignments: an initial block assigns variables alone
abbrev pub is_initial : ℕ → Initial → Bool
is_initial s i = i.start.signal == s

-- an initial block assigns a signal that is no variable
abbrev pub is_set_first : Design → Beside → ℕ → Bool
is_set_first d b s = not (is_variable d.signals.items s) && list_any (is_initial s) b.initial

abbrev pub is_mixed : Design → Beside → ℕ → Bool
is_mixed d b s = is_misassigned d b.homes s || is_set_first d b s

-- by the declaration, or by the name in the first initial block
abbrev pub initial_span : ℕ → List Initial → Span
initial_span s [] = no_span
initial_span s (i ∷ is) = if is_initial s i then i.span else initial_span s is

abbrev pub mixed_span : Design → Beside → ℕ → Span
mixed_span d b s = if is_misassigned d b.homes s then span_at b.spans s else initial_span s b.initial

-- ---- one rule, then the next
-- a rule is broken, and the first number of which that is so is refused; or it is not, and the next rules answer
abbrev pub First : (ℕ → Type 0) → (ℕ → BindErr) → (Option BindErr → Type 0) → Option BindErr → Type 0
First Breaks refusal Next answer = ((n : ℕ) × IsFirst Breaks (Some n) × (answer ≡ Some (refusal n))) ⊎ (IsFirst Breaks None × Next answer)

-- what a clocked block assigns by `=` is used elsewhere
abbrev pub Races : Design → Beside → Option BindErr → Type 0
Races d b = First (IsRace d b.homes) (λ s. fault.RaceRead (span_at b.spans s)) (λ answer. answer ≡ None)

-- a signal is assigned in two ways, or in one that it can't be
abbrev pub Assigns : Design → Beside → Option BindErr → Type 0
Assigns d b = First (λ s. is_mixed d b s ≡ true) (λ s. fault.MixedAssign (mixed_span d b s)) (Races d b)

-- the clock
abbrev pub AtClock : Option Span → (Option BindErr → Type 0) → Option BindErr → Type 0
AtClock (Some span) Next answer = answer ≡ Some (fault.Clock span)
AtClock None Next answer = Next answer

abbrev pub Clocks : Design → Beside → Option BindErr → Type 0
Clocks d b = AtClock b.clock_fault (Assigns d b)

-- a combinational block holds a bit
abbrev pub Latches : Design → Beside → Option BindErr → Type 0
Latches d b = First (IsLatch d) (λ i. fault.Latch (driver_span d i)) (Clocks d b)

-- a bit of a net that is used has no driver
abbrev pub Undriven : Design → Beside → Option BindErr → Type 0
Undriven d b = First (IsUndriven d) (λ s. fault.Undriven (span_at b.spans s)) (Latches d b)

-- a bit has two drivers
abbrev pub Driven : Design → Beside → Option BindErr → Type 0
Driven d b = First (IsDrivenTwice d) (λ s. fault.MultiDriver (span_at b.spans s)) (Undriven d b)

-- its size
abbrev pub AtSize : Bool → (Option BindErr → Type 0) → Option BindErr → Type 0
AtSize true Next answer = answer ≡ Some fault.Places
AtSize false Next answer = Next answer

-- the first rule that a design breaks, if it breaks one: its size, then the others in turn
abbrev pub IsFirstBroken : Design → Beside → Option BindErr → Type 0
IsFirstBroken d b = AtSize (is_too_large d) (Driven d b)
