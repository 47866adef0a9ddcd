-- The shelf's faults, by the fault of a text.
use Rattle.std.proofs.Common.{ℕ, ◌≡◌, ◌≢◌, List, [], Option, Some, unwrap_or, ap, sym, refl, subst, arith}
use Rattle.std.specs.Prelude.{slice_get}
use Rattle.io_ports.specs.Faults.{FaultCounts}
use Rattle.command_contract.specs.Contract.{NamesFault, read_fault_line}
use Rattle.design_core.specs.declared.signal.Signal.{Signal}
use Rattle.refusal.specs.Codes.{code_line, code_status}
use Rattle.refusal.proofs.Statuses.{code-known}
use Rattle.load_texts.specs.declared.faults.LoadFault.TheVariants as load
use Rattle.load_texts.specs.declared.faults.DesignFault.{DesignFault}
use Rattle.load_texts.specs.declared.faults.DesignFault.TheVariants as design
use Rattle.load_texts.specs.declared.faults.TraceFault.{TraceFault}
use Rattle.load_texts.specs.declared.faults.TraceFault.TheVariants as trace
use Rattle.requests.specs.Asked.{SourcesAsked}
use Rattle.load_texts.specs.Refusals.{design_fault_line, design_fault_status, trace_fault_line, trace_fault_status}
use Rattle.load_texts.specs.Loading.{DesignCounts, TraceCounts, trace_at}
use Rattle.load_texts.proofs.Statuses.{dump-known, known-not_five}

-- ---- the shelf's faults change at 5 alone
pub design-stays : (name : List ℕ) (old new : FaultCounts) (why : DesignFault) → DesignCounts name old new why
    → design_fault_status why ≢ 5 → new ≡ old
design-stays name old new (design.Load load.Fault) counts other = absurd (other refl)
design-stays name old new (design.Load load.Size) counts other = counts
design-stays name old new (design.Load load.NoMemory) counts other = counts
design-stays name old new (design.Text why) counts other = counts

pub trace-stays : (name : List ℕ) (old new : FaultCounts) (why : TraceFault) → TraceCounts name old new why
    → trace_fault_status why ≢ 5 → new ≡ old
trace-stays name old new (trace.Load load.Fault) counts other = absurd (other refl)
trace-stays name old new (trace.Load load.Size) counts other = counts
trace-stays name old new (trace.Load load.NoMemory) counts other = counts
trace-stays name old new (trace.Text why) counts other = counts

-- ---- a load failed then, and the line names its text
pub design-named : (name : List ℕ) (old new : FaultCounts) (why : DesignFault) → DesignCounts name old new why
    → NamesFault old new (design_fault_status why) (design_fault_line name why)
design-named name old new (design.Load load.Fault) counts e = (counts.0, ap (λ n. read_fault_line n) (sym counts.1))
design-named name old new (design.Load load.Size) counts e = absurd (omega (arith, e))
design-named name old new (design.Load load.NoMemory) counts e = absurd (omega (arith, e))
design-named name old new (design.Text why) counts e =
    absurd (known-not_five (code_line why.code) (code_status why.code) (code-known why.code) e)

trace-named : (signals : List Signal) (name : List ℕ) (number : ℕ) (old new : FaultCounts) (why : TraceFault)
    → TraceCounts name old new why → NamesFault old new (trace_fault_status why) (trace_fault_line signals name number why)
trace-named signals name number old new (trace.Load load.Fault) counts e =
    (counts.0, ap (λ n. read_fault_line n) (sym counts.1))
trace-named signals name number old new (trace.Load load.Size) counts e = absurd (omega (arith, e))
trace-named signals name number old new (trace.Load load.NoMemory) counts e = absurd (omega (arith, e))
trace-named signals name number old new (trace.Text why) counts e =
    absurd (known-not_five _ (trace_fault_status (trace.Text why)) (dump-known [] 0 why) e)

-- a trace's by its place
pub trace-named_at : (signals : List Signal) (asked : SourcesAsked) (place : ℕ) (name : List ℕ) (number : ℕ) (old new : FaultCounts)
    (why : TraceFault) → slice_get asked.texts.traces place ≡ Some name → TraceCounts (trace_at asked place) old new why
    → NamesFault old new (trace_fault_status why) (trace_fault_line signals name number why)
trace-named_at signals asked place name number old new why at counts =
    trace-named signals name number old new why
    (subst (λ n. TraceCounts n old new why) (ap (λ (found : Option (List ℕ)). unwrap_or found []) at) counts)
