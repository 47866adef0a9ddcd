-- Why nothing is listed, in the order in which the causes are looked for: the design's text, the number of suspects, the traces'
-- texts one after another, the numbers of nodes, variables and literals. What is printed, and the status.
use Rattle.std.specs.Prelude.{ℕ, ◌≡◌, ◌+◌, ◌<◌, ◌≤◌, List, length, All, codes}
use Rattle.command_contract.specs.Contract.{Texts}
use Rattle.design_core.specs.declared.design.Design.{Design}
use Rattle.design_core.specs.declared.trace.Trace.{Trace}
use Rattle.refusal.specs.Lines.{limit_line, memory_line}
use Rattle.front_end.specs.Means.{Meaning, Refusing}
use Rattle.load_texts.specs.declared.faults.DesignFault.{DesignFault}
use Rattle.load_texts.specs.declared.faults.TraceFault.{TraceFault}
use Rattle.load_texts.specs.By.{manner_asked}
use Rattle.load_texts.specs.Means.{MeansDesign, MeansTrace}
use Rattle.load_texts.specs.Refusals.{design_fault_line, design_fault_status, trace_fault_line, trace_fault_status}
use Rattle.load_texts.specs.Causes.{DesignCause, TraceRefused}
use Rattle.debug_core.specs.declared.error.DebugErr.{DebugErr}
use Rattle.debug_core.specs.declared.error.DebugErr.TheVariants.{Nodes, Vars, Literals, NoMemory}
use Rattle.debug_core.specs.Problems.{IsRefused, Problem}
use Rattle.requests.specs.Asked.{WantedAsked}
use Rattle.load_problem.specs.Means.{Means, Suspecting, most_suspects}

-- ---- a problem that passes a limit
abbrev pub problem_line : DebugErr → List ℕ
problem_line Nodes = limit_line (codes "Z2")
problem_line Vars = limit_line (codes "Z5")
problem_line Literals = limit_line (codes "Z6")
problem_line NoMemory = memory_line

abbrev pub problem_status : DebugErr → ℕ
problem_status Nodes = 4
problem_status Vars = 4
problem_status Literals = 4
problem_status NoMemory = 7

-- it is refused for it
pub data FormRefused (p : Problem) : ℕ → List ℕ → Type 0 where
  form_fault : (fault : DebugErr) → IsRefused p fault → problem_status fault ≡ 4 → FormRefused p 4 (problem_line fault)

-- ---- suspects
-- a design that is meant has no more suspects than there may be, or has more
abbrev pub HasFewSuspects : Suspecting → WantedAsked → Design → Type 0
HasFewSuspects S asked d = length (S asked.suspects d.places.items) ≤ most_suspects

abbrev pub HasManySuspects : Suspecting → WantedAsked → Design → Type 0
HasManySuspects S asked d = most_suspects < length (S asked.suspects d.places.items)

-- ---- refusals
-- a refusal with its status and its line: what stands before it in the order has its value
pub data Refused (M : Meaning) (R : Refusing) (S : Suspecting) (asked : WantedAsked) (texts : Texts) : ℕ → List ℕ → Type 0 where
  for_design : (fault : DesignFault) → DesignCause R asked.sources texts fault
      → Refused M R S asked texts (design_fault_status fault) (design_fault_line asked.sources.texts.design fault)
  for_suspects : (d : Design) → MeansDesign M asked.sources texts d → HasManySuspects S asked d
      → Refused M R S asked texts 4 (limit_line (codes "Z4"))
  for_trace : (d : Design) (place : ℕ) (name : List ℕ) (fault : TraceFault) → HasFewSuspects S asked d
      → TraceRefused M asked.sources texts d place name fault
      → Refused M R S asked texts (trace_fault_status fault) (trace_fault_line d.signals.items name (place + 1) fault)
  for_problem : (p : Problem) (fault : DebugErr) → Means M S asked texts p → IsRefused p fault
      → Refused M R S asked texts (problem_status fault) (problem_line fault)

-- nothing stands against a list: the design's text means a design, and for each design that it means there are not too many
-- suspects, each trace's text means a trace, and no limit is passed
pub record IsReady (M : Meaning) (S : Suspecting) (asked : WantedAsked) (texts : Texts) : Type 0 where
  pub design : Design
  pub means : MeansDesign M asked.sources texts design
  pub suspects : (d : Design) → MeansDesign M asked.sources texts d → HasFewSuspects S asked d
  pub traces : (d : Design) → MeansDesign M asked.sources texts d
      → All (λ name. (found : Trace) × MeansTrace texts (manner_asked asked.sources) d name found) asked.sources.texts.traces
  pub no_limit : (p : Problem) (fault : DebugErr) → Means M S asked texts p → IsRefused p fault → fault ≡ NoMemory
