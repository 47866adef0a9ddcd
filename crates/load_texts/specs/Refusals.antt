-- Why there is no design, or no trace: what is printed then, and the status of the program.
use Rattle.std.specs.Prelude.{ℕ, List, codes}
use Rattle.design_core.specs.declared.signal.Signal.{Signal}
use Rattle.refusal.specs.Codes.{code_line, code_status}
use Rattle.refusal.specs.Lines.{fault_line, limit_line, memory_line}
use Rattle.load_texts.specs.Dumps.{dump_line, dump_status}
use Rattle.load_texts.specs.declared.faults.LoadFault.{LoadFault}
use Rattle.load_texts.specs.declared.faults.LoadFault.TheVariants as load
use Rattle.load_texts.specs.declared.faults.DesignFault.{DesignFault}
use Rattle.load_texts.specs.declared.faults.DesignFault.TheVariants as design
use Rattle.load_texts.specs.declared.faults.TraceFault.{TraceFault}
use Rattle.load_texts.specs.declared.faults.TraceFault.TheVariants as trace

-- ---- a text that isn't handed over, by its name
abbrev pub load_line : List ℕ → LoadFault → List ℕ
load_line name load.Size = limit_line (codes "size")
load_line name load.Fault = fault_line name
load_line name load.NoMemory = memory_line

abbrev pub load_status : LoadFault → ℕ
load_status load.Size = 4
load_status load.Fault = 5
load_status load.NoMemory = 7

-- ---- the design's, and a trace's: `name` is that of its text
abbrev pub design_fault_line : List ℕ → DesignFault → List ℕ
design_fault_line name (design.Load fault) = load_line name fault
design_fault_line name (design.Text refusal) = code_line refusal.code

abbrev pub design_fault_status : DesignFault → ℕ
design_fault_status (design.Load fault) = load_status fault
design_fault_status (design.Text refusal) = code_status refusal.code

abbrev pub trace_fault_line : List Signal → List ℕ → ℕ → TraceFault → List ℕ
trace_fault_line signals name number (trace.Load fault) = load_line name fault
trace_fault_line signals name number (trace.Text fault) = dump_line signals number fault

abbrev pub trace_fault_status : TraceFault → ℕ
trace_fault_status (trace.Load fault) = load_status fault
trace_fault_status (trace.Text fault) = dump_status fault
