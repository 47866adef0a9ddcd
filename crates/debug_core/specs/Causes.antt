-- Which refusal of the debugger a refusal below it is; only private contracts cite it.
use Rattle.bit_circuit.specs.declared.error.BlastErr.{BlastErr}
use Rattle.bit_circuit.specs.declared.error.BlastErr.TheVariants as blast
use Rattle.unroller.specs.declared.error.UnrollErr.{UnrollErr}
use Rattle.unroller.specs.declared.error.UnrollErr.TheVariants as unroll
use Rattle.clause_form.specs.declared.error.FormErr.{FormErr}
use Rattle.clause_form.specs.declared.error.FormErr.TheVariants as form
use Rattle.debug_core.specs.declared.error.DebugErr.{DebugErr}
use Rattle.debug_core.specs.declared.error.DebugErr.TheVariants as debug

abbrev pub blast_cause : BlastErr → DebugErr
blast_cause blast.Nodes = debug.Nodes
blast_cause blast.NoMemory = debug.NoMemory

abbrev pub unroll_cause : UnrollErr → DebugErr
unroll_cause unroll.Vars = debug.Vars
unroll_cause unroll.NoMemory = debug.NoMemory

abbrev pub form_cause : FormErr → DebugErr
form_cause form.Literals = debug.Literals
form_cause form.NoMemory = debug.NoMemory
