-- What a refusal of a circuit means.
use Rattle.gate_base.specs.declared.error.MakeErr.{MakeErr}
use Rattle.gate_base.specs.declared.error.MakeErr.TheVariants as make
use Rattle.bit_circuit.specs.declared.error.BlastErr.{BlastErr}
use Rattle.bit_circuit.specs.declared.error.BlastErr.TheVariants as blast

-- the refusal that the arena's one is
abbrev pub blast_err : MakeErr → BlastErr
blast_err make.Limit = blast.Nodes
blast_err make.NoMemory = blast.NoMemory

-- the cause of a refusal that isn't want of memory
abbrev pub IsRefused : BlastErr → Type 0 → Type 0
IsRefused blast.Nodes cause = cause
IsRefused blast.NoMemory cause = Unit {0}
