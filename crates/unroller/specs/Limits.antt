-- What a refusal of an unrolled form means.
use Rattle.gate_base.specs.declared.error.MakeErr.{MakeErr}
use Rattle.gate_base.specs.declared.error.MakeErr.TheVariants as make
use Rattle.unroller.specs.declared.error.UnrollErr.{UnrollErr}
use Rattle.unroller.specs.declared.error.UnrollErr.TheVariants as unroll

-- the refusal that the arena's one is
abbrev pub unroll_err : MakeErr → UnrollErr
unroll_err make.Limit = unroll.Vars
unroll_err make.NoMemory = unroll.NoMemory

-- the cause of a refusal that isn't want of memory
abbrev pub IsRefused : UnrollErr → Type 0 → Type 0
IsRefused unroll.Vars cause = cause
IsRefused unroll.NoMemory cause = Unit {0}
