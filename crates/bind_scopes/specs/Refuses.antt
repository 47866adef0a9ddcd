-- A refusal of the code is the definition's, but for want of memory.
use Rattle.std.specs.Prelude.{◌≡◌, ◌⊎◌, Result, Err}
use Rattle.v_binding.specs.declared.error.BindErr.{BindErr}
use Rattle.v_binding.specs.declared.error.BindErr.TheVariants as fault

abbrev pub Refuses : {A : Type 0} → Result A BindErr → BindErr → Type 0
Refuses wanted e = (e ≡ fault.NoMemory) ⊎ (wanted ≡ Err e)
