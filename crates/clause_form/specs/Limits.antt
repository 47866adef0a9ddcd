-- What a refusal of a form means.
use Rattle.clause_form.specs.declared.error.FormErr.{FormErr}
use Rattle.clause_form.specs.declared.error.FormErr.TheVariants.{Literals, NoMemory}

-- the cause of a refusal that isn't want of memory
abbrev pub IsRefused : FormErr → Type 0 → Type 0
IsRefused Literals cause = cause
IsRefused NoMemory cause = Unit {0}
