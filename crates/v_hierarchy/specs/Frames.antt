-- A scope as contracts see it: its names in the order of their declarations.
use Rattle.std.specs.Prelude.{◌≡◌, ◌⊎◌, List, map, Result, Err}
use Rattle.v_hierarchy.specs.declared.error.ElabErr.{ElabErr}
use Rattle.v_hierarchy.specs.declared.error.ElabErr.TheVariants as fault
use Rattle.v_hierarchy.specs.declared.frame.Frame.{Frame}
use Rattle.v_hierarchy.specs.Names.{Entry}
use Rattle.v_hierarchy.specs.Views.{entry_of}

abbrev pub names_of : Frame → List Entry
names_of frame = map entry_of frame.entries.items

-- a refusal is the definition's, but for want of memory
abbrev pub Refuses : {A : Type 0} → Result A ElabErr → ElabErr → Type 0
Refuses wanted e = (e ≡ fault.NoMemory) ⊎ (wanted ≡ Err e)
