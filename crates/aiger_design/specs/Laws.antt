-- What the laws of files say.
use Rattle.std.specs.Prelude.{ℕ, ◌≡◌, ◌+◌, ◌≤◌, List, length, Option}
use Rattle.design_core.specs.declared.design.Design.{Design}
use Rattle.design_core.specs.WellFormed.{IsWellFormed}
use Rattle.design_core.specs.DrivenOnce.{IsDrivenOnce}
use Rattle.aiger_text.specs.declared.fault.AigerErr.{AigerErr}
use Rattle.aiger_text.specs.declared.fault.AigerErr.TheVariants.{NoMemory}
use Rattle.aiger_design.specs.Means.{IsFile, AigerCause}

-- two designs with the same lists
pub record AreAlike (d e : Design) : Type 0 where
  pub signals : d.signals.items ≡ e.signals.items
  pub drivers : d.drivers.items ≡ e.drivers.items
  pub clocked : d.clocked.items ≡ e.clocked.items
  pub places : d.places.items ≡ e.places.items
  pub inputs : d.inputs.items ≡ e.inputs.items
  pub outputs : d.outputs.items ≡ e.outputs.items

-- a text means one design at most
abbrev pub OneDesign : Type 0
OneDesign =
    (text top : List ℕ) (clock : Option (List ℕ)) (d e : Design) → IsFile text top clock d → IsFile text top clock e → AreAlike d e

-- a text that means one is refused for want of memory alone
abbrev pub NoRefusal : Type 0
NoRefusal =
    (text top : List ℕ) (clock : Option (List ℕ)) (d : Design) (fault : AigerErr) → IsFile text top clock d
    → AigerCause text clock fault → fault ≡ NoMemory

-- a design that a text means is well formed
abbrev pub FileIsWellFormed : Type 0
FileIsWellFormed = (text top : List ℕ) (clock : Option (List ℕ)) (d : Design) → IsFile text top clock d → IsWellFormed d

-- each of its bits is given its value once
abbrev pub FileIsDrivenOnce : Type 0
FileIsDrivenOnce = (text top : List ℕ) (clock : Option (List ℕ)) (d : Design) → IsFile text top clock d → IsDrivenOnce d

-- how large a design is that a text means
pub record IsNotTooLarge (d : Design) : Type 0 where
  pub signals : length d.signals.items ≤ 1048576
  pub places : length d.places.items ≤ 65536
  pub drivers : length d.drivers.items + length d.clocked.items ≤ 1048576
  pub outputs : length d.outputs.items ≤ 1048576

abbrev pub FileIsNotTooLarge : Type 0
FileIsNotTooLarge = (text top : List ℕ) (clock : Option (List ℕ)) (d : Design) → IsFile text top clock d → IsNotTooLarge d
