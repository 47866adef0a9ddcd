-- When the numbers chosen for some places make a cycle of a network right.
use Rattle.std.specs.Prelude.{ℕ, List}
use Rattle.loc_base.specs.declared.bits.Bits.{Bits}
use Rattle.design_core.specs.declared.design.Design.{Design}
use Rattle.design_core.specs.declared.trace.Checked.{Checked}
use Rattle.design_core.specs.Run.{IsRight}
use Rattle.plain_list.specs.Network.{settled}
use Rattle.plain_list.specs.Trial.{choice_of}

-- with these numbers for the places, the outputs are as expected
abbrev pub AreRight : Design → List ℕ → List Bits → List Checked → List ℕ → List ℕ → Type 0
AreRight d order samples expected places numbers = IsRight d expected (settled d order samples (choice_of places numbers))
