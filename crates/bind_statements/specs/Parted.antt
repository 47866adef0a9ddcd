-- The arms of a block with a reset, and a clocked block with whether it breaks the rule of the clock, as definitions have them.
use Rattle.std.specs.Prelude.{Bool, true, false, ◌&&◌, if◌then◌else◌, List, [], ◌∷◌, Option, Some, None}
use Rattle.std.specs.Option.{option_and_then}
use Rattle.design_core.specs.declared.driver.Clocked.{Clocked}
use Rattle.design_core.specs.declared.statement.Stmt.{Stmt}
use Rattle.design_core.specs.WellFormed.{is_reset_values}
use Rattle.v_binding.specs.Clocks as plain
use Rattle.bind_statements.specs.declared.arms.Arms.{Arms}
use Rattle.bind_statements.specs.declared.clocked.Judged.{Judged}

abbrev pub arms_in : Arms → plain.Arms
arms_in a = record { values = a.values; body = a.body }

-- of the statements of a block as a list
abbrev pub arms_listed : List Stmt → Option plain.Arms
arms_listed (s ∷ []) = plain.arms_here s
arms_listed _ = None

abbrev pub judged_in : Judged → Clocked × Bool
judged_in j = (j.block, j.breaks)

-- a block that waits for the clock and a reset, where it begins with the condition that the reset is active
abbrev pub parted : plain.Resetting → Bool → Stmt → Clocked × Bool
parted r begins s = elim (if begins then option_and_then (λ arms. if is_reset_values arms.values then Some arms else None) (plain.arms_of s) else None) [
  | Some arms ↦ (plain.with_reset r arms, false)
  | None ↦ (plain.without_reset s, true)
]
