-- Conditional compilation (IEEE 1364-2005, 19.4): which part of a conditional is taken.
use Rattle.std.specs.Prelude.{Bool, true, false, not, List, [], ◌∷◌, if◌then◌else◌, Option, Some, None}
use Rattle.v_lexer.specs.declared.conditionals.Arm.{Arm}
use Rattle.v_lexer.specs.declared.conditionals.Arm.TheVariants.{Taken, Waiting, Over, Nested}
use Rattle.v_lexer.specs.declared.conditionals.Conditional.{Conditional}

-- the arm of a conditional that stands behind another, by whether its condition holds
abbrev pub next_arm : Arm → Bool → Arm
next_arm Taken holds = Over
next_arm Waiting holds = if holds then Taken else Waiting
next_arm Over holds = Over
next_arm Nested holds = Nested

-- a conditional inside a part that isn't taken, of which nothing is checked
abbrev pub is_nested : Arm → Bool
is_nested Nested = true
is_nested Taken = false
is_nested Waiting = false
is_nested Over = false

-- an arm that is taken
abbrev pub is_taken : Arm → Bool
is_taken Taken = true
is_taken Waiting = false
is_taken Over = false
is_taken Nested = false

-- whether a part is open that isn't taken
abbrev pub is_skipping : List Conditional → Bool
is_skipping [] = false
is_skipping (inner ∷ outer) = not (is_taken inner.arm)

-- the conditional that was opened first
abbrev pub outermost : List Conditional → Option Conditional
outermost [] = None
outermost (inner ∷ outer) = elim (outermost outer) [ Some first ↦ Some first | None ↦ Some inner ]
