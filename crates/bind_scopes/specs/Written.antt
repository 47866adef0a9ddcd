-- Expressions that can be left sides (IEEE 1364-2005, 7.2, 12.3.9.2), where they are bound.
use Rattle.std.specs.Prelude.{Option, Some, None, Result, Ok, Err}
use Rattle.v_syntax.specs.Tree.{Tree}
use Rattle.v_hierarchy.specs.Constants.{site_of}
use Rattle.v_binding.specs.declared.error.BindErr.{BindErr}
use Rattle.v_binding.specs.declared.error.BindErr.TheVariants as fault
use Rattle.v_binding.specs.declared.left.Left.{Left}
use Rattle.v_binding.specs.Steps.{◌>>=◌}
use Rattle.v_binding.specs.Names.{Names}
use Rattle.v_binding.specs.Lefts.{target, as_left}

-- the left side that an expression is, if it can be one
abbrev pub target_in : Names → Tree → Result (Option Left) BindErr
target_in names e = elim (as_left e) [
  | None ↦ Ok None
  | Some l ↦ target names l >>= λ x. Ok (Some x)
]

-- the left side that an output is connected to
abbrev pub output : Names → Tree → Result Left BindErr
output names e = elim (as_left e) [
  | None ↦ Err (fault.PortName (site_of e).span)
  | Some l ↦ target names l
]
