-- Expressions and constants where they stand (IEEE 1364-2005, clause 5), or why they are refused.
use Rattle.std.specs.Prelude.{ℕ, Bool, false, if◌then◌else◌, ℤ, Some, None, Result, Ok, Err}
use Rattle.v_syntax.specs.Tree.{Tree}
use Rattle.design_core.specs.declared.expression.Typed.{Typed}
use Rattle.v_sizes.specs.declared.meaning.Const.{Const}
use Rattle.v_sizes.specs.Context.{typed_in, refusal_in, constant_of, constant_refusal_in}
use Rattle.v_hierarchy.specs.Constants.{site_of, integer, is_index}
use Rattle.v_binding.specs.declared.error.BindErr.{BindErr}
use Rattle.v_binding.specs.declared.error.BindErr.TheVariants as fault
use Rattle.v_binding.specs.Steps.{◌>>=◌}
use Rattle.v_binding.specs.Names.{Names, look_in}
use Rattle.v_binding.specs.Unknown.{fault_in}

-- the sized expression in a context of a width, 0 for none; `unsigned` where what stands beside it makes it so
abbrev pub sized_in : Names → Tree → ℕ → Bool → Result Typed BindErr
sized_in names e context unsigned = elim (refusal_in (look_in names) e context unsigned) [
  | None ↦ Ok (typed_in (look_in names) e context unsigned)
  | Some wrong ↦ Err (fault_in names e wrong)
]

-- the right side of an assignment to so many bits
abbrev pub assigned : Names → Tree → ℕ → Result Typed BindErr
assigned names e width = sized_in names e width false

-- an expression by itself
abbrev pub by_itself : Names → Tree → Result Typed BindErr
by_itself names e = sized_in names e 0 false

-- the constant in an assignment of a width, 0 for none
abbrev pub constant_at : Names → Tree → ℕ → Result Const BindErr
constant_at names e width = elim (constant_refusal_in (look_in names) e width) [
  | None ↦ Ok (constant_of (look_in names) e width)
  | Some wrong ↦ Err (fault_in names e wrong)
]

-- a whole number of 32 bits
abbrev pub index_at : Names → Tree → Result ℤ BindErr
index_at names e = constant_at names e 0 >>= λ c. if is_index (integer c) then Ok (integer c) else Err (fault.Range (site_of e).span)
