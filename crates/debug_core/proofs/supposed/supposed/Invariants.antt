use Rattle.std.proofs.Common.{◌≡◌, length}
use Rattle.clause_base.specs.Literal.{IsWithin}
use Rattle.unroller.specs.Unrolls.{variables_of}
use Rattle.debug_core.proofs.supposed.supposed.Given as goal

abbrev pub invariant-loop-column : goal.invariant-loop-column
invariant-loop-column l = record {
  within : IsWithin (variables_of l.u) l.literals;
  end : l.column-end ≡ length l.u.bits;
}
