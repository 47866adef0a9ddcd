use Rattle.clause_base.specs.Literal.{IsWithin}
use Rattle.unroller.specs.Unrolls.{variables_of}
use Rattle.debug_core.proofs.supposed.selectors.Given as goal

abbrev pub invariant-loop-i : goal.invariant-loop-i
invariant-loop-i l = record {
  within : IsWithin (variables_of l.u) l.literals;
}
