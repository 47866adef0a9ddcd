use Rattle.std.proofs.Common.{◌≡◌, length}
use Rattle.clause_base.specs.Literal.{IsWithin}
use Rattle.unroller.specs.Unrolls.{variables_of}
use Rattle.debug_core.proofs.supposed.push_column.Given as goal

abbrev pub invariant-loop-moment : goal.invariant-loop-moment
invariant-loop-moment l = record {
  within : IsWithin (variables_of l.u) l.literals;
  end : l.moment-end ≡ length l.u.ends;
}
