use Rattle.std.proofs.Common.{ℕ, ◌<◌, [], get_or}
use Rattle.clause_base.specs.Literal.{IsWithin}
use Rattle.clause_base.proofs.variables.blocks_are_within.Given as goal

abbrev pub invariant-loop-block : goal.invariant-loop-block
invariant-loop-block l = (k : ℕ) → k < l.block-index → IsWithin l.vars (get_or l.blocks k [])
