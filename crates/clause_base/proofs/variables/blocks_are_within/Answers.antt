use Rattle.std.proofs.Common.{[], refl, arith}
use Rattle.std.proofs.lemmas.List.Elements.{All-from_get_or}
use Rattle.clause_base.specs.Literal.{IsWithin}
use Rattle.clause_base.proofs.variables.blocks_are_within.Goals as goal

pub returns : goal.returns
returns c = (λ _. All-from_get_or (λ clause. IsWithin c.args.vars clause) c.args.blocks.now [] (λ k within. c.loop-block.invariant k (omega arith)), λ _. refl)
