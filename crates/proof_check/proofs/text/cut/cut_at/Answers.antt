use Rattle.std.proofs.Common.{arith}
use Rattle.std.proofs.lemmas.List.{take_rest}
use Rattle.proof_check.proofs.Cuts.{cut_found, cut_none}
use Rattle.proof_check.proofs.text.cut.cut_at.Goals as goal

pub returns-then-b-byte : goal.returns-then-b-byte
returns-then-b-byte c = rw take_rest (cut_found c.args.text.now c.args.byte c.loop-place.place (omega arith) c.loop-place.invariant c.if-b-byte.true)

pub returns : goal.returns
returns c = cut_none c.args.text.now c.args.byte c.loop-place.place (omega arith) c.loop-place.invariant
