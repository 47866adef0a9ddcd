use Rattle.std.proofs.Common.{length, refl, eq-eqb, arith}
use Rattle.aiger_text.proofs.CutSteps.{place-found, place-none}
use Rattle.aiger_text.proofs.cut.place_of.Goals as goal

pub returns-then-b-byte-clause-place : goal.returns-then-b-byte-clause-place
returns-then-b-byte-clause-place c =
    place-found c.args.byte c.loop-place.place c.args.text.now c.loop-place-test.true c.loop-place.invariant (eq-eqb _ _ c.if-b-byte.true)

pub returns-clause-place : goal.returns-clause-place
returns-clause-place c =
    place-none c.args.byte (length c.args.text.now) c.args.text.now refl (λ k below. c.loop-place.invariant k (omega (arith, below)))
