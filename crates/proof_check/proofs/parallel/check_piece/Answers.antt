use Rattle.std.proofs.Common.{◌≤◌, ℕ, length, take, sym, subst, arith}
use Rattle.clause_base.specs.Acceptance.{clauses_of}
use Rattle.clause_base.specs.Literal.{AreWithin}
use Rattle.proof_check.proofs.Pieced.{accepted-known, known-fewer}
use Rattle.proof_check.proofs.parallel.check_piece.Goals as goal

pub returns-then-known-piece : goal.returns-then-known-piece
returns-then-known-piece c = λ accepted place low high.
    let form = c.args.claim.now.form.now in
    let within : c.args.piece.from ≤ length c.args.claim.now.log.now = omega (arith, c.requires.piece.ordered, c.requires.piece.within) in
    let enough : c.args.piece.from ≤ c.args.known =
    accepted-known form.vars form.clauses c.args.claim.now.blocks.now c.args.claim.now.log.now c.args.known c.args.piece.from c.requires.can.are_known c.requires.can.blocks_within within accepted in
    absurd (omega (arith, enough, c.if-known-piece.true))

pub first_refused-requires-clause-earlier_within : goal.first_refused-requires-clause-earlier_within
first_refused-requires-clause-earlier_within c =
    let form = c.args.claim.now.form.now in
    let log = c.args.claim.now.log.now in
    subst (λ (vars : ℕ). AreWithin vars (clauses_of form.clauses (take c.args.piece.from log))) (sym c.in_ok-checker.ensures)
    (known-fewer form.vars form.clauses log c.args.piece.from c.args.known c.if-known-piece.false c.requires.can.are_known.inside)
