use Rattle.std.proofs.Common.{◌≡◌, List, length, get_or, sym, subst, arith, rules, Option, Result}
use Rattle.std.specs.Prelude.{IfOk}
use Rattle.loc_base.specs.declared.memory.NoMemory.{NoMemory}
use Rattle.proof_check.specs.declared.claim.BadStep.{BadStep}
use Rattle.proof_check.specs.declared.claim.Piece.{Piece}
use Rattle.proof_check.specs.Claims.{FoundIn}
use Rattle.proof_check.specs.Pieced.{first_of}
use Rattle.proof_check.proofs.Pieced.{accepted-none, piece-found, first-of_all}
use Rattle.proof_check.proofs.parallel.search_pieces.Goals as goal

pub returns : goal.returns
returns g c =
    let form = c.args.claim.now.form.now in
    let blocks = c.args.claim.now.blocks.now in
    let log = c.args.claim.now.log.now in
    let pieces : List Piece = c.args.pieces.now in
    let answers : List (Result (Option BadStep) NoMemory) = c.in_ok-answers.answers.items in
    let same : length answers ≡ length pieces = omega (arith, c.in_ok-answers.ensures.len) in
    let is : c.first_found.result ≡ first_of answers = search rules in
    subst (λ (r : Result (Option BadStep) NoMemory). IfOk r (FoundIn form.clauses blocks log 0 (length log))) (sym is)
    (first-of_all form.clauses blocks log 0 (length log) pieces answers same
    (λ k piece answer within.
    let given = (c.in_ok-answers.ensures.each k answer (omega (arith, same, within))).1 in
    piece-found form blocks log pieces k given.argument.now given.argument_is piece (get_or answers k answer) given.call)
    c.requires.cover (accepted-none form.clauses blocks log 0))
