use Rattle.std.proofs.Common.{◌≡◌, ℕ, take, subst, arith}
use Rattle.clause_base.specs.Acceptance.{blocks_in}
use Rattle.proof_check.proofs.Pieced.{answers-none, blocks-whole}
use Rattle.proof_check.proofs.piece.left_over.Goals as goal

pub returns : goal.returns
returns c =
    let form = c.args.claim.now.form.now.clauses in
    let blocks = c.args.claim.now.blocks.now in
    let log = c.args.claim.now.log.now in
    let seen : ℕ = c.blocks_up_to_end-seen.result in
    let all : seen ≡ blocks_in log = blocks-whole log seen (subst (λ (n : ℕ). seen ≡ blocks_in (take n log)) c.whole_of.ensures.end c.blocks_up_to_end-seen.ensures) in
    answers-none form blocks log c.requires.accepted (omega (arith, all))
