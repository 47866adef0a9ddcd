use Rattle.std.proofs.Common.{◌≡◌, ℕ, ◌+◌, ◌<◌, cond, length, sym, ap, ◌∙◌, arith}
use Rattle.clause_base.specs.declared.log.StepKind.{StepKind}
use Rattle.clause_base.specs.Steps.{step_at}
use Rattle.clause_base.specs.Acceptance.{is_block, is_block_kind, IsAcceptedAt}
use Rattle.proof_check.specs.Marks.{AreInTable}
use Rattle.proof_check.proofs.Checked.{blocks_in-more, in_table-more}
use Rattle.proof_check.proofs.Pieced.{accepted-more}
use Rattle.proof_check.proofs.piece.first_refused.Goals as goal

pub loop-place-preserved : goal.loop-place-preserved
loop-place-preserved c =
    let form = c.args.claim.now.form.now.clauses in
    let blocks = c.args.claim.now.blocks.now in
    let log = c.args.claim.now.log.now in
    let place = c.loop-place.place in
    let within : place < length log = omega (arith, c.requires.piece.within) in
    let here : IsAcceptedAt form blocks log place = c.is_accepted.ensures.accepted.0 c.if-not-is_accepted.false in
    let count : c.with_step-seen.result ≡ c.loop-place.seen + cond (is_block (step_at log place)) 1 0 =
    c.with_step-seen.ensures ∙ ap (λ (kind : StepKind). c.loop-place.seen + cond (is_block_kind kind) 1 0) c.kind.ensures in
    let in_blocks : AreInTable c.loop-place.marks blocks = rw c.loop-place.auto.marks c.requires.blocks_in_table in
    record {
      before = accepted-more form blocks log c.args.piece.from place c.loop-place.invariant.before here;
      count = count ∙ ap (λ (n : ℕ). n + cond (is_block (step_at log place)) 1 0) c.loop-place.invariant.count ∙ sym (blocks_in-more log place within);
      stamps = c.is_accepted.ensures.stamps;
      in_table = in_table-more c.loop-place.marks c.is_accepted.new.marks form blocks log place within c.is_accepted.auto.marks in_blocks c.loop-place.invariant.in_table here;
    }
