use Rattle.std.proofs.Common.{◌≡◌, false, None, refl, sym, ◌∙◌, subst, Option}
use Rattle.proof_check.specs.LineWords.{LineWords, take_words}
use Rattle.proof_check.specs.Took.{Took}
use Rattle.proof_check.specs.Pieces.{pieces_after}
use Rattle.proof_check.proofs.StepLines.{words_stop, words_go_on}
use Rattle.proof_check.proofs.text.steps.take_all.Goals as goal

pub returns-then-not-branch : goal.returns-then-not-branch
returns-then-not-branch c =
    let stop : take_words c.args.kind c.loop-rest.reader (pieces_after 32 c.loop-rest.rest) ≡ None =
    words_stop c.args.kind c.loop-rest.reader c.loop-rest.rest c.in-Some.text c.cut_at.result.0.now (pieces_after 32 c.cut_at.result.1) c.take.new.self c.in_ok-take.field-0 c.in-Some.is c.cut_at.ensures c.if-not-branch.true c.in_ok-take.ensures in
    subst (λ (o : Option LineWords). Took o c.take.new.self false) (sym (sym c.loop-rest.invariant ∙ stop)) refl

pub loop-rest-preserved : goal.loop-rest-preserved
loop-rest-preserved c =
    sym (words_go_on c.args.kind c.loop-rest.reader c.loop-rest.rest c.in-Some.text c.cut_at.result.0.now (pieces_after 32 c.cut_at.result.1) c.take.new.self c.in_ok-take.field-0 c.in-Some.is c.cut_at.ensures c.if-not-branch.false c.in_ok-take.ensures)
    ∙ c.loop-rest.invariant
