use Rattle.std.proofs.Common.{◌≡◌, ◌++◌, ◌∷◌, [], length, List, ℕ, sym, ap, ◌∙◌, subst, Option, arith}
use Rattle.std.specs.Borrow.{Bor}
use Rattle.std.proofs.lemmas.Bool.{eqb-false}
use Rattle.std.proofs.lemmas.List.{length_push}
use Rattle.clause_base.specs.declared.log.Step.{Step}
use Rattle.proof_check.specs.Text.{pieces}
use Rattle.proof_check.specs.LineWords.{read_line}
use Rattle.proof_check.specs.Pieces.{pieces_after}
use Rattle.proof_check.proofs.StepLines.{Split, appended_none, appended_some, bad_line, bad_end, split_more, split_length, few_pieces, some_after, numbered_from_three}
use Rattle.proof_check.proofs.text.steps.read_steps.Goals as goal

pub returns-then-not-branch-clause-bad : goal.returns-then-not-branch-clause-bad
returns-then-not-branch-clause-bad c =
    let text_pieces = pieces c.args.text.now in
    let none = appended_none (read_line c.loop-rest.front.now) c.loop-rest.log c.read_step.new.log c.in_ok-read_step.field-0 c.if-not-branch.true c.in_ok-read_step.ensures in
    numbered_from_three text_pieces c.loop-rest.log c.loop-rest.line c.loop-rest.invariant.count
    (bad_line text_pieces c.loop-rest.log c.loop-rest.front.now (pieces_after 10 c.loop-rest.rest) c.loop-rest.invariant.lines (some_after c.loop-rest.rest c.in-Some.more c.in-Some.is) none)

pub overflow_add-line : goal.overflow_add-line
overflow_add-line c =
    let size = split_length (pieces c.args.text.now) c.loop-rest.log c.loop-rest.front.now (pieces_after 10 c.loop-rest.rest) c.loop-rest.invariant.lines in
    let few = few_pieces c.args.text.now in
    let count = c.loop-rest.invariant.count in
    omega arith

pub loop-rest-preserved : goal.loop-rest-preserved
loop-rest-preserved c =
    let text_pieces = pieces c.args.text.now in
    let found = appended_some (read_line c.loop-rest.front.now) c.loop-rest.log c.read_step.new.log c.in_ok-read_step.field-0 c.if-not-branch.false c.in_ok-read_step.ensures in
    let after : pieces_after 10 c.loop-rest.rest ≡ c.cut_at-in-Some.result.0.now ∷ pieces_after 10 c.cut_at-in-Some.result.1 = ap (λ (r : Option (Bor (List ℕ))). pieces_after 10 r) c.in-Some.is ∙ c.cut_at-in-Some.ensures in
    let next : Split text_pieces (c.loop-rest.log ++ found.0 ∷ []) c.cut_at-in-Some.result.0.now (pieces_after 10 c.cut_at-in-Some.result.1) =
    split_more text_pieces c.loop-rest.log c.loop-rest.front.now (pieces_after 10 c.loop-rest.rest) found.0 c.cut_at-in-Some.result.0.now (pieces_after 10 c.cut_at-in-Some.result.1) c.loop-rest.invariant.lines found.1 after in
    record {
      lines = subst (λ (log : List Step). Split text_pieces log c.cut_at-in-Some.result.0.now (pieces_after 10 c.cut_at-in-Some.result.1)) (sym found.2) next;
      count = omega (arith, c.loop-rest.invariant.count, length_push c.loop-rest.log found.0, ap (λ (log : List Step). length log) found.2);
    }

pub returns-clause-bad : goal.returns-clause-bad
returns-clause-bad c =
    let text_pieces = pieces c.args.text.now in
    let none : pieces_after 10 c.loop-rest.rest ≡ [] = ap (λ (r : Option (Bor (List ℕ))). pieces_after 10 r) c.in_default.is in
    let lines : Split text_pieces c.loop-rest.log c.loop-rest.front.now [] = subst (λ (after : List (List ℕ)). Split text_pieces c.loop-rest.log c.loop-rest.front.now after) none c.loop-rest.invariant.lines in
    let some : c.loop-rest.front.now ≡ [] → ⊥ = λ e. eqb-false (length c.loop-rest.front.now) 0 (sym c.is_empty.ensures ∙ c.if-is_empty.false) (ap (λ (l : List ℕ). length l) e) in
    numbered_from_three text_pieces c.loop-rest.log c.loop-rest.line c.loop-rest.invariant.count (bad_end text_pieces c.loop-rest.log c.loop-rest.front.now lines some)
