use Rattle.std.proofs.Common.{◌+◌, ◌<◌, ◌≤◌, ◌∙◌, ap, sym, subst, false, get_or, drop, arith}
use Rattle.std.proofs.lemmas.Grind.{common_steps}
use Rattle.gate_base.specs.declared.literal.Literal.TheVariants.{Known}
use Rattle.clause_form.specs.Limits.{IsRefused}
use Rattle.clause_form.specs.Clauses.{bit_clauses, word_clauses}
use Rattle.clause_form.specs.Fields.{after, sunk_of}
use Rattle.clause_form.specs.Variables.{HaveVariables}
use Rattle.clause_form.proofs.WalkSteps.{refused-more, walk-step, walk-count, walk-end, have-at, word-at, word-none}
use Rattle.clause_form.proofs.sink.Sink.word.Goals as goal

pub bit-requires : goal.bit-requires
bit-requires c =
    have-at c.loop-bit.self.base c.args.word.now c.loop-bit.bit
    (subst (λ b. HaveVariables b c.args.word.now) (sym c.loop-bit.invariant.base) c.requires) c.loop-bit-test.true

pub loop-bit-preserved : goal.loop-bit-preserved
loop-bit-preserved c =
    let checked = c.args.checked in
    let word = c.args.word.now in
    let i = c.loop-bit.bit in
    record {
      base = ap (λ s. s.base) c.in_ok-bit.ensures.ok ∙ c.loop-bit.invariant.base;
      rest = walk-step (sunk_of c.args.self.now) (sunk_of c.loop-bit.self) (word_clauses c.args.self.now.base checked 0 word)
          (λ b. word_clauses b checked i (drop i word)) (λ b. bit_clauses b checked i (get_or word i (Known false)))
          (λ b. word_clauses b checked (i + 1) (drop (i + 1) word)) c.loop-bit.invariant.rest
          (word-at c.loop-bit.self.base checked word i c.loop-bit-test.true) (sunk_of c.bit.new.self) c.in_ok-bit.ensures.ok;
    }

pub returns-in_err-bit-clause-err : goal.returns-in_err-bit-clause-err
returns-in_err-bit-clause-err c =
    let checked = c.args.checked in
    let word = c.args.word.now in
    let i = c.loop-bit.bit in
    let clauses = word_clauses c.args.self.now.base checked 0 word in
    let whole = (after (sunk_of c.args.self.now) clauses).count in
    let part = (after (sunk_of c.loop-bit.self) (bit_clauses c.loop-bit.self.base checked i (get_or word i (Known false)))).count in
    let le : part ≤ whole = walk-count (sunk_of c.args.self.now) (sunk_of c.loop-bit.self) clauses
    (λ b. word_clauses b checked i (drop i word)) (λ b. bit_clauses b checked i (get_or word i (Known false)))
    (λ b. word_clauses b checked (i + 1) (drop (i + 1) word)) c.loop-bit.invariant.rest
    (word-at c.loop-bit.self.base checked word i c.loop-bit-test.true) in
    let more : IsRefused c.in_err-bit.field-0.0 (64000000 < whole) =
    refused-more c.in_err-bit.field-0.0 part whole le c.in_err-bit.ensures.err in
    grind (arith, common_steps, more)

pub returns-clause-ok : goal.returns-clause-ok
returns-clause-ok c =
    walk-end (sunk_of c.args.self.now) (sunk_of c.loop-bit.self) (word_clauses c.args.self.now.base c.args.checked 0 c.args.word.now)
    (word_clauses c.loop-bit.self.base c.args.checked c.loop-bit.bit (drop c.loop-bit.bit c.args.word.now)) c.loop-bit.invariant.rest
    (word-none c.loop-bit.self.base c.args.checked c.args.word.now c.loop-bit.bit (omega arith))
