use Rattle.std.proofs.Common.{◌+◌, ◌<◌, ◌≤◌, [], ◌∙◌, ap, subst, get_or, drop, length, arith}
use Rattle.std.specs.Prelude.{slice_range}
use Rattle.std.proofs.lemmas.Grind.{common_steps}
use Rattle.clause_form.specs.Limits.{IsRefused}
use Rattle.clause_form.specs.Clauses.{word_clauses, words_clauses}
use Rattle.clause_form.specs.Fields.{after, sunk_of}
use Rattle.clause_form.proofs.WalkSteps.{refused-more, walk-step, walk-count, walk-end, words-at, words-none}
use Rattle.clause_form.proofs.sink.Sink.words.Goals as goal

pub loop-output-preserved : goal.loop-output-preserved
loop-output-preserved c =
    let expected = c.args.expected.now in
    let words = c.args.words.now in
    let first = c.args.first in
    let end = c.args.first + length c.args.expected.now in
    let o = c.loop-output.output in
    let checked = c.index-expected-output.result in
    let ok = c.in_ok-word.ensures.ok ∙ ap (λ w. after (sunk_of c.loop-output.self) (word_clauses c.loop-output.self.base checked 0 w)) c.row.ensures in
    record {
      base = ap (λ s. s.base) c.in_ok-word.ensures.ok ∙ c.loop-output.invariant.base;
      rest = walk-step (sunk_of c.args.self.now) (sunk_of c.loop-output.self)
          (words_clauses c.args.self.now.base expected (slice_range words first end))
          (λ b. words_clauses b (drop o expected) (slice_range words (first + o) end)) (λ b. word_clauses b checked 0 (get_or words (first + o) []))
          (λ b. words_clauses b (drop (o + 1) expected) (slice_range words (first + (o + 1)) end)) c.loop-output.invariant.rest
          (words-at c.loop-output.self.base expected words o first end checked c.loop-output-test.true c.index-expected-output.is (omega arith) c.requires.there)
          (sunk_of c.word.new.self) ok;
    }

pub returns-in_err-word-clause-err : goal.returns-in_err-word-clause-err
returns-in_err-word-clause-err c =
    let expected = c.args.expected.now in
    let words = c.args.words.now in
    let first = c.args.first in
    let end = c.args.first + length c.args.expected.now in
    let o = c.loop-output.output in
    let checked = c.index-expected-output.result in
    let clauses = words_clauses c.args.self.now.base expected (slice_range words first end) in
    let whole = (after (sunk_of c.args.self.now) clauses).count in
    let part = (after (sunk_of c.loop-output.self) (word_clauses c.loop-output.self.base checked 0 (get_or words (first + o) []))).count in
    let le : part ≤ whole = walk-count (sunk_of c.args.self.now) (sunk_of c.loop-output.self) clauses
    (λ b. words_clauses b (drop o expected) (slice_range words (first + o) end)) (λ b. word_clauses b checked 0 (get_or words (first + o) []))
    (λ b. words_clauses b (drop (o + 1) expected) (slice_range words (first + (o + 1)) end)) c.loop-output.invariant.rest
    (words-at c.loop-output.self.base expected words o first end checked c.loop-output-test.true c.index-expected-output.is (omega arith) c.requires.there) in
    let cause = subst (λ w. IsRefused c.in_err-word.field-0.0 (64000000 < (after (sunk_of c.loop-output.self) (word_clauses c.loop-output.self.base checked 0 w)).count))
    c.row.ensures c.in_err-word.ensures.err in
    let more : IsRefused c.in_err-word.field-0.0 (64000000 < whole) = refused-more c.in_err-word.field-0.0 part whole le cause in
    grind (arith, common_steps, more)

pub returns-clause-ok : goal.returns-clause-ok
returns-clause-ok c =
    let end = c.args.first + length c.args.expected.now in
    walk-end (sunk_of c.args.self.now) (sunk_of c.loop-output.self)
    (words_clauses c.args.self.now.base c.args.expected.now (slice_range c.args.words.now c.args.first end))
    (words_clauses c.loop-output.self.base (drop c.loop-output.output c.args.expected.now)
    (slice_range c.args.words.now (c.args.first + c.loop-output.output) end))
    c.loop-output.invariant.rest
    (words-none c.loop-output.self.base c.args.expected.now (slice_range c.args.words.now (c.args.first + c.loop-output.output) end)
    c.loop-output.output (omega arith))
