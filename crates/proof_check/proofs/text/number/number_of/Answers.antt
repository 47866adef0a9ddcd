use Rattle.std.proofs.Common.{◌≡◌, ◌≢◌, ◌+◌, length, get_or, take, sym, ap, ◌∙◌, subst, arith}
use Rattle.std.specs.Str.Parse.{digits_value, AllDigits}
use Rattle.std.proofs.lemmas.Bool.{eqb-true, eqb-false}
use Rattle.std.proofs.lemmas.List.{take_all}
use Rattle.proof_check.proofs.Decimals.{empty-no_number, zero-no_number, other-no_number, more-no_number, digits-step, digits-number}
use Rattle.proof_check.proofs.text.number.number_of.Goals as goal
use Rattle.proof_check.proofs.text.number.number_of.Goals.{then-is_empty-via-then-is_empty, then-is_empty-via-else-is_empty+then-begins_with_zero}

pub returns-then-is_empty : goal.returns-then-is_empty
returns-then-is_empty c = elim c.then-is_empty.branch [
  | then-is_empty-via-then-is_empty w ↦ empty-no_number c.args.word.now c.args.most (omega arith) (eqb-true (length c.args.word.now) 0 (sym c.is_empty.ensures ∙ w.if-is_empty.true))
  | then-is_empty-via-else-is_empty+then-begins_with_zero w ↦ zero-no_number c.args.word.now c.args.most (omega arith) (eqb-true (get_or c.args.word.now 0 0) 48 (sym w.begins_with_zero.ensures ∙ w.if-begins_with_zero.true))
]

pub returns-then-not-is_ascii_digit : goal.returns-then-not-is_ascii_digit
returns-then-not-is_ascii_digit c = other-no_number c.args.word.now c.args.most c.loop-digit.digit-index (omega arith) c.loop-digit-test.true (sym c.is_ascii_digit.ensures.value ∙ c.if-not-is_ascii_digit.true)

pub returns-then-value-from : goal.returns-then-value-from
returns-then-value-from c =
    let step = digits-step c.args.word.now c.loop-digit.digit-index c.loop-digit-test.true c.loop-digit.invariant.digits (sym c.is_ascii_digit.ensures.value ∙ c.if-not-is_ascii_digit.false) in
    let value = c.loop-digit.invariant.value in
    more-no_number c.args.word.now c.args.most (c.loop-digit.digit-index + 1) (omega arith) (omega (arith, step.1, value, c.from.ensures, c.from-in-loop-digit.ensures, c.if-value-from.true))

pub loop-digit-preserved : goal.loop-digit-preserved
loop-digit-preserved c =
    let step = digits-step c.args.word.now c.loop-digit.digit-index c.loop-digit-test.true c.loop-digit.invariant.digits (sym c.is_ascii_digit.ensures.value ∙ c.if-not-is_ascii_digit.false) in
    record {
      value = omega (arith, step.1, c.loop-digit.invariant.value, c.from.ensures);
      digits = step.0;
      small = omega (arith, c.if-value-from.false, c.from-in-loop-digit.ensures);
    }

pub returns : goal.returns
returns c =
    let all : take c.loop-digit.digit-index c.args.word.now ≡ c.args.word.now = take_all c.loop-digit.digit-index c.args.word.now c.loop-digit-test.false in
    let value : c.loop-digit.value ≡ digits_value 10 c.args.word.now = c.loop-digit.invariant.value ∙ ap (digits_value 10) all in
    let digits : AllDigits 10 c.args.word.now = subst (AllDigits 10) all c.loop-digit.invariant.digits in
    let some : length c.args.word.now ≢ 0 = eqb-false (length c.args.word.now) 0 (sym c.is_empty.ensures ∙ c.if-is_empty.false) in
    let number = digits-number c.args.word.now c.args.most (omega arith) digits (omega arith) (eqb-false (get_or c.args.word.now 0 0) 48 (sym c.begins_with_zero.ensures ∙ c.if-begins_with_zero.false)) (omega (arith, value, c.loop-digit.invariant.small)) in
    rw value number
