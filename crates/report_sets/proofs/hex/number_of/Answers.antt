use Rattle.std.proofs.Common.{ℕ, ◌+◌, ◌*◌, ◌<◌, ◌≡◌, ◌≢◌, ◌^◌, arith, get_or, length, subst, sym, take}
use Rattle.std.proofs.lemmas.List.{get_or_default}
use Rattle.printed_text.specs.Numerals.{hex}
use Rattle.report_sets.proofs.Spelling.{if-none, more-spelled, none-digit, none-spelled}
use Rattle.report_sets.proofs.hex.number_of.Goals as goal

pub loop-byte-init : goal.loop-byte-init
loop-byte-init c = none-spelled c.args.text.now

pub returns-in_err-digit_of-clause-none : goal.returns-in_err-digit_of-clause-none
returns-in_err-digit_of-clause-none c =
    let text = c.args.text.now in
    let place = c.loop-byte.byte-index in
    let within : place < length text = omega arith in
    if-none c.from_residual.result ((number : ℕ) → hex (length text) number ≢ text)
    (none-digit text place (get_or text place 0) within (get_or_default text place 0 (get_or text place 0) within) c.in_err-digit_of.ensures.none)

pub loop-byte-preserved : goal.loop-byte-preserved
loop-byte-preserved c =
    let text = c.args.text.now in
    let place = c.loop-byte.byte-index in
    let within : place < length text = omega arith in
    subst (λ d. (c.loop-byte.number * 16 + d < 16 ^ (place + 1)) × (hex (place + 1) (c.loop-byte.number * 16 + d) ≡ take (place + 1) text))
    (sym c.from.ensures)
    (more-spelled text place c.loop-byte.number c.in_ok-digit_of.field-0 (get_or text place 0) within
    (get_or_default text place 0 (get_or text place 0) within) c.in_ok-digit_of.ensures.some.0 c.in_ok-digit_of.ensures.some.1
    c.loop-byte.invariant)
