use Rattle.std.proofs.Common.{◌≡◌, ◌∙◌, true, false, Some, None, sym, ap, arith, rules}
use Rattle.std.specs.Option.{option_and_then}
use Rattle.std.proofs.lemmas.Grind.{common_steps}
use Rattle.std.proofs.lemmas.Bool.{cond-true, cond-false}
use Rattle.aiger_text.specs.Lines.{parts_of}
use Rattle.aiger_text.specs.Numbers.{numbers_in}
use Rattle.aiger_text.specs.Rows.{row_of}
use Rattle.aiger_text.proofs.LineSteps.{first_row-cut, drop-cut}
use Rattle.aiger_text.proofs.rows.read_row.Goals as goal

pub returns-then-not-branch-clause-none : goal.returns-then-not-branch-clause-none
returns-then-not-branch-clause-none c =
    let off : c.in_ok-read_numbers.field-0 ≡ false = first_of (search rules, grind (arith, common_steps)) in
    let none : numbers_in c.in-Some.cut.front.now ≡ None = c.in_ok-read_numbers.ensures ∙ cond-false _ _ _ off in
    first_row-cut c.args.section c.args.text.now (parts_of c.in-Some.cut) c.in-Some.ensures.some ∙ ap (option_and_then (row_of c.args.section)) none

pub returns-in-Some-row_of-clause-some : goal.returns-in-Some-row_of-clause-some
returns-in-Some-row_of-clause-some c =
    let on : c.in_ok-read_numbers.field-0 ≡ true = first_of (search rules, grind (arith, common_steps)) in
    let some : numbers_in c.in-Some.cut.front.now ≡ Some c.read_numbers.new.numbers.items = c.in_ok-read_numbers.ensures ∙ cond-true _ _ _ on in
    first_row-cut c.args.section c.args.text.now (parts_of c.in-Some.cut) c.in-Some.ensures.some ∙ ap (option_and_then (row_of c.args.section)) some
    ∙ ap (row_of c.args.section) (sym c.deref.ensures.value) ∙ sym c.in-Some-row_of.ensures

pub returns-in-Some-row_of-clause-behind : goal.returns-in-Some-row_of-clause-behind
returns-in-Some-row_of-clause-behind c = drop-cut c.args.text.now (parts_of c.in-Some.cut) c.in-Some.ensures.some

pub returns-in-None-clause-none : goal.returns-in-None-clause-none
returns-in-None-clause-none c =
    let on : c.in_ok-read_numbers.field-0 ≡ true = first_of (search rules, grind (arith, common_steps)) in
    let some : numbers_in c.in-Some.cut.front.now ≡ Some c.read_numbers.new.numbers.items = c.in_ok-read_numbers.ensures ∙ cond-true _ _ _ on in
    first_row-cut c.args.section c.args.text.now (parts_of c.in-Some.cut) c.in-Some.ensures.some ∙ ap (option_and_then (row_of c.args.section)) some
    ∙ ap (row_of c.args.section) (sym c.deref.ensures.value) ∙ sym c.in-None.ensures
