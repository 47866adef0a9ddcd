use Rattle.std.proofs.Common.{◌≡◌, ℕ, ◌∙◌, Option, get_or, ap}
use Rattle.std.proofs.lemmas.List.{get_or_default}
use Rattle.aiger_text.specs.declared.row.Row.TheVariants.{Input}
use Rattle.aiger_rules.specs.First.{place_of, with_place}
use Rattle.aiger_rules.specs.Literals.{defined}
use Rattle.aiger_rules.proofs.FirstLaws.{with_place-first}
use Rattle.aiger_rules.proofs.literals.definers_of.Goals as goal

pub loop-number-preserved : goal.loop-number-preserved
loop-number-preserved c literal =
    let rows = c.args.rows.now in
    let number = c.loop-number.number in
    let old = place_of c.loop-number.definers in
    let row = get_or rows number (Input 0) in
    let is : row ≡ get_or rows number row = get_or_default rows number (Input 0) row c.loop-number-test.true in
    c.in_ok-meet.ensures literal ∙ ap (λ (one : Option ℕ). with_place old one number literal) c.defined.ensures
    ∙ with_place-first defined rows number row literal old c.loop-number-test.true is c.loop-number.invariant
