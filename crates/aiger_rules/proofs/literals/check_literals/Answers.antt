use Rattle.std.proofs.Common.{List, refl, subst}
use Rattle.aiger_text.specs.declared.row.Row.{Row}
use Rattle.aiger_rules.specs.Literals.{IsFirstMisuse}
use Rattle.aiger_rules.proofs.literals.check_literals.Goals as goal

pub returns-in-Some-clause-err : goal.returns-in-Some-clause-err
returns-in-Some-clause-err c =
    let P : List Row → Type 0 = λ rows. IsFirstMisuse c.args.content.now.counts.most rows c.in-Some.number in
    (c.in-Some.number, subst P c.as_slice-rows.ensures.value c.in-Some.ensures.some, refl)
