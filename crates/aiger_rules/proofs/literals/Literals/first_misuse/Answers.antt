use Rattle.std.proofs.Common.{◌≡◌, ◌∙◌, sym, false, get_or}
use Rattle.std.proofs.lemmas.List.{get_or_default}
use Rattle.aiger_text.specs.declared.row.Row.TheVariants.{Input}
use Rattle.aiger_rules.specs.First.{place_of}
use Rattle.aiger_rules.specs.Literals.{misuses}
use Rattle.aiger_rules.proofs.LiteralSteps.{misuse-more, no-misuse}
use Rattle.aiger_rules.proofs.literals.Literals.first_misuse.Goals as goal

pub loop-number-preserved : goal.loop-number-preserved
loop-number-preserved c =
    let most = c.args.self.now.most in
    let definers = place_of c.args.self.now.definers.now in
    let rows = c.args.rows.now in
    let number = c.loop-number.number in
    let row = get_or rows number (Input 0) in
    let is : row ≡ get_or rows number row = get_or_default rows number (Input 0) row c.loop-number-test.true in
    let tells : misuses most definers number row ≡ false = sym c.misuses.ensures ∙ c.if-misuses.false in
    misuse-more most rows definers number row c.loop-number-test.true is c.requires c.loop-number.invariant tells

pub returns-clause-none : goal.returns-clause-none
returns-clause-none c =
    no-misuse c.args.self.now.most c.args.rows.now c.loop-number.number c.loop-number-test.false c.loop-number.invariant
