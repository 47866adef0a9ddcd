use Rattle.std.proofs.Common.{◌≡◌, ◌∙◌, true, false, arith, rules}
use Rattle.std.specs.Prelude.{codes}
use Rattle.std.specs.Str.{bytes_eq}
use Rattle.std.proofs.lemmas.Grind.{common_steps}
use Rattle.aiger_text.specs.Lines.{parts_of}
use Rattle.aiger_text.proofs.LineSteps.{first_symbol-cut, is_end-cut, drop-cut}
use Rattle.aiger_text.proofs.symbols.symbol_line.Goals as goal

pub returns-in-Some : goal.returns-in-Some
returns-in-Some c =
    let is_c : bytes_eq c.in-Some.cut.front.now (codes "c") ≡ true = first_of (search rules, grind (arith, common_steps)) in
    is_end-cut c.args.text.now (parts_of c.in-Some.cut) c.in-Some.ensures.some ∙ is_c

pub returns-in-Some-symbol_of : goal.returns-in-Some-symbol_of
returns-in-Some-symbol_of c =
    let p = parts_of c.in-Some.cut in
    (first_symbol-cut c.args.text.now p c.in-Some.ensures.some ∙ c.in-Some-symbol_of.ensures.some, drop-cut c.args.text.now p c.in-Some.ensures.some, c.in-Some.ensures.shorter)

pub returns-in-None-symbol_of : goal.returns-in-None-symbol_of
returns-in-None-symbol_of c =
    let p = parts_of c.in-Some.cut in
    let is_none : bytes_eq c.in-Some.cut.front.now (codes "c") ≡ false = first_of (search rules, grind (arith, common_steps)) in
    (first_symbol-cut c.args.text.now p c.in-Some.ensures.some ∙ c.in-None-symbol_of.ensures.none, is_end-cut c.args.text.now p c.in-Some.ensures.some ∙ is_none)
