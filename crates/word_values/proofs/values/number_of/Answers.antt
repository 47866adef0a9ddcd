use Rattle.std.proofs.Common.{rules, ◌≡◌, ◌<◌, ◌^◌, true}
use Rattle.word_values.specs.Values.{is_numeral}
use Rattle.word_values.proofs.Numerals.{number-none}
use Rattle.word_values.proofs.values.number_of.Goals as goal

pub returns-in_default-clause-number : goal.returns-in_default-clause-number
returns-in_default-clause-number c =
    let is : is_numeral c.args.word.now ≡ true = search rules in
    let small : c.args.most < 2 ^ 32 = search rules in
    number-none c.args.most c.args.word.now _ c.in_default.field-0 is small c.in_default.ensures.value.0
