use Rattle.std.proofs.Common.{◌≡◌, true, get_or, ◌∙◌, rules}
use Rattle.std.proofs.lemmas.Bool.{and_from}
use Rattle.std.proofs.lemmas.List.Folds.{list_all_more}
use Rattle.loc_base.specs.Ascii.{is_visible}
use Rattle.vcd_words.proofs.CodeSteps.{place_more, power_more, low_more}
use Rattle.vcd_words.proofs.codes.code_place.Goals as goal

pub loop-byte-preserved : goal.loop-byte-preserved
loop-byte-preserved c =
    let right : is_visible (get_or c.args.word.now c.loop-byte.byte-index 0) ≡ true = search rules in
    record {
      place = place_more _ _ _ _ _ c.loop-byte-test.true c.loop-byte.invariant.place c.loop-byte.invariant.power c.place_digit.ensures.value;
      power = power_more _ _ c.loop-byte.invariant.power;
      right = list_all_more is_visible _ _ 0 c.loop-byte-test.true ∙ and_from _ _ c.loop-byte.invariant.right right;
      low = low_more _ _ _ c.loop-byte.invariant.low c.place_digit.ensures.small;
    }
