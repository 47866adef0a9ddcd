-- Levels, digit by digit.
use Rattle.std.proofs.Common.{◌≡◌, ℕ, ◌<◌, List, [], ◌∷◌, length, get_or, refl, arith}
use Rattle.std.proofs.lemmas.List.Sums.{fold_more}
use Rattle.std.proofs.lemmas.List.Folds.{list_all_more}
use Rattle.vcd_words.specs.Levels.{filled}
use Rattle.vcd_words.proofs.Lists.{all_breaks}

-- what stands on the left is told by the leftmost digit
pub filled_first : (digits : List ℕ) → 0 < length digits → filled (get_or digits 0 0 ∷ []) ≡ filled digits
filled_first [] some = absurd (omega (arith, some))
filled_first (digit ∷ digits) some = refl

pub ruleset level_steps = (filled_first, fold_more, list_all_more, all_breaks)
