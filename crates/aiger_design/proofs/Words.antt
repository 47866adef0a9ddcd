-- Words of one bit, and the rows that literals stand for.
use Rattle.std.proofs.Common.{◌≡◌, ℕ, ◌^◌, ◌<◌, ◌≤◌, Bool, true, false, List, map, length, Some, if◌then◌else◌, arith}
use Rattle.std.proofs.Props.{props}
use Rattle.std.proofs.lemmas.List.{length-map}
use mathlib.Core.HLevel.{is_prop→PathP}
use Rattle.loc_base.specs.declared.bits.Bits.{Bits}
use Rattle.loc_base.specs.Bits.{width_of, value_of}
use Rattle.aiger_text.specs.declared.row.Row.{Row}
use Rattle.aiger_rules.specs.Literals.{defined, definer}
use Rattle.aiger_rules.proofs.NameSteps.{first_of-within}
use Rattle.aiger_design.specs.Signals.{bit_word, zero_word, one_word}

-- words of one width and one value are the same
word-same : (a b : Bits) → width_of a ≡ width_of b → value_of a ≡ value_of b → a ≡ b
word-same a b width value =
    λ i. record {
      width = width i;
      value = value i;
      at_least_one = is_prop→PathP (λ j. 1 ≤ width j) (λ j. hlevel props) a.at_least_one b.at_least_one i;
      at_most_128 = is_prop→PathP (λ j. width j ≤ 128) (λ j. hlevel props) a.at_most_128 b.at_most_128 i;
      in_range = is_prop→PathP (λ j. value j < 2 ^ width j) (λ j. hlevel props) a.in_range b.in_range i;
    }

-- the word of a bit
pub bit-word : (w : Bits) (bit : Bool) → width_of w ≡ 1 → value_of w ≡ (if bit then 1 else 0) → w ≡ bit_word bit
bit-word w true width value = word-same w one_word width value
bit-word w false width value = word-same w zero_word width value

-- the row that defines a literal is one of the rows
pub definer-within : (rows : List Row) (literal row : ℕ) → definer rows literal ≡ Some row → row < length rows
definer-within rows literal row is = omega (arith, first_of-within (map defined rows) literal row is, length-map rows defined)

pub ruleset word_steps = (bit-word)
