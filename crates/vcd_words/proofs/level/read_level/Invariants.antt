use Rattle.std.proofs.Common.{◌≡◌, true, take}
use Rattle.std.specs.Prelude.{fold}
use Rattle.std.specs.List.{list_all}
use Rattle.vcd_words.specs.Levels.{is_level_digit, shifted, filled}
use Rattle.vcd_words.proofs.level.read_level.Given as goal

abbrev pub invariant-loop-digit : goal.invariant-loop-digit
invariant-loop-digit l = record {
  level : l.level ≡ fold shifted (filled l.word) (take l.digit-index l.word);
  right : list_all is_level_digit (take l.digit-index l.word) ≡ true;
}
