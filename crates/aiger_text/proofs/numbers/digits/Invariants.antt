use Rattle.std.proofs.Common.{◌≡◌, ◌<◌, ◌^◌, true, take}
use Rattle.std.specs.List.{list_all}
use Rattle.loc_base.specs.Ascii.{is_decimal}
use Rattle.aiger_text.specs.Numbers.{number_of}
use Rattle.aiger_text.proofs.numbers.digits.Given as goal

abbrev pub invariant-loop-digit : goal.invariant-loop-digit
invariant-loop-digit l = record {
  number : l.number ≡ number_of (take l.digit-index l.word);
  right : list_all is_decimal (take l.digit-index l.word) ≡ true;
  low : l.number < 10 ^ l.digit-index;
}
