use Rattle.std.proofs.Common.{◌≡◌, ◌<◌, ◌^◌, true, take}
use Rattle.std.specs.List.{list_all}
use Rattle.loc_base.specs.Ascii.{is_decimal}
use Rattle.vcd_words.specs.Times.{time_of}
use Rattle.vcd_words.proofs.times.read_time.Given as goal

abbrev pub invariant-loop-digit : goal.invariant-loop-digit
invariant-loop-digit l = record {
  time : l.time ≡ time_of (take l.digit-index l.word);
  right : list_all is_decimal (take l.digit-index l.word) ≡ true;
  low : l.time < 10 ^ l.digit-index;
}
