use Rattle.std.proofs.Common.{◌≡◌, ◌+◌, ◌*◌, ◌^◌, ◌≤◌, true, take}
use Rattle.std.specs.List.{list_all}
use Rattle.loc_base.specs.Ascii.{is_visible}
use Rattle.vcd_words.specs.Codes.{place_of}
use Rattle.vcd_words.proofs.codes.code_place.Given as goal

abbrev pub invariant-loop-byte : goal.invariant-loop-byte
invariant-loop-byte l = record {
  place : l.place ≡ place_of (take l.byte-index l.word);
  power : l.power ≡ 94 ^ l.byte-index;
  right : list_all is_visible (take l.byte-index l.word) ≡ true;
  low : 93 * l.place + 94 ≤ 94 * l.power;
}
