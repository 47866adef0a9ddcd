use Rattle.std.proofs.Common.{◌≡◌, ◌≤◌, ◌-◌, length}
use Rattle.vcd_words.specs.Words.{words_left}
use Rattle.vcd_reading.specs.Pieces.{behind_end}
use Rattle.vcd_reading.proofs.header.section_end.Given as goal

abbrev pub invariant-loop-word : goal.invariant-loop-word
invariant-loop-word l = record {
  later : l.from ≤ l.at;
  behind : behind_end (words_left l.text l.from) ≡ behind_end (words_left l.text l.at);
}

abbrev pub decreases-loop-word : goal.decreases-loop-word
decreases-loop-word l = length l.initial.text - l.at
