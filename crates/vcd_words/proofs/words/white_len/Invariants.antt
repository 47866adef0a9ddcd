use Rattle.std.proofs.Common.{◌≡◌, ◌+◌, ℕ, drop}
use Rattle.vcd_words.specs.Words.{words_at}
use Rattle.vcd_words.proofs.words.white_len.Given as goal

abbrev pub invariant-loop-i : goal.invariant-loop-i
invariant-loop-i l = (at : ℕ) → words_at at l.text ≡ words_at (at + l.i) (drop l.i l.text)
