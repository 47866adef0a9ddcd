use Rattle.std.proofs.Common.{◌≡◌, ℕ, take, drop}
use Rattle.vcd_words.specs.Words.{words_at, words_from}
use Rattle.vcd_words.proofs.words.word_len.Given as goal

abbrev pub invariant-loop-i : goal.invariant-loop-i
invariant-loop-i l = (at : ℕ) → words_at at l.text ≡ words_from at (take l.i l.text) (drop l.i l.text)
