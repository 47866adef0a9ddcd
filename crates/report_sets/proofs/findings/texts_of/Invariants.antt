use Rattle.std.proofs.Common.{◌≡◌, map, take}
use Rattle.report_sets.specs.Found.{word_text}
use Rattle.report_sets.proofs.findings.texts_of.Given as goal

abbrev pub invariant-loop-word : goal.invariant-loop-word
invariant-loop-word l = l.texts ≡ map word_text (take l.word-index l.words)
