use Rattle.std.proofs.Common.{◌≡◌, ◌++◌, map, take}
use Rattle.note_text.specs.Texts.{shown_byte}
use Rattle.note_text.proofs.excerpt.push_shown.Given as goal

abbrev pub invariant-loop-byte : goal.invariant-loop-byte
invariant-loop-byte l = l.text.items ≡ l.initial.text.items ++ map shown_byte (take l.byte-index l.line)
