use Rattle.std.proofs.Common.{◌≡◌, map, take}
use Rattle.loc_base.specs.Bits.{width_of}
use Rattle.plain_list.proofs.works.blank_words.Given as goal

abbrev pub invariant-loop-signal : goal.invariant-loop-signal
invariant-loop-signal l = map width_of l.words.items ≡ map (λ s. s.width) (take l.signal-index l.signals)
