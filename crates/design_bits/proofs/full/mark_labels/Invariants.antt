use Rattle.std.proofs.Common.{take}
use Rattle.std.specs.List.{list_any}
use Rattle.design_core.specs.FullCase.{constant_matches, decided}
use Rattle.design_bits.specs.Full.{Marks}
use Rattle.design_bits.proofs.full.mark_labels.Given as goal

abbrev pub invariant-loop-label : goal.invariant-loop-label
invariant-loop-label l =
    Marks l.initial.seen l.seen (λ n. list_any (λ y. constant_matches l.signals (decided l.subject.width l.subject.node n) y) (take l.label-index l.labels))
