use Rattle.std.proofs.Common.{◌≡◌, take, false}
use Rattle.design_core.specs.Words.{valuation_of, AreWordsOf}
use Rattle.design_core.specs.Cycle.{before}
use Rattle.plain_list.specs.Network.{settled_from}
use Rattle.plain_list.specs.Trial.{choice_of}
use Rattle.plain_list.proofs.settle.settle.Given as goal

abbrev pub invariant-loop-i : goal.invariant-loop-i
invariant-loop-i l =
    AreWordsOf l.d.signals.items l.words
    × (valuation_of l.words ≡ settled_from l.d (choice_of l.places l.numbers) (before l.d l.samples (λ _ _. false)) (take l.i l.order))
