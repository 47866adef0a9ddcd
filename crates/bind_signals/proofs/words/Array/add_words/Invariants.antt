use Rattle.std.proofs.Common.{◌≡◌, ◌++◌, map}
use Rattle.v_binding.specs.Signals.{words}
use Rattle.bind_scopes.specs.Views.{numbered_of}
use Rattle.bind_signals.specs.Words.{word_at}
use Rattle.bind_signals.proofs.words.Array.add_words.Given as goal

abbrev pub invariant-loop-place : goal.invariant-loop-place
invariant-loop-place l = map numbered_of l.signals ≡ map numbered_of l.initial.signals ++ words (word_at l.self) l.place l.addresses.low
