use Rattle.std.proofs.Common.{◌+◌, arith}
use Rattle.bind_signals.specs.Words.{word_at}
use Rattle.bind_signals.proofs.WordLaws.{words-pushed}
use Rattle.bind_signals.proofs.words.Array.add_words.Goals as goal

pub loop-place-preserved : goal.loop-place-preserved
loop-place-preserved c =
    words-pushed (word_at c.args.self.now) c.args.addresses.low c.loop-place.place (c.loop-place.place + 1) c.args.signals.now c.loop-place.signals c.push.new.self c.in_ok-word.word
    (omega arith) c.in_ok-push.ensures.ok c.in_ok-word.ensures c.loop-place.invariant
