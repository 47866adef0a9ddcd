use Rattle.bind_signals.proofs.ZeroWords.{zero-word}
use Rattle.bind_signals.proofs.signals.zero_word.Goals as goal

pub returns : goal.returns
returns c = zero-word c.zero.result c.args.width c.requires.least c.requires.most c.zero.ensures.width c.zero.ensures.value
