use Rattle.std.proofs.Common.{◌<◌, length, refl}
use Rattle.plain_values.proofs.EvaluateWords.{slice_get_at}
use Rattle.cycle_sim.proofs.Blending.{mask-within, within-bits}
use Rattle.cycle_sim.proofs.plan.within.Goals as goal

pub returns-clause-bits : goal.returns-clause-bits
returns-clause-bits c s b =
    let within : c.args.mask.signal < length c.args.words.now = mask-within c.args.words.now c.args.mask c.requires in
    within-bits c.args.words.now c.args.mask (record { signal = c.args.mask.signal; bits = c.and.result }) c.index-words-mask.result
    (slice_get_at c.args.words.now c.args.mask.signal c.index-words-mask.result within c.index-words-mask.is) refl c.and.ensures.value s b
