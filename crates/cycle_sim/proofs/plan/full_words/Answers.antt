use Rattle.std.proofs.Common.{◌∙◌, ap, arith, sym}
use Rattle.std.specs.Prelude.{◌&&◌, nat_lt}
use Rattle.std.specs.Option.{option_map_or}
use Rattle.std.proofs.lemmas.Option.{slice_get_past}
use Rattle.design_core.specs.declared.signal.Signal.{Signal}
use Rattle.design_core.specs.Drives.{is_reg}
use Rattle.std.proofs.Common.{false}
use Rattle.cycle_sim.specs.Planned.{is_full_bit}
use Rattle.design_core.specs.WellFormed.{signal_fits}
use Rattle.cycle_sim.proofs.Collecting.{passes-at}
use Rattle.cycle_sim.proofs.Filling.{filled-next, filled-bits}
use Rattle.cycle_sim.proofs.plan.full_words.Goals as goal

pub loop-k-preserved : goal.loop-k-preserved
loop-k-preserved c =
    rw c.in_ok-push.ensures.items
    (filled-next (is_full_bit c.args.signals.now) c.args.signals.now c.loop-k.words.items c.loop-k.k c.signal_at.result.now
    c.full_word.result c.signal_at.ensures c.loop-k.invariant c.full_word.ensures.width
    (λ b. c.full_word.ensures.bits b ∙ sym (ap
    (λ o. option_map_or (λ (x : Signal). is_reg x.kind && nat_lt b x.width) o false) c.signal_at.ensures)))

pub returns-clause-bits : goal.returns-clause-bits
returns-clause-bits c =
    filled-bits (is_full_bit c.args.signals.now) c.args.signals.now c.loop-k.words.items c.loop-k.k
    (omega (arith, c.loop-k-test.false, c.loop-k.auto.k-end)) c.loop-k.invariant
    (λ s b past. ap (λ o. option_map_or (λ (x : Signal). is_reg x.kind && nat_lt b x.width) o false)
    (slice_get_past c.args.signals.now s past))

pub full_word-requires : goal.full_word-requires
full_word-requires c = passes-at signal_fits c.args.signals.now c.loop-k.k c.signal_at.result.now c.requires c.signal_at.ensures
