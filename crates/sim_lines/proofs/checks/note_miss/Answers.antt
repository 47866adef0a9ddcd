use Rattle.std.proofs.Common.{◌≡◌, ◌<◌, length, ap, sym, subst, ◌∙◌}
use Rattle.loc_base.specs.Bits.{width_of}
use Rattle.design_core.specs.declared.design.Design.{Design}
use Rattle.design_core.specs.declared.trace.Checked.{Checked}
use Rattle.design_core.specs.Valuation.{width_at}
use Rattle.plain_sim.proofs.EvaluateOutputs.{outputs-listed}
use Rattle.sim_lines.proofs.CheckLaws.{Entry, entry-at}
use Rattle.sim_lines.proofs.checks.note_miss.Goals as goal

pub index-output-requires : goal.index-output-requires
index-output-requires g c =
    subst (λ n. c.args.miss.now.output < n) (sym c.args.design.now.outputs.ok.0)
    (outputs-listed c.args.design.now c.args.miss.now.expected.now c.args.miss.now.output c.requires.expected c.requires.output)

pub value-given-requires-clause-signal : goal.value-given-requires-clause-signal
value-given-requires-clause-signal g c =
    let entry : Entry c.args.design.now c.args.miss.now.expected.now c.args.miss.now.output c.index-output.result.now c.index-miss-miss.result =
    entry-at c.args.design.now c.args.miss.now.expected.now c.args.miss.now.output c.index-output.result.now c.index-miss-miss.result c.requires.expected c.requires.output c.index-output.ensures c.index-miss-miss.is in
    subst (λ (D : Design). c.index-output.result.now < length D.signals.items) (sym c.requires.design) entry.within

pub index-requires : goal.index-requires
index-requires g c =
    let entry : Entry c.args.design.now c.args.miss.now.expected.now c.args.miss.now.output c.index-output.result.now c.index-miss-miss.result =
    entry-at c.args.design.now c.args.miss.now.expected.now c.args.miss.now.output c.index-output.result.now c.index-miss-miss.result c.requires.expected c.requires.output c.index-output.ensures c.index-miss-miss.is in
    subst (λ n. c.index-output.result.now < n) (sym c.args.design.now.signals.ok.0) entry.within

pub wanted_of-requires-clause-value : goal.wanted_of-requires-clause-value
wanted_of-requires-clause-value g c =
    let entry : Entry c.args.design.now c.args.miss.now.expected.now c.args.miss.now.output c.index-output.result.now c.index-miss-miss.result =
    entry-at c.args.design.now c.args.miss.now.expected.now c.args.miss.now.output c.index-output.result.now c.index-miss-miss.result c.requires.expected c.requires.output c.index-output.ensures c.index-miss-miss.is in
    subst (λ (D : Design). width_of c.value-given.result ≡ width_at D.signals.items c.index-output.result.now) c.requires.design c.value-given.ensures.width
    ∙ entry.value ∙ ap (λ (e : Checked). width_of e.value) c.index-miss-miss.is

pub wanted_of-requires-clause-mask : goal.wanted_of-requires-clause-mask
wanted_of-requires-clause-mask g c =
    let entry : Entry c.args.design.now c.args.miss.now.expected.now c.args.miss.now.output c.index-output.result.now c.index-miss-miss.result =
    entry-at c.args.design.now c.args.miss.now.expected.now c.args.miss.now.output c.index-output.result.now c.index-miss-miss.result c.requires.expected c.requires.output c.index-output.ensures c.index-miss-miss.is in
    subst (λ (D : Design). width_of c.value-given.result ≡ width_at D.signals.items c.index-output.result.now) c.requires.design c.value-given.ensures.width
    ∙ entry.mask ∙ ap (λ (e : Checked). width_of e.mask) c.index-miss-miss.is
