use Rattle.std.proofs.Common.{◌≡◌, ℕ, ◌<◌, List, [], length, All, arith, ap, ap₂, sym, ◌∙◌, subst}
use Rattle.std.specs.Prelude.{map, get_or}
use Rattle.design_core.specs.declared.design.Design.{Design}
use Rattle.design_core.specs.Valuation.{number, width_at}
use Rattle.design_core.specs.Run.{start_state}
use Rattle.synth_parts.specs.Store.{nodes_made}
use Rattle.synth_parts.specs.Driver.{drivers_made}
use Rattle.v_synth.specs.Clocked.{bodies_made, resets_made}
use Rattle.v_synth.specs.Net.{nexts_made}
use Rattle.v_synth.proofs.NetSteps.{net-is, parts-fit}
use Rattle.v_synth.proofs.rows.Blocks.parts.Goals as goal

pub begin-requires-clause-inputs : goal.begin-requires-clause-inputs
begin-requires-clause-inputs c = let f = parts-fit c.args.self.now.design.now c.args.order.now c.requires.well_formed in omega (arith, f.few_inputs, c.requires.few)

pub begin-requires-clause-within : goal.begin-requires-clause-within
begin-requires-clause-within c = (parts-fit c.args.self.now.design.now c.args.order.now c.requires.well_formed).inputs

pub nexts-requires-clause-within : goal.nexts-requires-clause-within
nexts-requires-clause-within c =
    subst (All (λ s. s < length c.args.self.now.design.now.signals.items)) (sym (c.as_slice-8.ensures ∙ c.in_ok-first.ensures.states))
    (parts-fit c.args.self.now.design.now c.args.order.now c.requires.well_formed).states

pub outputs-requires : goal.outputs-requires
outputs-requires c =
    let long : length c.as_slice-9.result.now ≡ length c.args.self.now.design.now.signals.items =
    ap length c.as_slice-9.ensures ∙ c.in_ok-drivers.ensures.each ∙ ap length c.as_slice-3.ensures.value in
    subst (λ k. All (λ s. s < k) c.args.self.now.design.now.outputs.items) (sym long) (parts-fit c.args.self.now.design.now c.args.order.now c.requires.well_formed).outputs

pub starts-requires-clause-within : goal.starts-requires-clause-within
starts-requires-clause-within c =
    subst (All (λ s. s < length c.args.self.now.design.now.signals.items)) (sym (c.as_slice-10.ensures ∙ c.in_ok-first.ensures.states))
    (parts-fit c.args.self.now.design.now c.args.order.now c.requires.well_formed).states

pub returns : goal.returns
returns c =
    let d : Design = c.args.self.now.design.now in
    let first : List ℕ = c.in_ok-first.first.map in
    let states : List ℕ = c.in_ok-first.first.states in
    let registers : List ℕ = c.resets.new.map in
    let values : List ℕ = c.drivers.new.map in
    let left : List ℕ = c.bodies.new.map in
    let r : nodes_made c.resets.new.nodes registers ≡ resets_made d first c.begin.new.nodes first d.clocked.items =
    c.in_ok-resets.ensures.ok ∙ ap₂ (λ x y. resets_made d x c.begin.new.nodes y d.clocked.items) c.as_slice-2.ensures (c.in_ok-map.ensures ∙ c.as_slice.ensures) in
    let v : nodes_made c.drivers.new.nodes values ≡ drivers_made d.signals.items d.drivers.items c.resets.new.nodes registers c.args.order.now =
    c.in_ok-drivers.ensures.ok
    ∙ ap₂ (λ xs ys. drivers_made xs ys c.resets.new.nodes registers c.as_slice-4.result.now) c.as_slice-3.ensures.value c.as_slice-drivers.ensures.value
    ∙ ap (drivers_made d.signals.items d.drivers.items c.resets.new.nodes registers) c.as_slice-4.ensures in
    let l : nodes_made c.bodies.new.nodes left ≡ bodies_made d values c.drivers.new.nodes values d.clocked.items =
    c.in_ok-bodies.ensures.ok ∙ ap₂ (λ x y. bodies_made d x c.drivers.new.nodes y d.clocked.items) c.as_slice-6.ensures (c.in_ok-left.ensures ∙ c.as_slice-5.ensures) in
    let n : nodes_made c.nexts.new.nodes c.in_ok-next.next ≡ nexts_made d left c.bodies.new.nodes [] states =
    c.in_ok-next.ensures ∙ ap₂ (λ x y. nexts_made d x c.bodies.new.nodes [] y) c.as_slice-7.ensures c.as_slice-8.ensures in
    let o : c.in_ok-outputs.field-0 ≡ map (λ s. get_or values s 0) d.outputs.items =
    c.in_ok-outputs.ensures ∙ ap (λ xs. map (λ s. get_or xs s 0) d.outputs.items) c.as_slice-9.ensures in
    net-is d c.args.order.now c.begin.new.nodes c.resets.new.nodes c.drivers.new.nodes c.bodies.new.nodes c.nexts.new.nodes first registers values left c.in_ok-next.next c.in_ok-outputs.field-0 states c.in_ok-starts.field-0
    c.in_ok-first.ensures.made r v l n c.in_ok-first.ensures.states o
    (c.in_ok-starts.ensures.widths ∙ ap (map (width_at d.signals.items)) c.as_slice-10.ensures)
    (c.in_ok-starts.ensures.values ∙ ap (map (λ s. number (width_at d.signals.items s) (start_state d s))) c.as_slice-10.ensures)
