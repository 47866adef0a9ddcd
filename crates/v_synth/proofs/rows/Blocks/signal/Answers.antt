use Rattle.std.proofs.Common.{◌≡◌, ℕ, List, ap, sym, ◌∙◌, subst}
use Rattle.std.specs.Prelude.{IfOk}
use Rattle.design_core.specs.declared.design.Design.{Design}
use Rattle.design_core.specs.Valuation.{width_at}
use Rattle.word_net.specs.declared.node.Operation.TheVariants as operation
use Rattle.word_net.specs.declared.node.WordNode.{WordNode}
use Rattle.word_net.specs.Build.{made, pushed}
use Rattle.v_synth.specs.Clocked.{first_made}
use Rattle.v_synth.proofs.FirstSteps.{first-listed, first-state, first-none}
use Rattle.v_synth.proofs.rows.Blocks.signal.Goals as goal

pub returns-in-Some : goal.returns-in-Some
returns-in-Some c =
    first-listed c.args.self.now.design.now c.args.nodes.now c.args.register.signal c.args.number c.in-Some.input (sym c.in-Some.is ∙ c.requires.place)

pub returns-then-register-ne0 : goal.returns-then-register-ne0
returns-then-register-ne0 c =
    subst (λ k. IfOk c.state.result (λ n. made c.state.new.nodes n ≡ k))
    (first-state c.args.self.now.design.now c.args.nodes.now c.args.register.signal c.args.number c.args.register.mask c.args.place c.requires.place c.in_default.is c.requires.mask c.if-register-ne0.true) c.state.ensures

pub returns : goal.returns
returns c =
    let d : Design = c.args.self.now.design.now in
    let N : List WordNode = c.args.nodes.now in
    let s : ℕ = c.args.register.signal in
    let wide : c.width-width.result ≡ width_at d.signals.items s = c.width-width.ensures ∙ ap (λ xs. width_at xs s) c.deref.ensures.value in
    let same : pushed N c.width-width.result (operation.Const 0) ≡ first_made d N s c.args.number =
    ap (λ w. pushed N w (operation.Const 0)) wide ∙ first-none d N s c.args.number c.args.register.mask c.args.place c.requires.place c.in_default.is c.requires.mask c.if-register-ne0.false in
    subst (λ k. IfOk c.push.result (λ n. made c.push.new.nodes n ≡ k)) same c.push.ensures
