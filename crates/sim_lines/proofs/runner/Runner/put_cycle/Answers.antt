use Rattle.std.proofs.Common.{◌≡◌, ◌++◌, ◌∙◌, ℕ, List, ap, subst}
use Rattle.design_core.specs.declared.design.Design.{Design}
use Rattle.io_ports.specs.Sink.{SinkAppends}
use Rattle.cycle_sim.specs.Simulator.{held_by}
use Rattle.sim_lines.specs.Lines.{cycle_line, line_text}
use Rattle.sim_lines.specs.Running.{design_of}
use Rattle.sim_lines.proofs.runner.Runner.put_cycle.Goals as goal

pub returns-clause-text : goal.returns-clause-text
returns-clause-text g c told =
    let text : Design → List ℕ =
    λ D. line_text (cycle_line D c.args.moment.trace c.args.moment.cycle (held_by c.args.self.now.sim).values) in
    let line : c.deref.result.now ≡ text (design_of c.args.self.now) =
    c.deref.ensures.value ∙ c.in_ok-push_cycle.ensures
    ∙ ap (λ (xs : List ℕ). xs ++ text c.args.self.now.design.now) c.clear.ensures.items
    ∙ ap text c.requires.runner.design in
    subst (λ (piece : List ℕ). SinkAppends piece (g.O.Sink.written c.args.out.now) (g.O.Sink.written c.put.new.self) c.put.result)
    line (c.put.ensures.text told)
