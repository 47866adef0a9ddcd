use Rattle.std.proofs.Common.{◌≡◌, subst, ap, sym}
use Rattle.design_core.specs.declared.design.Design.{Design}
use Rattle.design_core.specs.Valuation.{Valuation}
use Rattle.io_ports.specs.Sink.{SinkAppends}
use Rattle.cycle_sim.specs.Simulated.{Simulated}
use Rattle.cycle_sim.specs.Simulator.{held_by}
use Rattle.sim_lines.specs.Lines.{cycle_line, line_text}
use Rattle.sim_lines.specs.Running.{design_of}
use Rattle.sim_lines.proofs.runner.Runner.show_cycle.Goals as goal

pub returns-clause-text : goal.returns-clause-text
returns-clause-text g c told =
    let same : design_of c.step.new.self ≡ design_of c.args.self.now = c.step.ensures.same.design in
    let values : (held_by c.step.new.self.sim).values ≡ (held_by c.put_cycle.new.self.sim).values = ap (λ (s : Simulated). s.values) (sym c.put_cycle.ensures.sim) in
    subst (λ (V : Valuation). SinkAppends (line_text (cycle_line (design_of c.args.self.now) c.args.moment.trace c.args.moment.cycle V)) (g.O.Sink.written c.args.out.now) (g.O.Sink.written c.put_cycle.new.out) c.put_cycle.result)
    values
    (subst (λ (D : Design). SinkAppends (line_text (cycle_line D c.args.moment.trace c.args.moment.cycle (held_by c.step.new.self.sim).values)) (g.O.Sink.written c.args.out.now) (g.O.Sink.written c.put_cycle.new.out) c.put_cycle.result)
    same (c.put_cycle.ensures.text told))
