use Rattle.std.proofs.Common.{◌≡◌, rules, subst, ap, ◌∙◌}
use Rattle.std.specs.Option.{option_map}
use Rattle.design_core.specs.declared.design.Design.{Design}
use Rattle.io_ports.specs.Sink.{SinkAppends}
use Rattle.sim_lines.specs.Lines.{end_line, line_text}
use Rattle.sim_lines.specs.Running.{place_of}
use Rattle.sim_lines.proofs.runner.Runner.show_end.Goals as goal

pub returns-clause-text : goal.returns-clause-text
returns-clause-text g c told =
    let line : c.deref.result.now ≡ line_text (end_line c.args.self.now.design.now c.args.number (option_map place_of c.args.miss)) = search rules in
    subst (λ t. SinkAppends t (g.O.Sink.written c.args.out.now) (g.O.Sink.written c.put.new.self) c.put.result)
    (line ∙ ap (λ (D : Design). line_text (end_line D c.args.number (option_map place_of c.args.miss))) c.requires.runner.design) (c.put.ensures.text told)
