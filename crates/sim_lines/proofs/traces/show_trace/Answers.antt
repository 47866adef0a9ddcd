use Rattle.std.proofs.Common.{ℕ, ◌≡◌, ◌++◌, ◌∙◌, Bool, subst, sym, rules, Ok, Err, Option}
use Rattle.std.specs.Option.{option_map}
use Rattle.design_core.specs.declared.design.Design.{Design}
use Rattle.design_core.specs.Run.{IsRun}
use Rattle.io_ports.specs.Sink.{SinkAppends}
use Rattle.sim_lines.specs.declared.lines.Wrong.{Wrong}
use Rattle.sim_lines.specs.Lines.{IsEnd, cycle_lines, end_line, line_text, no_place, no_values, text_of}
use Rattle.sim_lines.specs.Shows.{Shows}
use Rattle.sim_lines.specs.Running.{design_of, order_of, place_of}
use Rattle.sim_lines.proofs.EndLaws.{end-unique, output-within}
use Rattle.sim_lines.proofs.RightLaws.{met-by, trace-right}
use Rattle.sim_lines.proofs.TraceLaws.{cycles-stopped, trace-ended}
use Rattle.sim_lines.proofs.traces.show_trace.Goals as goal

pub returns-in_err-miss-clause-text : goal.returns-in_err-miss-clause-text
returns-in_err-miss-clause-text g c told lines are =
    let same : c.from_residual.result ≡ Err c.in_err-miss.field-0.0 = search rules in
    let d : Design = design_of c.args.runner.now in
    let reset : design_of c.reset.new.self ≡ d = c.reset.ensures.same.design in
    subst (λ r. Shows lines (g.O.Sink.written c.args.out.now) (g.O.Sink.written c.show_cycles.new.out) r) (sym same)
    (cycles-stopped (Option Wrong) Bool d c.args.number c.args.trace.now lines (g.O.Sink.written c.args.out.now) (g.O.Sink.written c.show_cycles.new.out) c.in_err-miss.field-0.0 are
    (λ run is. subst (λ (D : Design). Shows {X = Option Wrong} (cycle_lines D c.args.number 0 run) (g.O.Sink.written c.args.out.now) (g.O.Sink.written c.show_cycles.new.out) (Err c.in_err-miss.field-0.0)) reset
    (c.in_err-miss.ensures.text told run (subst (λ (D : Design). IsRun D c.args.trace.now no_place no_values run) (sym reset) is))))

pub show_end-requires-clause-output : goal.show_end-requires-clause-output
show_end-requires-clause-output g c =
    output-within (design_of c.show_cycles.new.runner) c.args.trace.now c.in_ok-miss.miss
    (subst (λ (D : Design). IsEnd D c.args.trace.now (option_map place_of c.in_ok-miss.miss)) (sym c.show_cycles.ensures.same.design) c.in_ok-miss.ensures.end)

pub returns-in_err-show_end-clause-text : goal.returns-in_err-show_end-clause-text
returns-in_err-show_end-clause-text g c told lines are =
    let same : c.from_residual-in_err-show_end.result ≡ Err c.in_err-show_end.field-0.0 = search rules in
    let d : Design = design_of c.args.runner.now in
    let reset : design_of c.reset.new.self ≡ d = c.reset.ensures.same.design in
    let cycles : design_of c.show_cycles.new.runner ≡ d = c.show_cycles.ensures.same.design ∙ reset in
    let found : Option (ℕ × ℕ) = option_map place_of c.in_ok-miss.miss in
    let is_found : IsEnd d c.args.trace.now found = subst (λ (D : Design). IsEnd D c.args.trace.now found) reset c.in_ok-miss.ensures.end in
    subst (λ r. Shows lines (g.O.Sink.written c.args.out.now) (g.O.Sink.written c.show_end.new.out) r) (sym same)
    (trace-ended Bool d c.args.number c.args.trace.now lines (g.O.Sink.written c.args.out.now) (g.O.Sink.written c.show_cycles.new.out) (g.O.Sink.written c.show_end.new.out) (Err c.in_err-show_end.field-0.0) are
    (λ run is. subst (λ (D : Design). g.O.Sink.written c.show_cycles.new.out ≡ g.O.Sink.written c.args.out.now ++ text_of (cycle_lines D c.args.number 0 run)) reset
    (c.in_ok-miss.ensures.text told run (subst (λ (D : Design). IsRun D c.args.trace.now no_place no_values run) (sym reset) is)))
    (λ end is. subst (λ (e : Option (ℕ × ℕ)). SinkAppends {X = Unit {0}} (line_text (end_line d c.args.number e)) (g.O.Sink.written c.show_cycles.new.out) (g.O.Sink.written c.show_end.new.out) (Err c.in_err-show_end.field-0.0))
    (end-unique d (order_of c.args.runner.now) c.requires.runner.can.simulable c.args.trace.now found end is_found is)
    (subst (λ (D : Design). SinkAppends {X = Unit {0}} (line_text (end_line D c.args.number found)) (g.O.Sink.written c.show_cycles.new.out) (g.O.Sink.written c.show_end.new.out) (Err c.in_err-show_end.field-0.0)) cycles
    (c.in_err-show_end.ensures.text (c.show_cycles.ensures.tells ∙ told)))))

pub returns-clause-text : goal.returns-clause-text
returns-clause-text g c told lines are =
    let d : Design = design_of c.args.runner.now in
    let reset : design_of c.reset.new.self ≡ d = c.reset.ensures.same.design in
    let cycles : design_of c.show_cycles.new.runner ≡ d = c.show_cycles.ensures.same.design ∙ reset in
    let found : Option (ℕ × ℕ) = option_map place_of c.in_ok-miss.miss in
    let is_found : IsEnd d c.args.trace.now found = subst (λ (D : Design). IsEnd D c.args.trace.now found) reset c.in_ok-miss.ensures.end in
    trace-ended Bool d c.args.number c.args.trace.now lines (g.O.Sink.written c.args.out.now) (g.O.Sink.written c.show_cycles.new.out) (g.O.Sink.written c.show_end.new.out) (Ok c.is_none.result) are
    (λ run is. subst (λ (D : Design). g.O.Sink.written c.show_cycles.new.out ≡ g.O.Sink.written c.args.out.now ++ text_of (cycle_lines D c.args.number 0 run)) reset
    (c.in_ok-miss.ensures.text told run (subst (λ (D : Design). IsRun D c.args.trace.now no_place no_values run) (sym reset) is)))
    (λ end is. subst (λ (e : Option (ℕ × ℕ)). SinkAppends (line_text (end_line d c.args.number e)) (g.O.Sink.written c.show_cycles.new.out) (g.O.Sink.written c.show_end.new.out) (Ok c.is_none.result))
    (end-unique d (order_of c.args.runner.now) c.requires.runner.can.simulable c.args.trace.now found end is_found is)
    (subst (λ (D : Design). SinkAppends (line_text (end_line D c.args.number found)) (g.O.Sink.written c.show_cycles.new.out) (g.O.Sink.written c.show_end.new.out) (Ok c.is_none.result)) cycles
    (c.in_ok-show_end.ensures.text (c.show_cycles.ensures.tells ∙ told))))

pub returns-clause-right : goal.returns-clause-right
returns-clause-right g c lines are =
    let d : Design = design_of c.args.runner.now in
    let reset : design_of c.reset.new.self ≡ d = c.reset.ensures.same.design in
    let found : Option (ℕ × ℕ) = option_map place_of c.in_ok-miss.miss in
    let is_found : IsEnd d c.args.trace.now found = subst (λ (D : Design). IsEnd D c.args.trace.now found) reset c.in_ok-miss.ensures.end in
    met-by c.in_ok-miss.miss c.is_none.result c.is_none.ensures ∙ sym (trace-right d (order_of c.args.runner.now) c.requires.runner.can.simulable c.args.number c.args.trace.now lines c.in_ok-miss.miss are is_found)
