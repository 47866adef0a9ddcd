use Rattle.std.proofs.Common.{◌≡◌, ◌-◌, ◌≤◌, length}
use Rattle.v_lexer.specs.declared.types.terminal.Terminal.TheVariants as marks
use Rattle.v_parts.specs.Reading.{run_at}
use Rattle.v_syntax.specs.ModuleTree.{port_of}
use Rattle.v_declarations.specs.Headers.{is_reg}
use Rattle.v_declarations.specs.HeaderReading.{next_port_at, ports_at}
use Rattle.v_parts.proofs.ListSteps.{with_front}
use Rattle.v_declarations.proofs.headers.ports.Given as goal

abbrev pub invariant-loop : goal.invariant-loop
invariant-loop l = record {
  inside : l.end-2 ≤ length l.tokens;
  goes_on : ports_at l.tokens l.nesting_left (port_of l.fn.first) l.at
      ≡ with_front port_of l.list.items (run_at l.tokens marks.Close (next_port_at l.tokens l.nesting_left) is_reg (l.end - l.counter) l.reg l.end-2);
}
