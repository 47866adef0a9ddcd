use Rattle.std.proofs.Common.{◌≡◌, ◌-◌, ◌≤◌, length}
use Rattle.v_syntax.specs.ModuleTree.{module_of}
use Rattle.v_parser.specs.ModuleReading.{modules_at, source_at}
use Rattle.v_parts.proofs.ListSteps.{with_front}
use Rattle.v_parser.proofs.modules.modules.Given as goal

abbrev pub invariant-loop : goal.invariant-loop
invariant-loop l =
    record {
      inside : l.end-2 ≤ length l.tokens;
      goes_on : source_at l.tokens 0 ≡ with_front module_of l.list.items (modules_at l.tokens (l.end - l.counter) l.end-2);
    }
