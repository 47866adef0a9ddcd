use Rattle.std.proofs.Common.{◌≡◌, drop}
use Rattle.std.specs.List.{list_any}
use Rattle.change_lines.specs.Operands.{names}
use Rattle.change_lines.proofs.operands.+names.Given as goal

abbrev pub invariant-some_names-loop-part : goal.invariant-some_names-loop-part
invariant-some_names-loop-part l = list_any (names l.signal) (drop l.part-index l.parts) ≡ list_any (names l.signal) l.parts
