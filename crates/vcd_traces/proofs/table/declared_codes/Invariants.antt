use Rattle.std.proofs.Common.{◌≡◌, ℕ, List, map, take, Some, None, if◌then◌else◌}
use Rattle.std.specs.List.{list_any}
use Rattle.vcd_traces.specs.declared.codes.Role.TheVariants.{Other}
use Rattle.vcd_reading.specs.Commands.{same_bytes}
use Rattle.vcd_reading.specs.Header.{Variable}
use Rattle.vcd_reading.specs.HeaderView.{variable_of}
use Rattle.vcd_traces.specs.Table.{role_of}
use Rattle.vcd_traces.proofs.table.declared_codes.Given as goal

abbrev pub invariant-loop-variable : goal.invariant-loop-variable
invariant-loop-variable l =
    (code : List ℕ)
    → role_of l.codes code ≡ (if list_any (λ (v : Variable). same_bytes v.code code) (map variable_of (take l.variable-index l.variables)) then Some Other else None)
