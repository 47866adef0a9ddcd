use Rattle.std.proofs.Common.{◌≡◌, drop, not}
use Rattle.std.specs.List.{list_all}
use Rattle.design_core.specs.Drives.{is_reg}
use Rattle.small_networks.proofs.networks.has_no_registers.Given as goal

abbrev pub invariant-loop-signal : goal.invariant-loop-signal
invariant-loop-signal l = record {
  rest : list_all (λ signal. not (is_reg signal.kind)) l.signals
      ≡ list_all (λ signal. not (is_reg signal.kind)) (drop l.signal-index l.signals);
}
