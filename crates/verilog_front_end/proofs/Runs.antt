-- The design of a text that breaks no rule has one run of each trace.
use Rattle.std.proofs.Common.{ℕ, Bool, List}
use Rattle.design_core.specs.declared.design.Design.{Design}
use Rattle.design_core.specs.declared.trace.Trace.{Trace}
use Rattle.design_core.specs.WellFormed.{IsWellFormed}
use Rattle.design_core.specs.Reads.{IsOrder}
use Rattle.design_core.specs.Run.{Choices}
use Rattle.design_core.proofs.RunLaws.{run-exists, run-unique}
use Rattle.design_rules.specs.OneDriver.{IsDrivenTwice}
use Rattle.design_rules.proofs.OneDriverLaws.{driven-once}
use Rattle.verilog_front_end.specs.Texts.{HasOneRun}

pub one-run : (d : Design) (order : List ℕ) → IsWellFormed d → ((s : ℕ) → ¬ IsDrivenTwice d s) → IsOrder d order
    → (trace : Trace) (freed : ℕ → Bool) (c : Choices) → HasOneRun d trace freed c
one-run d order well one ordered trace freed c =
    let found = run-exists d order well (driven-once d well one) ordered trace freed c in
    record { run = found.0; is = found.1; only = λ other is. run-unique d order well ordered trace freed c found.0 other found.1 is }
