use Rattle.std.proofs.Common.{◌≡◌, ◌++◌, take}
use Rattle.std.specs.List.{flat_map}
use Rattle.design_core.specs.Words.{valuation_of}
use Rattle.change_lines.specs.Lines.{shown, shown_text}
use Rattle.change_lines.proofs.names.push_all_shown.Given as goal

abbrev pub invariant-loop-signal : goal.invariant-loop-signal
invariant-loop-signal l =
    l.text.items ≡ l.initial.text.items
    ++ flat_map (λ s. shown_text (shown l.design (valuation_of l.words) s)) (take l.signal-index l.signals)
