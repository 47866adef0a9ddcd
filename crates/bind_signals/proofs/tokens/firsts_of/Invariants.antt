use Rattle.std.proofs.Common.{◌≡◌, ℕ, List, map, drop}
use Rattle.std.specs.Option.{option_or}
use Rattle.v_hierarchy.specs.Places.{place_in}
use Rattle.v_hierarchy.specs.Views.{entry_of}
use Rattle.v_binding.specs.Signals.{declared_at}
use Rattle.bind_signals.proofs.tokens.firsts_of.Given as goal

abbrev pub invariant-loop-entry : goal.invariant-loop-entry
invariant-loop-entry l = (q : List ℕ)
    → option_or (place_in l.table q) (declared_at q (map entry_of (drop l.entry-index l.entries))) ≡ declared_at q (map entry_of l.entries)
