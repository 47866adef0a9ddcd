-- The words of an array.
use Rattle.std.specs.Prelude.{ℕ, Bool, ℤ, List}
use Rattle.loc_base.specs.declared.span.Span.{Span}
use Rattle.design_core.specs.declared.signal.SignalKind.TheVariants as kind
use Rattle.v_hierarchy.specs.declared.bounds.Bounds.{Bounds}
use Rattle.v_binding.specs.Signals.{Numbered, signal_of, word_path}
use Rattle.bind_signals.specs.declared.words.Array.{Array}

-- the word at an address
abbrev pub word_of : List ℕ → Bool → Bounds → ℕ → Span → ℤ → Numbered
word_of path signed b home span address = record { signal = signal_of (word_path path address) kind.Reg signed b; home = home; span = span }

abbrev pub word_at : Array → ℤ → Numbered
word_at w address = word_of w.path.now w.signed w.bounds w.home w.span address
