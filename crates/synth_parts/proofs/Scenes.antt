-- A signal as code finds it.
use Rattle.std.proofs.Common.{◌≡◌, ℕ, ◌<◌, List, length, get_or, sym, ◌∙◌, ap}
use Rattle.std.specs.Prelude.{pos}
use Rattle.std.specs.Option.{option_map_or}
use Rattle.std.proofs.lemmas.Option.{slice_get-get_or}
use Rattle.design_core.specs.declared.signal.Signal.{Signal}
use Rattle.design_core.specs.Valuation.{width_at}
use Rattle.synth_parts.specs.Expression.{left_at, right_at}

pub width-here : (signals : List Signal) (s : ℕ) (signal : Signal) → s < length signals → signal ≡ get_or signals s signal → width_at signals s ≡ signal.width
width-here signals s signal within is = ap (λ o. option_map_or (λ s. s.width) o 0) (slice_get-get_or signals s signal within) ∙ ap (λ s. s.width) (sym is)

pub left-here : (signals : List Signal) (s : ℕ) (signal : Signal) → s < length signals → signal ≡ get_or signals s signal → left_at signals s ≡ signal.left
left-here signals s signal within is = ap (λ o. option_map_or (λ s. s.left) o (pos 0)) (slice_get-get_or signals s signal within) ∙ ap (λ s. s.left) (sym is)

pub right-here : (signals : List Signal) (s : ℕ) (signal : Signal) → s < length signals → signal ≡ get_or signals s signal → right_at signals s ≡ signal.right
right-here signals s signal within is = ap (λ o. option_map_or (λ s. s.right) o (pos 0)) (slice_get-get_or signals s signal within) ∙ ap (λ s. s.right) (sym is)

pub ruleset signals_at = (width-here, left-here, right-here)
