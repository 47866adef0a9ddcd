-- What is written of the waves of sets: by set and then trace, a text for each of them under a name of its own.
use Rattle.std.specs.Prelude.{ℕ, ◌+◌, List, [], ◌∷◌, ◌++◌, Option, Some, None}
use Rattle.design_core.specs.declared.trace.Trace.{Trace}
use Rattle.design_core.specs.declared.values.Values.{Values}
use Rattle.design_core.specs.declared.values.SetWithValues.{SetWithValues}
use Rattle.design_core.specs.Valuation.{Valuation}
use Rattle.write_order.specs.Writes.{Write, begin_text, put_piece}
use Rattle.set_waves.specs.Names.{wave_name}
use Rattle.set_waves.specs.Scenes.{Scene, wave_text}
use Rattle.set_waves.specs.Waved.{Runs, Waved}

-- a trace of a number, from 0, with the values of a set
abbrev pub scene_of : Waved → Values → ℕ → Trace → Scene
scene_of w values j trace = record { of = w; values = values; number = j; trace = trace }

-- a text is begun and put
abbrev pub text_writes : List ℕ → List ℕ → List Write
text_writes name text = begin_text name ∷ put_piece name text ∷ []

-- the waves of a set of a number, from 1, for the traces from one on; `runs` has the run for each trace
abbrev pub set_writes : Waved → List ℕ → ℕ → Values → (ℕ → List Valuation) → ℕ → List Trace → List Write
set_writes w prefix number values runs j [] = []
set_writes w prefix number values runs j (trace ∷ traces) =
    text_writes (wave_name prefix number (j + 1)) (wave_text (scene_of w values j trace) (runs j))
    ++ set_writes w prefix number values runs (j + 1) traces

-- the waves of the sets from one on, counted from 0
abbrev pub waves_writes : Waved → List ℕ → Runs → ℕ → List SetWithValues → List Write
waves_writes w prefix runs s [] = []
waves_writes w prefix runs s (set ∷ sets) =
    set_writes w prefix (s + 1) set.values (runs s) 0 w.traces ++ waves_writes w prefix runs (s + 1) sets

-- the waves of all sets, where there is a prefix
abbrev pub waves_of : Option (List ℕ) → Waved → Runs → List SetWithValues → List Write
waves_of None w runs sets = []
waves_of (Some prefix) w runs sets = waves_writes w prefix runs 0 sets
