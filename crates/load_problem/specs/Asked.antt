-- What may be asked of a list.
use Rattle.std.specs.Prelude.{ℕ, ◌≡◌, ◌≤◌, List, length, None}
use Rattle.suspect_map.specs.Choose.{unknown}
use Rattle.requests.specs.Asked.{WantedAsked}

pub record IsAsked (asked : WantedAsked) : Type 0 where
  pub traces : length asked.sources.texts.traces ≤ 256
  pub size : asked.size ≤ 8

-- each kind of suspects that is asked for is the name of one of some
abbrev pub AreKnown : {G : Type 0} → (G → List ℕ) → List G → WantedAsked → Type 0
AreKnown called kinds asked = unknown called kinds asked.suspects ≡ None
