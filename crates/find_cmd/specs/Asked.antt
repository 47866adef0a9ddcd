-- What may be asked of `find`.
use Rattle.std.specs.Prelude.{ℕ, ◌≡◌, ◌≢◌, ◌≤◌, List, [], ◌∷◌, length, All, AllPairs, None, false}
use Rattle.suspect_map.specs.Choose.{unknown}
use Rattle.report_reading.specs.Reading.{IsKindName}
use Rattle.requests.specs.Asked.{FindAsked, IsUpTo, ListingAsked}
use Rattle.set_waves.specs.Names.{IsNoWave}
use Rattle.list_writer.specs.CheckpointNames.{is_checkpoint}

-- a list: kinds have names of kinds, so that the report is read again
pub record IsListing (asked : ListingAsked) : Type 0 where
  pub some_kinds : asked.suspects ≢ []
  pub kind_names : All IsKindName asked.suspects
  pub kinds_once : AllPairs (λ one other. one ≢ other) asked.suspects
  pub size : asked.size ≤ 8
  pub budget : IsUpTo 10000000 asked.budget
  pub sets : IsUpTo 100000 asked.sets
  pub workers : IsUpTo 64 asked.workers

-- the log and the report have names of their own, no name begins with the prefix of the waves and a hyphen, and neither log nor report has a
-- name of a checkpoint
pub record IsAsked (asked : FindAsked) : Type 0 where
  pub traces : IsUpTo 256 (length asked.sources.texts.traces)
  pub listing : IsListing asked.listing
  pub apart : asked.listing.log ≢ asked.listing.report
  pub own_log : All (λ name. name ≢ asked.listing.log) (asked.sources.texts.design ∷ asked.sources.texts.traces)
  pub own_report : All (λ name. name ≢ asked.listing.report) (asked.sources.texts.design ∷ asked.sources.texts.traces)
  pub no_waves : All (IsNoWave asked.waves)
      (asked.sources.texts.design ∷ asked.listing.log ∷ asked.listing.report ∷ asked.sources.texts.traces)
  pub log_beside : is_checkpoint asked.checkpoints asked.listing.log ≡ false
  pub report_beside : is_checkpoint asked.checkpoints asked.listing.report ≡ false

-- each kind of suspects that is asked for is the name of one of some
abbrev pub AreKnown : {G : Type 0} → (G → List ℕ) → List G → FindAsked → Type 0
AreKnown called kinds asked = unknown called kinds asked.listing.suspects ≡ None
