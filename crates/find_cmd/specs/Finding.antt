-- The case of a list: for the problem that the texts mean, a prefix of exactly the inclusion-minimal sets of suspects that can make
-- every trace right is printed and reported, with values that do, and the log shows it; the list is said to be complete only where
-- it is whole and the log is accepted and closing.
use Rattle.std.specs.Prelude.{ℕ, ◌≡◌, ◌⊎◌, true, List, Option, Some, None, length}
use Rattle.loc_base.specs.declared.digest.Digest.{Digest}
use Rattle.command_contract.specs.Contract.{Case, IsInputRefusal, NoneRose, NothingWritten, Run, Texts, WriteFailed}
use Rattle.front_end.specs.Means.{Meaning, Refusing}
use Rattle.write_order.specs.Writes.{Outputs}
use Rattle.debug_core.specs.Problems.{Problem}
use Rattle.refusal.specs.Stops.{LineCut, LineStops}
use Rattle.load_problem.specs.Means.{IsDigestOf, Means, Suspecting}
use Rattle.list_writer.specs.Asked.{Asked as Listing, Session}
use Rattle.set_waves.specs.Names.{IsWave}
use Rattle.list_writer.specs.declared.outcome.Outcome.{Outcome}
use Rattle.list_writer.specs.declared.outcome.Outcome.TheVariants.{Ended, Failed, Memory}
use Rattle.report_doc.specs.declared.types.Ending.TheVariants.{Budget}
use Rattle.list_writer.specs.CheckpointNames.{beside, is_checkpoint}
use Rattle.list_writer.specs.Checkpoints.{CheckpointsStand}
use Rattle.list_writer.specs.Due.{IsCut, IsListed, IsStopped}
use Rattle.requests.specs.Asked.{FindAsked, SessionNames, wanted_for}
use Rattle.find_cmd.specs.Refusals.{IsReady, Refused}
use Rattle.find_cmd.specs.Sessions.{MeansSession}

-- what stands on the outputs
abbrev pub outputs_of : Run → Outputs
outputs_of run = record { written = run.written; now_written = run.now_written; printed = run.printed; now_printed = run.now_printed }

-- and of it beside the checkpoints: all of it, where none are asked for
abbrev pub outputs_beside : FindAsked → Run → Outputs
outputs_beside asked run = record {
  written = beside asked.checkpoints run.written;
  now_written = beside asked.checkpoints run.now_written;
  printed = run.printed;
  now_printed = run.now_printed;
}

-- and what stands of them, where a listing came to this
abbrev pub Saves : FindAsked → Run → Outcome → Listing → Type 0
Saves asked run outcome listing = CheckpointsStand asked.checkpoints listing run.written run.now_written outcome

-- the listing of a problem, with the digest of the inputs and the session that it goes on from
abbrev pub listing_of : FindAsked → Problem → Digest → Session → Listing
listing_of asked p inputs session = record {
  problem = p;
  budget = asked.listing.budget;
  sets = asked.listing.sets;
  log = asked.listing.log;
  report = asked.listing.report;
  waves = asked.waves;
  checkpoints = asked.checkpoints;
  inputs = inputs;
  top = asked.sources.texts.top;
  clock = asked.sources.clock;
  kinds = asked.listing.suspects;
  session = session;
}

-- the texts mean a problem, and the session that is asked for, of whose listing this is so
pub record OfInputs (M : Meaning) (S : Suspecting) (asked : FindAsked) (texts : Texts) (P : Listing → Type 0) : Type 0 where
  pub problem : Problem
  pub means : Means M S (wanted_for asked) texts problem
  pub inputs : Digest
  pub digest : IsDigestOf (wanted_for asked) texts inputs
  pub session : Session
  pub goes_on : MeansSession asked.resume texts problem inputs session
  pub is : P (listing_of asked problem inputs session)

-- a name is that of a wave that may be written: of as many sets as may be found; behind the sets of a session the numbers of sets go on
-- from theirs, so that any may come
abbrev pub MayBeWave : FindAsked → Option SessionNames → List ℕ → Type 0
MayBeWave asked None name = IsWave asked.waves asked.listing.sets (length asked.sources.texts.traces) name
MayBeWave asked (Some names) name = (sets : ℕ) × IsWave asked.waves sets (length asked.sources.texts.traces) name

-- ---- the case
-- for which causes texts are refused, with a status and a line
abbrev pub Causing : Type 1
Causing = Texts → ℕ → List ℕ → Type 0

-- a list, refused for some causes: its answers are 0 and 1, and it may write the log, the report, waves and checkpoints
abbrev pub finding_by : Meaning → Suspecting → FindAsked → Causing → Case
finding_by M S asked IsDue = record {
  MayAnswer = λ status. (status ≡ 0) ⊎ (status ≡ 1);
  MayRefuse = IsInputRefusal;
  Answered = λ run status. OfInputs M S asked run.texts (λ listing. IsListed listing (outputs_beside asked run) status × Saves asked run (Ended Budget) listing);
  Refused = λ run. IsDue run.texts;
  Stands = NothingWritten;
  Stopped = λ run. WriteFailed run.counts
      × (OfInputs M S asked run.texts (λ listing. IsStopped listing (outputs_beside asked run) × Saves asked run Failed listing)
      ⊎ LineStops (IsDue run.texts) run);
  Cut = λ run. (NoneRose run.counts
      × OfInputs M S asked run.texts (λ listing. IsCut listing (outputs_beside asked run) × Saves asked run Memory listing)) ⊎ LineCut run;
  Writes = λ name.
      (name ≡ asked.listing.log)
      ⊎ ((name ≡ asked.listing.report) ⊎ (MayBeWave asked asked.resume name ⊎ (is_checkpoint asked.checkpoints name ≡ true)));
  Ready = λ run. IsReady M S asked run.texts;
}

-- refused for the causes that the texts have
abbrev pub finding : Meaning → Refusing → Suspecting → FindAsked → Case
finding M R S asked = finding_by M S asked (Refused M R S asked)
