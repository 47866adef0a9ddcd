-- The promises of the command, from how a listing ends.
use Rattle.std.proofs.Common.{ℕ, ◌≡◌, ◌≢◌, ◌≤◌, ◌+◌, true, false, List, Option, Some, None, ap, refl, sym, subst, ◌∙◌, arith, ◌⊎◌, inl, inr}
use Rattle.command_contract.specs.Contract.{Causes, IsInputRefusal, IsStatus, Keeps, NoneRose, OneRose, Run, Texts, counts_of}
use Rattle.io_ports.specs.Faults.{FaultCounts}
use Rattle.std.proofs.Common.{length}
use Rattle.std.proofs.lemmas.Slice.Zip.{AllZip-long}
use Rattle.command_contract.proofs.Counting.{write-rose}
use Rattle.command_contract.proofs.Statuses.{input-range, input-refusal}
use Rattle.loc_base.specs.declared.digest.Digest.{Digest}
use Rattle.front_end.specs.Means.{Meaning}
use Rattle.debug_core.specs.Problems.{Problem}
use Rattle.report_doc.specs.declared.types.Ending.{Ending}
use Rattle.report_doc.specs.declared.types.Ending.TheVariants.{Complete, Budget, Sets, Earlier}
use Rattle.list_writer.specs.declared.outcome.Outcome.{Outcome}
use Rattle.list_writer.specs.declared.outcome.Outcome.TheVariants.{Ended, Failed, Memory}
use Rattle.list_writer.specs.Lines.{ending_status}
use Rattle.set_waves.specs.Names.{IsWave}
use Rattle.list_writer.specs.Asked.{Asked as Listing, Session}
use Rattle.list_writer.specs.CheckpointNames.{beside, is_checkpoint}
use Rattle.list_writer.specs.Checkpoints.{CheckpointsStand}
use Rattle.list_writer.proofs.Saved.{stand-weaker}
use Rattle.std.proofs.lemmas.Bool.{false_from_ne_true}
use Rattle.list_writer.specs.Due.{IsCut, IsListed, IsStopped}
use Rattle.list_writer.specs.Outcomes.{Leaves, OutcomeCause, status_of}
use Rattle.load_problem.specs.Means.{IsDigestOf, Means, Suspecting}
use Rattle.requests.specs.Asked.{FindAsked, SessionNames, wanted_for}
use Rattle.find_cmd.specs.Finding.{Causing, MayBeWave, OfInputs, Saves, finding_by, listing_of, outputs_beside}
use Rattle.find_cmd.specs.Sessions.{MeansSession}

-- what is known of a run that ends by a listing
pub record IsListing (M : Meaning) (S : Suspecting) (asked : FindAsked) (run : Run)
    (problem : Problem) (inputs : Digest) (session : Session) (o : Outcome) : Type 0 where
  pub means : run.told ≡ true → Means M S (wanted_for asked) run.texts problem
  pub digest : run.told ≡ true → IsDigestOf (wanted_for asked) run.texts inputs
  pub begins : run.told ≡ true → MeansSession asked.resume run.texts problem inputs session
  pub leaves : run.told ≡ true → Leaves (listing_of asked problem inputs session) (outputs_beside asked run) o
  pub saves : run.told ≡ true → Saves asked run o (listing_of asked problem inputs session)
  pub others : run.told ≡ true → (name : List ℕ) → name ≢ asked.listing.log → name ≢ asked.listing.report
      → is_checkpoint asked.checkpoints name ≡ false
      → ¬ IsWave asked.waves (length session.sets + asked.listing.sets) (length problem.traces) name
      → run.now_written name ≡ run.written name
  pub cause : OutcomeCause run.counts o

-- the status of an ending is 0 or 1
ending-range : (ending : Ending) → (ending_status ending ≡ 0) ⊎ (ending_status ending ≡ 1)
ending-range Complete = inl refl
ending-range Budget = inr refl
ending-range Sets = inr refl
ending-range Earlier = inr refl

at-most-one : (n : ℕ) → (n ≡ 0) ⊎ (n ≡ 1) → n ≤ 1
at-most-one n (inl e) = omega (arith, e)
at-most-one n (inr e) = omega (arith, e)

-- a wave that may be written behind the sets of a session, or behind none
may-be-wave : (asked : FindAsked) (resume : Option SessionNames) (texts : Texts) (problem : Problem) (inputs : Digest) (session : Session)
    (name : List ℕ) → MeansSession resume texts problem inputs session
    → IsWave asked.waves (length session.sets + asked.listing.sets) (length asked.sources.texts.traces) name → MayBeWave asked resume name
may-be-wave asked None texts problem inputs session name none wave =
    let none_more : 0 + asked.listing.sets ≡ asked.listing.sets = omega arith in
    subst (λ (sets : ℕ). IsWave asked.waves sets (length asked.sources.texts.traces) name) none_more
    (subst (λ (s : Session). IsWave asked.waves (length s.sets + asked.listing.sets) (length asked.sources.texts.traces) name) none wave)
may-be-wave asked (Some names) texts problem inputs session name begins wave = (length session.sets + asked.listing.sets, wave)

module _ (M : Meaning) (S : Suspecting) (asked : FindAsked) (IsDue : Causing) (run : Run) (problem : Problem) (inputs : Digest)
    (session : Session) where
  abbrev Is : Outcome → Type 0
  Is = IsListing M S asked run problem inputs session

  abbrev Meant : Type 0
  Meant = MeansSession asked.resume run.texts problem inputs session

  list-status : (o : Outcome) → IsStatus (finding_by M S asked IsDue) (status_of o)
  list-status (Ended ending) = inl (ending-range ending)
  list-status Failed = inr (inr (inl refl))
  list-status Memory = inr (inr (inr refl))

  -- no outcome is a refusal
  no-refusal : (o : Outcome) → IsInputRefusal (status_of o) → ⊥
  no-refusal (Ended ending) is = omega (arith, input-range _ is, at-most-one _ (ending-range ending))
  no-refusal Failed is = omega (arith, input-range _ is)
  no-refusal Memory is = omega (arith, input-range _ is)

  list-causes : (o : Outcome)
      → OutcomeCause run.counts o
      → Causes (finding_by M S asked IsDue) run.counts (status_of o)
  list-causes (Ended ending) none =
      let low = at-most-one _ (ending-range ending) in
      record {
        answer = λ _. none;
        none = λ _. none;
        read = λ e. absurd (omega (arith, e, low));
        write = λ e. absurd (omega (arith, e, low));
        memory = λ e. absurd (omega (arith, e, low));
      }
  list-causes Failed rose = record {
    answer = elim [ inl e ↦ absurd (omega (arith, e)) | inr e ↦ absurd (omega (arith, e)) ];
    none = λ low. absurd (omega (arith, low));
    read = λ e. absurd (omega (arith, e));
    write = λ _. rose;
    memory = λ e. absurd (omega (arith, e));
  }
  list-causes Memory none = record {
    answer = elim [ inl e ↦ absurd (omega (arith, e)) | inr e ↦ absurd (omega (arith, e)) ];
    none = λ low. absurd (omega (arith, low));
    read = λ e. absurd (omega (arith, e));
    write = λ e. absurd (omega (arith, e));
    memory = λ _. none.1;
  }

  -- ---- what it leaves
  -- the listing of the problem that the texts mean
  of-inputs : (P : Listing → Type 0) → Means M S (wanted_for asked) run.texts problem → IsDigestOf (wanted_for asked) run.texts inputs
      → Meant → P (listing_of asked problem inputs session) → OfInputs M S asked run.texts P
  of-inputs P means digest begins is = record {
    problem = problem;
    means = means;
    inputs = inputs;
    digest = digest;
    session = session;
    goes_on = begins;
    is = is;
  }

  list-answered : (o : Outcome) → Means M S (wanted_for asked) run.texts problem → IsDigestOf (wanted_for asked) run.texts inputs
      → Meant → Leaves (listing_of asked problem inputs session) (outputs_beside asked run) o → Saves asked run o (listing_of asked problem inputs session)
      → (status_of o ≡ 0) ⊎ (status_of o ≡ 1)
      → OfInputs M S asked run.texts (λ listing. IsListed listing (outputs_beside asked run) (status_of o) × Saves asked run (Ended Budget) listing)
  list-answered (Ended ending) means digest begins leaves saves is =
      of-inputs _ means digest begins (
        leaves.listed,
        stand-weaker asked.checkpoints (listing_of asked problem inputs session) run.written run.now_written ending
            (Ended Budget) saves,
      )
  list-answered Failed means digest begins leaves saves is = absurd (omega (arith, at-most-one 6 is))
  list-answered Memory means digest begins leaves saves is = absurd (omega (arith, at-most-one 7 is))

  list-stopped : (o : Outcome) → Means M S (wanted_for asked) run.texts problem → IsDigestOf (wanted_for asked) run.texts inputs
      → Meant → Leaves (listing_of asked problem inputs session) (outputs_beside asked run) o → Saves asked run o (listing_of asked problem inputs session)
      → status_of o ≡ 6 → OfInputs M S asked run.texts (λ listing. IsStopped listing (outputs_beside asked run) × Saves asked run Failed listing)
  list-stopped (Ended ending) means digest begins leaves saves e = absurd (omega (arith, e, at-most-one _ (ending-range ending)))
  list-stopped Failed means digest begins leaves saves e = of-inputs _ means digest begins (leaves, saves)
  list-stopped Memory means digest begins leaves saves e = absurd (omega (arith, e))

  list-cut : (o : Outcome) → Means M S (wanted_for asked) run.texts problem → IsDigestOf (wanted_for asked) run.texts inputs
      → Meant → Leaves (listing_of asked problem inputs session) (outputs_beside asked run) o → Saves asked run o (listing_of asked problem inputs session)
      → status_of o ≡ 7 → OfInputs M S asked run.texts (λ listing. IsCut listing (outputs_beside asked run) × Saves asked run Memory listing)
  list-cut (Ended ending) means digest begins leaves saves e = absurd (omega (arith, e, at-most-one _ (ending-range ending)))
  list-cut Failed means digest begins leaves saves e = absurd (omega (arith, e))
  list-cut Memory means digest begins leaves saves e = of-inputs _ means digest begins (leaves, saves)

  -- no count rises where memory was wanted
  list-none : (o : Outcome) → OutcomeCause run.counts o → status_of o ≡ 7 → NoneRose run.counts
  list-none (Ended ending) cause e = cause
  list-none Failed cause e = absurd (omega (arith, e))
  list-none Memory cause e = cause

  -- where no count rises it answers, or memory was wanted
  list-complete : (o : Outcome)
      → OutcomeCause run.counts o
      → ¬ OneRose run.counts → ((status_of o ≡ 0) ⊎ (status_of o ≡ 1)) ⊎ (status_of o ≡ 7)
  list-complete (Ended ending) cause none = inl (ending-range ending)
  list-complete Failed cause none = absurd (none (write-rose run.counts cause))
  list-complete Memory cause none = inr refl

  -- ---- all of them
  pub listed-keeps : (o : Outcome) → Is o → Keeps (finding_by M S asked IsDue) run (status_of o)
  listed-keeps o is = record {
    is_status = list-status o;
    refusals = input-refusal;
    answered = λ told. list-answered o (is.means told) (is.digest told) (is.begins told) (is.leaves told) (is.saves told);
    refused = λ told refusal. absurd (no-refusal o refusal);
    stopped = λ told six. (
      (list-causes o is.cause).write six,
      inl (list-stopped o (is.means told) (is.digest told) (is.begins told) (is.leaves told) (is.saves told) six),
    );
    cut = λ told seven. inl (
      list-none o is.cause seven,
      list-cut o (is.means told) (is.digest told) (is.begins told) (is.leaves told) (is.saves told) seven,
    );
    others = λ told name may.
        is.others told name (λ e. may (inl e)) (λ e. may (inr (inl e)))
        (false_from_ne_true (is_checkpoint asked.checkpoints name) (λ e. may (inr (inr (inr e))))) (λ e. may (inr (inr (inl
        (may-be-wave asked asked.resume run.texts problem inputs session name (is.begins told) (subst
        (λ n. IsWave asked.waves (length session.sets + asked.listing.sets) n name)
        (AllZip-long _ asked.sources.texts.traces problem.traces (is.means told).traces) e))))));
    causes = list-causes o is.cause;
    complete = λ told ready none. list-complete o is.cause none;
  }

-- by what the listing's contract says: it begins where the reading ended
pub listing-keeps : (M : Meaning) (S : Suspecting) (asked : FindAsked) (IsDue : Causing) (run : Run) (problem : Problem) (inputs : Digest)
    (session : Session) (listing : Listing) (written : Texts) (shelf : FaultCounts) (o : Outcome) (status : ℕ)
    → listing ≡ listing_of asked problem inputs session → written ≡ run.written → shelf ≡ run.counts.shelf → status ≡ status_of o
    → (run.told ≡ true → Means M S (wanted_for asked) run.texts problem)
    → (run.told ≡ true → IsDigestOf (wanted_for asked) run.texts inputs)
    → (run.told ≡ true → MeansSession asked.resume run.texts problem inputs session)
    → (run.told ≡ true → Leaves listing (record {
      written = beside listing.checkpoints written;
      now_written = beside listing.checkpoints run.now_written;
      printed = run.printed;
      now_printed = run.now_printed;
    }) o)
    → (run.told ≡ true → CheckpointsStand listing.checkpoints listing written run.now_written o)
    → (run.told ≡ true → (name : List ℕ) → name ≢ listing.log → name ≢ listing.report → is_checkpoint listing.checkpoints name ≡ false
    → ¬ IsWave listing.waves (length listing.session.sets + listing.sets) (length listing.problem.traces) name
    → run.now_written name ≡ written name)
    → OutcomeCause (counts_of shelf run.counts.now_shelf run.counts.sink run.counts.now_sink) o
    → Keeps (finding_by M S asked IsDue) run status
listing-keeps M S asked IsDue run problem inputs session listing written shelf o status is same kept ended means digest begins leaves saves others
    cause =
    subst (Keeps (finding_by M S asked IsDue) run) (sym ended)
    (listed-keeps M S asked IsDue run problem inputs session o
    (record {
      means = means;
      digest = digest;
      begins = begins;
      leaves = λ told.
          subst (λ (l : Listing). Leaves l (record {
            written = beside l.checkpoints run.written;
            now_written = beside l.checkpoints run.now_written;
            printed = run.printed;
            now_printed = run.now_printed;
          }) o) is
          (subst (λ (w : Texts). Leaves listing (record {
            written = beside listing.checkpoints w;
            now_written = beside listing.checkpoints run.now_written;
            printed = run.printed;
            now_printed = run.now_printed;
          }) o) same (leaves told));
      saves = λ told.
          subst (λ (l : Listing). CheckpointsStand l.checkpoints l run.written run.now_written o) is
          (subst (λ (w : Texts). CheckpointsStand listing.checkpoints listing w run.now_written o) same (saves told));
      others = λ told name no_log no_report no_checkpoint no_wave.
          others told name (λ e. no_log (e ∙ ap (λ (l : Listing). l.log) is)) (λ e. no_report (e ∙ ap (λ (l : Listing). l.report) is))
          (ap (λ (l : Listing). is_checkpoint l.checkpoints name) is ∙ no_checkpoint)
          (λ e. no_wave (subst
          (λ (l : Listing). IsWave l.waves (length l.session.sets + l.sets) (length l.problem.traces) name) is e))
          ∙ ap (λ (w : Texts). w name) same;
      cause = subst (λ n. OutcomeCause (counts_of n run.counts.now_shelf run.counts.sink run.counts.now_sink) o) kept cause;
    }))
