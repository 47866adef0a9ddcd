-- What a search for the next set leaves, and what the block of the set that it found.
use Rattle.std.proofs.Common.{◌≡◌, ◌⊎◌, inl, inr, ℕ, ◌+◌, ◌<◌, ◌≤◌, Bool, true, false, List, [], ◌∷◌, ◌++◌, length, take, map}
use Rattle.std.proofs.Common.{Result, Ok, Err, refl, ap, sym, ◌∙◌, subst, arith}
use Rattle.std.specs.Prelude.{All, count_by, nat_lt}
use Rattle.std.specs.Option.{unwrap_or}
use Rattle.std.proofs.lemmas.Bool.{le-ltb, lt-ltb, ltb-true}
use Rattle.std.proofs.lemmas.List.{length-take, length_push, map_push, take-append-drop, take-take}
use Rattle.loc_base.specs.declared.memory.NoMemory.{NoMemory}
use Rattle.design_core.specs.declared.values.Values.{Values}
use Rattle.clause_base.specs.declared.form.Form.{Form}
use Rattle.clause_base.specs.declared.log.Step.{Step}
use Rattle.clause_base.specs.declared.log.StepKind.TheVariants.{Block}
use Rattle.clause_base.specs.Counted.{EndsASize}
use Rattle.clause_base.specs.Progress.{LearnedAreFresh}
use Rattle.clause_base.specs.Satisfaction.{Satisfies}
use Rattle.clause_base.specs.Steps.{step_at}
use Rattle.card_counter.proofs.Said.{satisfies-front}
use Rattle.form_laws.specs.Models.{Selects}
use Rattle.sat_core.specs.Outcome.{added, is_derived, is_learned}
use Rattle.sat_core.specs.SolverState.{assignment_of, blocks_of}
use Rattle.sat_core.proofs.Growing.{blocks_kept, blocks_push_block}
use Rattle.unroller.specs.Unrolls.{Unrolling}
use Rattle.set_enum.specs.declared.enumerator.Next.{Next}
use Rattle.set_enum.specs.declared.enumerator.Next.TheVariants as next
use Rattle.card_counter.specs.Shows.{Shows, last_of}
use Rattle.set_enum.specs.Bounds.{bounds_of}
use Rattle.set_enum.specs.Certificate.{IsCertificate}
use Rattle.set_enum.specs.EnumState.{EnumState, IsEnum, blocked}
use Rattle.set_enum.specs.Outcome.{Adds, Gives as EnumGives, GivesSet, IsOpen, StaysClosed}
use Rattle.set_enum.specs.Sets.{IsFirst, block_of}
use Rattle.debug_core.proofs.Fronts.{next as next-front}
use Rattle.debug_core.proofs.Selected.{selected-selects}
use Rattle.debug_core.specs.declared.found.Found.{Found}
use Rattle.debug_core.specs.declared.found.Found.TheVariants as found
use Rattle.debug_core.proofs.Certified.{certificate-each, certificate-kept, certificate-shows, kept-more, last-push, shows-grown}
use Rattle.debug_core.specs.Debugging.{DebugState, FindsNothing, IsCertified, IsFrontOf, IsKept, Searches, ShowEach, StaysEnded}
use Rattle.debug_core.specs.Problems.{Problem, suspect_count, suspects_of}
use Rattle.debug_core.specs.Sessions.{listed_of}
use Rattle.debug_core.specs.Standing.{Advances, ExplainsIn, IsOverForm, IsSearched, IsStanding, members_of, state_of}
use Rattle.debug_core.proofs.Debuggers.{clauses-left, encodes-listed, is-debugger, members-block, suspects-long}
use Rattle.debug_core.proofs.Logs.{block-derived, block-fresh, count-behind, count-grown, derived-grown, fresh-grown, pushed-added, pushed-prefix}

module _ (p : Problem) (made : Form) (u : Unrolling) (old new : EnumState) (budget left : ℕ) (certificate : List Step) (finished : Bool) (imported : ℕ)
    (is : IsStanding p made u old certificate finished imported)
    (adds : Adds old new budget left) (holds : IsEnum new) where
  abbrev before : DebugState
  before = state_of p made old certificate finished imported

  abbrev after : DebugState
  after = state_of p made new certificate finished imported

  -- ---- a search

  over : IsOverForm p made new
  over = record {
    vars = adds.vars ∙ is.over.vars;
    form = adds.form ∙ is.over.form;
    suspects = adds.n ∙ is.over.suspects;
    size = adds.k ∙ is.over.size;
    holds = holds;
  }

  blocks : blocks_of new.log ≡ blocks_of old.log
  blocks = blocks_kept old.form old.log new.log budget left adds.derived adds.grows

  longer : length old.log ≤ length new.log
  longer = omega (arith, ap length (sym adds.grows.prefix), length-take (length old.log) new.log)

  bounds-same : bounds_of old.n old.k ≡ bounds_of (suspect_count p) p.k
  bounds-same = ap (λ m. bounds_of m old.k) is.over.suspects ∙ ap (bounds_of (suspect_count p)) is.over.size

  searched : IsSearched p made new finished imported
  searched = record {
    session_within = omega (arith, is.searched.session_within, longer);
    fresh = fresh-grown old.log new.log adds.grows.prefix made.clauses imported is.searched.fresh
        (subst (λ form. LearnedAreFresh form new.log (length old.log)) is.over.form adds.grows.fresh);
    few = λ unfinished. omega (arith, count-behind old.log new.log adds.grows.prefix is_derived imported is.searched.session_within, adds.grows.derived_steps, adds.few, is.searched.few unfinished);
    ends = λ unfinished place behind inside kind.
        derived-grown old.log new.log adds.grows.prefix (EndsASize (bounds_of (suspect_count p) p.k)) imported
        (λ early low there derived. is.searched.ends unfinished early low there derived)
        (λ late low there derived.
        subst (λ bounds. EndsASize bounds (step_at new.log late).clause) bounds-same (adds.ends late low there derived))
        place behind inside kind;
    front = subst (IsFrontOf p) (ap (map members_of) (sym blocks)) is.searched.front;
  }

  listed-same : after.listed ≡ before.listed
  listed-same = ap (map members_of) blocks

  whole : old.log ++ added old.log new.log ≡ new.log
  whole = ap (λ log. log ++ added old.log new.log) (sym adds.grows.prefix) ∙ take-append-drop (length old.log) new.log

  -- what is kept may stand behind the steps that were added
  certified : IsCertified after
  certified = record {
    kept = subst (λ log. All (IsKept made.vars made.clauses log) certificate) whole
        (kept-more made.vars made.clauses old.log (added old.log new.log) certificate is.certified.kept);
    shows = subst (λ listed. Shows (suspect_count p) p.k (last_of listed) (new.log ++ certificate)) (sym listed-same)
        (subst (λ log. Shows (suspect_count p) p.k (last_of before.listed) (log ++ certificate)) whole
        (shows-grown (suspect_count p) p.k (last_of before.listed) old.log (added old.log new.log) certificate is.certified.shows));
    each = subst (λ listed. ShowEach (suspect_count p) p.k (last_of listed) certificate) (sym listed-same) is.certified.each;
  }

  pub kept : IsStanding p made u new certificate finished imported
  kept = record { encoding = is.encoding; over = over; searched = searched; certified = certified }

  pub searches : Searches before after budget left
  searches = record {
    problem = refl;
    vars = refl;
    form = refl;
    prefix = adds.grows.prefix;
    units = adds.grows.units;
    fresh = λ place low. searched.fresh place (omega (arith, low, is.searched.session_within));
    finished = refl;
    imported = refl;
  }

  -- ---- its answers

  open-size : new.size ≤ old.k → nat_lt p.k new.size ≡ false
  open-size low = le-ltb p.k new.size (omega (arith, low, is.over.size))

  nothing : new.size ≤ old.k → FindsNothing before after
  nothing low = record { listed = listed-same; goes_on = open-size low }

  was-closed : before.ended ≡ true → old.size ≡ old.k + 1
  was-closed ended = omega (arith, ltb-true p.k old.size ended, is.over.holds.sizes, is.over.size)

  stays-open : (r : Result Found NoMemory) → new.size ≤ old.k → (old.size ≡ old.k + 1 → new ≡ old) → StaysEnded before after r
  stays-open r low same ended =
      let closed = was-closed ended in absurd (omega (arith, low, closed, ap (λ (e : EnumState). e.size) (same closed)))

  module _ (r : Result Next NoMemory) (stays : StaysClosed old new r) where
    pub advances-open : (e : NoMemory) → IsOpen old new → Advances before after budget left (Err e)
    advances-open e is_open = record {
      holds = is-debugger p made u new certificate finished imported kept;
      searches = searches;
      answers = nothing is_open.0;
      ended = stays-open (Err e) is_open.0 (λ closed. (stays closed).1);
    }

    pub advances-spent : EnumGives old new left next.Spent → Advances before after budget left (Ok found.Spent)
    advances-spent gives = record {
      holds = is-debugger p made u new certificate finished imported kept;
      searches = searches;
      answers = (gives.0, nothing gives.1);
      ended = stays-open (Ok found.Spent) gives.1 (λ closed. (stays closed).1);
    }

    earlier : (old.size ≡ old.k + 1) ⊎ (0 < left) → (before.ended ≡ true) ⊎ (0 < left)
    earlier (inl closed) = inl (lt-ltb p.k old.size (omega (arith, closed, is.over.size)))
    earlier (inr some) = inr some

    pub advances-closed : EnumGives old new left next.Closed → Advances before after budget left (Ok found.End)
    advances-closed gives = record {
      holds = is-debugger p made u new certificate finished imported kept;
      searches = searches;
      answers = (
        earlier gives.2,
        record { listed = listed-same; ended = lt-ltb p.k new.size (omega (arith, gives.0, is.over.size)) },
      );
      ended = λ ended. (refl, ap (λ e. state_of p made e certificate finished imported) (stays (was-closed ended)).1);
    }

  -- ---- a set that was found, and its block

  module _ (set : List ℕ) (gives : GivesSet new set) where
    abbrev a : ℕ → Bool
    a = assignment_of new.model

    pub model-satisfies : Satisfies a made.clauses
    model-satisfies = subst (Satisfies a) over.form (satisfies-front a new.form (map (λ (s : Step). s.clause) new.log) gives.satisfies)

    pub model-selects : Selects a (suspect_count p) set
    model-selects =
        subst (λ m. Selects a m set) over.suspects (subst (Selects a new.n) gives.selects (selected-selects new.n a))

    set-open : new.size ≤ old.k
    set-open = omega (arith, gives.size, gives.first.few, adds.k)

    abbrev step : Step
    step = record { kind = Block; clause = block_of (unwrap_or new.last []); chain = [] }

    clause-is : block_of (unwrap_or new.last []) ≡ block_of set
    clause-is = ap (λ last. block_of (unwrap_or last [])) gives.last

    abbrev done : EnumState
    done = blocked new

    -- with the steps of its certificate
    module _ (steps : List Step) (certifies : IsCertificate new set steps) where
      abbrev finally : DebugState
      finally = state_of p made done steps finished imported

      listed-more : finally.listed ≡ after.listed ++ set ∷ []
      listed-more =
          ap (map members_of) (blocks_push_block new.log step refl ∙ ap (λ clause. blocks_of new.log ++ clause ∷ []) clause-is)
          ∙ map_push members_of (blocks_of new.log) (block_of set)
          ∙ ap (λ last. after.listed ++ last ∷ []) (members-block set)

      first-left : IsFirst (length (suspects_of p)) p.k (made.clauses ++ map block_of after.listed) set
      first-left =
          subst (λ m. IsFirst m p.k (made.clauses ++ map block_of after.listed) set) (over.suspects ∙ sym (suspects-long p made u new certificate finished imported kept))
          (subst (λ k. IsFirst new.n k (made.clauses ++ map block_of after.listed) set) over.size
          (subst (λ clauses. IsFirst new.n new.k clauses set) (clauses-left p made u new certificate finished imported kept) gives.first))

      none-derived : count_by is_derived (added new.log done.log) ≡ 0
      none-derived = ap (count_by is_derived) (pushed-added new.log step)

      none-learned : count_by is_learned (added new.log done.log) ≡ 0
      none-learned = ap (count_by is_learned) (pushed-added new.log step)

      front-more : IsFrontOf p finally.listed
      front-more =
          subst (IsFrontOf p) (sym listed-more)
          (next-front (listed_of p made.clauses after.listed) (encodes-listed p made u new certificate finished imported kept) searched.front set first-left)

      done-searched : IsSearched p made done finished imported
      done-searched = record {
        session_within = omega (arith, searched.session_within, length_push new.log step);
        fresh = fresh-grown new.log done.log (pushed-prefix new.log step) made.clauses imported searched.fresh
            (block-fresh new.log step made.clauses refl);
        few = λ unfinished. omega (arith, count-behind new.log done.log (pushed-prefix new.log step) is_derived imported searched.session_within, none-derived, searched.few unfinished);
        ends = λ unfinished place behind inside kind.
            derived-grown new.log done.log (pushed-prefix new.log step) (EndsASize (bounds_of (suspect_count p) p.k)) imported
            (λ early low there derived. searched.ends unfinished early low there derived)
            (block-derived new.log step (EndsASize (bounds_of (suspect_count p) p.k)) refl)
            place behind inside kind;
        front = front-more;
      }

      -- the steps that were taken before the block
      done-steps : All (IsKept made.vars made.clauses new.log) steps
      done-steps =
          subst (λ form. All (IsKept made.vars form new.log) steps) over.form
          (subst (λ vars. All (IsKept vars new.form new.log) steps) over.vars (certificate-kept new set steps certifies))

      done-shows : Shows (suspect_count p) p.k set (new.log ++ steps)
      done-shows =
          subst (λ k. Shows (suspect_count p) k set (new.log ++ steps)) over.size
          (subst (λ m. Shows m new.k set (new.log ++ steps)) over.suspects (certificate-shows new set steps certifies))

      done-each : ShowEach (suspect_count p) p.k set steps
      done-each =
          subst (λ k. ShowEach (suspect_count p) k set steps) over.size
          (subst (λ m. ShowEach m new.k set steps) over.suspects (certificate-each new set steps certifies))

      done-certified : IsCertified finally
      done-certified = record {
        kept = kept-more made.vars made.clauses new.log (step ∷ []) steps done-steps;
        shows = subst (λ members. Shows (suspect_count p) p.k members (done.log ++ steps)) (sym (ap last_of listed-more ∙ last-push after.listed set))
            (shows-grown (suspect_count p) p.k set new.log (step ∷ []) steps done-shows);
        each = subst (λ members. ShowEach (suspect_count p) p.k members steps) (sym (ap last_of listed-more ∙ last-push after.listed set)) done-each;
      }

      module _ (done_holds : IsEnum (blocked new)) where
        done-over : IsOverForm p made done
        done-over = record { vars = over.vars; form = over.form; suspects = over.suspects; size = over.size; holds = done_holds }

        pub done-kept : IsStanding p made u (blocked new) steps finished imported
        done-kept = record { encoding = is.encoding; over = done-over; searched = done-searched; certified = done-certified }

        whole-prefix : take (length old.log) done.log ≡ old.log
        whole-prefix =
            sym (take-take (length old.log) (length new.log) done.log longer)
            ∙ (ap (take (length old.log)) (pushed-prefix new.log step) ∙ adds.grows.prefix)

        done-searches : Searches before finally budget left
        done-searches = record {
          problem = refl;
          vars = refl;
          form = refl;
          prefix = whole-prefix;
          units = omega (
            arith,
            count-grown old.log done.log whole-prefix is_learned,
            count-grown old.log new.log adds.grows.prefix is_learned,
            count-grown new.log done.log (pushed-prefix new.log step) is_learned,
            none-learned,
            adds.grows.units,
          );
          fresh = λ place low. done-searched.fresh place (omega (arith, low, is.searched.session_within));
          finished = refl;
          imported = refl;
        }

        pub advances-set : (r : Result Next NoMemory) → StaysClosed old new r → (values : Values) → 0 < left → ExplainsIn p a set values
            → Advances before (state_of p made (blocked new) steps finished imported) budget left (Ok (found.Set (record { members = set; values = values })))
        advances-set r stays values some explains = record {
          holds = is-debugger p made u done steps finished imported done-kept;
          searches = done-searches;
          answers = (
            some,
            record {
              listed = listed-more ∙ ap (λ sets. sets ++ set ∷ []) listed-same;
              goes_on = open-size set-open;
              values = explains.values_of;
              explains = explains.explains;
            },
          );
          ended = λ ended.
              let closed = was-closed ended in
              absurd (omega (arith, set-open, closed, ap (λ (e : EnumState). e.size) (stays closed).1));
        }

    -- want of memory behind the search: the set isn't blocked, and comes again
    pub advances-unblocked : (r : Result Next NoMemory) → StaysClosed old new r → (e : NoMemory) → Advances before after budget left (Err e)
    advances-unblocked r stays e = record {
      holds = is-debugger p made u new certificate finished imported kept;
      searches = searches;
      answers = nothing set-open;
      ended = stays-open (Err e) set-open (λ closed. (stays closed).1);
    }

    -- the values of a model explain the traces with what it selects
    pub explained : (model : List Bool) (members : List ℕ) (values : Values) → model ≡ new.model → members ≡ set
        → (Satisfies (assignment_of model) made.clauses → Selects (assignment_of model) (suspect_count p) members
        → ExplainsIn p (assignment_of model) members values)
        → ExplainsIn p a set values
    explained model members values same_model same_set fact =
        subst (λ (s : List ℕ). Satisfies a made.clauses → Selects a (suspect_count p) s → ExplainsIn p a s values) same_set
        (subst (λ (m : List Bool). Satisfies (assignment_of m) made.clauses → Selects (assignment_of m) (suspect_count p) members
        → ExplainsIn p (assignment_of m) members values) same_model fact)
        model-satisfies model-selects
