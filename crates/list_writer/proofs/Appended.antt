-- What a debugger would be whose certificate were appended now: its log is accepted and counted, and shows its list to be a front.
use Rattle.std.proofs.Common.{◌≡◌, ℕ, zero, suc, ◌+◌, ◌-◌, ◌<◌, ◌^◌, true, false, ◌||◌, cond, List, [], ◌∷◌, ◌++◌, length, map, drop}
use Rattle.std.proofs.Common.{refl, ap, sym, ◌∙◌, subst, arith}
use Rattle.std.specs.Prelude.{All, IsTrue, count_by}
use Rattle.std.proofs.Math.Seq.{get_or-append_right}
use Rattle.std.proofs.lemmas.Bool.{lt-ltb}
use Rattle.std.proofs.lemmas.List.{append-nil, drop-append-le, drop_all, length-append, map-append, take_all, take_at}
use Rattle.std.proofs.lemmas.List.Elements.{All-append, All-cons, All-head, All-nil, All-tail}
use Rattle.std.proofs.lemmas.List.Sums.{sum_by-append}
use Rattle.loc_base.proofs.ShelfBools.{or-true}
use Rattle.loc_base.proofs.ShelfLists.{Contains-empty}
use Rattle.clause_base.specs.declared.literal.Lit.{Lit}
use Rattle.clause_base.specs.declared.log.Step.{Step}
use Rattle.clause_base.specs.declared.log.StepKind.{StepKind}
use Rattle.clause_base.specs.declared.log.StepKind.TheVariants.{Derived, Learned}
use Rattle.clause_base.specs.Acceptance.{IsAccepted}
use Rattle.clause_base.specs.Literal.{AllDistinct, AreWithin, IsWithin, has_distinct_variables}
use Rattle.clause_base.specs.Progress.{LearnedAreFresh}
use Rattle.clause_base.specs.Steps.{no_step, step_at}
use Rattle.card_counter.specs.Shows.{last_of}
use Rattle.front_cert.specs.Certificates.{Certified}
use Rattle.front_cert.proofs.Finished.{finished}
use Rattle.sat_core.specs.Outcome.{is_learned}
use Rattle.sat_core.specs.SolverState.{blocks_of}
use Rattle.set_enum.specs.EnumState.{AreChainless, HasNoChain}
use Rattle.set_enum.specs.Sets.{block_of}
use Rattle.debug_core.specs.Debugging.{DebugState, IsCertified, IsDebugger, IsKept, ShowEach, with_appended}
use Rattle.debug_core.specs.Problems.{suspect_count}
use Rattle.debug_core.proofs.Certified.{each-none, shows-appended}
use Rattle.debug_core.proofs.Finishing.{appended-none}
use Rattle.debug_core.proofs.Logs.{fresh-grown}
use Rattle.list_writer.proofs.Finished.{IsDerived, derived-take}
use Rattle.list_writer.proofs.Steps.{blocks_of-append}

-- what holds of each step's clause
abbrev clauses_in : List Step → List (List Lit)
clauses_in steps = map (λ (step : Step). step.clause) steps

within-each : (vars : ℕ) (steps : List Step) → All (λ step. IsWithin vars step.clause) steps → AreWithin vars (clauses_in steps)
within-each vars [] all = All-nil (IsWithin vars)
within-each vars (step ∷ steps) all =
    All-cons (IsWithin vars) step.clause (clauses_in steps) (All-head (λ (s : Step). IsWithin vars s.clause) step steps all)
    (within-each vars steps (All-tail (λ (s : Step). IsWithin vars s.clause) step steps all))

no-chain : (kind : StepKind) (step : Step) → kind ≡ Derived → HasNoChain kind step
no-chain kind step is = subst (λ (k : StepKind). HasNoChain k step) (sym is) tt

module _ (s : DebugState) (holds : IsDebugger s) (goes_on : s.ended ≡ false) (some : 0 < length s.certificate)
    (distinct : AllDistinct (clauses_in s.certificate)) where
  abbrev more : List Step
  more = s.certificate

  abbrev all : ℕ
  all = length more

  abbrev now : DebugState
  now = with_appended s all

  log-is : now.log ≡ s.log ++ more
  log-is = ap (λ (steps : List Step). s.log ++ steps) (take_all all more (omega arith))

  nothing-left : now.certificate ≡ []
  nothing-left = drop_all all more (omega arith)

  derived : All IsDerived more
  derived i d low = (holds.certified.kept i d low).derived.kind

  none : (blocks_of more ≡ []) × (count_by is_learned more ≡ 0)
  none =
      let first = derived-take more all derived in (
        ap blocks_of (sym (take_all all more (omega arith))) ∙ first.0,
        ap (count_by is_learned) (sym (take_all all more (omega arith))) ∙ first.1,
      )

  -- the log
  accepted : IsAccepted s.form (map block_of s.listed) (s.log ++ more)
  accepted =
      let of : Certified = record {
        n = 0;
        k = 0;
        form = s.form;
        blocks = map block_of s.listed;
        members = [];
        log = s.log;
        more = [];
        steps = more;
      } in
      subst (λ (log : List Step). IsAccepted s.form (map block_of s.listed) (log ++ more)) (append-nil s.log)
      (finished of (subst (IsAccepted s.form (map block_of s.listed)) (sym (append-nil s.log)) holds.accepted) (record {
        size = tt;
        derived = λ i d low. (holds.certified.kept i d low).derived;
        shows = λ x passed. let (m, member, less) = passed.greater in absurd (Contains-empty m member);
      })).accepted

  within : AreWithin s.vars (clauses_in (s.log ++ more))
  within =
      subst (AreWithin s.vars) (sym (map-append (λ (step : Step). step.clause) s.log more))
      (All-append (IsWithin s.vars) (clauses_in s.log) (clauses_in more) holds.log_within
      (within-each s.vars more (λ i d low. (holds.certified.kept i d low).within)))

  distinct-all : AllDistinct (clauses_in (s.log ++ more))
  distinct-all =
      subst AllDistinct (sym (map-append (λ (step : Step). step.clause) s.log more))
      (All-append (λ (clause : List Lit). IsTrue (has_distinct_variables clause)) (clauses_in s.log) (clauses_in more) holds.distinct distinct)

  chainless-more : AreChainless more
  chainless-more i d low = no-chain _ _ ((holds.certified.kept i d low).derived.kind)

  chainless : AreChainless (s.log ++ more)
  chainless = All-append (λ (step : Step). HasNoChain step.kind step) s.log more holds.chainless chainless-more

  longer : length now.log ≡ length s.log + all
  longer = ap length log-is ∙ length-append s.log more

  -- no step of the certificate is learned
  behind-fresh : LearnedAreFresh s.form (s.log ++ more) (length s.log)
  behind-fresh place low inside kind =
      let here : step_at (s.log ++ more) place ≡ step_at more (place - length s.log) = get_or-append_right s.log more place no_step low in
      let is : (step_at more (place - length s.log)).kind ≡ Derived =
      derived (place - length s.log) no_step (omega (arith, low, inside, length-append s.log more)) in
      absurd (apart (sym is ∙ ap (λ (x : Step). x.kind) (sym here) ∙ kind))
    where
      apart : Derived ≡ Learned → ⊥
      apart same = cc

  fresh : LearnedAreFresh s.form (s.log ++ more) s.imported
  fresh = fresh-grown s.log (s.log ++ more) (take_at s.log more (length s.log) refl) s.form s.imported holds.fresh behind-fresh

  few-learned : count_by is_learned (drop s.imported (s.log ++ more)) < 3 ^ s.vars
  few-learned = omega (
    arith,
    ap (count_by is_learned) (drop-append-le s.imported s.log more holds.session_within),
    sum_by-append (λ (x : Step). cond (is_learned x) 1 0) (drop s.imported s.log) more,
    none.1,
    holds.few_learned,
  )

  finished-now : now.finished ≡ true
  finished-now = ap (λ b. s.finished || b) (lt-ltb 0 all some) ∙ or-true s.finished

  apart : true ≡ false → ⊥
  apart e = cc

  open-now : now.ended ≡ true → ⊥
  open-now ended = apart (sym ended ∙ goes_on)

  unfinished : now.finished ≡ false → ⊥
  unfinished e = apart (sym finished-now ∙ e)

  certified : IsCertified now
  certified = record {
    kept = subst (λ (steps : List Step). All (IsKept s.vars s.form now.log) steps) (sym nothing-left) (All-nil (IsKept s.vars s.form now.log));
    shows = shows-appended (suspect_count s.problem) s.problem.k (last_of s.listed) s.log more all holds.certified.shows;
    each = subst (λ (steps : List Step). ShowEach (suspect_count s.problem) s.problem.k (last_of s.listed) steps) (sym nothing-left)
        (each-none (suspect_count s.problem) s.problem.k (last_of s.listed));
  }

  some-holds : IsDebugger now
  some-holds = record {
    problem = holds.problem;
    form = holds.form;
    accepted = subst (IsAccepted s.form (map block_of s.listed)) (sym log-is) accepted;
    blocks = ap blocks_of log-is ∙ blocks_of-append s.log more ∙ ap (λ (bs : List (List Lit)). blocks_of s.log ++ bs) none.0
        ∙ append-nil (blocks_of s.log) ∙ holds.blocks;
    form_within = holds.form_within;
    few_suspects = holds.few_suspects;
    log_within = subst (λ (log : List Step). AreWithin s.vars (clauses_in log)) (sym log-is) within;
    distinct = subst (λ (log : List Step). AllDistinct (clauses_in log)) (sym log-is) distinct-all;
    chainless = subst AreChainless (sym log-is) chainless;
    session_within = omega (arith, holds.session_within, longer);
    fresh = subst (λ (log : List Step). LearnedAreFresh s.form log s.imported) (sym log-is) fresh;
    few_learned = subst (λ (log : List Step). count_by is_learned (drop s.imported log) < 3 ^ s.vars) (sym log-is) few-learned;
    few_derived = λ e. absurd (unfinished e);
    ends = λ e. absurd (unfinished e);
    front = holds.front;
    whole = λ e. absurd (open-now e);
    closing = λ e. absurd (open-now e);
    certified = certified;
  }

-- with the whole certificate it is a debugger, too
pub appended-holds : (s : DebugState) → IsDebugger s → s.ended ≡ false → AllDistinct (map (λ step. step.clause) s.certificate)
    → IsDebugger (with_appended s (length s.certificate))
appended-holds s holds goes_on distinct = at (length s.certificate) refl
  where
    at : (n : ℕ) → n ≡ length s.certificate → IsDebugger (with_appended s (length s.certificate))
    at zero none =
        subst (λ (n : ℕ). IsDebugger (with_appended s n)) none (subst IsDebugger (appended-none s) holds)
    at (suc n) some = some-holds s holds goes_on (omega (arith, some)) distinct
