-- What appending a step of a certificate leaves of a debugger.
use Rattle.std.proofs.Common.{◌≡◌, inl, inr, ℕ, suc, zero, ◌+◌, ◌-◌, ◌<◌, ◌≤◌, Bool, true, false, ◌||◌, List, [], ◌∷◌, ◌++◌, length, map, take, drop, get_or}
use Rattle.std.proofs.Common.{refl, ap, sym, ◌∙◌, subst, arith, append_assoc}
use Rattle.std.specs.Prelude.{All, nat_lt}
use Rattle.std.proofs.lemmas.Bool.{cases_lt, lt-ltb, both_ways}
use Rattle.std.proofs.Math.Seq.{take-add}
use Rattle.std.proofs.lemmas.List.{append-nil, drop-drop, drop_all, get_or-drop, length-drop, length_push, take_more}
use Rattle.std.proofs.lemmas.List.Elements.{All-drop}
use Rattle.loc_base.proofs.ShelfBools.{or-false, or-true}
use Rattle.clause_base.specs.declared.form.Form.{Form}
use Rattle.clause_base.specs.declared.literal.Lit.{Lit}
use Rattle.clause_base.specs.declared.log.Step.{Step}
use Rattle.clause_base.specs.declared.log.StepKind.{StepKind}
use Rattle.clause_base.specs.declared.log.StepKind.TheVariants.{Derived}
use Rattle.clause_base.specs.Acceptance.{IsAcceptedAs, IsAcceptedChain, IsAcceptedStep, clauses_of, is_block, is_block_kind}
use Rattle.clause_base.specs.Literal.{IsWithin}
use Rattle.clause_base.specs.Steps.{no_step, step_at}
use Rattle.card_counter.specs.Shows.{Shows, last_of}
use Rattle.sat_core.specs.SolverState.{blocks_of}
use Rattle.sat_core.proofs.Growing.{blocks_push}
use Rattle.unroller.specs.Unrolls.{Unrolling}
use Rattle.set_enum.specs.EnumState.{EnumState, HasNoChain, IsEnum, MayBeTakenOver, with_imported}
use Rattle.debug_core.specs.Debugging.{DebugState, FinishedSome, IsCertified, IsDebugger, IsFrontOf, IsKept, ShowEach, with_appended}
use Rattle.debug_core.specs.Problems.{Problem, suspect_count}
use Rattle.debug_core.specs.declared.debugger.Search.{Search}
use Rattle.debug_core.specs.Standing.{IsSearched, IsStanding, Stands, members_of, state_in, state_of}
use Rattle.debug_core.proofs.Certified.{each-later, kept-more, shows-appended}
use Rattle.debug_core.proofs.Logs.{derived-fresh, fresh-grown, pushed-prefix}

-- a step of a kind, as it is accepted
accepted-as : (kind : StepKind) (form blocks : List (List Lit)) (log : List Step) (step : Step) → kind ≡ Derived → IsAcceptedChain (clauses_of form log) step.chain step.clause → IsAcceptedAs kind form blocks log step
accepted-as kind form blocks log step derived chain = subst (λ (k : StepKind). IsAcceptedAs k form blocks log step) (sym derived) chain

-- the first of some steps
first-is : (steps : List Step) → 0 < length steps → take 1 steps ≡ get_or steps 0 no_step ∷ []
first-is [] some = absurd (omega (arith, some))
first-is (step ∷ steps) some = refl

module _ (p : Problem) (made : Form) (u : Unrolling) (e : EnumState) (certificate : List Step) (finished : Bool) (imported : ℕ)
    (is : IsStanding p made u e certificate finished imported) (goes_on : nat_lt p.k e.size ≡ false) (some : 0 < length certificate) where
  abbrev step : Step
  step = get_or certificate 0 no_step

  kept : IsKept made.vars made.clauses e.log step
  kept = is.certified.kept 0 no_step some

  no-block : is_block step ≡ false
  no-block = ap is_block_kind kept.derived.kind

  open-size : e.size ≤ e.k
  open-size = elim (cases_lt p.k e.size) [
    | inl over ↦ absurd (both_ways (nat_lt p.k e.size) goes_on (lt-ltb p.k e.size over))
    | inr low ↦ omega (arith, low, is.over.size)
  ]

  pub may-be-taken : MayBeTakenOver e step
  may-be-taken = record {
    open_size = open-size;
    block = λ y. absurd (both_ways (is_block step) no-block y);
    chainless = subst (λ kind. HasNoChain kind step) (sym kept.derived.kind) tt;
    accepted = λ n. accepted-as step.kind e.form (blocks_of e.log) e.log step kept.derived.kind
        (subst (λ form. IsAcceptedChain (clauses_of form e.log) step.chain step.clause) (sym is.over.form) kept.derived.accepted);
    within = subst (λ vars. IsWithin vars step.clause) (sym is.over.vars) kept.within;
  }

  abbrev now : EnumState
  now = with_imported e (step ∷ [])

  blocks : blocks_of now.log ≡ blocks_of e.log
  blocks = blocks_push e.log step no-block

  -- what contracts see then
  pub state-appended : state_of p made now (drop 1 certificate) true imported ≡ with_appended (state_of p made e certificate finished imported) 1
  state-appended =
      ap (λ blocks. record (state_of p made now (drop 1 certificate) true imported) { listed = map members_of blocks }) blocks
      ∙ (ap (λ steps. record (with_appended (state_of p made e certificate finished imported) 1) { log = e.log ++ steps; finished = true }) (sym (first-is certificate some))
      ∙ ap (λ b. record (with_appended (state_of p made e certificate finished imported) 1) { finished = b }) (sym (or-true finished)))

  module _ (holds : IsEnum (with_imported e (step ∷ []))) where
    searched : IsSearched p made now true imported
    searched = record {
      session_within = omega (arith, is.searched.session_within, length_push e.log step);
      fresh = fresh-grown e.log now.log (pushed-prefix e.log step) made.clauses imported is.searched.fresh (derived-fresh e.log step made.clauses kept.derived.kind);
      few = λ (wrong : true ≡ false). cc;
      ends = λ (wrong : true ≡ false). cc;
      front = subst (IsFrontOf p) (ap (map members_of) (sym blocks)) is.searched.front;
    }

    certified : IsCertified (state_of p made now (drop 1 certificate) true imported)
    certified = record {
      kept = All-drop (IsKept made.vars made.clauses now.log) 1 certificate
          (kept-more made.vars made.clauses e.log (step ∷ []) certificate is.certified.kept);
      shows = subst (λ blocks. Shows (suspect_count p) p.k (last_of (map members_of blocks)) (now.log ++ drop 1 certificate)) (sym blocks)
          (subst (λ steps. Shows (suspect_count p) p.k (last_of (map members_of (blocks_of e.log))) ((e.log ++ steps) ++ drop 1 certificate)) (first-is certificate some)
          (shows-appended (suspect_count p) p.k (last_of (map members_of (blocks_of e.log))) e.log certificate 1 is.certified.shows));
      each = subst (λ blocks. ShowEach (suspect_count p) p.k (last_of (map members_of blocks)) (drop 1 certificate)) (sym blocks)
          (each-later (suspect_count p) p.k (last_of (map members_of (blocks_of e.log))) certificate is.certified.each);
    }

    pub appended : IsStanding p made u (with_imported e (step ∷ [])) (drop 1 certificate) true imported
    appended = record {
      encoding = is.encoding;
      over = record { vars = is.over.vars; form = is.over.form; suspects = is.over.suspects; size = is.over.size; holds = holds };
      searched = searched;
      certified = certified;
    }

-- ---- of a search
module _ (p : Problem) (made : Form) (u : Unrolling) (s : Search) (now : DebugState) (view : state_in p made s ≡ now) (is : Stands p made u s)
    (goes_on : now.ended ≡ false) (some : 0 < length now.certificate) where
  abbrev rest : List Step
  rest = drop s.appended s.certificate

  abbrev next_step : Step
  next_step = step_at s.certificate s.appended

  open-now : (state_in p made s).ended ≡ false
  open-now = ap (λ (d : DebugState). d.ended) view ∙ goes_on

  some-now : 0 < length rest
  some-now = subst (λ (d : DebugState). 0 < length d.certificate) (sym view) some

  pub place-within : s.appended < length s.certificate
  place-within = omega (arith, some-now, length-drop s.appended s.certificate)

  same-step : get_or rest 0 no_step ≡ next_step
  same-step =
      let e : s.appended + 0 ≡ s.appended = omega arith in
      get_or-drop s.appended s.certificate 0 no_step ∙ ap (step_at s.certificate) e

  pub may-be-next : MayBeTakenOver s.enumerator (step_at s.certificate s.appended)
  may-be-next = subst (MayBeTakenOver s.enumerator) same-step (may-be-taken p made u s.enumerator rest s.finished s.imported is open-now some-now)

  -- with one step appended
  module _ (after : Search) (taken : after.enumerator ≡ with_imported s.enumerator (step_at s.certificate s.appended ∷ []))
      (kept : after.certificate ≡ s.certificate) (one_more : after.appended ≡ s.appended + 1) (finished : after.finished ≡ true)
      (imported : after.imported ≡ s.imported) where
    less : drop 1 rest ≡ drop after.appended after.certificate
    less = drop-drop 1 s.appended s.certificate ∙ (ap (λ m. drop m s.certificate) (sym one_more) ∙ ap (drop after.appended) (sym kept))

    taken-first : with_imported s.enumerator (get_or rest 0 no_step ∷ []) ≡ after.enumerator
    taken-first = ap (λ (x : Step). with_imported s.enumerator (x ∷ [])) same-step ∙ sym taken

    pub next-stands : IsEnum after.enumerator → Stands p made u after
    next-stands holds =
        subst (IsStanding p made u after.enumerator (drop after.appended after.certificate) after.finished) (sym imported)
        (subst (λ (done : Bool). IsStanding p made u after.enumerator (drop after.appended after.certificate) done s.imported) (sym finished)
        (subst (λ (steps : List Step). IsStanding p made u after.enumerator steps true s.imported) less
        (subst (λ (e : EnumState). IsEnum e → IsStanding p made u e (drop 1 rest) true s.imported) taken-first
        (appended p made u s.enumerator rest s.finished s.imported is open-now some-now) holds)))

    pub next-state : state_in p made after ≡ with_appended now 1
    next-state =
        ap (state_of p made after.enumerator (drop after.appended after.certificate) after.finished) imported
        ∙ (ap (λ (done : Bool). state_of p made after.enumerator (drop after.appended after.certificate) done s.imported) finished
        ∙ (ap (λ (steps : List Step). state_of p made after.enumerator steps true s.imported) (sym less)
        ∙ (ap (λ (e : EnumState). state_of p made e (drop 1 rest) true s.imported) (sym taken-first)
        ∙ (state-appended p made u s.enumerator rest s.finished s.imported is open-now some-now ∙ ap (λ (d : DebugState). with_appended d 1) view))))

-- ---- step by step
-- no step
pub appended-none : (s : DebugState) → s ≡ with_appended s 0
appended-none s = ap (λ log. record s { log = log }) (sym (append-nil s.log)) ∙ ap (λ b. record s { log = s.log ++ []; finished = b }) (sym (or-false s.finished))

-- one step more
pub appended-more : (s : DebugState) (count : ℕ) → with_appended (with_appended s count) 1 ≡ with_appended s (count + 1)
appended-more s count =
    ap (λ log. record (with_appended (with_appended s count) 1) { log = log }) (append_assoc s.log (take count s.certificate) (take 1 (drop count s.certificate)) ∙ ap (λ steps. s.log ++ steps) (sym (take-add count 1 s.certificate)))
    ∙ (ap (λ steps. record (with_appended s (count + 1)) { certificate = steps; finished = (s.finished || nat_lt 0 count) || true }) (drop-drop 1 count s.certificate)
    ∙ ap (λ b. record (with_appended s (count + 1)) { finished = b }) flags)
  where
    flags : ((s.finished || nat_lt 0 count) || true) ≡ (s.finished || nat_lt 0 (count + 1))
    flags = or-true (s.finished || nat_lt 0 count) ∙ sym (ap (λ b. s.finished || b) (lt-ltb 0 (count + 1) (omega arith)) ∙ or-true s.finished)

-- with all steps appended the log shows that no set is missing
pub finished-shows : (old new : DebugState) → new ≡ with_appended old (length old.certificate) → IsDebugger new
    → Shows (suspect_count new.problem) new.problem.k (last_of new.listed) new.log
finished-shows old new is holds =
    let none : new.certificate ≡ [] = ap (λ (s : DebugState). s.certificate) is ∙ drop_all (length old.certificate) old.certificate (omega arith) in
    subst (Shows (suspect_count new.problem) new.problem.k (last_of new.listed)) (ap (λ steps. new.log ++ steps) none ∙ append-nil new.log) holds.certified.shows

-- ---- a call that appends them
-- so many steps are appended, and so many are left
pub record IsFinishing (old now : DebugState) (left : ℕ) : Type 0 where
  pub count : ℕ
  pub long : count + left ≡ length old.certificate
  pub is : now ≡ with_appended old count
  pub holds : IsDebugger now

pub finishing-none : (old : DebugState) (left : ℕ) → IsDebugger old → left ≡ length old.certificate → IsFinishing old old left
finishing-none old left holds long = record { count = 0; long = omega (arith, long); is = appended-none old; holds = holds }

module _ (old now : DebugState) (left : ℕ) (f : IsFinishing old now left) where
  pub finishing-goes : old.ended ≡ false → now.ended ≡ false
  finishing-goes goes_on = ap (λ (s : DebugState). s.ended) f.is ∙ goes_on

  pub finishing-some : 0 < left → 0 < length now.certificate
  finishing-some some =
      let rest : length now.certificate ≡ length old.certificate - f.count =
      ap (λ (s : DebugState). length s.certificate) f.is ∙ length-drop f.count old.certificate in
      let long = f.long in
      omega (arith, rest, long, some)

  pub finishing-more : (new : DebugState) (fewer : ℕ) → fewer + 1 ≡ left → new ≡ with_appended now 1 → IsDebugger new → IsFinishing old new fewer
  finishing-more new fewer one is holds =
      let long = f.long in
      record {
        count = f.count + 1;
        long = omega (arith, long, one);
        is = is ∙ (ap (λ (s : DebugState). with_appended s 1) f.is ∙ appended-more old f.count);
        holds = holds;
      }

  pub finishing-cut : FinishedSome old now
  finishing-cut = let long = f.long in record { count = f.count; within = omega (arith, long); is = f.is }

  pub finishing-done : left ≡ 0 → now ≡ with_appended old (length old.certificate)
  finishing-done none =
      let long = f.long in
      let all : f.count ≡ length old.certificate = omega (arith, long, none) in
      f.is ∙ ap (with_appended old) all

-- ---- a copy of the steps that are left
pub copied-more : (kept steps next : List Step) (first place : ℕ) (x : Step) → first ≤ place → place < length kept
    → steps ≡ take (place - first) (drop first kept) → next ≡ steps ++ x ∷ [] → x ≡ step_at kept place
    → next ≡ take (place + 1 - first) (drop first kept)
copied-more kept steps next first place x low within so_far pushed is =
    let one : place + 1 - first ≡ (place - first) + 1 = omega (arith, low) in
    let there : first + (place - first) ≡ place = omega (arith, low) in
    let inside : place - first < length (drop first kept) = omega (arith, low, within, length-drop first kept) in
    let here : x ≡ get_or (drop first kept) (place - first) no_step =
    is ∙ (ap (step_at kept) (sym there) ∙ sym (get_or-drop first kept (place - first) no_step)) in
    pushed ∙ (ap (λ (xs : List Step). xs ++ x ∷ []) so_far
    ∙ (ap (λ (y : Step). take (place - first) (drop first kept) ++ y ∷ []) here
    ∙ (sym (take_more (drop first kept) (place - first) no_step inside) ∙ ap (λ m. take m (drop first kept)) (sym one))))

-- a step by its parts
pub step-same : (s : Step) (kind : StepKind) (clause : List Lit) (chain : List ℕ) → kind ≡ s.kind → clause ≡ s.clause → chain ≡ s.chain
    → record { kind = kind; clause = clause; chain = chain } ≡ s
step-same s kind clause chain same_kind same_clause same_chain =
    let first : Step = record { kind = kind; clause = clause; chain = chain } in
    ap (λ (k : StepKind). record first { kind = k }) same_kind
    ∙ (ap (λ (c : List Lit). record first { kind = s.kind; clause = c }) same_clause
    ∙ ap (λ (c : List ℕ). record s { chain = c }) same_chain)
