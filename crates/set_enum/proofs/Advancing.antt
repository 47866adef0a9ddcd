-- What each call leaves of an enumerator's parts.
use Rattle.std.proofs.Common.{◌≡◌, ℕ, zero, suc, ◌+◌, ◌-◌, ◌^◌, ◌<◌, ◌≤◌, inr, Bool, true, false, ◌&&◌, cond, List, [], ◌∷◌, ◌++◌, length, map, take}
use Rattle.std.proofs.Common.{drop, Option, Some, None, Result, Ok, Err, refl, sym, ◌∙◌, ap, subst, arith}
use Rattle.std.specs.Prelude.{All, filter, is_some, IsSome, OnOk, OnErr}
use Rattle.std.proofs.lemmas.List.{take_all, take_at, take-append-drop, map-append}
use Rattle.std.proofs.lemmas.List.Elements.{All-nil, All-take, All-push, All-append, All-map, filter-append}
use Rattle.loc_base.proofs.ShelfOptions.{Some-same}
use Rattle.loc_base.specs.declared.memory.NoMemory.{NoMemory}
use Rattle.clause_base.specs.declared.literal.Lit.{Lit}
use Rattle.clause_base.specs.declared.log.Step.{Step}
use Rattle.clause_base.specs.declared.log.StepKind.TheVariants.{Block, Derived}
use Rattle.clause_base.specs.Literal.{IsWithin, negative}
use Rattle.clause_base.specs.Steps.{step_at}
use Rattle.clause_base.specs.Acceptance.{is_block}
use Rattle.card_counter.specs.Places.{starts}
use Rattle.card_counter.specs.InForm.{HasCounter}
use Rattle.sat_core.specs.SolverState.{SolverState, IsSolver, IsGreatestModel, blocks_of, assignment_of}
use Rattle.sat_core.specs.declared.verdict.Verdict.{Verdict}
use Rattle.sat_core.specs.declared.verdict.Verdict.TheVariants as verdict
use Rattle.sat_core.specs.Outcome.{Searches, LearnedBeforeLast, IsRefuted, Says, closings_of, told_by}
use Rattle.sat_core.specs.Calls.{Begins, TookOver, untold as told_nothing, with_block, with_steps}
use Rattle.set_enum.specs.Sets.{selected, IsSetOf, IsBlock, block_of, numbers_from}
use Rattle.set_enum.specs.EnumState.{AreChainless, EnumState, HasNoChain, MayBeImported, MayBeTakenOver, untold}
use Rattle.set_enum.specs.Outcome.{Adds, GivesSet}
use Rattle.set_enum.specs.Standing.{IsStanding, IsToldAt, assumed, next_size, state_of, waiting}
use Rattle.set_enum.proofs.Selecting.{selected-IsSetOf, numbers-within}
use Rattle.set_enum.proofs.Bounding.{one-counter, ends_a_size, next-size}
use Rattle.set_enum.proofs.Searching.{Serves, closes, found, model_exact, model_few}
use Rattle.set_enum.proofs.Keeping.{AreClosed, stands, serves, are_closed, open_while_found, closed_more, serves_after, closed_after}
use Rattle.set_enum.proofs.Keeping.{closed_by, adds_search, told_none, told_of_none}

-- the number of selectors and one more fit
pub selectors_fit : (n k vars : ℕ) → n + starts k (n + 1) ≤ vars → vars < 2 ^ 32 → n + 1 < 2 ^ 32
selectors_fit zero k vars h small = omega arith
selectors_fit (suc n) k vars h small = omega (arith, h, small, one-counter (suc n) k (omega arith))

-- the selectors are variables of the form
pub selectors_within : (n k vars : ℕ) → n + starts k (n + 1) ≤ vars → All (λ v. (1 ≤ v) × (v ≤ vars)) (numbers_from 1 n)
selectors_within n k vars h i d l = (omega (arith, (numbers-within 1 n i d l).0), omega (arith, h, (numbers-within 1 n i d l).1))

-- a new enumerator
pub stands_new : (n k vars : ℕ) (form : List (List Lit)) (s : SolverState) → HasCounter n k vars form → k ≤ 8 → IsSolver s
    → Begins vars form (numbers_from 1 n) s → IsStanding n k 0 false s
stands_new n k vars form s counter few solver b =
    stands n k 0 false s
    record {
      counter = subst (λ f. HasCounter n k s.vars f) (sym b.form_is) (subst (λ v. HasCounter n k v form) (sym b.vars_are) counter);
      solver = solver;
      preferred = b.preferred_are;
      blocks = subst (λ (log : List Step). All (IsBlock n) (blocks_of log)) (sym b.no_step) (All-nil (IsBlock n));
      chainless = subst AreChainless (sym b.no_step) (All-nil (λ (x : Step). HasNoChain x.kind x));
    }
    few
    record {
      closed = λ a sat. omega arith;
      sizes = omega arith;
      closing = λ full. absurd (omega (arith, full));
      shown = λ j at. absurd (omega (arith, at));
    }
    (λ f. omega arith)
    (told_of_none n k 0 s)

-- after a search, at the same size
pub stands_after : (n k size : ℕ) (before later : Bool) (old new : SolverState) (budget left derived : ℕ) → IsStanding n k size before old
    → size ≤ k → Searches old new budget left derived → IsSolver new → IsToldAt n k size later new
    → IsStanding n k size later new
stands_after n k size before later old new budget left derived h open_size r solver told =
    stands n k size later new (serves_after n k old new budget left derived (serves n k size before old h) r solver) h.holds.few
    (closed_after n k size old new budget left derived (are_closed n k size before old h) open_size r) (λ t. open_size) told

-- after a model: it was found under what was assumed, and selects as many as the size
pub told_after : (n k size : ℕ) (before : Bool) (old new : SolverState) (budget left derived : ℕ) → IsStanding n k size before old
    → size ≤ k → Searches old new budget left derived → IsSolver new → IsGreatestModel new (assumed n k size)
    → new.told ≡ Some (assumed n k size) → IsToldAt n k size true new
told_after n k size before old new budget left derived h open_size r solver m is waits assume told =
    let s : Serves n k new = serves_after n k old new budget left derived (serves n k size before old h) r solver in
    let c : AreClosed n k size new.form new.log = closed_after n k size old new budget left derived (are_closed n k size before old h)
    open_size r in
    (Some-same (sym told ∙ is), model_exact n k new s size open_size c.closed m)

-- a search that closes a size
module _ (n k size : ℕ) (before : Bool) (old new : SolverState) (budget left number : ℕ) (h : IsStanding n k size before old)
    (open_size : size ≤ k) (r : Searches old new budget left 1) (solver : IsSolver new)
    (refuted : IsRefuted new.log number (assumed n k size)) where
  after_serves : Serves n k new
  after_serves = serves_after n k old new budget left 1 (serves n k size before old h) r solver

  after : ℕ
  after = next_size k size (step_at new.log (length new.log - 1)).clause

  pub stands_closed : (later : ℕ) → later ≡ next_size k size (step_at new.log (length new.log - 1)).clause
      → IsStanding n k later false new
  stands_closed later e =
      subst (λ m. IsStanding n k m false new) (sym e)
      (stands n k (next_size k size (step_at new.log (length new.log - 1)).clause) false new after_serves h.holds.few
      (closed_by n k size new after_serves open_size refuted.some
      (subst (λ m. (step_at new.log (m - 1)).kind ≡ Derived) refuted.last refuted.derived)
      (closes n k new after_serves number size refuted))
      (λ (f : false ≡ true). cc)
      (told_of_none n k (next_size k size (step_at new.log (length new.log - 1)).clause) new))

  pub size_grows : (later : ℕ) → later ≡ next_size k size (step_at new.log (length new.log - 1)).clause → size + 1 ≤ later
  size_grows later e = omega (
    arith,
    e,
    (next-size n k size (step_at new.log (length new.log - 1)).clause open_size
        (closes n k new after_serves number size refuted)).0,
  )

  pub adds_closed : (later : ℕ) (then : Bool) → LearnedBeforeLast old.log new.log
      → later ≡ next_size k size (step_at new.log (length new.log - 1)).clause
      → Adds (state_of n k size before old) (state_of n k later then new) budget left
  adds_closed later then learned e =
      adds_search n k size later before then old new budget left 1 r learned (size_grows later e)
      (inr (ends_a_size n k size (step_at new.log (length new.log - 1)).clause open_size
      (closes n k new after_serves number size refuted)))

-- a search that finds a set
pub gives_set : (n k size : ℕ) (before : Bool) (old new : SolverState) (budget left derived : ℕ) → IsStanding n k size before old
    → size ≤ k → Searches old new budget left derived → IsSolver new
    → IsGreatestModel new (assumed n k size) → new.told ≡ Some (assumed n k size)
    → GivesSet (state_of n k size true new) (selected n (assignment_of new.model))
gives_set n k size before old new budget left derived h open_size r solver m told =
    let s : Serves n k new = serves_after n k old new budget left derived (serves n k size before old h) r solver in
    let c : AreClosed n k size new.form new.log = closed_after n k size old new budget left derived (are_closed n k size before old h)
    open_size r in
    record {
      first = found n k new s size open_size c.closed m;
      size = model_exact n k new s size open_size c.closed m;
      last = refl;
      told = ap is_some told;
      satisfies = m.satisfies;
      selects = refl;
    }

-- there is room for its members
pub few_members : (n k size : ℕ) (before : Bool) (old new : SolverState) (budget left derived : ℕ) → IsStanding n k size before old
    → size ≤ k → Searches old new budget left derived → IsSolver new
    → IsGreatestModel new (assumed n k size) → length (selected n (assignment_of new.model)) ≤ k
few_members n k size before old new budget left derived h open_size r solver m =
    omega (
      arith,
      open_size,
      model_few n k new (serves_after n k old new budget left derived (serves n k size before old h) r solver) size
          open_size m,
    )

-- a set waits where the last model's was answered
pub found_where_waits : (n : ℕ) (before : Bool) (model : List Bool) → IsSome (waiting n before model) → before ≡ true
found_where_waits n true model h = refl
found_where_waits n false model h = cc

blocks_append : (log more : List Step) → blocks_of (log ++ more) ≡ blocks_of log ++ blocks_of more
blocks_append log more = ap (map (λ (x : Step). x.clause)) (filter-append is_block log more) ∙ map-append (λ (x : Step). x.clause)
    (filter is_block log) (filter is_block more)

-- a block of selectors is over the form's variables
pub block_within : (n k vars : ℕ) (set : List ℕ) → n + starts k (n + 1) ≤ vars → IsSetOf n set → IsWithin vars (block_of set)
block_within n k vars set fits h =
    All-map (λ l. (1 ≤ l.var) × (l.var ≤ vars)) negative set (λ i d l. ((h.members i d l).0, omega (arith, fits, (h.members i d l).1)))

-- with other steps, over the same form
with_more : (n k size : ℕ) (before later : Bool) (old : SolverState) (steps : List Step) → IsStanding n k size before old → size ≤ k
    → IsSolver (with_steps old steps) → All (IsBlock n) (blocks_of steps) → AreChainless steps → IsToldAt n k size later (with_steps old steps)
    → IsStanding n k size later (with_steps old steps)
with_more n k size before later old steps h open_size solver blocks chainless told =
    stands n k size later (with_steps old steps)
    record {
      counter = h.holds.counter;
      solver = solver;
      preferred = h.preferred;
      blocks = subst (All (IsBlock n)) (sym (blocks_append old.log steps))
          (All-append (IsBlock n) (blocks_of old.log) (blocks_of steps) h.holds.blocks blocks);
      chainless = All-append (λ (x : Step). HasNoChain x.kind x) old.log steps h.holds.chainless chainless;
    }
    h.holds.few (closed_more n k size old.form old.log steps (blocks_of steps) (are_closed n k size before old h) open_size
    (blocks_append old.log steps)) (λ t. open_size) told

-- once the last set is blocked
pub stands_blocked : (n k size : ℕ) (before : Bool) (old new : SolverState) (block : List Lit) → IsStanding n k size before old
    → before ≡ true → IsSolver new → block ≡ block_of (selected n (assignment_of old.model))
    → new ≡ with_block old block → IsStanding n k size false new
stands_blocked n k size before old new block h waits solver is e =
    let steps : List Step = record { kind = Block; clause = block; chain = [] } ∷ [] in
    let one : IsBlock n block = record {
      set = selected n (assignment_of old.model);
      of = selected-IsSetOf n (assignment_of old.model);
      is = is;
    } in
    let open_size : size ≤ k = open_while_found n k size old (subst (λ f. IsStanding n k size f old) waits h) in
    subst (IsStanding n k size false) (sym e)
    (with_more n k size before false old steps h open_size (subst IsSolver e solver)
    (All-push (IsBlock n) [] block (All-nil (IsBlock n)) one)
    (All-push (λ (x : Step). HasNoChain x.kind x) [] (record { kind = Block; clause = block; chain = [] })
    (All-nil (λ (x : Step). HasNoChain x.kind x)) refl) (told_of_none n k size (with_steps old steps)))

-- what was told stays told where no step was added
told_with : (n k size : ℕ) (found : Bool) (old : SolverState) (steps : List Step) → IsToldAt n k size found old → IsToldAt n k size found (with_steps old steps)
told_with n k size found old [] told = told
told_with n k size found old (step ∷ steps) told = told_none n k size found (with_steps old (step ∷ steps)) refl

import_front : (n k size : ℕ) (before : Bool) (old new : SolverState) (steps : List Step) (count : ℕ) → IsStanding n k size before old
    → MayBeImported (state_of n k size before old) steps → IsSolver new
    → new ≡ with_steps old (take count steps) → IsStanding n k size before new
import_front n k size before old new steps count h may solver e =
    let parts : blocks_of steps ≡ blocks_of (take count steps) ++ blocks_of (drop count steps) = ap blocks_of
    (sym (take-append-drop count steps)) ∙ blocks_append (take count steps) (drop count steps) in
    let front : All (IsBlock n) (blocks_of (take count steps)) =
    subst (All (IsBlock n)) (take_at (blocks_of (take count steps)) (blocks_of (drop count steps)) (length (blocks_of (take count steps)))
    refl)
    (All-take (IsBlock n) (length (blocks_of (take count steps))) (blocks_of (take count steps) ++ blocks_of (drop count steps))
    (subst (All (IsBlock n)) parts may.blocks)) in
    subst (IsStanding n k size before) (sym e)
    (with_more n k size before before old (take count steps) h may.open_size (subst IsSolver e solver) front
    (All-take (λ (x : Step). HasNoChain x.kind x) count steps may.chainless) (told_with n k size before old (take count steps) h.told))

-- once steps are imported, all or some
pub stands_imported : {T : Type 0} (n k size : ℕ) (before : Bool) (old new : SolverState) (steps : List Step) (result : Result T NoMemory)
    → IsStanding n k size before old → MayBeImported (state_of n k size before old) steps
    → IsSolver new → OnOk result (new ≡ with_steps old steps) → OnErr result (TookOver old new steps) → IsStanding n k size before new
stands_imported n k size before old new steps (Ok x) h may solver ok err =
    import_front n k size before old new steps (length steps) h may solver
    (ok ∙ ap (with_steps old) (sym (take_all (length steps) steps (omega arith))))
stands_imported n k size before old new steps (Err x) h may solver ok err = import_front n k size before old new steps err.count h may
    solver err.is

-- what is said of an enumerator's view is said of its parts
pub open_of : (a b : EnumState) → a ≡ b → b.size ≤ b.k → a.size ≤ a.k
open_of a b e h = subst (λ s. s.size ≤ s.k) (sym e) h

-- where no set waits any more
pub stands_unwaited : (n k size : ℕ) (before : Bool) (s : SolverState) → IsStanding n k size before s → IsStanding n k size false s
stands_unwaited n k size before s h = stands n k size false s (serves n k size before s h) h.holds.few (are_closed n k size before s h)
    (λ (f : false ≡ true). cc) (told_of_none n k size s)

-- what a verdict says, under what is assumed
pub model_says : (s : SolverState) (a b : List Lit) (left : ℕ) (v : Verdict) → a ≡ b → v ≡ verdict.Model → Says s a left v
    → (0 < left) × IsGreatestModel s b
model_says s a b left v same is h = subst (λ ls. Says s ls left verdict.Model) same (subst (Says s a left) is h)

pub closed_says : (s : SolverState) (a b : List Lit) (left step : ℕ) (v : Verdict) → a ≡ b → v ≡ verdict.Closed step → Says s a left v
    → (0 < left) × IsRefuted s.log step b
closed_says s a b left step v same is h = subst (λ ls. Says s ls left (verdict.Closed step)) same (subst (Says s a left) is h)

pub closed_searches : (old new : SolverState) (budget left step : ℕ) (v : Verdict) → v ≡ verdict.Closed step
    → Searches old new budget left (closings_of v) → Searches old new budget left 1
closed_searches old new budget left step v is h = subst (λ x. Searches old new budget left (closings_of x)) is h

-- what a model tells
pub model_told : (assume a : List Lit) (told : Option (List Lit)) (r : Result Verdict NoMemory) (v : Verdict) → told ≡ told_by a r → a ≡ assume
    → r ≡ Ok v → v ≡ verdict.Model → told ≡ Some assume
model_told assume a told r v e same is model = e ∙ (ap (told_by a) (is ∙ ap Ok model) ∙ ap Some same)

-- once a step is taken over
one_block : (n : ℕ) (step : Step) (b : Bool) → (b ≡ true → IsBlock n step.clause) → All (IsBlock n) (map (λ (x : Step). x.clause) (cond b (step ∷ []) []))
one_block n step true one = All-push (IsBlock n) [] step.clause (All-nil (IsBlock n)) (one refl)
one_block n step false one = All-nil (IsBlock n)

pub stands_taken : {T : Type 0} (n k size : ℕ) (before : Bool) (old new : SolverState) (step : Step) (result : Result T NoMemory)
    → IsStanding n k size before old → MayBeTakenOver (state_of n k size before old) step
    → IsSolver new → OnOk result (new ≡ with_steps old (step ∷ [])) → OnErr result (new ≡ old) → IsStanding n k size before new
stands_taken n k size before old new step (Ok x) h may solver ok err =
    subst (IsStanding n k size before) (sym ok)
    (with_more n k size before before old (step ∷ []) h may.open_size (subst IsSolver ok solver) (one_block n step (is_block step) may.block)
    (All-push (λ (x : Step). HasNoChain x.kind x) [] step (All-nil (λ (x : Step). HasNoChain x.kind x)) may.chainless)
    (told_with n k size before old (step ∷ []) h.told))
stands_taken n k size before old new step (Err x) h may solver ok err = subst (IsStanding n k size before) (sym err) h

-- once nothing is told any more
false_either : (b : Bool) → (b && false) ≡ false
false_either true = refl
false_either false = refl

pub untold_state : (n k size : ℕ) (found : Bool) (s : SolverState)
    → state_of n k size found (told_nothing s) ≡ untold (state_of n k size found s)
untold_state n k size found s = ap (λ told. record (state_of n k size found s) { told = told }) (false_either found)

pub stands_untold : (n k size : ℕ) (found : Bool) (old new : SolverState) → IsStanding n k size found old → IsSolver new
    → new ≡ told_nothing old → IsStanding n k size found new
stands_untold n k size found old new h solver e =
    subst (IsStanding n k size found) (sym e) (record {
      holds = record {
        counter = h.holds.counter;
        small = h.holds.small;
        few = h.holds.few;
        accepted = h.holds.accepted;
        within = h.holds.within;
        distinct = h.holds.distinct;
        blocks = h.holds.blocks;
        chainless = h.holds.chainless;
        closed = h.holds.closed;
        sizes = h.holds.sizes;
        closing = h.holds.closing;
        shown = h.holds.shown;
        waits = h.holds.waits;
      };
      solver = subst IsSolver e solver;
      preferred = h.preferred;
      told = told_none n k size found (told_nothing old) refl;
    })

pub settled : (n k size : ℕ) (found : Bool) (old new : SolverState) (s : EnumState) → state_of n k size found old ≡ s
    → new ≡ told_nothing old → state_of n k size found new ≡ untold s
settled n k size found old new s is e = ap (state_of n k size found) e ∙ (untold_state n k size found old ∙ ap untold is)
