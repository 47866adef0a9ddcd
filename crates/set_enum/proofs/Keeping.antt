-- What each call leaves of an enumerator.
use Rattle.std.proofs.Common.{◌≡◌, ℕ, zero, suc, ◌+◌, ◌-◌, ◌<◌, ◌≤◌, ◌⊎◌, inl, inr, Bool, true, false, cond, List, [], ◌∷◌, ◌++◌, length}
use Rattle.std.proofs.Common.{take, Option, Some, None, refl, sym, ◌∙◌, ap, subst, append_assoc, arith}
use Rattle.std.specs.Prelude.{All, count_by, IsSomeAnd}
use Rattle.std.proofs.lemmas.Bool.{cases_lt}
use Rattle.loc_base.proofs.ShelfBools.{count-true}
use Rattle.loc_base.proofs.ShelfOptions.{Some-same}
use Rattle.std.proofs.lemmas.List.{take_at, get_or-drop, length-drop, take-append-drop, append-nil}
use Rattle.std.proofs.lemmas.List.Elements.{All-append, All-cons, All-nil, All-take, Contains-append_left, Contains-get_or}
use Rattle.std.proofs.lemmas.List.Sums.{sum_by-cons}
use Rattle.clause_base.specs.declared.literal.Lit.{Lit}
use Rattle.clause_base.specs.declared.log.Step.{Step}
use Rattle.clause_base.specs.declared.log.StepKind.{StepKind}
use Rattle.clause_base.specs.declared.log.StepKind.TheVariants.{Block, Learned, Derived}
use Rattle.clause_base.specs.Steps.{step_at, no_step}
use Rattle.clause_base.specs.Satisfaction.{Satisfies, SatisfiesClause}
use Rattle.clause_base.specs.Acceptance.{is_block, is_block_kind}
use Rattle.clause_base.specs.Counted.{EndsASize}
use Rattle.clause_base.specs.Progress.{IsClosing}
use Rattle.card_counter.specs.InForm.{HasCounter}
use Rattle.sat_core.specs.SolverState.{SolverState, IsSolver, blocks_of, assignment_of}
use Rattle.sat_core.specs.Outcome.{Searches, LearnedBeforeLast, is_derived, is_derived_kind, added}
use Rattle.sat_core.proofs.Growing.{blocks_kept}
use Rattle.set_enum.specs.Sets.{selected, IsSetOf, IsBlock, NoneBelow}
use Rattle.set_enum.specs.Bounds.{bound_at, bound_of, bounds_of}
use Rattle.set_enum.specs.EnumState.{AreChainless, HasNoChain, ShowsBound}
use Rattle.set_enum.specs.Outcome.{Adds}
use Rattle.set_enum.specs.Standing.{IsStanding, IsToldAt, state_of, waiting, next_size}
use Rattle.set_enum.proofs.Selecting.{selected-IsSetOf}
use Rattle.set_enum.proofs.Bounding.{EndsAt, bound-some, next-size}
use Rattle.set_enum.proofs.Searching.{Serves, none_left}

-- the sizes of an enumerator: those below `size` are closed
pub record AreClosed (n k size : ℕ) (form : List (List Lit)) (log : List Step) : Type 0 where
  pub closed : NoneBelow n size (form ++ blocks_of log)
  pub sizes : size ≤ k + 1
  pub closing : size ≡ k + 1 → IsClosing (bound_of n k k) log
  pub shown : (j : ℕ) → size ≡ j + 1 → ShowsBound n k j log

waits : (n k size : ℕ) (found : Bool) (model : List Bool) (set : List ℕ) → (found ≡ true → size ≤ k) → waiting n found model ≡ Some set
    → IsSetOf n set × (size ≤ k)
waits n k size true model set h e = (subst (IsSetOf n) (Some-same e) (selected-IsSetOf n (assignment_of model)), h refl)
waits n k size false model set h e = cc

pub stands : (n k size : ℕ) (found : Bool) (s : SolverState) → Serves n k s → k ≤ 8 → AreClosed n k size s.form s.log
    → (found ≡ true → size ≤ k) → IsToldAt n k size found s → IsStanding n k size found s
stands n k size found s h few c w told = record {
  holds = record {
    counter = h.counter;
    small = h.solver.small;
    few = few;
    accepted = h.solver.accepted;
    within = h.solver.within;
    distinct = h.solver.distinct;
    blocks = h.blocks;
    chainless = h.chainless;
    closed = c.closed;
    sizes = c.sizes;
    closing = c.closing;
    shown = c.shown;
    waits = λ set e. waits n k size found s.model set w e;
  };
  solver = h.solver;
  preferred = h.preferred;
  told = told;
}

-- nothing is told while no set waits
pub told_of_none : (n k size : ℕ) (s : SolverState) → IsToldAt n k size false s
told_of_none n k size s waits = cc

-- nor where nothing is told by the solver
pub told_none : (n k size : ℕ) (found : Bool) (s : SolverState) → s.told ≡ None → IsToldAt n k size found s
told_none n k size found s none waits assume is = let wrong : None ≡ Some assume = sym none ∙ is in cc

pub serves : (n k size : ℕ) (found : Bool) (s : SolverState) → IsStanding n k size found s → Serves n k s
serves n k size found s h = record {
  counter = h.holds.counter;
  solver = h.solver;
  preferred = h.preferred;
  blocks = h.holds.blocks;
  chainless = h.holds.chainless;
}

pub are_closed : (n k size : ℕ) (found : Bool) (s : SolverState) → IsStanding n k size found s → AreClosed n k size s.form s.log
are_closed n k size found s h = record {
  closed = h.holds.closed;
  sizes = h.holds.sizes;
  closing = h.holds.closing;
  shown = h.holds.shown;
}

pub open_while_found : (n k size : ℕ) (s : SolverState) → IsStanding n k size true s → size ≤ k
open_while_found n k size s h = (h.holds.waits (selected n (assignment_of s.model)) refl).1

-- a bound that is shown stays shown
shows-more : (n k j : ℕ) (log more : List Step) → ShowsBound n k j log → ShowsBound n k j (log ++ more)
shows-more n k j log more h = record { step = h.step; in_log = Contains-append_left log more h.step h.in_log; clause = h.clause }

-- while a size is open, other clauses behind the form and the blocks, and other steps behind the log, close no less
pub closed_more : (n k size : ℕ) (form : List (List Lit)) (log more : List Step) (blocks : List (List Lit)) → AreClosed n k size form log
    → size ≤ k → blocks_of (log ++ more) ≡ blocks_of log ++ blocks
    → AreClosed n k size form (log ++ more)
closed_more n k size form log more blocks h open_size e = record {
  closed = λ a sat. h.closed a (front a (subst (λ bs. Satisfies a (form ++ bs)) e sat));
  sizes = h.sizes;
  closing = λ full. absurd (omega (arith, full, open_size));
  shown = λ j at. shows-more n k j log more (h.shown j at);
}
  where
    front : (a : ℕ → Bool) → Satisfies a (form ++ (blocks_of log ++ blocks)) → Satisfies a (form ++ blocks_of log)
    front a sat =
        subst (Satisfies a) (take_at (form ++ blocks_of log) blocks (length (form ++ blocks_of log)) refl)
        (All-take (SatisfiesClause a) (length (form ++ blocks_of log)) ((form ++ blocks_of log) ++ blocks)
        (subst (Satisfies a) (sym (append_assoc form (blocks_of log) blocks)) sat))

whole : (old new : List Step) → take (length old) new ≡ old → new ≡ old ++ added old new
whole old new e = sym (take-append-drop (length old) new) ∙ ap (λ xs. xs ++ added old new) e

-- steps without a block
unblocked-chainless : (steps : List Step) → count_by is_block steps ≡ 0 → AreChainless steps
unblocked-chainless [] none = All-nil (λ (s : Step). HasNoChain s.kind s)
unblocked-chainless (s ∷ steps) none =
    All-cons (λ (x : Step). HasNoChain x.kind x) s steps
    (no-block s.kind (omega (arith, none, sum_by-cons (λ x. cond (is_block x) 1 0) s steps)))
    (unblocked-chainless steps (omega (arith, none, sum_by-cons (λ x. cond (is_block x) 1 0) s steps)))
  where
    no-block : (kind : StepKind) → ◌≡◌ {A = ℕ} (cond (is_block_kind kind) 1 0) 0 → HasNoChain kind s
    no-block Block none = absurd (omega (arith, none))
    no-block Learned none = tt
    no-block Derived none = tt

-- a search leaves the form, the blocks and what is preferred
pub serves_after : (n k : ℕ) (old new : SolverState) (budget left derived : ℕ) → Serves n k old → Searches old new budget left derived
    → IsSolver new → Serves n k new
serves_after n k old new budget left derived h r solver = record {
  counter = subst (λ form. HasCounter n k new.vars form) (sym r.form)
      (subst (λ vars. HasCounter n k vars old.form) (sym r.vars) h.counter);
  solver = solver;
  preferred = r.preferred ∙ h.preferred;
  blocks = subst (All (IsBlock n)) (sym (blocks_kept old.form old.log new.log budget left derived r.grows)) h.blocks;
  chainless = subst AreChainless (sym (whole old.log new.log r.grows.prefix))
      (All-append (λ (s : Step). HasNoChain s.kind s) old.log (added old.log new.log) h.chainless
      (unblocked-chainless (added old.log new.log) r.grows.no_block));
}

-- and what is closed, while sizes are open
pub closed_after : (n k size : ℕ) (old new : SolverState) (budget left derived : ℕ) → AreClosed n k size old.form old.log → size ≤ k
    → Searches old new budget left derived → AreClosed n k size new.form new.log
closed_after n k size old new budget left derived h open_size r =
    let e : new.log ≡ old.log ++ added old.log new.log = whole old.log new.log r.grows.prefix in
    let same : blocks_of (old.log ++ added old.log new.log) ≡ blocks_of old.log ++ [] =
    ap blocks_of (sym e) ∙ (blocks_kept old.form old.log new.log budget left derived r.grows ∙ sym (append-nil (blocks_of old.log))) in
    subst (λ form. AreClosed n k size form new.log) (sym r.form)
    (subst (AreClosed n k size old.form) (sym e) (closed_more n k size old.form old.log (added old.log new.log) [] h open_size same))

closing_with : (n k : ℕ) (log : List Step) (j : ℕ) → j ≤ k → (step_at log (length log - 1)).kind ≡ Derived → 0 < length log
    → EndsAt n k j (step_at log (length log - 1)).clause
    → next_size k j (step_at log (length log - 1)).clause ≡ k + 1 → IsClosing (bound_of n k k) log
closing_with n k log j size kind some e full = record {
  has_last = some;
  derived = kind;
  closes = elim e [
    | inl none ↦ inl none
    | inr r ↦
        let last : j ≡ k = omega (arith, full, sym (ap (next_size k j) r.1)) in
        inr (is_bound r.0 r.1 last)
  ];
}
  where
    is_bound : j < n → (step_at log (length log - 1)).clause ≡ bound_at n k j ∷ [] → j ≡ k
        → IsSomeAnd (bound_of n k k) (λ l. (step_at log (length log - 1)).clause ≡ l ∷ [])
    is_bound l is last =
        subst (λ (b : Option Lit). IsSomeAnd b (λ x. (step_at log (length log - 1)).clause ≡ x ∷ []))
        (sym (bound-some n k k (omega (arith, l, last))))
        (is ∙ ap (λ i. bound_at n k i ∷ []) last)

shown_with : (n k j i : ℕ) (log : List Step) → 0 < length log → EndsAt n k j (step_at log (length log - 1)).clause
    → next_size k j (step_at log (length log - 1)).clause ≡ i + 1 → ShowsBound n k i log
shown_with n k j i log some e at = record {
  step = step_at log (length log - 1);
  in_log = Contains-get_or log (length log - 1) no_step (omega (arith, some));
  clause = elim e [
    | inl none ↦ inl none
    | inr r ↦
        let same : j ≡ i = omega (arith, at, sym (ap (next_size k j) r.1)) in
        inr (subst (λ (b : Option Lit). IsSomeAnd b (λ x. (step_at log (length log - 1)).clause ≡ x ∷ []))
        (sym (bound-some n k i (omega (arith, r.0, same))))
        (r.1 ∙ ap (λ m. bound_at n k m ∷ []) same))
  ];
}

-- a derived clause that closes the size
pub closed_by : (n k j : ℕ) (s : SolverState) → Serves n k s → j ≤ k → 0 < length s.log
    → (step_at s.log (length s.log - 1)).kind ≡ Derived → EndsAt n k j (step_at s.log (length s.log - 1)).clause
    → AreClosed n k (next_size k j (step_at s.log (length s.log - 1)).clause) s.form s.log
closed_by n k j s h size some kind e = record {
  closed = none_left n k s h j (length s.log - 1) size (omega (arith, some)) e;
  sizes = (next-size n k j (step_at s.log (length s.log - 1)).clause size e).1;
  closing = λ full. closing_with n k s.log j size kind some e full;
  shown = λ i at. shown_with n k j i s.log some e at;
}

no_derived : (log : List Step) (i : ℕ) → count_by is_derived log ≡ 0 → i < length log → (step_at log i).kind ≡ Derived → ⊥
no_derived [] i none l kind = absurd (omega (arith, l))
no_derived (s ∷ log) zero none l kind =
    absurd (omega (arith, none, count-true (is_derived s) (ap is_derived_kind kind), sum_by-cons (λ x. cond (is_derived x) 1 0) s log))
no_derived (s ∷ log) (suc i) none l kind = no_derived log i (omega (arith, none, sum_by-cons (λ x. cond (is_derived x) 1 0) s log))
    (omega (arith, l)) kind

-- what a search adds
pub adds_search : (n k size after : ℕ) (found later : Bool) (old new : SolverState) (budget left derived : ℕ)
    → Searches old new budget left derived → LearnedBeforeLast old.log new.log
    → size + derived ≤ after → ((derived ≡ 0) ⊎ EndsASize (bounds_of n k) (step_at new.log (length new.log - 1)).clause)
    → Adds (state_of n k size found old) (state_of n k after later new) budget left
adds_search n k size after found later old new budget left derived r learned few ends = record {
  vars = r.vars;
  form = r.form;
  n = refl;
  k = refl;
  derived = derived;
  grows = r.grows;
  few = few;
  ends = at;
}
  where
    not_both : (x : StepKind) → x ≡ Learned → x ≡ Derived → ⊥
    not_both Block p q = cc
    not_both Learned p q = cc
    not_both Derived p q = cc

    at : (place : ℕ) → length old.log ≤ place → place < length new.log → (step_at new.log place).kind ≡ Derived
        → EndsASize (bounds_of n k) (step_at new.log place).clause
    at place low high kind = elim ends [
      | inl none ↦
          let within : place - length old.log < length (added old.log new.log) = omega
          (arith, low, high, length-drop (length old.log) new.log) in
          let back : length old.log + (place - length old.log) ≡ place = omega (arith, low) in
          let here : step_at (added old.log new.log) (place - length old.log) ≡ step_at new.log place = get_or-drop (length old.log)
          new.log (place - length old.log) no_step ∙ ap (step_at new.log) back in
          absurd (no_derived (added old.log new.log) (place - length old.log) (r.grows.derived_steps ∙ none) within
          (ap (λ (x : Step). x.kind) here ∙ kind))
      | inr e ↦ elim (cases_lt (place + 1) (length new.log)) [
        | inl q ↦ absurd (not_both (step_at new.log place).kind (learned place low q) kind)
        | inr q ↦
            let last : length new.log - 1 ≡ place = omega (arith, q, high) in
            subst (λ m. EndsASize (bounds_of n k) (step_at new.log m).clause) last e
      ]
    ]
