-- Logs that grow by steps of a search.
use Rattle.std.proofs.Common.{◌≡◌, ℕ, ◌+◌, ◌-◌, ◌^◌, ◌<◌, ◌≤◌, zero, suc, Bool, true, false, cond, List, [], ◌∷◌, ◌++◌, map, length, get_or, take, drop, Result, Ok, Err, refl, sym, ap, ◌∙◌, subst, arith, ◌⊎◌, inl, inr, IsTrue}
use Rattle.std.specs.List.{filter, count_by}
use Rattle.std.specs.Result.{IfOk}
use Rattle.std.proofs.lemmas.Bool.{cases_lt, false_from_ne_true}
use Rattle.std.proofs.lemmas.List.{drop_at, drop_all, take_at, take_all, take-take, take-append-drop, get_or-take, get_or-drop, nil_from_length, get_or_at, get_or_push, length_push, length-take, length-drop, length-map, append-nil, drop-append-le, map_push}
use Rattle.std.proofs.lemmas.List.Elements.{All-push, filter-append}
use Rattle.std.proofs.lemmas.List.Sums.{sum_by-append, sum_by-cons, length-filter}
use Rattle.clause_base.specs.declared.literal.Lit.{Lit}
use Rattle.clause_base.specs.declared.log.Step.{Step}
use Rattle.clause_base.specs.declared.log.StepKind.{StepKind}
use Rattle.clause_base.specs.declared.log.StepKind.TheVariants.{Block, Learned, Derived}
use Rattle.clause_base.specs.Literal.{has_distinct_variables, IsWithin, AreWithin, AllDistinct}
use Rattle.clause_base.specs.Steps.{step_at, no_step}
use Rattle.clause_base.specs.Acceptance.{clauses_of, is_block, is_block_kind, blocks_in, IsAcceptedStep, IsAcceptedAt, IsAccepted}
use Rattle.clause_base.specs.Progress.{IsFresh}
use Rattle.clause_base.proofs.Accepted.{clauses_of-push, each_step-push, accepted-more_blocks}
use Rattle.trail_core.specs.TrailState.{TrailState}
use Rattle.sat_core.specs.SolverState.{SolverState, IsSolver, blocks_of}
use Rattle.sat_core.specs.declared.verdict.Verdict.{Verdict}
use Rattle.sat_core.specs.declared.verdict.Verdict.TheVariants as verdict
use Rattle.loc_base.proofs.ShelfBools.{count-true}
use Rattle.loc_base.specs.declared.memory.NoMemory.{NoMemory}
use Rattle.sat_core.specs.Outcome.{is_learned, is_learned_kind, is_derived, is_derived_kind, added, Grows, LearnedBeforeLast, Says, closings}
use Rattle.sat_core.specs.Engines.{LearnsStep}

-- the steps added by one
added_push : (old new : List Step) (s : Step) → new ≡ old ++ s ∷ [] → added old new ≡ s ∷ []
added_push old new s e = ap (drop (length old)) e ∙ drop_at old (s ∷ []) (length old) refl

-- no step more
pub Grows-none : (form : List (List Lit)) (log : List Step) (left : ℕ) → Grows form log log left left 0
Grows-none form log left = record {
  prefix = take_all (length log) log (omega arith);
  no_block = ap (count_by is_block) none;
  units = ap (λ xs. count_by is_learned xs + left) none ∙ omega arith;
  fresh = λ place low within kind. absurd (omega (arith, low, within));
  derived_steps = ap (count_by is_derived) none;
}
  where
    none : added log log ≡ []
    none = drop_all (length log) log (omega arith)

-- one learned step more
pub Grows-learned : (t : TrailState) (form : List (List Lit)) (old new : List Step) (literals : List Lit) (chain : List ℕ) (units left : ℕ) → t.clauses ≡ clauses_of form old → LearnsStep t old new literals chain → left + 1 ≡ units → Grows form old new units left 0
Grows-learned t form old new literals chain units left e r u = record {
  prefix = ap (take (length old)) r.step ∙ take_at old (s ∷ []) (length old) refl;
  no_block = ap (count_by is_block) one;
  units = let k : count_by is_learned (added old new) ≡ 1 = ap (count_by is_learned) one in omega (arith, k, u);
  fresh = λ place low within kind. at place (omega (arith, low, within, ap length r.step, length_push old s));
  derived_steps = ap (count_by is_derived) one;
}
  where
    s : Step
    s = record { kind = Learned; clause = literals; chain = chain }

    one : added old new ≡ s ∷ []
    one = added_push old new s r.step

    at : (place : ℕ) → length old ≡ place → IsFresh (clauses_of form (take place new)) (step_at new place).clause
    at place w =
        let before : take place new ≡ old = ap (take place) r.step ∙ take_at old (s ∷ []) place w in
        let here : step_at new place ≡ s = ap (λ ss. step_at ss place) r.step ∙ get_or_at old s [] no_step place w in
        subst (λ ss. IsFresh (clauses_of form ss) (step_at new place).clause) (sym before)
        (subst (λ (x : Step). IsFresh (clauses_of form old) x.clause) (sym here) (subst (λ cs. IsFresh cs literals) e r.fresh))

-- one derived step more
pub Grows-derived : (form : List (List Lit)) (old new : List Step) (literals : List Lit) (chain : List ℕ) (left : ℕ) → new ≡ old ++ record { kind = Derived; clause = literals; chain = chain } ∷ [] → Grows form old new left left 1
Grows-derived form old new literals chain left e = record {
  prefix = ap (take (length old)) e ∙ take_at old (s ∷ []) (length old) refl;
  no_block = ap (count_by is_block) one;
  units = let k : count_by is_learned (added old new) ≡ 0 = ap (count_by is_learned) one in omega (arith, k);
  fresh = λ place low within kind. absurd (not_learned (sym (ap (λ (x : Step). x.kind) (here place (omega (arith, low, within, ap length e, length_push old s)))) ∙ kind));
  derived_steps = ap (count_by is_derived) one;
}
  where
    s : Step
    s = record { kind = Derived; clause = literals; chain = chain }

    one : added old new ≡ s ∷ []
    one = added_push old new s e

    here : (place : ℕ) → length old ≡ place → step_at new place ≡ s
    here place w = ap (λ ss. step_at ss place) e ∙ get_or_at old s [] no_step place w

    not_learned : Derived ≡ Learned → ⊥
    not_learned q = cc

-- what was added at first, and then
added_trans : (a b c : List Step) → take (length a) b ≡ a → take (length b) c ≡ b → added a c ≡ added a b ++ added b c
added_trans a b c p q =
    let low : length a ≤ length b = omega (arith, ap length (sym p), length-take (length a) b) in
    ap (drop (length a)) (sym (take-append-drop (length b) c) ∙ ap (λ xs. xs ++ drop (length b) c) q)
    ∙ drop-append-le (length a) b (drop (length b) c) low

-- a log that grew and grew again
pub Grows-trans : (form : List (List Lit)) (a b c : List Step) (u v w d e : ℕ) → Grows form a b u v d → Grows form b c v w e → Grows form a c u w (d + e)
Grows-trans form a b c u v w d e r s = record {
  prefix = sym (take-take (length a) (length b) c low) ∙ (ap (take (length a)) s.prefix ∙ r.prefix);
  no_block = omega (arith, both is_block, r.no_block, s.no_block);
  units = omega (arith, both is_learned, r.units, s.units);
  fresh = λ place low within kind. elim (cases_lt place (length b)) [
    | inl k ↦ early place low k kind
    | inr k ↦ s.fresh place k within kind
  ];
  derived_steps = omega (arith, both is_derived, r.derived_steps, s.derived_steps);
}
  where
    low : length a ≤ length b
    low = omega (arith, ap length (sym r.prefix), length-take (length a) b)

    both : (p : Step → Bool) → count_by p (added a c) ≡ count_by p (added a b) + count_by p (added b c)
    both p = ap (count_by p) (added_trans a b c r.prefix s.prefix) ∙ sum_by-append (λ x. cond (p x) 1 0) (added a b) (added b c)

    early : (place : ℕ) → length a ≤ place → place < length b → (step_at c place).kind ≡ Learned → IsFresh (clauses_of form (take place c)) (step_at c place).clause
    early place l k kind =
        let here : step_at b place ≡ step_at c place = ap (λ xs. step_at xs place) (sym s.prefix) ∙ get_or-take (length b) c place no_step k in
        let before : take place b ≡ take place c = ap (take place) (sym s.prefix) ∙ take-take place (length b) c (omega (arith, k)) in
        subst (λ ss. IsFresh (clauses_of form ss) (step_at c place).clause) before
        (subst (λ (x : Step). IsFresh (clauses_of form (take place b)) x.clause) here (r.fresh place l k (ap (λ (x : Step). x.kind) here ∙ kind)))

-- the same growth beside units that stay
pub Grows-unspent : (form : List (List Lit)) (old new : List Step) (left derived : ℕ) → Grows form old new 0 0 derived → Grows form old new left left derived
Grows-unspent form old new left derived r = record { prefix = r.prefix; no_block = r.no_block; units = omega (arith, r.units); fresh = r.fresh; derived_steps = r.derived_steps }

-- as many blocks as are counted
pub blocks_counted : (log : List Step) → blocks_in log ≡ length (blocks_of log)
blocks_counted log = sym (length-map (filter is_block log) (λ (s : Step). s.clause) ∙ length-filter is_block log)

-- a step that is no block adds none
pub blocks_push : (log : List Step) (s : Step) → is_block s ≡ false → blocks_of (log ++ s ∷ []) ≡ blocks_of log
blocks_push log s n =
    let none : filter is_block (s ∷ []) ≡ [] = rw n refl in
    ap (map (λ (x : Step). x.clause)) (filter-append is_block log (s ∷ []) ∙ (ap (λ xs. filter is_block log ++ xs) none ∙ append-nil (filter is_block log)))

-- a block more
pub blocks_push_block : (log : List Step) (s : Step) → is_block s ≡ true → blocks_of (log ++ s ∷ []) ≡ blocks_of log ++ s.clause ∷ []
blocks_push_block log s y =
    let one : filter is_block (s ∷ []) ≡ s ∷ [] = rw y refl in
    ap (map (λ (x : Step). x.clause)) (filter-append is_block log (s ∷ []) ∙ ap (λ xs. filter is_block log ++ xs) one)
    ∙ map_push (λ (x : Step). x.clause) (filter is_block log) s

within_push : (vars : ℕ) (form : List (List Lit)) (log : List Step) (s : Step) → AreWithin vars (clauses_of form log) → IsWithin vars s.clause → AreWithin vars (clauses_of form (log ++ s ∷ []))
within_push vars form log s h w = subst (AreWithin vars) (sym (clauses_of-push form log s)) (All-push (λ c. IsWithin vars c) (clauses_of form log) s.clause h w)

distinct_push : (form : List (List Lit)) (log : List Step) (s : Step) → AllDistinct (clauses_of form log) → has_distinct_variables s.clause ≡ true → AllDistinct (clauses_of form (log ++ s ∷ []))
distinct_push form log s h w = subst AllDistinct (sym (clauses_of-push form log s)) (All-push (λ c. IsTrue (has_distinct_variables c)) (clauses_of form log) s.clause h w)

-- what a solver's invariant says, of its parts
pub record IsLogged (vars : ℕ) (form : List (List Lit)) (log : List Step) : Type 0 where
  pub small : vars < 2 ^ 32
  pub accepted : IsAccepted form (blocks_of log) log
  pub within : AreWithin vars (clauses_of form log)
  pub distinct : AllDistinct (clauses_of form log)

pub logged : (s : SolverState) → IsSolver s → IsLogged s.vars s.form s.log
logged s h = record { small = h.small; accepted = h.accepted; within = h.within; distinct = h.distinct }

pub solver_from : (s : SolverState) → IsLogged s.vars s.form s.log → IsSolver s
solver_from s h = record { small = h.small; accepted = h.accepted; within = h.within; distinct = h.distinct }

-- one step more, which is no block
pub IsLogged-push : (vars : ℕ) (form : List (List Lit)) (log after : List Step) (s : Step) → IsLogged vars form log → is_block s ≡ false → IsAcceptedStep form (blocks_of log) log s → IsWithin vars s.clause → has_distinct_variables s.clause ≡ true → after ≡ log ++ s ∷ [] → IsLogged vars form after
IsLogged-push vars form log after s h n a w d e = subst (IsLogged vars form) (sym e) record {
  small = h.small;
  accepted = subst (λ bs. IsAccepted form bs (log ++ s ∷ [])) (sym (blocks_push log s n)) record {
    each_step = each_step-push form (blocks_of log) log s h.accepted.each_step a;
    every_block = blocks_counted (log ++ s ∷ []) ∙ ap length (blocks_push log s n);
  };
  within = within_push vars form log s h.within w;
  distinct = distinct_push form log s h.distinct d;
}

-- one block more
pub IsLogged-block : (vars : ℕ) (form : List (List Lit)) (log after : List Step) (s : Step) → IsLogged vars form log → s.kind ≡ Block → IsWithin vars s.clause → has_distinct_variables s.clause ≡ true → after ≡ log ++ s ∷ [] → IsLogged vars form after
IsLogged-block vars form log after s h k w d e = subst (IsLogged vars form) (sym e) record {
  small = h.small;
  accepted = record {
    each_step = subst (λ bs. (place : ℕ) → place < length (log ++ s ∷ []) → IsAcceptedAt form bs (log ++ s ∷ []) place) (sym (blocks_push_block log s is))
        (each_step-push form (blocks_of log ++ s.clause ∷ []) log s (λ place l. accepted-more_blocks form (blocks_of log) (s.clause ∷ []) (take place log) (step_at log place) (h.accepted.each_step place l)) here);
    every_block = blocks_counted (log ++ s ∷ []);
  };
  within = within_push vars form log s h.within w;
  distinct = distinct_push form log s h.distinct d;
}
  where
    is : is_block s ≡ true
    is = rw k refl

    here : IsAcceptedStep form (blocks_of log ++ s.clause ∷ []) log s
    here = rw k (
      omega (arith, blocks_counted log, length_push (blocks_of log) s.clause),
      sym (get_or_push (blocks_of log) s.clause [] (blocks_in log) (sym (blocks_counted log))),
    )

kind_weight : (k : StepKind) → cond (is_block_kind k) 1 0 + cond (is_learned_kind k) 1 0 + cond (is_derived_kind k) 1 0 ≡ 1
kind_weight Block = refl
kind_weight Learned = refl
kind_weight Derived = refl

-- each step is of one kind
kinds_counted : (log : List Step) → length log ≡ count_by is_block log + count_by is_learned log + count_by is_derived log
kinds_counted [] = refl
kinds_counted (s ∷ log) =
    omega (arith, kind_weight s.kind, kinds_counted log, sum_by-cons (λ x. cond (is_block x) 1 0) s log, sum_by-cons (λ x. cond (is_learned x) 1 0) s log, sum_by-cons (λ x. cond (is_derived x) 1 0) s log)

-- how long the log has become
pub Grows-length : (form : List (List Lit)) (old new : List Step) (budget left derived : ℕ) → Grows form old new budget left derived → length new + left ≡ length old + budget + derived
Grows-length form old new budget left derived r =
    let low : length old ≤ length new = omega (arith, ap length (sym r.prefix), length-take (length old) new) in
    omega (arith, r.no_block, r.units, r.derived_steps, kinds_counted (added old new), length-drop (length old) new, low)

-- a search adds no block
pub blocks_kept : (form : List (List Lit)) (old new : List Step) (budget left derived : ℕ) → Grows form old new budget left derived → blocks_of new ≡ blocks_of old
blocks_kept form old new budget left derived r =
    let none : filter is_block (added old new) ≡ [] = nil_from_length (filter is_block (added old new)) (length-filter is_block (added old new) ∙ r.no_block) in
    let whole : new ≡ old ++ added old new = sym (take-append-drop (length old) new) ∙ ap (λ xs. xs ++ added old new) r.prefix in
    ap blocks_of whole
    ∙ ap (map (λ (x : Step). x.clause)) (filter-append is_block old (added old new) ∙ (ap (λ xs. filter is_block old ++ xs) none ∙ append-nil (filter is_block old)))

count_at : {X : Type 0} (p : X → Bool) (xs : List X) (i : ℕ) (d : X) → i < length xs → p (get_or xs i d) ≡ true → 1 ≤ count_by p xs
count_at p [] i d l t = absurd (omega (arith, l))
count_at p (x ∷ xs) zero d l t = omega (arith, count-true (p x) t, sum_by-cons (λ y. cond (p y) 1 0) x xs)
count_at p (x ∷ xs) (suc i) d l t = omega (arith, count_at p xs i d (omega (arith, l)) t, sum_by-cons (λ y. cond (p y) 1 0) x xs)

count_two : {X : Type 0} (p : X → Bool) (xs : List X) (i j : ℕ) (d : X) → i < j → j < length xs → p (get_or xs i d) ≡ true → p (get_or xs j d) ≡ true → 2 ≤ count_by p xs
count_two p [] i j d a l s t = absurd (omega (arith, l))
count_two p (x ∷ xs) i zero d a l s t = absurd (omega (arith, a))
count_two p (x ∷ xs) zero (suc j) d a l s t = omega (arith, count-true (p x) s, count_at p xs j d (omega (arith, l)) t, sum_by-cons (λ y. cond (p y) 1 0) x xs)
count_two p (x ∷ xs) (suc i) (suc j) d a l s t = omega (arith, count_two p xs i j d (omega (arith, a)) (omega (arith, l)) s t, sum_by-cons (λ y. cond (p y) 1 0) x xs)

learned_else : (k : StepKind) → is_block_kind k ≡ false → is_derived_kind k ≡ false → k ≡ Learned
learned_else Block b d = cc
learned_else Learned b d = refl
learned_else Derived b d = cc

-- the number of derived steps is 0, or it is 1 and the last step is derived
abbrev pub OnlyLast : List Step → ℕ → Type 0
OnlyLast new derived = (derived ≡ 0) ⊎ ((derived ≡ 1) × ((step_at new (length new - 1)).kind ≡ Derived))

pub learned_before_last : (form : List (List Lit)) (old new : List Step) (budget left derived : ℕ) → Grows form old new budget left derived → OnlyLast new derived → LearnedBeforeLast old new
learned_before_last form old new budget left derived r o place low high =
    learned_else (step_at new place).kind
    (false_from_ne_true (is_block (step_at new place)) (λ t. absurd (omega (arith, r.no_block, count_at is_block (added old new) (place - length old) no_step within (ap is_block here ∙ t)))))
    (false_from_ne_true (is_derived (step_at new place)) (λ t. elim o [
      | inl none ↦ absurd (omega (arith, none, r.derived_steps, count_at is_derived (added old new) (place - length old) no_step within (ap is_derived here ∙ t)))
      | inr one ↦ absurd (omega (arith, one.0, r.derived_steps, count_two is_derived (added old new) (place - length old) (length new - 1 - length old) no_step (omega (arith, low, high)) (omega (arith, low, high, length-drop (length old) new)) (ap is_derived here ∙ t) (ap is_derived last ∙ ap is_derived_kind one.1)))
    ]))
  where
    within : place - length old < length (added old new)
    within = omega (arith, low, high, length-drop (length old) new)

    here : get_or (added old new) (place - length old) no_step ≡ step_at new place
    here = let q : length old + (place - length old) ≡ place = omega (arith, low) in get_or-drop (length old) new (place - length old) no_step ∙ ap (step_at new) q

    last : get_or (added old new) (length new - 1 - length old) no_step ≡ step_at new (length new - 1)
    last = let q : length old + (length new - 1 - length old) ≡ length new - 1 = omega (arith, low, high) in get_or-drop (length old) new (length new - 1 - length old) no_step ∙ ap (step_at new) q

only_last : (s : SolverState) (assume : List Lit) (left : ℕ) (r : Result Verdict NoMemory) → IfOk r (Says s assume left) → OnlyLast s.log (closings r)
only_last s assume left (Ok verdict.Model) h = inl refl
only_last s assume left (Ok (verdict.Closed step)) h = inr (refl, subst (λ n. (step_at s.log (n - 1)).kind ≡ Derived) h.1.last h.1.derived)
only_last s assume left (Ok verdict.Spent) h = inl refl
only_last s assume left (Err e) h = inl refl

-- the derived step of an answer comes last
pub learned_before_answer : (form : List (List Lit)) (old : List Step) (s : SolverState) (assume : List Lit) (budget left : ℕ) (r : Result Verdict NoMemory) → Grows form old s.log budget left (closings r) → IfOk r (Says s assume left) → LearnedBeforeLast old s.log
learned_before_answer form old s assume budget left r g h = learned_before_last form old s.log budget left (closings r) g (only_last s assume left r h)
