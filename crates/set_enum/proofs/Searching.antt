-- What the answer of a search at one size says of sets.
use Rattle.std.proofs.Common.{◌≡◌, ℕ, ◌+◌, ◌-◌, ◌<◌, ◌≤◌, inl, inr, Bool, true, false, not, ◌||◌, cond, List, [], ◌∷◌, ◌++◌, length, map}
use Rattle.std.proofs.Common.{get_or, refl, sym, ◌∙◌, ap, ap₂, subst, arith}
use Rattle.std.specs.Prelude.{IsTrue, All, filter}
use Rattle.std.proofs.lemmas.Bool.{cases_lt, false≢true}
use Rattle.std.proofs.lemmas.List.{take_at, drop_at, get_or-map, length-map}
use Rattle.std.proofs.lemmas.List.Elements.{All-cons, All-head, All-tail, All-take, All-drop, All-get_or}
use Rattle.clause_base.specs.declared.literal.Lit.{Lit}
use Rattle.clause_base.specs.declared.log.Step.{Step}
use Rattle.clause_base.specs.Literal.{has, opposite, has_distinct_variables, AllDistinct}
use Rattle.clause_base.specs.Steps.{step_at, no_step}
use Rattle.clause_base.specs.Satisfaction.{is_satisfied, Satisfies, SatisfiesClause}
use Rattle.clause_base.specs.Acceptance.{clauses_of, is_block}
use Rattle.clause_base.proofs.Accepted.{log_holds}
use Rattle.card_counter.specs.Places.{at_least, IsNoCounter}
use Rattle.card_counter.specs.InForm.{HasCounter, Follows}
use Rattle.card_counter.proofs.InForms.{follows, few-selected}
use Rattle.card_counter.proofs.Said.{satisfies-front, satisfies-behind, satisfies-both}
use Rattle.sat_core.specs.SolverState.{SolverState, IsSolver, IsGreatestModel, IsAtLeast, assignment_of, blocks_of}
use Rattle.sat_core.specs.Outcome.{IsRefuted}
use Rattle.loc_base.specs.Sets.{is_lower}
use Rattle.set_enum.specs.Sets.{numbers_from, selected, IsBlock, IsFirst, NoneBelow, block_of}
use Rattle.set_enum.specs.Bounds.{bound_at}
use Rattle.set_enum.specs.EnumState.{AreChainless}
use Rattle.set_enum.specs.Standing.{assumed, next_size}
use Rattle.set_enum.proofs.Selecting.{selected-same, selected-count, selected-few, greatest_first, not_before}
use Rattle.set_enum.proofs.Bounding.{EndsAt, assumed_met, meets_assumed, bound-value, refuted-clause}

-- the solver of an enumerator
pub record Serves (n k : ℕ) (s : SolverState) : Type 0 where
  pub counter : HasCounter n k s.vars s.form
  pub solver : IsSolver s
  pub preferred : s.preferred ≡ numbers_from 1 n
  pub blocks : All (IsBlock n) (blocks_of s.log)
  pub chainless : AreChainless s.log

-- the block of a set is satisfied alike by assignments that agree on the members
same-block : (a b : ℕ → Bool) (set : List ℕ) → All (λ m. b m ≡ a m) set → is_satisfied b (block_of set) ≡ is_satisfied a (block_of set)
same-block a b [] same = refl
same-block a b (m ∷ set) same =
    ap₂ (λ (v w : Bool). not v || w) (All-head (λ x. b x ≡ a x) m set same) (same-block a b set (All-tail (λ x. b x ≡ a x) m set same))

same-blocks : (n : ℕ) (a b : ℕ → Bool) (blocks : List (List Lit)) → All (IsBlock n) blocks → ((v : ℕ) → v < n + 1 → b v ≡ a v)
    → Satisfies a blocks → Satisfies b blocks
same-blocks n a b blocks all same sat i d l =
    let block : IsBlock n (get_or blocks i d) = all i d l in
    let alike : is_satisfied b (block_of block.set) ≡ is_satisfied a (block_of block.set) =
    same-block a b block.set (λ j e m. same (get_or block.set j e) (omega (arith, (block.of.members j e m).1))) in
    ap (is_satisfied b) block.is ∙ (alike ∙ (ap (is_satisfied a) (sym block.is) ∙ sat i d l))

picked : (a : ℕ → Bool) (b : Bool) (x : Step) (rest : List Step) → SatisfiesClause a x.clause
    → Satisfies a (map (λ (y : Step). y.clause) rest) → Satisfies a (map (λ (y : Step). y.clause) (cond b (x ∷ rest) rest))
picked a true x rest here all = All-cons (SatisfiesClause a) x.clause (map (λ (y : Step). y.clause) rest) here all
picked a false x rest here all = all

blocks-met : (a : ℕ → Bool) (log : List Step) → Satisfies a (map (λ (x : Step). x.clause) log) → Satisfies a (blocks_of log)
blocks-met a [] all = all
blocks-met a (x ∷ log) all =
    picked a (is_block x) x (filter is_block log) (All-head (SatisfiesClause a) x.clause (map (λ (y : Step). y.clause) log) all)
    (blocks-met a log (All-tail (SatisfiesClause a) x.clause (map (λ (y : Step). y.clause) log) all))

module _ (n k : ℕ) (s : SolverState) (h : Serves n k s) where
  log_distinct : AllDistinct (map (λ (x : Step). x.clause) s.log)
  log_distinct =
      subst AllDistinct (drop_at s.form (map (λ (x : Step). x.clause) s.log) (length s.form) refl)
      (All-drop (λ clause. IsTrue (has_distinct_variables clause)) (length s.form) (clauses_of s.form s.log) h.solver.distinct)

  -- what satisfies form and blocks satisfies the log
  pub whole_log : (a : ℕ → Bool) → Satisfies a (s.form ++ blocks_of s.log) → Satisfies a (clauses_of s.form s.log)
  whole_log a sat =
      let P : List Lit → Type 0 = λ clause. IsTrue (has_distinct_variables clause) in
      let clauses : List (List Lit) = map (λ (x : Step). x.clause) s.log in
      let in_form : Satisfies a s.form = satisfies-front a s.form (blocks_of s.log) sat in
      let form_distinct : AllDistinct s.form = subst AllDistinct (take_at s.form clauses (length s.form) refl)
      (All-take P (length s.form) (clauses_of s.form s.log) h.solver.distinct) in
      satisfies-both a s.form clauses in_form
      (log_holds a s.form (blocks_of s.log) s.log form_distinct log_distinct h.solver.accepted.each_step in_form
      (satisfies-behind a s.form (blocks_of s.log) sat))

  -- what satisfies form and log satisfies the blocks
  pub with_blocks : (a : ℕ → Bool) → Satisfies a (clauses_of s.form s.log) → Satisfies a (s.form ++ blocks_of s.log)
  with_blocks a sat =
      satisfies-both a s.form (blocks_of s.log) (satisfies-front a s.form (map (λ (x : Step). x.clause) s.log) sat)
      (blocks-met a s.log (satisfies-behind a s.form (map (λ (x : Step). x.clause) s.log) sat))

  below : (v : ℕ) → v < n + 1 → IsNoCounter (n + 1) k n v
  below v l = inl l

  -- the counter follows an assignment of form and blocks
  pub record FollowsAll (a : ℕ → Bool) : Type 0 where
    pub other : ℕ → Bool
    pub satisfies : Satisfies other (s.form ++ blocks_of s.log)
    pub selects : selected n other ≡ selected n a
    pub bounds : (j : ℕ) → j ≤ k → length (selected n a) ≤ j → j < n → other (at_least (n + 1) k n (j + 1)) ≡ false

  pub follows_all : (a : ℕ → Bool) → Satisfies a (s.form ++ blocks_of s.log) → FollowsAll a
  follows_all a sat =
      let f : Follows n k s.form a = follows n k s.vars s.form a h.counter (satisfies-front a s.form (blocks_of s.log) sat) in
      let same : (v : ℕ) → v < n + 1 → f.other v ≡ a v = λ v l. f.same v (below v l) in
      record {
        other = f.other;
        satisfies = satisfies-both f.other s.form (blocks_of s.log) f.satisfies
            (same-blocks n a f.other (blocks_of s.log) h.blocks same (satisfies-behind a s.form (blocks_of s.log) sat));
        selects = selected-same n f.other a same;
        bounds = λ j size few more. f.bounds j size more (omega (arith, few, selected-count n a));
      }

  -- a model at size j selects at most j
  pub model_few : (j : ℕ) → j ≤ k → IsGreatestModel s (assumed n k j) → length (selected n (assignment_of s.model)) ≤ j
  model_few j size m =
      let a : ℕ → Bool = assignment_of s.model in
      let in_form : Satisfies a s.form = satisfies-front a s.form (map (λ (x : Step). x.clause) s.log) m.satisfies in
      elim (cases_lt j n) [
        | inl l ↦ omega (
          arith,
          selected-count n a,
          few-selected n k s.vars s.form a h.counter in_form j size l
              (assumed_met n k j a m.assumed l),
        )
        | inr g ↦ omega (arith, g, selected-few n a)
      ]

  pub model_exact : (j : ℕ) → j ≤ k → NoneBelow n j (s.form ++ blocks_of s.log) → IsGreatestModel s (assumed n k j)
      → length (selected n (assignment_of s.model)) ≡ j
  model_exact j size none m = omega (
    arith,
    model_few j size m,
    none (assignment_of s.model)
        (with_blocks (assignment_of s.model) m.satisfies),
  )

  -- a greatest model at the least size selects the first set
  pub found : (j : ℕ) → j ≤ k → NoneBelow n j (s.form ++ blocks_of s.log) → IsGreatestModel s (assumed n k j)
      → IsFirst n k (s.form ++ blocks_of s.log) (selected n (assignment_of s.model))
  found j size none m =
      let a : ℕ → Bool = assignment_of s.model in
      let exact : length (selected n a) ≡ j = model_exact j size none m in
      record {
        few = omega (arith, exact, size);
        witness = a;
        satisfies = with_blocks a m.satisfies;
        selects = refl;
        first = λ other sat few. not_before (selected n other) (selected n a) (omega (arith, exact, none other sat)) (lowest other sat);
      }
    where
      lowest : (other : ℕ → Bool) → Satisfies other (s.form ++ blocks_of s.log)
          → length (selected n other) ≡ length (selected n (assignment_of s.model))
          → is_lower (selected n other) (selected n (assignment_of s.model)) ≡ false
      lowest other sat e =
          let f : FollowsAll other = follows_all other sat in
          let few : length (selected n other) ≤ j = omega (arith, e, model_exact j size none m) in
          let great : IsAtLeast s.preferred (assignment_of s.model) f.other =
          m.greatest f.other (whole_log f.other f.satisfies) (meets_assumed n k j f.other (f.bounds j size few)) in
          subst (λ set. is_lower set (selected n (assignment_of s.model)) ≡ false) f.selects
          (greatest_first n (assignment_of s.model) f.other (subst (λ p. IsAtLeast p (assignment_of s.model) f.other) h.preferred great))

  -- what holds of each clause of the log holds of a step's
  clause-at : (P : List Lit → Type 0) (place : ℕ) → place < length s.log → All P (map (λ (x : Step). x.clause) s.log)
      → P (step_at s.log place).clause
  clause-at P place l all =
      subst P (get_or-map (λ (x : Step). x.clause) s.log place no_step [] l)
      (All-get_or P (map (λ (x : Step). x.clause) s.log) place [] (omega (arith, l, length-map s.log (λ (x : Step). x.clause))) all)

  -- what a refutation at size j ends with
  pub closes : (number j : ℕ) → IsRefuted s.log number (assumed n k j) → EndsAt n k j (step_at s.log (length s.log - 1)).clause
  closes number j r =
      refuted-clause n k j (step_at s.log (length s.log - 1)).clause
      (clause-at (λ clause. IsTrue (has_distinct_variables clause)) (length s.log - 1) (omega (arith, r.some)) log_distinct)
      (subst (λ (m : ℕ). (l : Lit) → has (step_at s.log (m - 1)).clause l ≡ true → has (assumed n k j) (opposite l) ≡ true) r.last
      r.negated)

  step_met : (a : ℕ → Bool) (place : ℕ) → place < length s.log → Satisfies a (s.form ++ blocks_of s.log)
      → is_satisfied a (step_at s.log place).clause ≡ true
  step_met a place l sat =
      clause-at (SatisfiesClause a) place l (satisfies-behind a s.form (map (λ (x : Step). x.clause) s.log) (whole_log a sat))

  -- after a clause that closes the size j, no assignment of form and blocks selects fewer than the next size
  pub none_left : (j place : ℕ) → j ≤ k → place < length s.log → EndsAt n k j (step_at s.log place).clause
      → NoneBelow n (next_size k j (step_at s.log place).clause) (s.form ++ blocks_of s.log)
  none_left j place size l e a sat = elim e [
    | inl none ↦ absurd (false≢true (sym (ap (is_satisfied a) none) ∙ step_met a place l sat))
    | inr r ↦ subst (λ clause. next_size k j clause ≤ length (selected n a)) (sym r.1) (more r.0 r.1)
  ]
    where
      more : j < n → (step_at s.log place).clause ≡ bound_at n k j ∷ [] → j + 1 ≤ length (selected n a)
      more m is = elim (cases_lt j (length (selected n a))) [
        | inl q ↦ omega (arith, q)
        | inr q ↦
            let f : FollowsAll a = follows_all a sat in
            let yes : f.other (at_least (n + 1) k n (j + 1)) ≡ true =
            sym (bound-value f.other (at_least (n + 1) k n (j + 1))) ∙
            (ap (is_satisfied f.other) (sym is) ∙ step_met f.other place l f.satisfies) in
            absurd (false≢true (sym (f.bounds j size q m) ∙ yes))
      ]
