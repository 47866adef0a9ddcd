-- An accepted log that closes the list leaves no set of at most k suspects.
use Rattle.std.proofs.Common.{◌≡◌, ◌⊎◌, inl, inr, ℕ, ◌+◌, ◌-◌, ◌<◌, ◌≤◌, Bool, true, List, [], ◌∷◌, ◌++◌, length, map, Some, refl, sym, ap, ap₂, ◌∙◌, subst, arith}
use Rattle.std.specs.Prelude.{All, IsSomeAnd, None, Option, if◌then◌else◌, not, ◌||◌}
use Rattle.std.proofs.lemmas.Bool.{cases_lt, false≢true, le-ltb}
use Rattle.std.proofs.lemmas.List.{get_or-map, length-map}
use Rattle.std.proofs.lemmas.List.Elements.{All-cons, All-get_or, All-head, All-nil, All-tail}
use Rattle.clause_base.specs.declared.literal.Lit.{Lit}
use Rattle.clause_base.specs.declared.log.Step.{Step}
use Rattle.clause_base.specs.Satisfaction.{Satisfies, SatisfiesClause, is_satisfied}
use Rattle.clause_base.specs.Acceptance.{Follows as FollowsLog}
use Rattle.clause_base.specs.Progress.{IsClosing}
use Rattle.clause_base.specs.Steps.{no_step, step_at}
use Rattle.card_counter.specs.InForm.{Follows, HasCounter}
use Rattle.card_counter.specs.Places.{at_least}
use Rattle.card_counter.proofs.InForms.{follows}
use Rattle.card_counter.proofs.Said.{satisfies-behind, satisfies-front}
use Rattle.set_enum.specs.Bounds.{bound_at, bound_of}
use Rattle.set_enum.specs.Sets.{NoneBelow, block_of, selected}
use Rattle.set_enum.proofs.Bounding.{bound-some, bound-value}
use Rattle.set_enum.proofs.Selecting.{selected-count}

-- a step of a log that holds is satisfied
step-holds : (a : ℕ → Bool) (log : List Step) (place : ℕ) → place < length log → Satisfies a (map (λ (s : Step). s.clause) log)
    → is_satisfied a (step_at log place).clause ≡ true
step-holds a log place within all =
    subst (λ clause. is_satisfied a clause ≡ true) (get_or-map (λ (s : Step). s.clause) log place no_step [] within)
    (All-get_or (SatisfiesClause a) (map (λ (s : Step). s.clause) log) place []
    (omega (arith, within, length-map log (λ (s : Step). s.clause))) all)

module _ (n k vars : ℕ) (form : List (List Lit)) (sets : List (List ℕ)) (log : List Step) (counter : HasCounter n k vars form)
    (follows_all : FollowsLog form (map block_of sets) log) (few : All (λ set. All (λ m. m ≤ n) set) sets) where
  -- the counter follows an assignment of form and blocks
  same-blocks : (a b : ℕ → Bool) → ((v : ℕ) → v ≤ n → b v ≡ a v) → (set : List ℕ) → All (λ m. m ≤ n) set
      → is_satisfied b (block_of set) ≡ is_satisfied a (block_of set)
  same-blocks a b same [] all = refl
  same-blocks a b same (m ∷ set) all =
      ap₂ (λ x y. not x || y) (same m (All-head (λ x. x ≤ n) m set all)) (same-blocks a b same set (All-tail (λ x. x ≤ n) m set all))

  all-blocks : (a b : ℕ → Bool) → ((v : ℕ) → v ≤ n → b v ≡ a v) → (list : List (List ℕ)) → All (λ set. All (λ m. m ≤ n) set) list
      → Satisfies a (map block_of list) → Satisfies b (map block_of list)
  all-blocks a b same [] all holds = All-nil (SatisfiesClause b)
  all-blocks a b same (set ∷ list) all holds =
      All-cons (SatisfiesClause b) (block_of set) (map block_of list)
      (same-blocks a b same set (All-head (λ s. All (λ m. m ≤ n) s) set list all)
      ∙ All-head (SatisfiesClause a) (block_of set) (map block_of list) holds)
      (all-blocks a b same list (All-tail (λ s. All (λ m. m ≤ n) s) set list all)
      (All-tail (SatisfiesClause a) (block_of set) (map block_of list) holds))

  pub none-below : IsClosing (bound_of n k k) log → NoneBelow n (k + 1) (form ++ map block_of sets)
  none-below closing a holds = at closing.closes
    where
      in_form : Satisfies a form
      in_form = satisfies-front a form (map block_of sets) holds

      in_blocks : Satisfies a (map block_of sets)
      in_blocks = satisfies-behind a form (map block_of sets) holds

      within : length log - 1 < length log
      within = omega (arith, closing.has_last)

      -- the bound is true in an assignment that counts right
      more : (step_at log (length log - 1)).clause ≡ bound_at n k k ∷ [] → k < n → k + 1 ≤ length (selected n a)
      more is less = by (cases_lt k (length (selected n a)))
        where
          f : Follows n k form a
          f = follows n k vars form a counter in_form

          same : (v : ℕ) → v ≤ n → f.other v ≡ a v
          same v low = f.same v (inl (omega (arith, low)))

          says : f.other (at_least (n + 1) k n (k + 1)) ≡ true
          says =
              sym (bound-value f.other (at_least (n + 1) k n (k + 1))) ∙ ap (is_satisfied f.other) (sym is)
              ∙ step-holds f.other log (length log - 1) within
              (follows_all f.other f.satisfies (all-blocks a f.other same sets few in_blocks))

          by : (k < length (selected n a)) ⊎ (length (selected n a) ≤ k) → k + 1 ≤ length (selected n a)
          by (inl enough) = omega (arith, enough)
          by (inr short) =
              absurd (false≢true (sym (f.bounds k (omega arith) less (omega (arith, short, selected-count n a))) ∙ says))

      bounded : (o : Option Lit) → o ≡ bound_of n k k → IsSomeAnd o (λ l. (step_at log (length log - 1)).clause ≡ l ∷ [])
          → k + 1 ≤ length (selected n a)
      bounded None is there = absurd there
      bounded (Some l) is there = by (cases_lt k n)
        where
          inner : Some l ≡ Some (bound_at n k k) → l ≡ bound_at n k k
          inner same = cc

          by : (k < n) ⊎ (n ≤ k) → k + 1 ≤ length (selected n a)
          by (inl less) = more (there ∙ ap (λ (x : Lit). x ∷ []) (inner (is ∙ bound-some n k k less))) less
          by (inr most) = none (is ∙ ap (λ b. if b then Some (bound_at n k k) else None) (le-ltb k n most))
            where
              none : Some l ≡ None → k + 1 ≤ length (selected n a)
              none same = cc

      at : ((step_at log (length log - 1)).clause ≡ []) ⊎ IsSomeAnd (bound_of n k k) (λ l. (step_at log (length log - 1)).clause ≡ l ∷ [])
          → k + 1 ≤ length (selected n a)
      at (inl empty) =
          absurd (false≢true (sym (ap (is_satisfied a) empty) ∙ step-holds a log (length log - 1) within (follows_all a in_form in_blocks)))
      at (inr bound) = bounded (bound_of n k k) refl bound
