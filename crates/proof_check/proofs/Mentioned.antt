-- The clauses that the chains of a log name: their marks, and that no answer rests on others.
use Rattle.std.proofs.Common.{◌≡◌, ℕ, zero, suc, ◌+◌, ◌-◌, ◌<◌, ◌≤◌, ◌==◌, ◌||◌, Bool, true, false, not, cond, if◌then◌else◌, List, [], ◌∷◌, ◌++◌, length, get_or, take, set, map, Option, Some, None, refl, sym, ◌∙◌, ap, ap₂, subst, arith, ◌⊎◌, inl, inr, All, IsTrue}
use Rattle.std.proofs.lemmas.Bool.{eq-eqb, ne_eqb, cases_eq, cases_lt}
use Rattle.std.proofs.lemmas.List.{get_or-set_same, get_or-set_other, get_or_append_left, get_or-append_right, get_or_past}
use Rattle.std.proofs.lemmas.List.Elements.{All-head, All-tail, All-cons, All-nil}
use Rattle.std.proofs.lemmas.List.Folds.{list_any_at}
use Rattle.loc_base.proofs.ShelfBools.{or-false, or-true, if-true}
use Rattle.clause_base.specs.declared.literal.Lit.{Lit}
use Rattle.clause_base.specs.declared.log.Step.{Step}
use Rattle.clause_base.specs.declared.log.StepKind.{StepKind}
use Rattle.clause_base.specs.declared.log.StepKind.TheVariants.{Block, Learned, Derived}
use Rattle.clause_base.specs.Literal.{AllDistinct, has_distinct_variables}
use Rattle.clause_base.specs.Satisfaction.{Satisfies, SatisfiesClause}
use Rattle.clause_base.specs.Resolution.{IsResult}
use Rattle.clause_base.specs.Steps.{step_at, no_step}
use Rattle.clause_base.specs.Acceptance.{clauses_of, numbered, blocks_in, Follows, IsAccepted, IsAcceptedAs, IsAcceptedAt, IsAcceptedChain, IsLeastRefused}
use Rattle.clause_base.proofs.Accepted.{length-clauses_of, log_holds}
use Rattle.proof_check.specs.declared.claim.BadStep.{BadStep}
use Rattle.proof_check.specs.Claims.{Answers}
use Rattle.proof_check.specs.Named.{AgreeFor, is_in, is_named}

-- ---- marks
module _ (marks : List Bool) (number place : ℕ) where
  other-mark : (number ≡ place + 1 → ⊥) → get_or marks place true ≡ (get_or marks place true || (number == place + 1))
  other-mark other =
      sym (or-false (get_or marks place true)) ∙ ap (λ b. get_or marks place true || b) (sym (ne_eqb number (place + 1) other))

  pub mark-zero : number ≡ 0 → get_or marks place true ≡ (get_or marks place true || (number == place + 1))
  mark-zero none = other-mark (λ same. omega (arith, same, none))

  pub mark-past : length marks ≤ number - 1 → get_or marks place true ≡ (get_or marks place true || (number == place + 1))
  mark-past past = at (cases_eq number (place + 1))
    where
      at : (number ≡ place + 1) ⊎ (number ≡ place + 1 → ⊥) → get_or marks place true ≡ (get_or marks place true || (number == place + 1))
      at (inl same) =
          let is : get_or marks place true ≡ true = get_or_past marks place true (omega (arith, past, same)) in
          is ∙ ap (λ b. b || (number == place + 1)) (sym is)
      at (inr other) = other-mark other

  pub mark-set : number - 1 < length marks → (number ≡ 0 → ⊥)
      → get_or (set marks (number - 1) true) place true ≡ (get_or marks place true || (number == place + 1))
  mark-set within some = at (cases_eq number (place + 1))
    where
      at : (number ≡ place + 1) ⊎ (number ≡ place + 1 → ⊥)
          → get_or (set marks (number - 1) true) place true ≡ (get_or marks place true || (number == place + 1))
      at (inl same) =
          let here : number - 1 ≡ place = omega (arith, same) in
          ap (λ p. get_or (set marks (number - 1) true) p true) (sym here)
          ∙ get_or-set_same marks (number - 1) true true within
          ∙ sym (ap (λ b. get_or marks place true || b) (eq-eqb number (place + 1) same) ∙ or-true (get_or marks place true))
      at (inr other) =
          get_or-set_other marks (number - 1) place true true (λ same. other (omega (arith, same, some))) ∙ other-mark other

pub ruleset marking = (mark-zero, mark-past, mark-set)

-- ---- two forms that agree
agree-sym : (log : List Step) (one other : List (List Lit)) → AgreeFor log one other → AgreeFor log other one
agree-sym log one other agree = record { long = sym agree.long; same = λ n least named. sym (agree.same n least named) }

numbered-here : (log : List Step) (one other : List (List Lit)) → AgreeFor log one other → (xs : List (List Lit)) (n : ℕ) → 1 ≤ n
    → is_named log n ≡ true → numbered (one ++ xs) n ≡ numbered (other ++ xs) n
numbered-here log one other agree xs n least named = at (cases_lt (n - 1) (length one))
  where
    at : (n - 1 < length one) ⊎ (length one ≤ n - 1) → numbered (one ++ xs) n ≡ numbered (other ++ xs) n
    at (inl low) =
        get_or_append_left one xs [] (n - 1) low ∙ agree.same n least named
        ∙ sym (get_or_append_left other xs [] (n - 1) (omega (arith, low, agree.long)))
    at (inr high) =
        get_or-append_right one xs (length one) (n - 1) [] refl high
        ∙ sym (get_or-append_right other xs (length one) (n - 1) [] (sym agree.long) high)

map-same : (f g : ℕ → List Lit) (chain : List ℕ) → All (λ n. f n ≡ g n) chain → map f chain ≡ map g chain
map-same f g [] all = refl
map-same f g (n ∷ chain) all =
    ap₂ (λ (c : List Lit) (cs : List (List Lit)). c ∷ cs) (All-head (λ m. f m ≡ g m) n chain all)
    (map-same f g chain (All-tail (λ m. f m ≡ g m) n chain all))

-- the log names each number of a chain of it
named-chain : (log : List Step) (place : ℕ) → place < length log → All (λ n. is_named log n ≡ true) (step_at log place).chain
named-chain log place within k d low =
    let chain = (step_at log place).chain in
    let n = get_or chain k d in
    list_any_at (λ (step : Step). is_in step.chain n) log place no_step within
    (list_any_at (λ m. m == n) chain k d low (eq-eqb n n refl))

module _ (log : List Step) (one other : List (List Lit)) (agree : AgreeFor log one other) where
  chain-same : (earlier : List Step) (chain : List ℕ) (clause : List Lit) → All (λ n. is_named log n ≡ true) chain
      → IsAcceptedChain (clauses_of one earlier) chain clause → IsAcceptedChain (clauses_of other earlier) chain clause
  chain-same earlier chain clause named (within, result) =
      let long : length (clauses_of one earlier) ≡ length (clauses_of other earlier) =
      omega (arith, length-clauses_of one earlier, length-clauses_of other earlier, agree.long) in (
        λ k d low. ((within k d low).0, omega (arith, (within k d low).1, long)),
        subst (λ cs. IsResult cs clause)
            (map-same (numbered (clauses_of one earlier)) (numbered (clauses_of other earlier)) chain
            (λ k d low. numbered-here log one other agree (map (λ (s : Step). s.clause) earlier) (get_or chain k d) (within k d low).0 (named k d low)))
            result,
      )

  accepted-as : (kind : StepKind) (blocks : List (List Lit)) (earlier : List Step) (step : Step) → All (λ n. is_named log n ≡ true) step.chain
      → IsAcceptedAs kind one blocks earlier step → IsAcceptedAs kind other blocks earlier step
  accepted-as Block blocks earlier step named is = is
  accepted-as Learned blocks earlier step named is = chain-same earlier step.chain step.clause named is
  accepted-as Derived blocks earlier step named is = chain-same earlier step.chain step.clause named is

  accepted-at : (blocks : List (List Lit)) (place : ℕ) → place < length log → IsAcceptedAt one blocks log place → IsAcceptedAt other blocks log place
  accepted-at blocks place within is =
      accepted-as (step_at log place).kind blocks (take place log) (step_at log place) (named-chain log place within) is

-- an answer rests on the named clauses alone
accepted-same : (log : List Step) (one other : List (List Lit)) → AgreeFor log one other → (blocks : List (List Lit)) → IsAccepted one blocks log
    → IsAccepted other blocks log
accepted-same log one other agree blocks is = record {
  each_step = λ place within. accepted-at log one other agree blocks place within (is.each_step place within);
  every_block = is.every_block;
}

refused-same : (log : List Step) (one other : List (List Lit)) → AgreeFor log one other → (blocks : List (List Lit)) (number : ℕ)
    → IsLeastRefused one blocks log number → IsLeastRefused other blocks log number
refused-same log one other agree blocks number is = record {
  counted = is.counted;
  before = λ place less. accepted-at log one other agree blocks place (there place less is.refused) (is.before place less);
  refused = at is.refused;
}
  where
    there : (place : ℕ) → place + 1 < number
        → ((number ≤ length log) × ¬ (IsAcceptedAt one blocks log (number - 1))) ⊎ ((number ≡ length log + 1) × (blocks_in log < length blocks))
        → place < length log
    there place less (inl (within, fails)) = omega (arith, less, within)
    there place less (inr (past, left)) = omega (arith, less, past)

    at : ((number ≤ length log) × ¬ (IsAcceptedAt one blocks log (number - 1))) ⊎ ((number ≡ length log + 1) × (blocks_in log < length blocks))
        → ((number ≤ length log) × ¬ (IsAcceptedAt other blocks log (number - 1))) ⊎ ((number ≡ length log + 1) × (blocks_in log < length blocks))
    at (inl (within, fails)) =
        inl (within, λ accepted. fails (accepted-at log other one (agree-sym log one other agree) blocks (number - 1) (omega (arith, within, is.counted)) accepted))
    at (inr left) = inr left

pub same-answer : (log : List Step) (one other : List (List Lit)) → AgreeFor log one other → (blocks : List (List Lit)) (answer : Option BadStep)
    → Answers one blocks log answer → Answers other blocks log answer
same-answer log one other agree blocks None is = accepted-same log one other agree blocks is
same-answer log one other agree blocks (Some bad) is = refused-same log one other agree blocks bad.n is

-- ---- what follows
-- a clause of one literal, with the sign of a value
abbrev unit : Bool → List Lit
unit value = record { var = 1; negated = not value } ∷ []

unit-holds : (assignment : ℕ → Bool) → SatisfiesClause assignment (unit (assignment 1))
unit-holds assignment = at (assignment 1)
  where
    at : (value : Bool) → (cond (not value) (not value) value || false) ≡ true
    at true = refl
    at false = refl

-- a form with that clause in the place of each that isn't named, its first clause having a number
abbrev filled : List Step → Bool → ℕ → List (List Lit) → List (List Lit)
filled log value n [] = []
filled log value n (clause ∷ form) = (if is_named log n then clause else unit value) ∷ filled log value (n + 1) form

picked : (P : List Lit → Type 0) (named : Bool) (clause other : List Lit) → (named ≡ true → P clause) → P other → P (if named then clause else other)
picked P true clause other when_named else_other = when_named refl
picked P false clause other when_named else_other = else_other

module _ (log : List Step) (value : Bool) where
  length-filled : (n : ℕ) (form : List (List Lit)) → length (filled log value n form) ≡ length form
  length-filled n [] = refl
  length-filled n (clause ∷ form) = ap suc (length-filled (n + 1) form)

  filled-distinct : (n : ℕ) (form : List (List Lit)) → AllDistinct form → AllDistinct (filled log value n form)
  filled-distinct n [] distinct = distinct
  filled-distinct n (clause ∷ form) distinct =
      let P : List Lit → Type 0 = λ c. IsTrue (has_distinct_variables c) in
      All-cons P (if is_named log n then clause else unit value) (filled log value (n + 1) form)
      (picked P (is_named log n) clause (unit value) (λ _. All-head P clause form distinct) refl)
      (filled-distinct (n + 1) form (All-tail P clause form distinct))

  filled-at : (n : ℕ) (form : List (List Lit)) (place : ℕ) → is_named log (n + place) ≡ true → get_or (filled log value n form) place [] ≡ get_or form place []
  filled-at n [] place named = refl
  filled-at n (clause ∷ form) zero named =
      let here : n + 0 ≡ n = omega arith in
      if-true (is_named log n) clause (unit value) clause (ap (is_named log) (sym here) ∙ named) refl
  filled-at n (clause ∷ form) (suc place) named =
      let next : n + suc place ≡ n + 1 + place = omega arith in
      filled-at (n + 1) form place (ap (is_named log) (sym next) ∙ named)

filled-holds : (log : List Step) (assignment : ℕ → Bool) (n : ℕ) (one other : List (List Lit)) → length one ≡ length other
    → ((place : ℕ) → is_named log (n + place) ≡ true → get_or one place [] ≡ get_or other place []) → Satisfies assignment other
    → Satisfies assignment (filled log (assignment 1) n one)
filled-holds log assignment n [] other long same satisfied = All-nil (λ c. SatisfiesClause assignment c)
filled-holds log assignment n (clause ∷ one) [] long same satisfied = absurd (omega (arith, long))
filled-holds log assignment n (clause ∷ one) (c ∷ other) long same satisfied =
    let P : List Lit → Type 0 = λ c. SatisfiesClause assignment c in
    let here : n + 0 ≡ n = omega arith in
    All-cons P (if is_named log n then clause else unit (assignment 1)) (filled log (assignment 1) (n + 1) one)
    (picked P (is_named log n) clause (unit (assignment 1))
    (λ named. subst P (sym (same 0 (ap (is_named log) here ∙ named))) (All-head P c other satisfied)) (unit-holds assignment))
    (filled-holds log assignment (n + 1) one other (omega (arith, long))
    (λ place named. let next : n + suc place ≡ n + 1 + place = omega arith in same (suc place) (ap (is_named log) next ∙ named))
    (All-tail P c other satisfied))

pub named-follow : (log : List Step) (one other : List (List Lit)) → AgreeFor log one other → (blocks : List (List Lit)) → AllDistinct one
    → AllDistinct (map (λ (step : Step). step.clause) log) → IsAccepted other blocks log → Follows other blocks log
named-follow log one other agree blocks of_one of_log accepted assignment satisfied in_blocks =
    log_holds assignment form blocks log (filled-distinct log (assignment 1) 1 one of_one) of_log
    (λ place within. accepted-at log other form back blocks place within (accepted.each_step place within))
    (filled-holds log assignment 1 one other agree.long at satisfied) in_blocks
  where
    form : List (List Lit)
    form = filled log (assignment 1) 1 one

    at : (place : ℕ) → is_named log (1 + place) ≡ true → get_or one place [] ≡ get_or other place []
    at place named =
        let here : 1 + place - 1 ≡ place = omega arith in
        ap (λ p. get_or one p []) (sym here) ∙ agree.same (1 + place) (omega arith) named ∙ ap (λ p. get_or other p []) here

    back : AgreeFor log other (filled log (assignment 1) 1 one)
    back = record {
      long = sym agree.long ∙ sym (length-filled log (assignment 1) 1 one);
      same = λ n least named.
          let there : 1 + (n - 1) ≡ n = omega (arith, least) in
          sym (filled-at log (assignment 1) 1 one (n - 1) (ap (is_named log) there ∙ named) ∙ agree.same n least named);
    }
