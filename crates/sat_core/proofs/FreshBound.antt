-- Fewer learned clauses are fresh than there are sets of literals without opposites: each is another set than every
-- earlier clause.
use Rattle.std.proofs.Common.{◌≡◌, ℕ, ◌+◌, ◌-◌, ◌*◌, ◌^◌, ◌<◌, ◌≤◌, zero, suc, Bool, true, false, cond, eqb, List, [], ◌∷◌, ◌++◌, map, length, get_or, take, drop, refl, sym, ap, ◌∙◌, subst, arith, inl, inr, ⊎_elim}
use Rattle.std.specs.List.{AllByRecursion, IsDistinct, list_any, count_by}
use Rattle.std.proofs.lemmas.Bool.{false≢true, both_ways, cases_Bool, cases_lt, or_cases, eqb-true, ne_eqb}
use Rattle.std.proofs.lemmas.List.{get_or_append_left, get_or-append_right, get_or-drop, get_or-map, length-append, length-take-le, length-drop, take-append-drop, take_all, map-append, append_assoc, append-nil}
use Rattle.std.proofs.lemmas.List.Elements.{All-push, All-head}
use Rattle.std.proofs.lemmas.List.Sums.{count_by_more_yes, count_by_more_no}
use Rattle.std.proofs.lemmas.Map.Steps.{length-le_from_distinct_below}
use Rattle.std.proofs.Math.Nat.{pow-suc}
use Rattle.clause_base.specs.declared.literal.Lit.{Lit}
use Rattle.clause_base.specs.declared.log.Step.{Step}
use Rattle.clause_base.specs.declared.log.StepKind.{StepKind}
use Rattle.clause_base.specs.declared.log.StepKind.TheVariants.{Block, Learned, Derived}
use Rattle.clause_base.specs.Literal.{positive, negative, opposite, same_lit, has, has_distinct_variables, IsWithin, AreWithin, AllDistinct}
use Rattle.clause_base.specs.Steps.{step_at, no_step}
use Rattle.clause_base.specs.Acceptance.{clauses_of, IsAccepted, IsAcceptedAs, IsAcceptedAt, IsAcceptedChain}
use Rattle.clause_base.specs.Progress.{IsConsistent, IsAtRest, IsFresh, LearnedAreFresh}
use Rattle.clause_base.proofs.Accepted.{length-clauses_of, clauses_of-more, accepted-IsWithin}
use Rattle.clause_base.proofs.Sets.{same_lit-true, same_lit_itself, has-IsConsistent}
use Rattle.trail_core.proofs.Looks.{variable_of}
use Rattle.sat_core.specs.Outcome.{is_learned, is_learned_kind}

-- which literal of the variable the set has
abbrev digit : (Lit → Bool) → ℕ → ℕ
digit a v = cond (a (positive v)) 1 (cond (a (negative v)) 2 0)

digit_le : (p q : Bool) → cond p 1 (cond q 2 0) ≤ 2
digit_le true q = omega arith
digit_le false true = omega arith
digit_le false false = omega arith

-- the set as a number, with a digit for each variable up to n
code : (Lit → Bool) → ℕ → ℕ
code a zero = 0
code a (suc n) = code a n * 3 + digit a (suc n)

code-zero : (a : Lit → Bool) → code a zero ≡ 0
unfolding code
code-zero a = refl

code-suc : (a : Lit → Bool) (n : ℕ) → code a (suc n) ≡ code a n * 3 + digit a (suc n)
unfolding code
code-suc a n = refl

code_below : (a : Lit → Bool) (n : ℕ) → code a n < 3 ^ n
code_below a zero = omega (arith, code-zero a)
code_below a (suc n) = omega (arith, code-suc a n, code_below a n, digit_le (a (positive (suc n))) (a (negative (suc n))), pow-suc 3 n)

same_parts : (a b d e : ℕ) → d ≤ 2 → e ≤ 2 → a * 3 + d ≡ b * 3 + e → (a ≡ b) × (d ≡ e)
same_parts a b d e p q h = (omega (arith, p, q, h), omega (arith, p, q, h))

-- sets with one code have the same literals of each variable
code_digit : (a b : Lit → Bool) (n : ℕ) → code a n ≡ code b n → (v : ℕ) → 1 ≤ v → v ≤ n → digit a v ≡ digit b v
code_digit a b zero h v low high = absurd (omega arith)
code_digit a b (suc n) h v low high =
    let parts = same_parts (code a n) (code b n) (digit a (suc n)) (digit b (suc n)) (digit_le (a (positive (suc n))) (a (negative (suc n)))) (digit_le (b (positive (suc n))) (b (negative (suc n)))) (sym (code-suc a n) ∙ (h ∙ code-suc b n)) in
    elim (cases_lt n v) [
      | inl l ↦ let e : suc n ≡ v = omega arith in subst (λ w. digit a w ≡ digit b w) e parts.1
      | inr l ↦ code_digit a b n parts.0 v low l
    ]

abbrev which : Bool → Bool → ℕ
which p q = cond p 1 (cond q 2 0)

first_of_digit : (p q : Bool) → which p q ≡ 1 → p ≡ true
first_of_digit true q h = refl
first_of_digit false true h = absurd (omega (arith, h))
first_of_digit false false h = absurd (omega (arith, h))

second_of_digit : (p q : Bool) → which p q ≡ 2 → q ≡ true
second_of_digit true q h = absurd (omega (arith, h))
second_of_digit false true h = refl
second_of_digit false false h = absurd (omega (arith, h))

-- a literal of the one set is in the other
digit_member : (a b : Lit → Bool) (v : ℕ) (s : Bool) → IsConsistent a → digit a v ≡ digit b v → a (record { var = v; negated = s }) ≡ true → b (record { var = v; negated = s }) ≡ true
digit_member a b v false c h y = first_of_digit (b (positive v)) (b (negative v)) (sym h ∙ ap (λ p. which p (a (negative v))) y)
digit_member a b v true c h y =
    let none : a (positive v) ≡ false = c (negative v) y in
    second_of_digit (b (positive v)) (b (negative v)) (sym h ∙ (ap (λ p. which p (a (negative v))) none ∙ ap (λ q. which false q) y))

-- a clause with the code of another has its literals
code_covers : (vars : ℕ) (c d : List Lit) → IsWithin vars d → has_distinct_variables d ≡ true → code (has d) vars ≡ code (has c) vars → (l : Lit) → has d l ≡ true → has c l ≡ true
code_covers vars c d w k h l y =
    let v = variable_of vars d l w y in
    digit_member (has d) (has c) l.var l.negated (has-IsConsistent d k) (code_digit (has d) (has c) vars h l.var v.above v.within) y

-- a fresh clause contains no earlier one
pub fresh_contains_none : (earlier : List (List Lit)) (c : List Lit) (i : ℕ) → IsFresh earlier c → i < length earlier → ((l : Lit) → has (get_or earlier i []) l ≡ true → has c l ≡ true) → ⊥
fresh_contains_none earlier c i (tells, set, t) k sub = at (t.at_rest i [] k)
  where
    told : (l : Lit) → has (get_or earlier i []) l ≡ true → set (opposite l) ≡ false → l ≡ tells
    told l p u = ⊎_elim
        (λ s. same_lit-true l tells s)
        (λ n. absurd (both_ways (set (opposite l)) u (t.others_false l (sub l p) n)))
        (cases_Bool (same_lit l tells))

    at : IsAtRest set (get_or earlier i []) → ⊥
    at (inl (l, p, s)) = let e = told l p (t.consistent l s) in both_ways (set tells) t.not_true (ap set (sym e) ∙ s)
    at (inr (l, m, n, p, q, u, v)) =
        let e : l ≡ m = told l p u ∙ sym (told m q v) in
        both_ways (same_lit l m) n (ap (same_lit l) (sym e) ∙ same_lit_itself l)

-- the code of a clause
abbrev code_of : ℕ → List Lit → ℕ
code_of vars c = code (has c) vars

-- a first code, and those of the learned ones of the first n steps, the last first
codes : ℕ → List Lit → List Step → ℕ → List ℕ
codes vars first steps zero = code_of vars first ∷ []
codes vars first steps (suc n) = cond (is_learned (step_at steps n)) (code_of vars (step_at steps n).clause ∷ codes vars first steps n) (codes vars first steps n)

codes-zero : (vars : ℕ) (first : List Lit) (steps : List Step) → codes vars first steps zero ≡ code_of vars first ∷ []
unfolding codes
codes-zero vars first steps = refl

codes-suc : (vars : ℕ) (first : List Lit) (steps : List Step) (n : ℕ) → codes vars first steps (suc n) ≡ cond (is_learned (step_at steps n)) (code_of vars (step_at steps n).clause ∷ codes vars first steps n) (codes vars first steps n)
unfolding codes
codes-suc vars first steps n = refl

codes_learned : (vars : ℕ) (first : List Lit) (steps : List Step) (n : ℕ) → is_learned (step_at steps n) ≡ true → codes vars first steps (suc n) ≡ code_of vars (step_at steps n).clause ∷ codes vars first steps n
codes_learned vars first steps n y = codes-suc vars first steps n ∙ ap (λ b. cond b (code_of vars (step_at steps n).clause ∷ codes vars first steps n) (codes vars first steps n)) y

codes_other : (vars : ℕ) (first : List Lit) (steps : List Step) (n : ℕ) → is_learned (step_at steps n) ≡ false → codes vars first steps (suc n) ≡ codes vars first steps n
codes_other vars first steps n y = codes-suc vars first steps n ∙ ap (λ b. cond b (code_of vars (step_at steps n).clause ∷ codes vars first steps n) (codes vars first steps n)) y

-- one more than there are learned steps
codes_count : (vars : ℕ) (first : List Lit) (steps : List Step) (n : ℕ) → n ≤ length steps → length (codes vars first steps n) ≡ count_by is_learned (take n steps) + 1
codes_count vars first steps zero l = ap length (codes-zero vars first steps)
codes_count vars first steps (suc n) l =
    let e : n + 1 ≡ suc n = omega arith in
    let r = codes_count vars first steps n (omega (arith, l)) in
    ⊎_elim
    (λ y. let m = count_by_more_yes is_learned steps n no_step (omega (arith, l)) y in
    omega (arith, ap length (codes_learned vars first steps n y), r, m, ap (λ k. count_by is_learned (take k steps)) e))
    (λ y. let m = count_by_more_no is_learned steps n no_step (omega (arith, l)) y in
    omega (arith, ap length (codes_other vars first steps n y), r, m, ap (λ k. count_by is_learned (take k steps)) e))
    (cases_Bool (is_learned (step_at steps n)))

-- what holds of the first code and of the steps' holds of each
each_code : (P : ℕ → Type 0) (vars : ℕ) (first : List Lit) (steps : List Step) (n : ℕ) → P (code_of vars first) → ((j : ℕ) → j < n → P (code_of vars (step_at steps j).clause)) → AllByRecursion P (codes vars first steps n)
each_code P vars first steps zero p f = subst (AllByRecursion P) (sym (codes-zero vars first steps)) (p, tt)
each_code P vars first steps (suc n) p f =
    let r = each_code P vars first steps n p (λ j l. f j (omega (arith, l))) in
    ⊎_elim
    (λ y. subst (AllByRecursion P) (sym (codes_learned vars first steps n y)) (f n (omega arith), r))
    (λ y. subst (AllByRecursion P) (sym (codes_other vars first steps n y)) r)
    (cases_Bool (is_learned (step_at steps n)))

-- the codes differ, where each learned step's is another than those before it
distinct_codes : (vars : ℕ) (first : List Lit) (steps : List Step) (n : ℕ) → n ≤ length steps → ((i : ℕ) → i < length steps → is_learned (step_at steps i) ≡ true → eqb (code_of vars (step_at steps i).clause) (code_of vars first) ≡ false) → ((i j : ℕ) → j < i → i < length steps → is_learned (step_at steps i) ≡ true → eqb (code_of vars (step_at steps i).clause) (code_of vars (step_at steps j).clause) ≡ false) → IsDistinct eqb (codes vars first steps n)
unfolding IsDistinct
distinct_codes vars first steps zero l f g = subst (IsDistinct eqb) (sym (codes-zero vars first steps)) (tt, tt)
distinct_codes vars first steps (suc n) l f g =
    let r = distinct_codes vars first steps n (omega (arith, l)) f g in
    ⊎_elim
    (λ y. subst (IsDistinct eqb) (sym (codes_learned vars first steps n y)) (
      each_code (λ z. eqb (code_of vars (step_at steps n).clause) z ≡ false) vars first steps n (f n (omega (arith, l)) y) (λ j b. g n j b (omega (arith, l)) y),
      r,
    ))
    (λ y. subst (IsDistinct eqb) (sym (codes_other vars first steps n y)) r)
    (cases_Bool (is_learned (step_at steps n)))

all_any : (P : ℕ → Type 0) (xs : List ℕ) → AllByRecursion P xs → (q : ℕ) → list_any (eqb q) xs ≡ true → P q
all_any P [] a q h = absurd (false≢true h)
all_any P (x ∷ xs) a q h = ⊎_elim (λ y. subst P (sym (eqb-true q x y)) a.0) (λ y. all_any P xs a.1 q y) (or_cases (eqb q x) (list_any (eqb q) xs) h)

-- the clauses up to a step are the first ones
clauses_split : (form : List (List Lit)) (log : List Step) (n : ℕ) → clauses_of form log ≡ clauses_of form (take n log) ++ map (λ (s : Step). s.clause) (drop n log)
clauses_split form log n =
    ap (λ ss. form ++ map (λ (s : Step). s.clause) ss) (sym (take-append-drop n log))
    ∙ (ap (λ cs. form ++ cs) (map-append (λ (s : Step). s.clause) (take n log) (drop n log))
    ∙ sym (append_assoc form (map (λ (s : Step). s.clause) (take n log)) (map (λ (s : Step). s.clause) (drop n log))))

-- the clauses of the fronts are within the variables
fronts_within : (vars : ℕ) (form blocks : List (List Lit)) (log : List Step) → AreWithin vars form → AreWithin vars blocks → ((place : ℕ) → place < length log → IsAcceptedAt form blocks log place) → (n : ℕ) → n ≤ length log → AreWithin vars (clauses_of form (take n log))
fronts_within vars form blocks log w b h zero l = subst (AreWithin vars) (sym (append-nil form)) w
fronts_within vars form blocks log w b h (suc n) l =
    let e : n + 1 ≡ suc n = omega arith in
    let before = fronts_within vars form blocks log w b h n (omega (arith, l)) in
    let whole : clauses_of form (take (suc n) log) ≡ clauses_of form (take n log) ++ (step_at log n).clause ∷ [] = ap (λ k. clauses_of form (take k log)) (sym e) ∙ clauses_of-more form log n (omega (arith, l)) in
    subst (AreWithin vars) (sym whole) (All-push (λ c. IsWithin vars c) (clauses_of form (take n log)) (step_at log n).clause before
    (accepted-IsWithin vars form blocks (take n log) (step_at log n) b before (h n (omega (arith, l)))))

pub log_within : (vars : ℕ) (form blocks : List (List Lit)) (log : List Step) → AreWithin vars form → AreWithin vars blocks → IsAccepted form blocks log → AreWithin vars (clauses_of form log)
log_within vars form blocks log w b h =
    subst (λ ss. AreWithin vars (clauses_of form ss)) (take_all (length log) log (omega arith)) (fronts_within vars form blocks log w b h.each_step (length log) (omega arith))

-- a chain begins with an earlier clause
chain_needs_one : (earlier : List (List Lit)) (chain : List ℕ) (clause : List Lit) → IsAcceptedChain earlier chain clause → 1 ≤ length earlier
chain_needs_one earlier [] clause h = absurd h.1
chain_needs_one earlier (n ∷ ns) clause h = let p = All-head (λ k. (1 ≤ k) × (k ≤ length earlier)) n ns h.0 in omega (arith, p.0, p.1)

learned_as : (k : StepKind) → is_learned_kind k ≡ true → k ≡ Learned
learned_as Block h = absurd (false≢true h)
learned_as Learned h = refl
learned_as Derived h = absurd (false≢true h)

learned_needs_one : (form blocks : List (List Lit)) (log : List Step) (n : ℕ) → IsAcceptedAt form blocks log n → (step_at log n).kind ≡ Learned → 1 ≤ length (clauses_of form (take n log))
learned_needs_one form blocks log n h k =
    let a : IsAcceptedAs Learned form blocks (take n log) (step_at log n) = subst (λ x. IsAcceptedAs x form blocks (take n log) (step_at log n)) k h in
    chain_needs_one (clauses_of form (take n log)) (step_at log n).chain (step_at log n).clause a

-- of an accepted log over these variables, fewer learned steps from a place on are fresh than there are sets of literals
pub few_fresh : (vars : ℕ) (form blocks : List (List Lit)) (log : List Step) (from : ℕ) → AreWithin vars form → AreWithin vars blocks → AllDistinct (clauses_of form log) → IsAccepted form blocks log → LearnedAreFresh form log from → count_by is_learned (drop from log) < 3 ^ vars
few_fresh vars form blocks log from w b distinct h fresh =
    omega (
      arith,
      length-le_from_distinct_below (codes vars first steps (length steps)) (3 ^ vars) (distinct_codes vars first steps (length steps) (omega arith) apart_first apart_step)
          (all_any (λ z. z < 3 ^ vars) (codes vars first steps (length steps)) (each_code (λ z. z < 3 ^ vars) vars first steps (length steps) (code_below (has first) vars) (λ j l. code_below (has (step_at steps j).clause) vars))),
      codes_count vars first steps (length steps) (omega arith),
      ap (count_by is_learned) (take_all (length steps) steps (omega arith)),
    )
  where
    steps : List Step
    steps = drop from log

    first : List Lit
    first = get_or (clauses_of form log) 0 []

    within : AreWithin vars (clauses_of form log)
    within = log_within vars form blocks log w b h

    at_log : (i : ℕ) → step_at steps i ≡ step_at log (from + i)
    at_log i = get_or-drop from log i no_step

    in_log : (i : ℕ) → i < length steps → from + i < length log
    in_log i l = omega (arith, l, length-drop from log)

    -- the code of a learned step is another than that of an earlier clause
    apart : (i k : ℕ) (d : List Lit) → i < length steps → is_learned (step_at steps i) ≡ true → k < length (clauses_of form (take (from + i) log)) → get_or (clauses_of form log) k [] ≡ d → eqb (code_of vars (step_at steps i).clause) (code_of vars d) ≡ false
    apart i k d l y m e = ne_eqb (code_of vars (step_at steps i).clause) (code_of vars d) (λ same.
        fresh_contains_none (clauses_of form (take (from + i) log)) (step_at steps i).clause k is_fresh m
        (λ x p. code_covers vars (step_at steps i).clause d inside apart_variables (sym same) x (subst (λ c. has c x ≡ true) (here ∙ e) p)))
      where
        n : ℕ
        n = length (clauses_of form (take (from + i) log))

        here : get_or (clauses_of form (take (from + i) log)) k [] ≡ get_or (clauses_of form log) k []
        here = sym (ap (λ cs. get_or cs k []) (clauses_split form log (from + i)) ∙ get_or_append_left (clauses_of form (take (from + i) log)) (map (λ (s : Step). s.clause) (drop (from + i) log)) [] k m)

        long : k < length (clauses_of form log)
        long = omega (arith, m, length-append (clauses_of form (take (from + i) log)) (map (λ (s : Step). s.clause) (drop (from + i) log)), ap length (clauses_split form log (from + i)))

        inside : IsWithin vars d
        inside = subst (IsWithin vars) e (within k [] long)

        apart_variables : has_distinct_variables d ≡ true
        apart_variables = ap has_distinct_variables (sym e) ∙ distinct k [] long

        is_fresh : IsFresh (clauses_of form (take (from + i) log)) (step_at steps i).clause
        is_fresh = subst (λ (s : Step). IsFresh (clauses_of form (take (from + i) log)) s.clause) (sym (at_log i))
            (fresh (from + i) (omega arith) (in_log i l) (learned_as (step_at log (from + i)).kind (subst (λ (s : Step). is_learned s ≡ true) (at_log i) y)))

    apart_first : (i : ℕ) → i < length steps → is_learned (step_at steps i) ≡ true → eqb (code_of vars (step_at steps i).clause) (code_of vars first) ≡ false
    apart_first i l y =
        apart i 0 first l y (learned_needs_one form blocks log (from + i) (h.each_step (from + i) (in_log i l)) (learned_as (step_at log (from + i)).kind (subst (λ (s : Step). is_learned s ≡ true) (at_log i) y))) refl

    apart_step : (i j : ℕ) → j < i → i < length steps → is_learned (step_at steps i) ≡ true → eqb (code_of vars (step_at steps i).clause) (code_of vars (step_at steps j).clause) ≡ false
    apart_step i j b l y =
        let size : length (take (from + i) log) ≡ from + i = length-take-le (from + i) log (omega (arith, in_log i l)) in
        apart i (length form + (from + j)) (step_at steps j).clause l y (omega (arith, b, size, length-clauses_of form (take (from + i) log))) place_of
      where
        place_of : get_or (clauses_of form log) (length form + (from + j)) [] ≡ (step_at steps j).clause
        place_of =
            let q : length form + (from + j) - length form ≡ from + j = omega arith in
            get_or-append_right form (map (λ (s : Step). s.clause) log) (length form) (length form + (from + j)) [] refl (omega arith)
            ∙ (ap (λ k. get_or (map (λ (s : Step). s.clause) log) k []) q
            ∙ (get_or-map (λ (s : Step). s.clause) log (from + j) no_step [] (omega (arith, b, in_log i l)) ∙ ap (λ (s : Step). s.clause) (sym (at_log j))))
