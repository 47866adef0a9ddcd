-- The steps that explain why a model passes selectors over are a certificate of its set.
use Rattle.std.proofs.Common.{◌≡◌, ℕ, zero, suc, ◌+◌, ◌-◌, ◌<◌, ◌≤◌, ◌⊎◌, inl, inr, Bool, true, false, not, ◌&&◌, ◌||◌, cond, List, [], ◌∷◌, ◌++◌, length, get_or, Option, Some, None, Result, Ok, Err}
use Rattle.std.proofs.Common.{refl, sym, ◌∙◌, ap, subst, arith, eqb}
use Rattle.std.specs.Prelude.{All, Contains, IfOk, IsSome, IsSomeAnd, is_some}
use Rattle.std.specs.List.{AllZip}
use Rattle.std.specs.Option.{unwrap_or}
use Rattle.std.proofs.lemmas.Bool.{and_parts, both_ways, cases_lt, false≢true, false_from_ne_true, ne_eqb, not-true}
use Rattle.std.proofs.lemmas.List.{append-nil, get_or_default}
use Rattle.std.proofs.lemmas.List.Elements.{All-head, All-tail}
use Rattle.loc_base.proofs.ShelfBools.{or-false}
use Rattle.loc_base.proofs.ShelfLists.{All-member}
use Rattle.loc_base.specs.declared.memory.NoMemory.{NoMemory}
use Rattle.clause_base.specs.declared.literal.Lit.{Lit}
use Rattle.clause_base.specs.declared.log.Step.{Step}
use Rattle.clause_base.specs.Literal.{has, has_variable, negative, opposite, same_lit}
use Rattle.clause_base.specs.Counted.{IsPassedOver, ShowsAbsent}
use Rattle.clause_base.proofs.Sets.{opposite-opposite, same_lit-true}
use Rattle.card_counter.specs.Places.{at_least}
use Rattle.card_counter.specs.Shows.{ShowsSize}
use Rattle.sat_core.specs.SolverState.{SolverState, assignment_of}
use Rattle.sat_core.specs.Explaining.{Explains, MayExplain, MayStand, assumptions, itself, of_assumption, of_earlier}
use Rattle.set_enum.specs.Bounds.{bound_at, bound_of}
use Rattle.set_enum.specs.Certificate.{ArePassedOver, IsCertificate, IsLastSelected, IsStepFor}
use Rattle.set_enum.specs.EnumState.{EnumState, ShowsBound}
use Rattle.set_enum.specs.Sets.{numbers_from, selected}
use Rattle.set_enum.specs.Standing.{IsStanding, assumed, state_of}
use Rattle.set_enum.proofs.Bounding.{assumed-none, assumed-some, bound-some}
use Rattle.set_enum.proofs.Selecting.{model-at, numbers-at, numbers-has, numbers-length, selected-IsSetOf, selected-has, selected-push, selected-true}

-- ---- the numbers that are passed over
-- a variable is left out where it is false
abbrev pub left_out : (ℕ → Bool) → ℕ → Bool
left_out a v = not (a v)

pub left_out-yes : (model : List Bool) (i : ℕ) → get_or model i false ≡ false
    → selected (i + 1) (left_out (assignment_of model)) ≡ selected i (left_out (assignment_of model)) ++ (i + 1) ∷ []
left_out-yes model i here =
    selected-push i (left_out (assignment_of model))
    ∙ ap (λ (t : Bool). selected i (left_out (assignment_of model)) ++ cond (not t) ((i + 1) ∷ []) []) (model-at model i ∙ here)

pub left_out-no : (model : List Bool) (i : ℕ) → get_or model i false ≡ true
    → selected (i + 1) (left_out (assignment_of model)) ≡ selected i (left_out (assignment_of model))
left_out-no model i here =
    selected-push i (left_out (assignment_of model))
    ∙ (ap (λ (t : Bool). selected i (left_out (assignment_of model)) ++ cond (not t) ((i + 1) ∷ []) []) (model-at model i ∙ here)
    ∙ append-nil (selected i (left_out (assignment_of model))))

-- the greatest of no variable
pub last-none : (a : ℕ → Bool) → IsLastSelected 0 a 0
last-none a = record { within = omega arith; is_true = λ l. absurd (omega (arith, l)); above = λ v low high. absurd (omega (arith, low, high)) }

pub last-yes : (model : List Bool) (i last : ℕ) → get_or model i false ≡ true → last ≡ i + 1 → IsLastSelected (i + 1) (assignment_of model) last
last-yes model i last here e = subst (IsLastSelected (i + 1) (assignment_of model)) (sym e) record {
  within = omega arith;
  is_true = λ l. model-at model i ∙ here;
  above = λ v low high. absurd (omega (arith, low, high));
}

pub last-no : (model : List Bool) (i last : ℕ) → IsLastSelected i (assignment_of model) last → get_or model i false ≡ false → IsLastSelected (i + 1) (assignment_of model) last
last-no model i last h here = record {
  within = omega (arith, h.within);
  is_true = h.is_true;
  above = λ v low high. elim (cases_lt i v) [
    | inl late ↦ let same : i + 1 ≡ v = omega (arith, late, high) in ap (assignment_of model) (sym same) ∙ (model-at model i ∙ here)
    | inr early ↦ h.above v low early
  ];
}

-- the variables that are left out below the greatest that is selected
pub passed_over_are : (n last : ℕ) (a : ℕ → Bool) (passed : List ℕ) → IsLastSelected n a last → passed ≡ selected last (left_out a)
    → ArePassedOver (selected n a) passed
passed_over_are n last a passed h e = subst (ArePassedOver (selected n a)) (sym e) record {
  ascending = (selected-IsSetOf last (left_out a)).ascending;
  are = λ i d l. one (get_or (selected last (left_out a)) i d) (i, l, get_or_default (selected last (left_out a)) i (get_or (selected last (left_out a)) i d) d l);
  each = every;
}
  where
    one : (x : ℕ) → Contains (selected last (left_out a)) x → IsPassedOver (selected n a) x
    one x member =
        let (low, high) = All-member (λ m. (1 ≤ m) × (m ≤ last)) (selected last (left_out a)) x (selected-IsSetOf last (left_out a)).members member in
        let absent : a x ≡ false = not-true (a x) (selected-true last (left_out a) x member) in
        let some : 1 ≤ last = omega (arith, low, high) in
        record {
          suspect = low;
          no_member = λ there. both_ways (a x) absent (selected-true n a x there);
          greater = (last, selected-has n a last some h.within (h.is_true some), below x absent high some);
        }
      where
        below : (y : ℕ) → a y ≡ false → y ≤ last → 1 ≤ last → y < last
        below y absent high some = elim (cases_lt y last) [
          | inl less ↦ less
          | inr most ↦ let same : last ≡ y = omega (arith, high, most) in absurd (both_ways (a y) absent (subst (λ v. a v ≡ true) same (h.is_true some)))
        ]

    every : (x : ℕ) → IsPassedOver (selected n a) x → Contains (selected last (left_out a)) x
    every x p =
        let (m, member, less) = p.greater in
        let (low, high) = All-member (λ v. (1 ≤ v) × (v ≤ n)) (selected n a) m (selected-IsSetOf n a).members member in
        let early : m ≤ last = not_above m high (selected-true n a m member) in
        let absent : a x ≡ false = false_from_ne_true (a x) (λ y. p.no_member (selected-has n a x p.suspect (omega (arith, less, high)) y)) in
        selected-has last (left_out a) x p.suspect (omega (arith, less, early)) (ap not absent)
      where
        not_above : (v : ℕ) → v ≤ n → a v ≡ true → v ≤ last
        not_above v high y = elim (cases_lt last v) [ inl over ↦ absurd (both_ways (a v) (h.above v over high) y) | inr fine ↦ fine ]

-- ---- their steps
one_of : (b l : Lit) → has (b ∷ []) l ≡ true → b ≡ l
one_of b l p = same_lit-true b l (sym (or-false (same_lit b l)) ∙ p)

module _ (n k size : ℕ) (s : SolverState) (h : IsStanding n k size true s) (assume : List Lit) (told : s.told ≡ Some assume) where
  abbrev a : ℕ → Bool
  a = assignment_of s.model

  abbrev members : List ℕ
  members = selected n (assignment_of s.model)

  is_told : (assume ≡ assumed n k size) × (length members ≡ size)
  is_told = h.told refl assume told

  passed-within : (x : ℕ) → IsPassedOver members x → x ≤ n
  passed-within x p =
      let (m, member, less) = p.greater in
      let (low, high) = All-member (λ v. (1 ≤ v) × (v ≤ n)) members m (selected-IsSetOf n a).members member in
      omega (arith, less, high)

  -- the assumption is no selector
  not_assumed : (x : ℕ) → x ≤ n → has_variable (assumed n k size) x ≡ false
  not_assumed x within = elim (cases_lt size n) [
    | inl l ↦ ap (λ ls. has_variable ls x) (assumed-some n k size l)
        ∙ (or-false (eqb (at_least (n + 1) k n (size + 1)) x) ∙ ne_eqb (at_least (n + 1) k n (size + 1)) x (λ e. absurd (omega (arith, e, within))))
    | inr g ↦ ap (λ ls. has_variable ls x) (assumed-none n k size g)
  ]

  pub may_explain : (x : ℕ) → IsPassedOver members x → MayExplain s x
  may_explain x p = record {
    told = ap is_some told;
    preferred = subst (λ xs. Contains xs x) (sym h.preferred) (numbers-has 1 n x p.suspect (omega (arith, passed-within x p)));
    is_false = false_from_ne_true (a x) (λ y. p.no_member (selected-has n a x p.suspect (passed-within x p) y));
    free = ap (λ o. has_variable (assumptions o) x) told ∙ (ap (λ ls. has_variable ls x) is_told.0 ∙ not_assumed x (passed-within x p));
  }

  -- an assumption's negation is the bound
  assumed_bound : (l : Lit) → has (assumed n k size) (opposite l) ≡ true → bound_of n k size ≡ Some l
  assumed_bound l p = elim (cases_lt size n) [
    | inl less ↦
        let e : opposite (bound_at n k size) ≡ opposite l = one_of (opposite (bound_at n k size)) (opposite l) (subst (λ ls. has ls (opposite l) ≡ true) (assumed-some n k size less) p) in
        let same : bound_at n k size ≡ l = sym (opposite-opposite (bound_at n k size)) ∙ (ap opposite e ∙ opposite-opposite l) in
        bound-some n k size less ∙ ap Some same
    | inr most ↦ absurd (false≢true (subst (λ ls. has ls (opposite l) ≡ true) (assumed-none n k size most) p))
  ]

  -- what may stand in the clause of a selector that is passed over shows it absent
  shows_absent : (x : ℕ) → IsPassedOver members x → (l : Lit) → MayStand s x (x - 1) l
      → (l ≡ negative x) ⊎ (((m : ℕ) × Contains members m × (m < x) × (l ≡ negative m)) ⊎ (bound_of n k (length members) ≡ Some l))
  shows_absent x p l (itself e) = inl e
  shows_absent x p l (of_assumption q) =
      let there : has (assumed n k size) (opposite l) ≡ true = subst (λ ls. has ls (opposite l) ≡ true) is_told.0 (subst (λ o. has (assumptions o) (opposite l) ≡ true) told q) in
      inr (inr (ap (bound_of n k) is_told.1 ∙ assumed_bound l there))
  shows_absent x p l (of_earlier before less e y) =
      let within : before < n = omega (arith, less, passed-within x p) in
      let number : get_or s.preferred before 0 ≡ 1 + before = ap (λ xs. get_or xs before 0) h.preferred ∙ numbers-at 1 n before 0 within in
      let is : l ≡ negative (1 + before) = e ∙ ap negative number in
      let yes : a (1 + before) ≡ true = ap a (sym (ap (λ (m : Lit). m.var) is)) ∙ y in
      inr (inl (1 + before, selected-has n a (1 + before) (omega arith) (omega (arith, within)) yes, omega (arith, less), is))

  step_for : (x : ℕ) (step : Step) → IsPassedOver members x → Explains s x step → IsStepFor (state_of n k size true s) members x step
  step_for x step p e = record {
    kind = e.kind;
    accepted = e.accepted;
    within = e.within;
    itself = e.itself;
    absent = λ l there. shows_absent x p l (e.literals (x - 1) low number l there);
  }
    where
      low : x - 1 < length s.preferred
      low = omega (arith, p.suspect, passed-within x p, ap length h.preferred, numbers-length 1 n)

      number : get_or s.preferred (x - 1) 0 ≡ x
      number = ap (λ xs. get_or xs (x - 1) 0) h.preferred ∙ (numbers-at 1 n (x - 1) 0 (omega (arith, p.suspect, passed-within x p)) ∙ omega (arith, p.suspect))

  steps_for : (passed : List ℕ) (steps : List Step) → All (IsPassedOver members) passed → AllZip (Explains s) passed steps
      → AllZip (IsStepFor (state_of n k size true s) members) passed steps
  steps_for [] [] are z = z
  steps_for [] (step ∷ steps) are z = z
  steps_for (x ∷ passed) [] are z = z
  steps_for (x ∷ passed) (step ∷ steps) are z =
      (step_for x step (All-head (IsPassedOver members) x passed are) z.0, steps_for passed steps (All-tail (IsPassedOver members) x passed are) z.1)

  alone : (j : ℕ) (clause : List Lit) → (clause ≡ []) ⊎ IsSomeAnd (bound_of n k j) (λ bound. clause ≡ bound ∷ []) → (l : Lit) → has clause l ≡ true → bound_of n k j ≡ Some l
  alone j clause (inl none) l p = absurd (false≢true (sym (ap (λ c. has c l) none) ∙ p))
  alone j clause (inr some) l p = at (bound_of n k j) some
    where
      at : (o : Option Lit) → IsSomeAnd o (λ bound. clause ≡ bound ∷ []) → o ≡ Some l
      at None none = absurd none
      at (Some b) is = ap Some (one_of b l (ap (λ c. has c l) (sym is) ∙ p))

  size_shown : (j : ℕ) → ((i : ℕ) → j ≡ i + 1 → ShowsBound n k i s.log) → ShowsSize n k j s.log
  size_shown zero shown = tt
  size_shown (suc j) shown = let b = shown j (omega arith) in record { step = b.step; in_log = b.in_log; clause = alone j b.step.clause b.clause }

  pub is_certificate : (passed : List ℕ) (steps : List Step) → ArePassedOver members passed → AllZip (Explains s) passed steps
      → IsCertificate (state_of n k size true s) members steps
  is_certificate passed steps p z = record {
    size = subst (λ j. ShowsSize n k j s.log) (sym is_told.1) (size_shown size h.holds.shown);
    passed = passed;
    passed_over = p;
    steps_are = steps_for passed steps p.are z;
  }

-- ---- what a call sees
-- a set that is told waits, and was found under assumptions
pub record IsWaiting (n k size : ℕ) (found : Bool) (s : SolverState) : Type 0 where
  pub standing : IsStanding n k size true s
  pub is_found : found ≡ true
  pub assume : List Lit
  pub told : s.told ≡ Some assume

pub waits_told : (n k size : ℕ) (found : Bool) (s : SolverState) (seen : EnumState) → state_of n k size found s ≡ seen → IsStanding n k size found s → seen.told ≡ true
    → IsWaiting n k size found s
waits_told n k size found s seen e h t =
    let parts = and_parts found (is_some s.told) (ap (λ (x : EnumState). x.told) e ∙ t) in
    let some = assumed_by s.told parts.1 in
    record { standing = subst (λ f. IsStanding n k size f s) parts.0 h; is_found = parts.0; assume = some.0; told = some.1 }
  where
    assumed_by : (o : Option (List Lit)) → is_some o ≡ true → (assume : List Lit) × (o ≡ Some assume)
    assumed_by None y = absurd (false≢true y)
    assumed_by (Some assume) y = (assume, refl)

pub may_explain_all : (n k size : ℕ) (found : Bool) (s : SolverState) (passed : List ℕ) → IsWaiting n k size found s
    → ArePassedOver (selected n (assignment_of s.model)) passed → All (MayExplain s) passed
may_explain_all n k size found s passed w p i d l = may_explain n k size s w.standing w.assume w.told (get_or passed i d) (p.are i d l)

pub certifies : (n k size : ℕ) (found : Bool) (s : SolverState) (seen : EnumState) (passed : List ℕ) (r : Result (List Step) NoMemory) → state_of n k size found s ≡ seen
    → IsWaiting n k size found s → ArePassedOver (selected n (assignment_of s.model)) passed → IfOk r (AllZip (Explains s) passed)
    → IfOk r (IsCertificate seen (unwrap_or seen.last []))
certifies n k size found s seen passed (Ok steps) e w p z =
    subst (λ (x : EnumState). IsCertificate x (unwrap_or x.last []) steps) (ap (λ f. state_of n k size f s) (sym w.is_found) ∙ e)
    (is_certificate n k size s w.standing w.assume w.told passed steps p z)
certifies n k size found s seen passed (Err x) e w p z = z
