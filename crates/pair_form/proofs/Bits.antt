-- What the clauses of a pair's bits say: where a selector is true and no operand differs, the bits are the same.
use Rattle.std.proofs.Common.{◌≡◌, ℕ, Bool, true, false, not, ◌||◌, List, [], ◌∷◌, ◌++◌, length, map, refl, sym, ◌∙◌, ap, ap₂, ◌⊎◌, inl, inr, arith}
use Rattle.std.specs.Prelude.{Contains}
use Rattle.loc_base.proofs.ShelfLists.{Contains-cons, Contains-empty, Contains-first, Contains-later}
use Rattle.gate_base.specs.declared.literal.Literal.{Literal}
use Rattle.gate_base.specs.Literals.{opposite}
use Rattle.clause_base.specs.Satisfaction.{Satisfies}
use Rattle.card_counter.proofs.Said.{satisfies-front, satisfies-behind, satisfies-both}
use Rattle.form_laws.specs.Models.{literal_in}
use Rattle.form_laws.proofs.ClauseValues.{none-satisfied, some_true, opposite-in}
use Rattle.pair_form.specs.Pairs.{settled_clause, two_clauses, groups_clauses, bits_clauses}
use Rattle.pair_form.proofs.Settled.{settled-says, settled-holds, some-append}

same-said : (x d p q : Bool) → (not x || (d || (not p || (q || false)))) ≡ true → (not x || (d || (p || (not q || false)))) ≡ true
    → x ≡ true → d ≡ false → p ≡ q
same-said true false true true one other is none = refl
same-said true false true false one other is none = cc
same-said true false false true one other is none = cc
same-said true false false false one other is none = refl
same-said true true p q one other is none = cc
same-said false d p q one other is none = cc

first-holds : (x d p q : Bool) → (x ≡ true → d ≡ false → p ≡ q) → (not x || (d || (not p || (q || false)))) ≡ true
first-holds false d p q is = refl
first-holds true true p q is = refl
first-holds true false false q is = refl
first-holds true false true true is = refl
first-holds true false true false is = sym (is refl refl)

second-holds : (x d p q : Bool) → (x ≡ true → d ≡ false → p ≡ q) → (not x || (d || (p || (not q || false)))) ≡ true
second-holds false d p q is = refl
second-holds true true p q is = refl
second-holds true false true q is = refl
second-holds true false false false is = refl
second-holds true false false true is = is refl refl

module _ (a : ℕ → Bool) (base : ℕ) (differ : List Literal) where
  abbrev pub some_differs : Bool
  some_differs = some_true a base differ

  -- what the two clauses of a selector and a bit say
  first-value : (x : ℕ) (p q : Literal) → (not (a x) || some_true a base (differ ++ opposite p ∷ q ∷ []))
      ≡ (not (a x) || (some_differs || (not (literal_in a base p) || (literal_in a base q || false))))
  first-value x p q =
      ap (λ b. not (a x) || b)
      (some-append a base differ (opposite p ∷ q ∷ []) ∙ ap (λ b. some_differs || (b || (literal_in a base q || false))) (opposite-in a base p))

  second-value : (x : ℕ) (p q : Literal) → (not (a x) || some_true a base (differ ++ p ∷ opposite q ∷ []))
      ≡ (not (a x) || (some_differs || (literal_in a base p || (not (literal_in a base q) || false))))
  second-value x p q =
      ap (λ b. not (a x) || b)
      (some-append a base differ (p ∷ opposite q ∷ []) ∙ ap (λ b. some_differs || (literal_in a base p || (b || false))) (opposite-in a base q))

  two-say : (p q : Literal) (x : ℕ) → Satisfies a (two_clauses base differ p q x) → a x ≡ true → some_differs ≡ false → literal_in a base p ≡ literal_in a base q
  two-say p q x all is none =
      let one = settled_clause base x (differ ++ opposite p ∷ q ∷ []) in
      let other = settled_clause base x (differ ++ p ∷ opposite q ∷ []) in
      same-said (a x) some_differs (literal_in a base p) (literal_in a base q)
      (sym (first-value x p q) ∙ settled-says a base x (differ ++ opposite p ∷ q ∷ []) (satisfies-front a one other all))
      (sym (second-value x p q) ∙ settled-says a base x (differ ++ p ∷ opposite q ∷ []) (satisfies-behind a one other all)) is none

  two-hold : (p q : Literal) (x : ℕ) → (a x ≡ true → some_differs ≡ false → literal_in a base p ≡ literal_in a base q) → Satisfies a (two_clauses base differ p q x)
  two-hold p q x is =
      satisfies-both a (settled_clause base x (differ ++ opposite p ∷ q ∷ [])) (settled_clause base x (differ ++ p ∷ opposite q ∷ []))
      (settled-holds a base x (differ ++ opposite p ∷ q ∷ []) (first-value x p q ∙ first-holds (a x) some_differs (literal_in a base p) (literal_in a base q) is))
      (settled-holds a base x (differ ++ p ∷ opposite q ∷ []) (second-value x p q ∙ second-holds (a x) some_differs (literal_in a base p) (literal_in a base q) is))

  -- for each selector
  groups-say : (p q : Literal) (xs : List ℕ) → Satisfies a (groups_clauses base differ p q xs) → (x : ℕ) → Contains xs x → a x ≡ true
      → some_differs ≡ false → literal_in a base p ≡ literal_in a base q
  unfolding groups_clauses
  groups-say p q [] all x member is none = absurd (Contains-empty x member)
  groups-say p q (y ∷ xs) all x member is none =
      by (Contains-cons y xs x member)
      (λ later. groups-say p q xs (satisfies-behind a (two_clauses base differ p q y) (groups_clauses base differ p q xs) all) x later is none)
    where
      by : (y ≡ x) ⊎ Contains xs x → (Contains xs x → literal_in a base p ≡ literal_in a base q) → literal_in a base p ≡ literal_in a base q
      by (inl same) rest = two-say p q y (satisfies-front a (two_clauses base differ p q y) (groups_clauses base differ p q xs) all) (ap a same ∙ is) none
      by (inr later) rest = rest later

  groups-hold : (p q : Literal) (xs : List ℕ)
      → ((x : ℕ) → Contains xs x → a x ≡ true → some_differs ≡ false → literal_in a base p ≡ literal_in a base q)
      → Satisfies a (groups_clauses base differ p q xs)
  unfolding groups_clauses
  groups-hold p q [] is = none-satisfied a
  groups-hold p q (x ∷ xs) is =
      satisfies-both a (two_clauses base differ p q x) (groups_clauses base differ p q xs)
      (two-hold p q x (is x (Contains-first x xs)))
      (groups-hold p q xs (λ y member. is y (Contains-later x xs y member)))

  -- for each bit
  pub bits-say : (ps qs : List Literal) (groups : List ℕ) → length ps ≡ length qs → Satisfies a (bits_clauses base differ ps qs groups)
      → (x : ℕ) → Contains groups x → a x ≡ true → some_differs ≡ false → map (literal_in a base) ps ≡ map (literal_in a base) qs
  unfolding bits_clauses
  bits-say [] [] groups wide all x member is none = refl
  bits-say [] (q ∷ qs) groups wide all x member is none = absurd (omega (arith, wide))
  bits-say (p ∷ ps) [] groups wide all x member is none = absurd (omega (arith, wide))
  bits-say (p ∷ ps) (q ∷ qs) groups wide all x member is none =
      ap₂ (λ v vs. v ∷ vs)
      (groups-say p q groups (satisfies-front a (groups_clauses base differ p q groups) (bits_clauses base differ ps qs groups) all) x member is none)
      (bits-say ps qs groups (omega (arith, wide)) (satisfies-behind a (groups_clauses base differ p q groups) (bits_clauses base differ ps qs groups) all) x member is none)

  first-same : (v w : Bool) (vs ws : List Bool) → v ∷ vs ≡ w ∷ ws → v ≡ w
  first-same v w vs ws same = cc

  rest-same : (v w : Bool) (vs ws : List Bool) → v ∷ vs ≡ w ∷ ws → vs ≡ ws
  rest-same v w vs ws same = cc

  pub bits-hold : (ps qs : List Literal) (groups : List ℕ)
      → ((x : ℕ) → Contains groups x → a x ≡ true → some_differs ≡ false → map (literal_in a base) ps ≡ map (literal_in a base) qs)
      → Satisfies a (bits_clauses base differ ps qs groups)
  unfolding bits_clauses
  bits-hold [] qs groups is = none-satisfied a
  bits-hold (p ∷ ps) [] groups is = none-satisfied a
  bits-hold (p ∷ ps) (q ∷ qs) groups is =
      satisfies-both a (groups_clauses base differ p q groups) (bits_clauses base differ ps qs groups)
      (groups-hold p q groups (λ x member on none. first-same (literal_in a base p) (literal_in a base q) (map (literal_in a base) ps) (map (literal_in a base) qs) (is x member on none)))
      (bits-hold ps qs groups (λ x member on none. rest-same (literal_in a base p) (literal_in a base q) (map (literal_in a base) ps) (map (literal_in a base) qs) (is x member on none)))
