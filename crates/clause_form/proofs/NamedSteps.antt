-- Clauses of which those that aren't wanted are empty.
use Rattle.std.proofs.Common.{◌≡◌, ℕ, suc, ◌+◌, ◌-◌, ◌<◌, ◌≤◌, Bool, true, false, not, ◌||◌, if◌then◌else◌, List, [], ◌∷◌, ◌++◌, length, get_or, take, refl, sym, subst, ◌∙◌, ap, arith, append_assoc, append-nil}
use Rattle.std.proofs.lemmas.List.{get_or_past, length-append, take_all, take_more}
use Rattle.clause_base.specs.declared.literal.Lit.{Lit}
use Rattle.clause_form.specs.Named.{named_from, skips_three}

none-of : (a b c : Bool) → not (a || (b || c)) ≡ true → (a ≡ false) × (b ≡ false) × (c ≡ false)
none-of true b c is = cc
none-of false true c is = cc
none-of false false true is = cc
none-of false false false is = (refl, refl, refl)

last-of : (a b c : Bool) → c ≡ true → not (a || (b || c)) ≡ false
last-of true b c is = refl
last-of false true c is = refl
last-of false false true is = refl
last-of false false false is = cc

module _ (named : List Bool) where
  pub length-named : (place : ℕ) (clauses : List (List Lit)) → length (named_from named place clauses) ≡ length clauses
  unfolding named_from
  length-named place [] = refl
  length-named place (clause ∷ clauses) = ap suc (length-named (place + 1) clauses)

  pub named-append : (place : ℕ) (a b : List (List Lit))
      → named_from named place (a ++ b) ≡ named_from named place a ++ named_from named (place + length a) b
  unfolding named_from
  named-append place [] b = let here : place ≡ place + 0 = omega arith in ap (λ p. named_from named p b) here
  named-append place (clause ∷ a) b =
      let next : place + 1 + length a ≡ place + suc (length a) = omega arith in
      ap (λ cs. (if get_or named place true then clause else []) ∷ cs)
      (named-append (place + 1) a b ∙ ap (λ p. named_from named (place + 1) a ++ named_from named p b) next)

  -- clauses behind clauses
  pub named-then : (clauses a b : List (List Lit))
      → (clauses ++ named_from named (length clauses) a) ++ named_from named (length (clauses ++ named_from named (length clauses) a)) b
      ≡ clauses ++ named_from named (length clauses) (a ++ b)
  named-then clauses a b =
      let long : length (clauses ++ named_from named (length clauses) a) ≡ length clauses + length a =
      length-append clauses (named_from named (length clauses) a) ∙ ap (λ n. length clauses + n) (length-named (length clauses) a) in
      append_assoc clauses (named_from named (length clauses) a) (named_from named (length (clauses ++ named_from named (length clauses) a)) b)
      ∙ ap (λ p. clauses ++ (named_from named (length clauses) a ++ named_from named p b)) long
      ∙ ap (λ cs. clauses ++ cs) (sym (named-append (length clauses) a b))

  pub then-named : (clauses next last a b : List (List Lit)) → next ≡ clauses ++ named_from named (length clauses) a
      → last ≡ next ++ named_from named (length next) b → last ≡ clauses ++ named_from named (length clauses) (a ++ b)
  then-named clauses next last a b is last_is =
      last_is ∙ ap (λ (cs : List (List Lit)). cs ++ named_from named (length cs) b) is ∙ named-then clauses a b

  -- one clause
  pub named-one : (place : ℕ) (clause : List Lit) → get_or named place true ≡ true → named_from named place (clause ∷ []) ≡ clause ∷ []
  unfolding named_from
  named-one place clause is = ap (λ b. (if b then clause else []) ∷ []) is

  pub unnamed-one : (place : ℕ) (clause : List Lit) → get_or named place true ≡ false → named_from named place (clause ∷ []) ≡ [] ∷ []
  unfolding named_from
  unnamed-one place clause is = ap (λ b. (if b then clause else []) ∷ []) is

  -- an empty clause stands for any that isn't wanted
  pub skipped : (place : ℕ) (clauses : List (List Lit)) → length clauses ≡ 1 → get_or named place true ≡ false
      → named_from named place ([] ∷ []) ≡ named_from named place clauses
  skipped place [] one is = absurd (omega (arith, one))
  skipped place (clause ∷ []) one is = unnamed-one place [] is ∙ sym (unnamed-one place clause is)
  skipped place (clause ∷ next ∷ clauses) one is = absurd (omega (arith, one))

  -- three empty ones for three that aren't wanted
  pub skipped-three : (place : ℕ) (a b c : List Lit) → skips_three named place ≡ true
      → named_from named place (a ∷ b ∷ c ∷ []) ≡ [] ∷ [] ∷ [] ∷ []
  unfolding named_from skips_three
  skipped-three place a b c is =
      let none = none-of (get_or named place true) (get_or named (place + 1) true) (get_or named (place + 2) true) is in
      let next : place + 2 ≡ place + 1 + 1 = omega arith in
      ap (λ m. (if m then a else []) ∷ named_from named (place + 1) (b ∷ c ∷ [])) none.0
      ∙ ap (λ m. [] ∷ (if m then b else []) ∷ named_from named (place + 1 + 1) (c ∷ [])) none.1
      ∙ ap (λ (cs : List (List Lit)). [] ∷ [] ∷ cs) (unnamed-one (place + 1 + 1) c (subst (λ p. get_or named p true ≡ false) next none.2))

  -- where one has no mark, it is wanted
  pub short-three : (place : ℕ) → length named - place < 3 → skips_three named place ≡ false
  unfolding skips_three
  short-three place few =
      last-of (get_or named place true) (get_or named (place + 1) true) (get_or named (place + 2) true) (get_or_past named (place + 2) true (omega (arith, few)))

  pub named-nothing : (place : ℕ) → named_from named place [] ≡ []
  unfolding named_from
  named-nothing place = refl

  -- one more of a list
  pub named-more : (clauses next last all : List (List Lit)) (i : ℕ) (clause : List Lit) → i < length all
      → next ≡ clauses ++ named_from named (length clauses) (take i all) → clause ≡ get_or all i []
      → last ≡ next ++ named_from named (length next) (clause ∷ [])
      → last ≡ clauses ++ named_from named (length clauses) (take (i + 1) all)
  named-more clauses next last all i clause within before is last_is =
      then-named clauses next last (take i all) (clause ∷ []) before last_is
      ∙ ap (λ (c : List Lit). clauses ++ named_from named (length clauses) (take i all ++ c ∷ [])) is
      ∙ ap (λ cs. clauses ++ named_from named (length clauses) cs) (sym (take_more all i [] within))

  pub named-begin : (clauses all : List (List Lit)) → clauses ≡ clauses ++ named_from named (length clauses) (take 0 all)
  unfolding named_from
  named-begin clauses all = sym (append-nil clauses)

  pub named-end : (clauses all : List (List Lit)) (i : ℕ) → length all ≤ i
      → clauses ++ named_from named (length clauses) (take i all) ≡ clauses ++ named_from named (length clauses) all
  named-end clauses all i past = ap (λ cs. clauses ++ named_from named (length clauses) cs) (take_all i all past)

  pub unmarked : (place : ℕ) → length named ≤ place → get_or named place true ≡ true
  unmarked place past = get_or_past named place true past

pub ruleset ones = (named-one, unnamed-one, unmarked)

pub ruleset threes = (short-three)

-- without marks each clause is kept
pub named-whole : (place : ℕ) (clauses : List (List Lit)) → named_from [] place clauses ≡ clauses
unfolding named_from
named-whole place [] = refl
named-whole place (clause ∷ clauses) = ap (λ cs. clause ∷ cs) (named-whole (place + 1) clauses)
