-- The clauses of the outputs of a cycle are satisfied exactly where each checked bit has its expected value.
use Rattle.std.proofs.Common.{◌≡◌, ℕ, zero, suc, ◌+◌, Bool, true, false, not, ◌||◌, if◌then◌else◌, List, [], ◌∷◌, Some, refl, sym, ◌∙◌, ap, subst, arith}
use Rattle.std.specs.Prelude.{slice_get}
use Rattle.loc_base.proofs.ShelfBools.{not-true}
use Rattle.loc_base.proofs.ShelfOptions.{Some-same}
use Rattle.loc_base.specs.Bits.{bit_of}
use Rattle.gate_base.specs.declared.literal.Literal.{Literal}
use Rattle.gate_base.specs.Literals.{opposite}
use Rattle.design_core.specs.declared.trace.Checked.{Checked}
use Rattle.clause_base.specs.declared.literal.Lit.{Lit}
use Rattle.clause_base.specs.Satisfaction.{Satisfies}
use Rattle.card_counter.proofs.Said.{satisfies-front, satisfies-behind, satisfies-both}
use Rattle.clause_form.specs.Clauses.{clause_of, bit_clauses, word_clauses, words_clauses}
use Rattle.form_laws.specs.Runs.{AreRight}
use Rattle.form_laws.specs.Models.{literal_in}
use Rattle.form_laws.proofs.ClauseValues.{none-satisfied, clause-says, clause-holds, opposite-in}

alone : (b : Bool) → ((b || false) || false) ≡ true → b ≡ true
alone true is = refl
alone false is = cc

alone-from : (b : Bool) → b ≡ true → ((b || false) || false) ≡ true
alone-from true is = refl
alone-from false is = cc

module _ (a : ℕ → Bool) (base : ℕ) where
  -- the clause of a bit, by whether it is checked and what is expected
  abbrev expected_clauses : Bool → Bool → Literal → List (List Lit)
  expected_clauses checked value l = if checked then clause_of base ((if value then l else opposite l) ∷ []) [] else []

  bit-says : (checked value : Bool) (l : Literal) → Satisfies a (expected_clauses checked value l) → checked ≡ true
      → literal_in a base l ≡ value
  bit-says true true l all is = alone (literal_in a base l) (clause-says a base [] (l ∷ []) all)
  bit-says true false l all is =
      not-true (literal_in a base l)
      (sym (opposite-in a base l) ∙ alone (literal_in a base (opposite l)) (clause-says a base [] (opposite l ∷ []) all))
  bit-says false value l all is = cc

  bit-holds : (checked value : Bool) (l : Literal) → (checked ≡ true → literal_in a base l ≡ value)
      → Satisfies a (expected_clauses checked value l)
  bit-holds true true l is = clause-holds a base [] (l ∷ []) (alone-from (literal_in a base l) (is refl))
  bit-holds true false l is =
      clause-holds a base [] (opposite l ∷ [])
      (alone-from (literal_in a base (opposite l)) (opposite-in a base l ∙ ap not (is refl)))
  bit-holds false value l is = none-satisfied a

  -- the bits of a word from one on are right where they are checked
  abbrev WordIsRight : Checked → ℕ → List Literal → Type 0
  WordIsRight checked bit word =
      (b : ℕ) (l : Literal) → slice_get word b ≡ Some l → bit_of checked.mask (bit + b) ≡ true
      → literal_in a base l ≡ bit_of checked.value (bit + b)

  word-says : (checked : Checked) (bit : ℕ) (word : List Literal) → Satisfies a (word_clauses base checked bit word)
      → WordIsRight checked bit word
  unfolding word_clauses bit_clauses
  word-says checked bit [] all b l there is = cc
  word-says checked bit (x ∷ word) all zero l there is =
      let here : bit ≡ bit + 0 = omega arith in
      let same : x ≡ l = Some-same there in
      subst (λ n. bit_of checked.mask n ≡ true → literal_in a base l ≡ bit_of checked.value n) here
      (subst (λ y. bit_of checked.mask bit ≡ true → literal_in a base y ≡ bit_of checked.value bit) same
      (bit-says (bit_of checked.mask bit) (bit_of checked.value bit) x
      (satisfies-front a (bit_clauses base checked bit x) (word_clauses base checked (bit + 1) word) all))) is
  word-says checked bit (x ∷ word) all (suc b) l there is =
      let number : bit + 1 + b ≡ bit + suc b = omega arith in
      subst (λ n. bit_of checked.mask n ≡ true → literal_in a base l ≡ bit_of checked.value n) number
      (word-says checked (bit + 1) word
      (satisfies-behind a (bit_clauses base checked bit x) (word_clauses base checked (bit + 1) word) all) b l there) is

  word-holds : (checked : Checked) (bit : ℕ) (word : List Literal) → WordIsRight checked bit word
      → Satisfies a (word_clauses base checked bit word)
  unfolding word_clauses bit_clauses
  word-holds checked bit [] right = none-satisfied a
  word-holds checked bit (x ∷ word) right =
      let here : bit + 0 ≡ bit = omega arith in
      satisfies-both a (bit_clauses base checked bit x) (word_clauses base checked (bit + 1) word)
      (bit-holds (bit_of checked.mask bit) (bit_of checked.value bit) x
      (subst (λ n. bit_of checked.mask n ≡ true → literal_in a base x ≡ bit_of checked.value n) here (right 0 x refl)))
      (word-holds checked (bit + 1) word
      (λ b l there.
      let number : bit + suc b ≡ bit + 1 + b = omega arith in
      subst (λ n. bit_of checked.mask n ≡ true → literal_in a base l ≡ bit_of checked.value n) number (right (suc b) l there)))

  first-word : (checked : Checked) (word : List Literal) → WordIsRight checked 0 word
      → (b : ℕ) (l : Literal) → slice_get word b ≡ Some l → bit_of checked.mask b ≡ true
      → literal_in a base l ≡ bit_of checked.value b
  first-word checked word right b l there =
      let number : 0 + b ≡ b = omega arith in
      subst (λ n. bit_of checked.mask n ≡ true → literal_in a base l ≡ bit_of checked.value n) number (right b l there)

  word-first : (checked : Checked) (word : List Literal)
      → ((b : ℕ) (l : Literal) → slice_get word b ≡ Some l → bit_of checked.mask b ≡ true → literal_in a base l ≡ bit_of checked.value b)
      → WordIsRight checked 0 word
  word-first checked word right b l there =
      let number : b ≡ 0 + b = omega arith in
      subst (λ n. bit_of checked.mask n ≡ true → literal_in a base l ≡ bit_of checked.value n) number (right b l there)

  pub words-say : (expected : List Checked) (words : List (List Literal)) → Satisfies a (words_clauses base expected words)
      → AreRight (literal_in a base) words expected
  unfolding words_clauses
  words-say [] words all i b word checked l in_words in_expected in_word is = cc
  words-say (c ∷ expected) [] all i b word checked l in_words in_expected in_word is = cc
  words-say (c ∷ expected) (w ∷ words) all zero b word checked l in_words in_expected in_word is =
      let right = first-word c w (word-says c 0 w (satisfies-front a (word_clauses base c 0 w) (words_clauses base expected words) all)) in
      subst (λ (x : Checked). bit_of x.mask b ≡ true → literal_in a base l ≡ bit_of x.value b) (Some-same in_expected)
      (right b l (ap (λ ls. slice_get ls b) (Some-same in_words) ∙ in_word)) is
  words-say (c ∷ expected) (w ∷ words) all (suc i) b word checked l in_words in_expected in_word is =
      words-say expected words (satisfies-behind a (word_clauses base c 0 w) (words_clauses base expected words) all)
      i b word checked l in_words in_expected in_word is

  pub words-hold : (expected : List Checked) (words : List (List Literal)) → AreRight (literal_in a base) words expected
      → Satisfies a (words_clauses base expected words)
  unfolding words_clauses
  words-hold [] words right = none-satisfied a
  words-hold (c ∷ expected) [] right = none-satisfied a
  words-hold (c ∷ expected) (w ∷ words) right =
      satisfies-both a (word_clauses base c 0 w) (words_clauses base expected words)
      (word-holds c 0 w (word-first c w (λ b l there is. right 0 b w c l refl refl there is)))
      (words-hold expected words
      (λ i b word checked l in_words in_expected in_word is. right (suc i) b word checked l in_words in_expected in_word is))
