-- Two words of each signal compared in some bits, from the first on.
use Rattle.std.proofs.Common.{◌≡◌, ℕ, ◌+◌, ◌<◌, ◌≤◌, List, length, get_or, sym, ◌∙◌, subst, arith, ◌⊎◌, inl, inr}
use Rattle.std.specs.Prelude.{Bool, IsTrue}
use Rattle.std.proofs.lemmas.Bool.{cases_lt, cases_order}
use Rattle.loc_base.specs.declared.bits.Bits.{Bits}
use Rattle.loc_base.specs.Bits.{width_of}
use Rattle.loc_base.proofs.ShelfLists.{slice_get-at}
use Rattle.design_core.specs.declared.signal.Signal.{Signal}
use Rattle.design_core.specs.Valuation.{width_at}
use Rattle.design_core.specs.Words.{valuation_of, AreWordsOf}
use Rattle.design_core.specs.Reads.{AgreeOn}
use Rattle.plain_values.proofs.EvaluateWords.{word-width, words-length}
use Rattle.plain_sim.proofs.EvaluateSweep.{valuation-past, valuation-high}

pub bits-next : (test one other : ℕ → Bool) (k : ℕ) → ((b : ℕ) → b < k → IsTrue (test b) → one b ≡ other b) → (IsTrue (test k) → one k ≡ other k)
    → (b : ℕ) → b < k + 1 → IsTrue (test b) → one b ≡ other b
bits-next test one other k before here b h passes = at (cases_order b k)
  where
    at : (b ≡ k) ⊎ ((b < k) ⊎ (k < b)) → one b ≡ other b
    at (inl e) =
        let P : ℕ → Type 0 = λ n. IsTrue (test n) → one n ≡ other n in
        subst P (sym e) here passes
    at (inr (inl low)) = before b low passes
    at (inr (inr high)) = absurd (omega (arith, h, high))

pub signals-next : (signals : List Signal) (test : ℕ → ℕ → Bool) (one other : List Bits) (k : ℕ) (word : Bits) → AreWordsOf signals one → AreWordsOf signals other
    → k < length one → word ≡ get_or one k word
    → ((s b : ℕ) → s < k → IsTrue (test s b) → valuation_of one s b ≡ valuation_of other s b)
    → ((b : ℕ) → b < width_of word → IsTrue (test k b) → valuation_of one k b ≡ valuation_of other k b)
    → (s b : ℕ) → s < k + 1 → IsTrue (test s b) → valuation_of one s b ≡ valuation_of other s b
signals-next signals test one other k word one_fit other_fit within is before here s b h passes = at (cases_order s k)
  where
    width : width_of word ≡ width_at signals k
    width = word-width signals one k word one_fit (slice_get-at one k word within is)

    all : (b : ℕ) → IsTrue (test k b) → (b < width_of word) ⊎ (width_of word ≤ b) → valuation_of one k b ≡ valuation_of other k b
    all b passes (inl low) = here b low passes
    all b passes (inr high) =
        valuation-high signals one k b one_fit (omega (arith, high, width)) ∙ sym (valuation-high signals other k b other_fit (omega (arith, high, width)))

    at : (s ≡ k) ⊎ ((s < k) ⊎ (k < s)) → valuation_of one s b ≡ valuation_of other s b
    at (inl e) =
        let P : ℕ → Type 0 = λ n. IsTrue (test n b) → valuation_of one n b ≡ valuation_of other n b in
        subst P (sym e) (λ passes. all b passes (cases_lt b (width_of word))) passes
    at (inr (inl low)) = before s b low passes
    at (inr (inr high)) = absurd (omega (arith, h, high))

pub signals-all : (signals : List Signal) (test : ℕ → ℕ → Bool) (one other : List Bits) (k : ℕ) → AreWordsOf signals one → AreWordsOf signals other → length one ≤ k
    → ((s b : ℕ) → s < k → IsTrue (test s b) → valuation_of one s b ≡ valuation_of other s b)
    → AgreeOn test (valuation_of one) (valuation_of other)
signals-all signals test one other k one_fit other_fit h before = record { same = λ s b passes. at s b passes (cases_lt s (length one)) }
  where
    at : (s b : ℕ) → IsTrue (test s b) → (s < length one) ⊎ (length one ≤ s) → valuation_of one s b ≡ valuation_of other s b
    at s b passes (inl low) = before s b (omega (arith, low, h)) passes
    at s b passes (inr high) =
        valuation-past one s b high ∙ sym (valuation-past other s b (omega (arith, high, words-length signals one one_fit, words-length signals other other_fit)))
