-- A left side reads as many bits of what is assigned as it has, and no more.
use Rattle.std.proofs.Common.{ℕ, ◌+◌, ◌-◌, ◌≡◌, ◌<◌, ◌≤◌, Bool, true, false, ◌&&◌, List, [], ◌∷◌, length, refl, ap, ◌∙◌, arith, Option, Some, None}
use Rattle.std.specs.Prelude.{ℤ, ◌+ℤ◌, ◌==◌, nat_lt, nat_le, if◌then◌else◌}
use Rattle.std.proofs.lemmas.Bool.{and_parts, ltb-true, leb-true}
use Rattle.std.proofs.Math.Path.{fun_ext}
use Rattle.design_core.specs.declared.signal.Signal.{Signal}
use Rattle.design_core.specs.declared.statement.Part.{Part}
use Rattle.design_core.specs.declared.statement.Part.TheVariants.{Whole, Slice, Pick, Word}
use Rattle.design_core.specs.Valuation.{Valuation, width_at, position_at, word_at}
use Rattle.design_core.specs.Value.{index_value}
use Rattle.design_core.specs.Store.{part_width, parts_width, with_bits, with_bit, with_picked, with_word, store_part, store}

-- the same number of lowest bits
abbrev pub SameBelow : ℕ → (ℕ → Bool) → (ℕ → Bool) → Type 0
SameBelow width f g = (b : ℕ) → b < width → f b ≡ g b

with_bits-bits : (M : Valuation) (signal from width : ℕ) (f g : ℕ → Bool) → SameBelow width f g
    → with_bits M signal from width f ≡ with_bits M signal from width g
with_bits-bits M signal from width f g same = fun_ext (λ s. fun_ext (λ p. at s p (s == signal && nat_le from p && nat_lt p (from + width)) refl))
  where
    at : (s p : ℕ) (t : Bool) → (s == signal && nat_le from p && nat_lt p (from + width)) ≡ t
        → (if t then f (p - from) else M s p) ≡ (if t then g (p - from) else M s p)
    at s p true e =
        let parts = and_parts (s == signal && nat_le from p) (nat_lt p (from + width)) e in
        let low : from ≤ p = leb-true from p (and_parts (s == signal) (nat_le from p) parts.0).1 in
        let high : p < from + width = ltb-true p (from + width) parts.1 in
        same (p - from) (omega arith)
    at s p false e = refl

with_bit-same : (M N : Valuation) (signal : ℕ) (position : Option ℕ) (x y : Bool) → M ≡ N → x ≡ y → with_bit M signal position x ≡ with_bit N signal position y
with_bit-same M N signal None x y m e = m
with_bit-same M N signal (Some position) x y m e = cc

with_picked-bits : (signals : List Signal) (M N : Valuation) (signal : ℕ) (index : ℤ) (b : ℕ) (offsets : List ℤ) (f g : ℕ → Bool) → M ≡ N
    → ((k : ℕ) → b ≤ k → k < b + length offsets → f k ≡ g k)
    → with_picked signals M signal index b offsets f ≡ with_picked signals N signal index b offsets g
with_picked-bits signals M N signal index b [] f g m same = m
with_picked-bits signals M N signal index b (offset ∷ offsets) f g m same =
    let here : f b ≡ g b = same b (omega arith) (omega arith) in
    with_picked-bits signals (with_bit M signal (position_at signals signal (index +ℤ offset)) (f b))
    (with_bit N signal (position_at signals signal (index +ℤ offset)) (g b)) signal index (b + 1) offsets f g
    (with_bit-same M N signal (position_at signals signal (index +ℤ offset)) (f b) (g b) m here)
    (λ k low high. same k (omega arith) (omega arith))

with_word-bits : (M : Valuation) (word : Option ℕ) (from width : ℕ) (f g : ℕ → Bool) → SameBelow width f g
    → with_word M word from width f ≡ with_word M word from width g
with_word-bits M None from width f g same = refl
with_word-bits M (Some signal) from width f g same = with_bits-bits M signal from width f g same

pub store_part-bits : (signals : List Signal) (E M : Valuation) (part : Part) (f g : ℕ → Bool) → SameBelow (part_width signals part) f g
    → store_part signals E M part f ≡ store_part signals E M part g
store_part-bits signals E M (Whole signal) f g same = with_bits-bits M signal 0 (width_at signals signal) f g same
store_part-bits signals E M (Slice signal from width) f g same = with_bits-bits M signal from width f g same
store_part-bits signals E M (Pick signal index offsets) f g same =
    with_picked-bits signals M M signal (index_value signals E index) 0 offsets f g refl (λ k low high. same k (omega arith))
store_part-bits signals E M (Word first count low index from width) f g same =
    with_word-bits M (word_at first count low (index_value signals E index)) from width f g same

-- a left side stores the same where the bits below its width are the same
pub store-bits : (signals : List Signal) (E M : Valuation) (parts : List Part) (f g : ℕ → Bool) → SameBelow (parts_width signals parts) f g
    → store signals E M parts f ≡ store signals E M parts g
store-bits signals E M [] f g same = refl
store-bits signals E M (part ∷ parts) f g same =
    let next : (ℕ → Bool) → Valuation = λ bits. store_part signals E M part (λ b. bits (parts_width signals parts + b)) in
    let first : next f ≡ next g =
    store_part-bits signals E M part (λ b. f (parts_width signals parts + b)) (λ b. g (parts_width signals parts + b))
    (λ b below. same (parts_width signals parts + b) (omega arith)) in
    ap (λ M'. store signals E M' parts f) first ∙ store-bits signals E (next g) parts f g (λ b below. same b (omega arith))
