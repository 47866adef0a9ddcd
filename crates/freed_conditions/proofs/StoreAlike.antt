-- What a left side of some signals stores into them is the same with more signals behind them.
use Rattle.std.proofs.Common.{ℕ, ◌+◌, ◌-◌, ◌≡◌, ◌<◌, Bool, true, false, ◌&&◌, List, [], ◌∷◌, ◌++◌, length, refl, ap, ◌∙◌, Option, Some, None}
use Rattle.std.specs.Prelude.{ℤ, ◌+ℤ◌, ◌==◌, nat_lt, nat_le, if◌then◌else◌}
use Rattle.std.specs.List.{list_all}
use Rattle.std.proofs.lemmas.Bool.{and_parts}
use Rattle.design_core.specs.declared.signal.Signal.{Signal}
use Rattle.design_core.specs.declared.statement.Part.{Part}
use Rattle.design_core.specs.declared.statement.Part.TheVariants.{Whole, Slice, Pick, Word}
use Rattle.design_core.specs.Valuation.{Valuation, width_at, position_at, word_at}
use Rattle.design_core.specs.Value.{index_value}
use Rattle.design_core.specs.Store.{part_width, parts_width, with_bits, with_bit, with_picked, with_word, store_part, store}
use Rattle.design_core.specs.After.{Updates, after_set}
use Rattle.design_core.specs.WellFormed.{is_signal, is_width, words_fit, typed_fits, part_fits}
use Rattle.freed_conditions.specs.Alike.{AgreeBelow, Alike}
use Rattle.freed_conditions.proofs.SignalsMore.{signal-below, width_at-more, position_at-more}
use Rattle.freed_conditions.proofs.ValueAlike.{index_value-alike}

pub part_width-more : (signals hidden : List Signal) (part : Part) → part_fits signals part ≡ true → part_width (signals ++ hidden) part ≡ part_width signals part
part_width-more signals hidden (Whole s) fits = width_at-more signals hidden s (signal-below signals s fits)
part_width-more signals hidden (Slice _ _ _) fits = refl
part_width-more signals hidden (Pick _ _ _) fits = refl
part_width-more signals hidden (Word _ _ _ _ _ _) fits = refl

pub parts_width-more : (signals hidden : List Signal) (parts : List Part) → list_all (part_fits signals) parts ≡ true
    → parts_width (signals ++ hidden) parts ≡ parts_width signals parts
parts_width-more signals hidden [] fits = refl
parts_width-more signals hidden (part ∷ parts) fits =
    let fit = and_parts (part_fits signals part) (list_all (part_fits signals) parts) fits in
    ap (λ w. w + parts_width (signals ++ hidden) parts) (part_width-more signals hidden part fit.0)
    ∙ ap (λ w. part_width signals part + w) (parts_width-more signals hidden parts fit.1)

with_bits-alike : (M N : Valuation) (signal from width : ℕ) (bits : ℕ → Bool) (s p : ℕ) → M s p ≡ N s p
    → with_bits M signal from width bits s p ≡ with_bits N signal from width bits s p
with_bits-alike M N signal from width bits s p same =
    ap (λ x. if s == signal && nat_le from p && nat_lt p (from + width) then bits (p - from) else x) same

with_bit-alike : (M N : Valuation) (signal : ℕ) (position : Option ℕ) (x : Bool) (s p : ℕ) → M s p ≡ N s p
    → with_bit M signal position x s p ≡ with_bit N signal position x s p
with_bit-alike M N signal None x s p same = same
with_bit-alike M N signal (Some position) x s p same = with_bits-alike M N signal position 1 (λ _. x) s p same

with_picked-alike : (signals hidden : List Signal) (M N : Valuation) (signal : ℕ) (index : ℤ) (b : ℕ) (offsets : List ℤ) (bits : ℕ → Bool) (s p : ℕ)
    → signal < length signals → M s p ≡ N s p
    → with_picked (signals ++ hidden) M signal index b offsets bits s p ≡ with_picked signals N signal index b offsets bits s p
with_picked-alike signals hidden M N signal index b [] bits s p below same = same
with_picked-alike signals hidden M N signal index b (offset ∷ offsets) bits s p below same =
    let more : Option ℕ = position_at (signals ++ hidden) signal (index +ℤ offset) in
    let own : Option ℕ = position_at signals signal (index +ℤ offset) in
    with_picked-alike signals hidden (with_bit M signal more (bits b)) (with_bit N signal own (bits b)) signal index (b + 1) offsets bits s p below
    (ap (λ (o : Option ℕ). with_bit M signal o (bits b) s p) (position_at-more signals hidden signal (index +ℤ offset) below)
    ∙ with_bit-alike M N signal own (bits b) s p same)

with_word-alike : (M N : Valuation) (word : Option ℕ) (from width : ℕ) (bits : ℕ → Bool) (s p : ℕ) → M s p ≡ N s p
    → with_word M word from width bits s p ≡ with_word N word from width bits s p
with_word-alike M N None from width bits s p same = same
with_word-alike M N (Some signal) from width bits s p same = with_bits-alike M N signal from width bits s p same

store_part-alike : (signals hidden : List Signal) (E F M N : Valuation) (part : Part) (bits : ℕ → Bool) (s p : ℕ) → part_fits signals part ≡ true
    → AgreeBelow (length signals) E F → M s p ≡ N s p
    → store_part (signals ++ hidden) E M part bits s p ≡ store_part signals F N part bits s p
store_part-alike signals hidden E F M N (Whole signal) bits s p fits agree same =
    ap (λ w. with_bits M signal 0 w bits s p) (width_at-more signals hidden signal (signal-below signals signal fits))
    ∙ with_bits-alike M N signal 0 (width_at signals signal) bits s p same
store_part-alike signals hidden E F M N (Slice signal from width) bits s p fits agree same = with_bits-alike M N signal from width bits s p same
store_part-alike signals hidden E F M N (Pick signal index offsets) bits s p fits agree same =
    let fit = and_parts (is_signal signals signal && is_width (length offsets)) (typed_fits signals index) fits in
    let below : signal < length signals = signal-below signals signal (and_parts (is_signal signals signal) (is_width (length offsets)) fit.0).0 in
    ap (λ i. with_picked (signals ++ hidden) M signal i 0 offsets bits s p) (index_value-alike signals hidden E F index fit.1 agree)
    ∙ with_picked-alike signals hidden M N signal (index_value signals F index) 0 offsets bits s p below same
store_part-alike signals hidden E F M N (Word first count low index from width) bits s p fits agree same =
    let fit = and_parts (words_fit signals first count from width) (typed_fits signals index) fits in
    ap (λ i. with_word M (word_at first count low i) from width bits s p) (index_value-alike signals hidden E F index fit.1 agree)
    ∙ with_word-alike M N (word_at first count low (index_value signals F index)) from width bits s p same

pub store-alike : (signals hidden : List Signal) (E F M N : Valuation) (parts : List Part) (bits : ℕ → Bool) (s p : ℕ)
    → list_all (part_fits signals) parts ≡ true → AgreeBelow (length signals) E F → M s p ≡ N s p
    → store (signals ++ hidden) E M parts bits s p ≡ store signals F N parts bits s p
store-alike signals hidden E F M N [] bits s p fits agree same = same
store-alike signals hidden E F M N (part ∷ parts) bits s p fits agree same =
    let fit = and_parts (part_fits signals part) (list_all (part_fits signals) parts) fits in
    let here : ℕ → Bool = λ b. bits (parts_width signals parts + b) in
    ap (λ w. store (signals ++ hidden) E (store_part (signals ++ hidden) E M part (λ b. bits (w + b))) parts bits s p) (parts_width-more signals hidden parts fit.1)
    ∙ store-alike signals hidden E F (store_part (signals ++ hidden) E M part here) (store_part signals F N part here) parts bits s p fit.1 agree
    (store_part-alike signals hidden E F M N part here s p fit.0 agree same)

pub after_set-alike : (signals hidden : List Signal) (parts : List Part) (bits : ℕ → Bool) (later : Bool) (m n : Updates)
    → list_all (part_fits signals) parts ≡ true → Alike (length signals) m n
    → Alike (length signals) (after_set (signals ++ hidden) parts bits later m) (after_set signals parts bits later n)
after_set-alike signals hidden parts bits true m n fits agree = record {
  now = agree.now;
  later = record { same = λ s b below. store-alike signals hidden m.now n.now m.later n.later parts bits s b fits agree.now (agree.later.same s b below) };
}
after_set-alike signals hidden parts bits false m n fits agree = record {
  now = record { same = λ s b below. store-alike signals hidden m.now n.now m.now n.now parts bits s b fits agree.now (agree.now.same s b below) };
  later = agree.later;
}
