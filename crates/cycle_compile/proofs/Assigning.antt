-- What an assignment leaves in the cells of the signals.
use Rattle.std.proofs.Common.{◌≡◌, ◌≢◌, ℕ, ◌+◌, ◌-◌, ◌<◌, ◌≤◌, List, [], ◌∷◌, length, take, drop, ◌+ℤ◌, arith, sym, refl, ◌∙◌, ap, subst}
use Rattle.std.specs.Prelude.{Bool, true, false, ◌&&◌, ◌==◌, if◌then◌else◌, nat_le, nat_lt, IsTrue, ℤ, slice_get, Option, Some, None}
use Rattle.std.specs.Option.{option_map_or}
use Rattle.std.specs.List.{list_all}
use Rattle.std.proofs.Math.Path.{fun_ext}
use Rattle.std.proofs.lemmas.Bool.{and_parts, lt-ltb, le-ltb, ltb-true, ltb-false, leb-true, eqb-true, eq-eqb}
use Rattle.loc_base.proofs.ShelfBools.{equal-false}
use Rattle.design_core.specs.declared.signal.Signal.{Signal}
use Rattle.design_core.specs.declared.design.Design.{Design}
use Rattle.design_core.specs.declared.statement.Part.{Part}
use Rattle.design_core.specs.declared.statement.Part.TheVariants.{Whole, Slice, Pick, Word}
use Rattle.design_core.specs.Valuation.{Valuation, bit, width_at, position_at, word_at}
use Rattle.design_core.specs.Value.{index_value}
use Rattle.design_core.specs.Store.{parts_width, with_bits, with_bit, with_picked, with_word, store_part, store}
use Rattle.design_core.specs.After.{Updates, assigned, after_set}
use Rattle.design_core.specs.WellFormed.{is_width, is_signal, slice_fits, words_fit, typed_fits, part_fits}
use Rattle.plain_values.proofs.EvaluateValue.{word_at-within}
use Rattle.plain_values.proofs.EvaluateStore.{whole_now, whole_later}
use Rattle.cycle_code.specs.declared.instruction.Instruction.TheVariants as instruction
use Rattle.cycle_code.specs.Program.{Program, Grown, signals_of, count_of, with_instruction, with_target}
use Rattle.cycle_code.specs.Cells.{width_in, with_held, below, updates_in, with_updates}
use Rattle.cycle_code.specs.Effects.{held_in, with_assigned, effect}
use Rattle.cycle_code.specs.Fitting.{is_cell, is_place, IsSound}
use Rattle.cycle_code.proofs.CellLaws.{updates-same, below-with_held, with_held-other, with_updates-past}
use Rattle.cycle_code.proofs.GrowthLaws.{Grown-trans, both, of_three, of_four, is_cell-grown, is_place-grown, width_in-grown, last-stands}
use Rattle.cycle_code.proofs.SoundLaws.{sound-cells}
use Rattle.cycle_compile.specs.Compiling.{Leads}
use Rattle.cycle_compile.specs.Carrying.{Carries, set_left, whole_of}
use Rattle.cycle_compile.proofs.Leading.{Leads-pushed, count-grown}
use Rattle.cycle_compile.proofs.Placing.{width_in-signal, later-width}

-- ---- one cell of a signal
-- the words that are read, where one is written
below-written : (count s width : ℕ) (bits : ℕ → Bool) (V : Valuation) → s < count
    → below count (with_bits V s 0 width bits) ≡ with_bits (below count V) s 0 width bits
below-written count s width bits V h = fun_ext (λ c. fun_ext (λ b. at c b (nat_lt c count) (c == s) refl refl))
  where
    at : (c b : ℕ) (t here : Bool) → nat_lt c count ≡ t → (c == s) ≡ here
        → (t && (if here && nat_le 0 b && nat_lt b (0 + width) then bits (b - 0) else V c b))
        ≡ (if here && nat_le 0 b && nat_lt b (0 + width) then bits (b - 0) else (t && V c b))
    at c b true here e is = refl
    at c b false true e is =
        let same : c ≡ s = eqb-true c s is in
        let past : count ≤ c = ltb-false c count e in
        absurd (omega (arith, same, past, h))
    at c b false false e is = refl

-- and those of later updates
later-written : (count s width : ℕ) (bits : ℕ → Bool) (V : Valuation) → s < count
    → below count (λ k. with_bits V (count + s) 0 width bits (count + k)) ≡ with_bits (below count (λ k. V (count + k))) s 0 width bits
later-written count s width bits V h =
    fun_ext (λ k. fun_ext (λ b.
    ap (λ t. nat_lt k count && (if t && nat_le 0 b && nat_lt b (0 + width) then bits (b - 0) else V (count + k) b)) (both k (k == s) refl)))
    ∙ below-written count s width bits (λ k. V (count + k)) h
  where
    both : (k : ℕ) (t : Bool) → (k == s) ≡ t → (count + k == count + s) ≡ (k == s)
    both k true e = let same : k ≡ s = eqb-true k s e in eq-eqb (count + k) (count + s) (ap (λ n. count + n) same) ∙ sym e
    both k false e =
        let apart : count + k ≢ count + s = λ same. differ (let equal : k ≡ s = omega (arith, same) in sym (eq-eqb k s equal) ∙ e) in
        equal-false (count + k) (count + s) apart ∙ sym e
      where
        differ : true ≡ false → ⊥
        differ same = absurd cc

-- where a word that is read is written, those of later updates stay
later-kept : (count : ℕ) (widths : List ℕ) (s n : ℕ) (V : Valuation) → s < count
    → below count (λ k. with_held widths s n V (count + k)) ≡ below count (λ k. V (count + k))
later-kept count widths s n V h =
    fun_ext (λ k. fun_ext (λ b. ap (λ f. nat_lt k count && f b)
    (let apart : count + k ≢ s = λ same. absurd (omega (arith, same, h)) in with_held-other widths s n V (count + k) apart)))

-- a whole signal that takes a number
pub written-whole : (signals : List Signal) (widths : List ℕ) (s to n : ℕ) (later : Bool) (V : Valuation) → s < length signals
    → to ≡ (if later then length signals + s else s) → width_in widths to ≡ width_at signals s
    → updates_in (length signals) (with_held widths to n V) ≡ after_set signals (Whole s ∷ []) (bit n) later (updates_in (length signals) V)
written-whole signals widths s to n true V h is same =
    let count : ℕ = length signals in
    ap (λ c. updates_in count (with_held widths c n V)) is
    ∙ updates-same (below-with_held count widths (count + s) n V (omega arith)) refl
    ∙ whole_later signals (below count V) (below count (λ k. V (count + k)))
    (below count (λ k. with_held widths (count + s) n V (count + k))) s n
    (width_in widths (count + s)) true refl (ap (width_in widths) (sym is) ∙ same)
    (later-written count s (width_in widths (count + s)) (bit n) V h)
written-whole signals widths s to n false V h is same =
    let count : ℕ = length signals in
    ap (λ c. updates_in count (with_held widths c n V)) is
    ∙ updates-same refl (later-kept count widths s n V h)
    ∙ whole_now signals (below count V) (below count (λ k. V (count + k))) (below count (with_held widths s n V)) s n
    (width_in widths s) false refl
    (ap (width_in widths) (sym is) ∙ same) (below-written count s (width_in widths s) (bit n) V h)

-- that cell has the signal's width, in every program that a sound one grows into
word-width-grown : (old p : Program) (s to : ℕ) (later : Bool) → IsSound old → Grown old p → s < count_of old
    → to ≡ (if later then count_of old + s else s) → width_in p.widths to ≡ width_at (signals_of p) s
word-width-grown old p s to later sound grown h is =
    let most : count_of old + count_of old + count_of old ≤ length old.widths = sound-cells old sound in
    ap (width_in p.widths) is
    ∙ at later (omega (arith, most))
    ∙ ap (λ (d : Design). width_at d.signals.items s) (sym grown.design)
  where
    at : (l : Bool) → count_of old + count_of old ≤ length old.widths
        → width_in p.widths (if l then count_of old + s else s) ≡ width_at (signals_of old) s
    at true most = width_in-grown old p (count_of old + s) grown
        (lt-ltb (count_of old + s) (length old.widths) (omega (arith, most, h))) ∙ later-width old s sound h
    at false most = width_in-grown old p s grown (lt-ltb s (length old.widths) (omega (arith, most, h))) ∙ width_in-signal old s sound h

word-low : (count s to : ℕ) (later : Bool) → s < count → to ≡ (if later then count + s else s) → to < count + count
word-low count s to true h is = omega (arith, h, is)
word-low count s to false h is = omega (arith, h, is)

-- the instruction of a whole signal
pub set-carries : (old new : Program) (place cell s to : ℕ) (later : Bool) → IsSound old → s < count_of old
    → to ≡ (if later then count_of old + s else s)
    → new ≡ with_instruction (instruction.Set place cell to) old → IsSound new → Grown old new
    → Carries old new (set_left place (Whole s ∷ []) cell later)
set-carries old new place cell s to later sound h at is fine grown = record {
  grown = grown;
  leaves = λ p choice V more has.
      let from : Grown old p = Grown-trans old new p grown more in
      let same : count_of p ≡ count_of old = count-grown old p from in
      let low : to < count_of old + count_of old = word-low (count_of old) s to later h at in
      let at' : to ≡ (if later then count_of p + s else s) = at ∙ ap (λ c. if later then c + s else s) (sym same) in
      let n : ℕ = assigned choice place (held_in p V cell) in
      record {
        W = effect p choice (instruction.Set place cell to) V;
        leads = Leads-pushed (instruction.Set place cell to) old new p choice V is fine more has;
        updates = written-whole (signals_of p) p.widths s to n later V (omega (arith, h, same)) at'
            (word-width-grown old p s to later sound from h at);
        keeps = λ c b past within.
            let other : c ≢ to = λ equal. absurd (omega (arith, equal, past, low, same)) in
            ap (λ f. f b) (with_held-other p.widths to n V c other);
      };
}

-- ---- any left side
-- no bits are stored past the signals
abbrev pub IsBelow : ℕ → Valuation → Type 0
IsBelow count M = (c b : ℕ) → count ≤ c → M c b ≡ false

below-is : (count : ℕ) (V : Valuation) → IsBelow count (below count V)
below-is count V c b past = rw (le-ltb c count past) refl

is-below : (count : ℕ) (M : Valuation) → IsBelow count M → below count M ≡ M
is-below count M h = fun_ext (λ c. fun_ext (λ b. at c b (nat_lt c count) refl))
  where
    at : (c b : ℕ) (t : Bool) → nat_lt c count ≡ t → (t && M c b) ≡ M c b
    at c b true e = refl
    at c b false e = sym (h c b (ltb-false c count e))

bits-below : (count s from width : ℕ) (bits : ℕ → Bool) (M : Valuation) → s < count → IsBelow count M
    → IsBelow count (with_bits M s from width bits)
bits-below count s from width bits M h low c b past =
    let apart : c ≢ s = λ same. absurd (omega (arith, same, past, h)) in
    ap (λ t. if t && nat_le from b && nat_lt b (from + width) then bits (b - from) else M c b) (equal-false c s apart) ∙ low c b past

bit-below : (count s : ℕ) (position : Option ℕ) (on : Bool) (M : Valuation) → s < count → IsBelow count M
    → IsBelow count (with_bit M s position on)
bit-below count s None on M h low = low
bit-below count s (Some position) on M h low = bits-below count s position 1 (λ _. on) M h low

picked-below : (count : ℕ) (signals : List Signal) (s : ℕ) (index : ℤ) (b : ℕ) (offsets : List ℤ) (bits : ℕ → Bool)
    (M : Valuation) → s < count → IsBelow count M
    → IsBelow count (with_picked signals M s index b offsets bits)
picked-below count signals s index b [] bits M h low = low
picked-below count signals s index b (offset ∷ offsets) bits M h low =
    picked-below count signals s index (b + 1) offsets bits (with_bit M s (position_at signals s (index +ℤ offset)) (bits b)) h
    (bit-below count s (position_at signals s (index +ℤ offset)) (bits b) M h low)

word-below : (count : ℕ) (word : Option ℕ) (from width : ℕ) (bits : ℕ → Bool) (M : Valuation)
    → ((s : ℕ) → word ≡ Some s → s < count) → IsBelow count M
    → IsBelow count (with_word M word from width bits)
word-below count None from width bits M h low = low
word-below count (Some s) from width bits M h low = bits-below count s from width bits M (h s refl) low

part-below : (signals : List Signal) (E M : Valuation) (part : Part) (bits : ℕ → Bool) → IsTrue (part_fits signals part)
    → IsBelow (length signals) M
    → IsBelow (length signals) (store_part signals E M part bits)
part-below signals E M (Whole s) bits fits low =
    bits-below (length signals) s 0 (width_at signals s) bits M (ltb-true s (length signals) fits) low
part-below signals E M (Slice s from width) bits fits low =
    let t = of_three (is_signal signals s) (is_width width) (nat_le (from + width) (width_at signals s)) fits in
    bits-below (length signals) s from width bits M (ltb-true s (length signals) t.0) low
part-below signals E M (Pick s index offsets) bits fits low =
    let t = of_three (is_signal signals s) (is_width (length offsets)) (typed_fits signals index) fits in
    picked-below (length signals) signals s (index_value signals E index) 0 offsets bits M (ltb-true s (length signals) t.0) low
part-below signals E M (Word first count lowest index from width) bits fits low =
    let words = and_parts (words_fit signals first count from width) (typed_fits signals index) fits in
    let t = of_four (nat_le 1 count) (nat_le (first + count) (length signals)) (slice_fits signals first from width)
    (list_all (λ s. s.width == width_at signals first) (take count (drop first signals))) words.0 in
    word-below (length signals) (word_at first count lowest (index_value signals E index)) from width bits M
    (λ s is. let within = word_at-within first count s lowest (index_value signals E index) is in
    omega (arith, within.1, leb-true (first + count) (length signals) t.1)) low

store-below : (signals : List Signal) (E M : Valuation) (parts : List Part) (bits : ℕ → Bool) → IsTrue (list_all (part_fits signals) parts)
    → IsBelow (length signals) M → IsBelow (length signals) (store signals E M parts bits)
store-below signals E M [] bits fits low = low
store-below signals E M (part ∷ parts) bits fits low =
    let t = and_parts (part_fits signals part) (list_all (part_fits signals) parts) fits in
    store-below signals E (store_part signals E M part (λ b. bits (parts_width signals parts + b))) parts bits t.1
    (part-below signals E M part (λ b. bits (parts_width signals parts + b)) t.0 low)

set-below : (signals : List Signal) (parts : List Part) (bits : ℕ → Bool) (later : Bool) (m : Updates)
    → IsTrue (list_all (part_fits signals) parts)
    → IsBelow (length signals) m.now → IsBelow (length signals) m.later
    → IsBelow (length signals) (after_set signals parts bits later m).now × IsBelow (length signals)
    (after_set signals parts bits later m).later
set-below signals parts bits true m fits now later = (now, store-below signals m.now m.later parts bits fits later)
set-below signals parts bits false m fits now later = (store-below signals m.now m.now parts bits fits now, later)

-- the cells of the signals, replaced by updates without bits past the signals, are those
pub updates_in-with_updates : (count : ℕ) (m : Updates) (V : Valuation) → IsBelow count m.now → IsBelow count m.later
    → updates_in count (with_updates count m V) ≡ m
updates_in-with_updates count m V now later =
    updates-same
    (fun_ext (λ c. fun_ext (λ b. first c b (nat_lt c count) refl)) ∙ is-below count m.now now)
    (fun_ext (λ k. fun_ext (λ b. second k b (nat_lt k count) refl)) ∙ is-below count m.later later)
  where
    first : (c b : ℕ) (t : Bool) → nat_lt c count ≡ t → (nat_lt c count && with_updates count m V c b) ≡ (nat_lt c count && m.now c b)
    first c b true e = rw e refl
    first c b false e = rw e refl

    second : (k b : ℕ) (t : Bool) → nat_lt k count ≡ t
        → (nat_lt k count && with_updates count m V (count + k) b) ≡ (nat_lt k count && m.later k b)
    second k b true e =
        let low : k < count = ltb-true k count e in
        let back : count + k - count ≡ k = omega arith in
        rw (e, le-ltb (count + k) count (omega arith), lt-ltb (count + k) (count + count) (omega (arith, low))) (ap (λ n. m.later n b) back)
    second k b false e = rw e refl

-- the instruction of any left side
pub assign-carries : (old mid new : Program) (place cell target : ℕ) (parts : List Part) (later : Bool) → target ≡ length old.targets
    → mid ≡ with_target parts old → new ≡ with_instruction (instruction.Assign target place cell later) mid → IsSound new
    → Grown old mid → Grown mid new
    → IsTrue (list_all (part_fits (signals_of old)) parts) → Carries old new (set_left place parts cell later)
assign-carries old mid new place cell target parts later at there is fine placed grown fits = record {
  grown = Grown-trans old mid new placed grown;
  leaves = λ p choice V more has.
      let from : Grown old p = Grown-trans old mid p placed (Grown-trans mid new p grown more) in
      let n : ℕ = assigned choice place (held_in p V cell) in
      let m : Updates = after_set (signals_of p) parts (bit n) later (updates_in (count_of p) V) in
      let found : slice_get p.targets target ≡ Some parts = (Grown-trans mid new p grown more).targets target parts
      (ap (λ (q : Program). slice_get q.targets target) there ∙ ap (slice_get (with_target parts old).targets)
      at ∙ last-stands old.targets parts) in
      let left : effect p choice (instruction.Assign target place cell later) V ≡ with_updates (count_of p) m V =
      ap (λ o. option_map_or (λ ps. with_assigned p ps n later V) o V) found in
      let fits' : IsTrue (list_all (part_fits (signals_of p)) parts) =
      ap (λ (d : Design). list_all (part_fits d.signals.items) parts) from.design ∙ fits in
      let low = set-below (signals_of p) parts (bit n) later (updates_in (count_of p) V) fits' (below-is (count_of p) V)
      (below-is (count_of p) (λ k. V (count_of p + k))) in
      let size : length mid.instructions ≡ length old.instructions = ap (λ (q : Program). length q.instructions) there in
      record {
        W = effect p choice (instruction.Assign target place cell later) V;
        leads = subst (λ k. Leads p choice (length new.instructions) V k
            (effect p choice (instruction.Assign target place cell later) V)) size
            (Leads-pushed (instruction.Assign target place cell later) mid new p choice V is fine more has);
        updates = ap (updates_in (count_of p)) left ∙ updates_in-with_updates (count_of p) m V low.0 low.1;
        keeps = λ c b past within. ap (λ (U : Valuation). U c b) left ∙ ap (λ f. f b) (with_updates-past (count_of p) m V c past);
      };
}

-- ---- what names one whole signal
pub whole_of-some : (parts : List Part) (s : ℕ) → whole_of parts ≡ Some s → parts ≡ Whole s ∷ []
whole_of-some [] s is = absurd cc
whole_of-some (Whole signal ∷ []) s is = let same : signal ≡ s = cc in ap (λ n. Whole n ∷ []) same
whole_of-some (Slice signal from width ∷ []) s is = absurd cc
whole_of-some (Pick signal index offsets ∷ []) s is = absurd cc
whole_of-some (Word first count lowest index from width ∷ []) s is = absurd cc
whole_of-some (Whole signal ∷ part ∷ parts) s is = absurd cc
whole_of-some (Slice signal from width ∷ part ∷ parts) s is = absurd cc
whole_of-some (Pick signal index offsets ∷ part ∷ parts) s is = absurd cc
whole_of-some (Word first count lowest index from width ∷ part ∷ parts) s is = absurd cc

pub whole-within : (signals : List Signal) (parts : List Part) (s : ℕ) → parts ≡ Whole s ∷ []
    → IsTrue (list_all (part_fits signals) parts) → s < length signals
whole-within signals parts s is fits =
    let one : IsTrue (list_all (part_fits signals) (Whole s ∷ [])) = ap (list_all (part_fits signals)) (sym is) ∙ fits in
    ltb-true s (length signals) (and_parts (is_signal signals s) true one).0

-- the instruction of any left side fits
pub target-fits : (old mid : Program) (place cell target : ℕ) (parts : List Part) → target ≡ length old.targets
    → mid ≡ with_target parts old → Grown old mid
    → IsTrue (is_place old place) → IsTrue (is_cell old cell) → IsTrue (list_all (part_fits (signals_of old)) parts)
    → IsTrue (is_cell mid cell && is_place mid place && option_map_or (list_all (part_fits (signals_of mid)))
    (slice_get mid.targets target) false)
target-fits old mid place cell target parts at there grown is_there is_one fits =
    let found : slice_get mid.targets target ≡ Some parts =
    ap (λ (q : Program). slice_get q.targets target) there ∙ ap (slice_get (with_target parts old).targets) at ∙ last-stands
    old.targets parts in
    let last = ap (λ o. option_map_or (list_all (part_fits (signals_of mid))) o false) found
    ∙ ap (λ (d : Design). list_all (part_fits d.signals.items) parts) grown.design ∙ fits in
    both (both (is_cell-grown old mid cell grown is_one) (is_place-grown old mid place grown is_there)) last
