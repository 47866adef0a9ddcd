-- Bits of signals put at 0 by instructions that were pushed.
use Rattle.std.proofs.Common.{◌≡◌, ◌≢◌, ℕ, zero, suc, ◌+◌, ◌-◌, ◌%◌, ◌^◌, ◌<◌, ◌≤◌, List, length, arith, sym, refl, ◌∙◌, ap, subst, ◌⊎◌, inl, inr}
use Rattle.std.specs.Prelude.{Bool, true, false, not, ◌&&◌, ◌==◌, if◌then◌else◌, nat_le, nat_lt, bit_and, IsTrue, slice_get, Option, Some, None, option_map}
use Rattle.std.specs.Option.{option_map_or}
use Rattle.std.specs.Int.{bit_at}
use Rattle.std.proofs.Math.Path.{fun_ext}
use Rattle.std.proofs.lemmas.Bool.{cases_lt, eq-eqb, eqb-true, le-leb, lt-ltb, le-ltb}
use Rattle.std.proofs.lemmas.Nat.Bits.{bit_at-lt}
use Rattle.std.proofs.lemmas.Option.{slice_get_within, slice_get-map}
use Rattle.std.proofs.lemmas.List.{length-map}
use Rattle.loc_base.specs.declared.bits.Bits.{Bits}
use Rattle.loc_base.specs.Bits.{bit_of, width_of, value_of, width_of-low, width_of-high, value_of-range}
use Rattle.loc_base.proofs.BitLaws.{bit_at-mod_low, bit_at-not}
use Rattle.loc_base.proofs.ShelfBools.{equal-false}
use Rattle.design_core.specs.declared.signal.Signal.{Signal}
use Rattle.design_core.specs.declared.expression.Typed.{Typed}
use Rattle.design_core.specs.declared.design.Design.{Design}
use Rattle.design_core.specs.declared.expression.Node.TheVariants as node
use Rattle.design_core.specs.declared.expression.BinaryOp.TheVariants as binary_op
use Rattle.design_core.specs.Constant.{zeros}
use Rattle.design_core.specs.Valuation.{Valuation, bit, number, width_at}
use Rattle.design_core.specs.Store.{with_bits}
use Rattle.design_core.specs.After.{Choice}
use Rattle.plain_values.proofs.EvaluateWrite.{bit-high}
use Rattle.plain_sim.specs.EvaluateCycle.{blended}
use Rattle.plain_sim.proofs.EvaluateSweep.{bit-number}
use Rattle.cycle_code.specs.declared.instruction.Instruction.{Instruction}
use Rattle.cycle_code.specs.declared.instruction.Instruction.TheVariants as instruction
use Rattle.cycle_code.specs.Program.{Program, count_of, signals_of, Grown, with_cell, with_instruction}
use Rattle.cycle_code.specs.Cells.{width_in, HasConstants}
use Rattle.cycle_code.specs.Effects.{held_in, with_held_in, effect, next}
use Rattle.cycle_code.specs.Fitting.{is_cell, is_own, fits, IsSound}
use Rattle.cycle_code.proofs.CellLaws.{held-with_held, with_held-other}
use Rattle.cycle_code.proofs.GrowthLaws.{both, is_cell-grown, is_own-cell, is_own-grown, width_in-grown, Grown-refl, Grown-trans}
use Rattle.cycle_code.proofs.SoundLaws.{sound-cells}
use Rattle.cycle_compile.specs.Compiling.{IsPlaceFor}
use Rattle.cycle_compile.proofs.Leading.{Leads-on, Leads-at, Leads-pushed, count-grown, widths-grown}
use Rattle.cycle_compile.proofs.Placing.{IsPlaceFor-constant, IsPlaceFor-grown, new-own, width_in-signal}
use Rattle.cycle_sim.specs.declared.mask.Mask.{Mask}
use Rattle.cycle_sim.specs.Masks.{in_mask, widths_of}
use Rattle.cycle_sim.specs.Compiled.{now_in, Turned, Pushes, none, masked_now, put_now}
use Rattle.cycle_sim.proofs.Assigned.{Pushes-put, Pushes-earlier}
use Rattle.cycle_sim.proofs.Blending.{bit-and, eq-swap}
use Rattle.cycle_sim.proofs.Pushing.{Turned-kept, Turned-on}

-- ---- a cell of its own
-- a number is written into a cell that is new, before what reads it there
pub Pushes-own : (i : Instruction) (before middle new : Program) (cell : ℕ) (n : Program → Valuation → ℕ)
    (second whole : Program → Choice → Valuation → Valuation)
    → IsSound before → length before.widths ≤ cell → new ≡ with_instruction i middle → IsSound new → Grown middle new
    → Pushes before middle second none
    → ((p : Program) (q : ℕ) (V : Valuation) → next p i q V ≡ q)
    → ((p : Program) (choice : Choice) (V : Valuation) → effect p choice i V ≡ with_held_in p cell (n p V) V)
    → ((p : Program) (choice : Choice) (V W : Valuation) → Grown new p → HasConstants p V → now_in p W ≡ now_in p V
    → held_in p W cell ≡ n p V % 2 ^ width_in p.widths cell → second p choice W ≡ whole p choice V)
    → Pushes before new whole none
Pushes-own i before middle new cell n second whole sound past made fine grown lower on writes join = record {
  grown = Grown-trans before middle new lower.grown grown;
  leaves = λ p choice V more has.
      let W : Valuation = effect p choice i V in
      let later : Grown middle p = Grown-trans middle new p grown more in
      let step = Leads-pushed i middle new p choice V made fine more has in
      let first = Leads-at (length new.instructions) (length middle.instructions) refl (on p (length middle.instructions) V) step in
      let rest = lower.leaves p choice W later first.constants in
      let most : count_of before + count_of before + count_of before ≤ length before.widths = sound-cells before sound in
      let all : Grown before p = Grown-trans before middle p lower.grown later in
      let same : count_of p ≡ count_of before = count-grown before p all in
      let written : W ≡ with_held_in p cell (n p V) V = writes p choice V in
      let kept = Turned-kept p (length before.widths) V W (omega arith) (λ c b low.
      let other : c ≢ cell = λ equal. absurd (omega (arith, equal, low, past)) in
      ap (λ (U : Valuation). U c b) written ∙ ap (λ f. f b) (with_held-other p.widths cell (n p V) V c other)) in
      let held : held_in p W cell ≡ n p V % 2 ^ width_in p.widths cell =
      ap (λ (U : Valuation). held_in p U cell) written ∙ held-with_held p.widths cell (n p V) V in
      record {
        W = rest.W;
        leads = Leads-on first rest.leads;
        turned = subst (λ N. Turned p (length before.widths) N none V rest.W) (join p choice V W more has kept.now held)
            (Turned-on p (length before.widths) (length before.widths) (now_in p V) (second p choice W) none none none V W rest.W
            (omega arith) kept rest.turned (λ s b off. (refl, refl)));
      };
}

-- ---- the bits of a word
-- the bits that are 0 in a word are 1 in its complement
opposite : (x : ℕ) → x < 2 → (1 - x == 1) ≡ not (x == 1)
opposite zero h = refl
opposite (suc zero) h = refl
opposite (suc (suc x)) h = absurd (omega (arith, h))

complement-bit : (w m b : ℕ) → m < 2 ^ w → b < w → bit (2 ^ w - 1 - m) b ≡ not (bit m b)
complement-bit w m b below low = ap (λ n. n == 1) (bit_at-not w m b below low) ∙ opposite (bit_at m b) (bit_at-lt m b)

-- what is left of some bits outside a word
pub bits-outside : (w m : ℕ) (f : ℕ → Bool) (b : ℕ) → m < 2 ^ w → b < w
    → bit (bit_and (number w f) (2 ^ w - 1 - m) % 2 ^ w) b ≡ (f b && not (bit m b))
bits-outside w m f b below low =
    ap (λ n. n == 1) (bit_at-mod_low (bit_and (number w f) (2 ^ w - 1 - m)) w b low)
    ∙ bit-and (number w f) (2 ^ w - 1 - m) b
    ∙ ap (λ t. t && bit (2 ^ w - 1 - m) b) (bit-number w f b low)
    ∙ ap (λ t. f b && t) (complement-bit w m b below low)

outside : (f t : Bool) → (f && not t) ≡ (if t then false else f)
outside true true = refl
outside true false = refl
outside false true = refl
outside false false = refl

unchanged : (t x y : Bool) → (if t && false then x else y) ≡ y
unchanged true x y = refl
unchanged false x y = refl

-- a signal's word with the bits of a mask at 0
pub masked-bits : (mask : Mask) (N : Valuation) (value : ℕ)
    → ((b : ℕ) → b < width_of mask.bits → bit value b ≡ (N mask.signal b && not (bit_of mask.bits b)))
    → with_bits N mask.signal 0 (width_of mask.bits) (bit value) ≡ blended (in_mask mask) zeros N
masked-bits mask N value is =
    fun_ext (λ s. fun_ext (λ b. at s b (s == mask.signal) refl (cases_lt b (width_of mask.bits))))
  where
    width : ℕ
    width = width_of mask.bits

    at : (s b : ℕ) (t : Bool) → (s == mask.signal) ≡ t → (b < width) ⊎ (width ≤ b)
        → with_bits N mask.signal 0 width (bit value) s b ≡ blended (in_mask mask) zeros N s b
    at s b false e side =
        ap (λ t. if t && nat_le 0 b && nat_lt b (0 + width) then bit value (b - 0) else N s b) e
        ∙ sym (ap (λ t. if t && bit_of mask.bits b then false else N s b)
        (equal-false mask.signal s (eq-swap s mask.signal e)))
    at s b true e (inl low) =
        let same : s ≡ mask.signal = eqb-true s mask.signal e in
        let here : b - 0 ≡ b = omega arith in
        ap (λ t. if t then bit value (b - 0) else N s b)
        (both (both e (le-leb 0 b (omega arith))) (lt-ltb b (0 + width) (omega arith)))
        ∙ ap (bit value) here
        ∙ is b low
        ∙ ap (λ k. N k b && not (bit_of mask.bits b)) (sym same)
        ∙ outside (N s b) (bit_of mask.bits b)
        ∙ sym (ap (λ t. if t && bit_of mask.bits b then false else N s b) (eq-eqb mask.signal s (sym same)))
    at s b true e (inr high) =
        ap (λ t. if s == mask.signal && nat_le 0 b && t then bit value (b - 0) else N s b)
        (le-ltb b (0 + width) (omega arith))
        ∙ unchanged (s == mask.signal && nat_le 0 b) (bit value (b - 0)) (N s b)
        ∙ sym (ap (λ t. if mask.signal == s && t then false else N s b)
        (bit-high (value_of mask.bits) width b (value_of-range mask.bits) high)
        ∙ unchanged (mask.signal == s) false (N s b))

-- ---- the cells
-- the cells by which a mask is cleared: its signal's, a constant that has 0 where the mask has 1, and one for what is left
pub record CanClear (p : Program) (mask : Mask) (others rest : ℕ) : Type 0 where
  pub signal : mask.signal < count_of p
  pub width : width_at (signals_of p) mask.signal ≡ width_of mask.bits
  pub signal_width : width_in p.widths mask.signal ≡ width_of mask.bits
  pub constant : IsTrue (is_cell p others)
  pub constant_width : width_in p.widths others ≡ width_of mask.bits
  pub own : IsTrue (is_own p rest)
  pub own_width : width_in p.widths rest ≡ width_of mask.bits
  pub holds : (q : Program) (V : Valuation) → Grown p q → HasConstants q V
      → held_in q V others ≡ 2 ^ width_of mask.bits - 1 - value_of mask.bits

-- a signal's cell
signal-cell : (p : Program) (signal : ℕ) → IsSound p → signal < count_of p → IsTrue (is_cell p signal)
signal-cell p signal sound low =
    let most : count_of p + count_of p + count_of p ≤ length p.widths = sound-cells p sound in
    lt-ltb signal (length p.widths) (omega arith)

-- they serve in each program that this one grows into
pub CanClear-grown : (p q : Program) (mask : Mask) (others rest : ℕ) → IsSound p → Grown p q
    → CanClear p mask others rest → CanClear q mask others rest
CanClear-grown p q mask others rest sound grown can =
    let same : count_of q ≡ count_of p = count-grown p q grown in
    let low : mask.signal < count_of p = can.signal in
    record {
      signal = omega arith;
      width = ap (λ (d : Design). width_at d.signals.items mask.signal) grown.design ∙ can.width;
      signal_width = width_in-grown p q mask.signal grown (signal-cell p mask.signal sound low) ∙ can.signal_width;
      constant = is_cell-grown p q others grown can.constant;
      constant_width = width_in-grown p q others grown can.constant ∙ can.constant_width;
      own = is_own-grown p q rest grown can.own;
      own_width = width_in-grown p q rest grown (is_own-cell p rest can.own) ∙ can.own_width;
      holds = λ r V more has. can.holds r V (Grown-trans p q r grown more) has;
    }

-- the signal that a mask has bits of
masked-signal : (signals : List Signal) (signal width : ℕ) → slice_get (widths_of signals) signal ≡ Some width
    → (signal < length signals) × (width_at signals signal ≡ width)
masked-signal signals signal width fits = (
  omega (arith, slice_get_within (widths_of signals) signal width fits, length-map signals (λ (s : Signal). s.width)),
  known (slice_get signals signal) (sym (slice_get-map (λ (s : Signal). s.width) signals signal) ∙ fits),
)
  where
    known : (o : Option Signal) → option_map (λ (s : Signal). s.width) o ≡ Some width
        → option_map_or (λ (s : Signal). s.width) o 0 ≡ width
    known None e = cc
    known (Some s) e = cc

-- a word as an expression
abbrev constant_of_word : Bits → Typed
constant_of_word word = record { width = width_of word; signed = false; node = node.Const word }

-- the constant and the cell that were made for a mask
pub record AreMade (old new : Program) (mask : Mask) (others rest : ℕ) : Type 0 where
  pub can : CanClear new mask others rest
  pub past : length old.widths ≤ rest
  pub same : new.instructions ≡ old.instructions
  pub grown : Grown old new
  pub sound : IsSound new

pub are-made : (old one two : Program) (mask : Mask) (word : Bits) (width others rest : ℕ)
    → IsSound old → IsSound one → IsSound two → slice_get (widths_of (signals_of old)) mask.signal ≡ Some (width_of mask.bits)
    → width_of word ≡ width_of mask.bits → value_of word ≡ 2 ^ width_of mask.bits - 1 - value_of mask.bits
    → others ≡ length old.widths → one ≡ with_cell true (width_of word) (value_of word) old → Grown old one
    → width ≡ width_of mask.bits → rest ≡ length one.widths → two ≡ with_cell false width 0 one → Grown one two
    → AreMade old two mask others rest
are-made old one two mask word width others rest sound one_sound two_sound fits wide value at is grown size place made more =
    let known = masked-signal (signals_of old) mask.signal (width_of mask.bits) fits in
    let all : Grown old two = Grown-trans old one two grown more in
    let count : count_of two ≡ count_of old = count-grown old two all in
    let own = new-own one two width rest one_sound made place in
    let less : length old.widths ≤ length one.widths = widths-grown old one grown in
    let e : Typed = constant_of_word word in
    let in_range = both (le-leb 1 (width_of word) (width_of-low word)) (le-leb (width_of word) 128 (width_of-high word)) in
    let here = IsPlaceFor-constant old one e word refl (both in_range (eq-eqb (width_of word) (width_of word) refl)) sound is in
    let constant = IsPlaceFor-grown one two e others more (subst (IsPlaceFor one e) (sym at) here) in
    record {
      can = record {
        signal = omega (arith, known.0, count);
        width = ap (λ (d : Design). width_at d.signals.items mask.signal) all.design ∙ known.1;
        signal_width =
            width_in-grown old two mask.signal all (signal-cell old mask.signal sound known.0)
            ∙ width_in-signal old mask.signal sound known.0
            ∙ known.1;
        constant = constant.is_there;
        constant_width = constant.width ∙ wide;
        own = own.0;
        own_width = own.1 ∙ size;
        holds = λ q V later has. constant.stands refl q V later has ∙ value;
      };
      past = omega (arith, place, less);
      same = ap (λ (p : Program). p.instructions) made ∙ ap (λ (p : Program). p.instructions) is;
      grown = all;
      sound = two_sound;
    }

-- ---- the instructions
-- the instruction that leaves the rest of a signal's word
abbrev and_of : ℕ → ℕ → ℕ → Instruction
and_of signal others rest = instruction.Binary binary_op.And signal false others false rest

-- it fits
pub and-fits : (old two three : Program) (q : ℕ) (mask : Mask) (signal others rest : ℕ) → AreMade old two mask others rest
    → signal ≡ mask.signal
    → IsSound three → Grown two three → IsTrue (fits three q (and_of signal others rest))
and-fits old two three q mask signal others rest made same sound grown =
    let can = CanClear-grown two three mask others rest made.sound grown made.can in
    let wide : width_in three.widths rest ≡ width_in three.widths mask.signal = can.own_width ∙ sym can.signal_width in
    let there = both (both can.own (signal-cell three mask.signal sound can.signal)) can.constant in
    subst (λ s. IsTrue (fits three q (and_of s others rest))) (sym same)
    (both there (both (eq-eqb (width_in three.widths rest) (width_in three.widths mask.signal) wide)
    (eq-eqb (width_in three.widths rest) (width_in three.widths others) (can.own_width ∙ sym can.constant_width))))

-- the word of a mask's signal without the bits of the mask
abbrev rest_of : Mask → ℕ → Program → Valuation → ℕ
rest_of mask others p V = bit_and (held_in p V mask.signal) (held_in p V others)

rest-bits : (p : Program) (V : Valuation) (mask : Mask) (others rest b : ℕ) → CanClear p mask others rest
    → HasConstants p V → b < width_of mask.bits
    → bit (rest_of mask others p V % 2 ^ width_in p.widths rest) b ≡ (now_in p V mask.signal b && not (bit_of mask.bits b))
rest-bits p V mask others rest b can has low =
    let width : ℕ = width_of mask.bits in
    ap (λ w. bit (rest_of mask others p V % 2 ^ w) b) can.own_width
    ∙ ap (λ w. bit (bit_and (number w (V mask.signal)) (held_in p V others) % 2 ^ width) b) can.signal_width
    ∙ ap (λ n. bit (bit_and (number width (V mask.signal)) n % 2 ^ width) b) (can.holds p V (Grown-refl p) has)
    ∙ bits-outside width (value_of mask.bits) (V mask.signal) b (value_of-range mask.bits) low
    ∙ sym (ap (λ t. (t && V mask.signal b) && not (bit_of mask.bits b)) (lt-ltb mask.signal (count_of p) can.signal))

-- what the two instructions leave
pub Pushes-masked : (old two three new : Program) (mask : Mask) (signal others rest : ℕ) → IsSound old
    → AreMade old two mask others rest → signal ≡ mask.signal
    → three ≡ with_instruction (instruction.Put rest signal) two → IsSound three → Grown two three
    → new ≡ with_instruction (and_of signal others rest) three → IsSound new → Grown three new → Pushes old new (masked_now mask) none
Pushes-masked old two three new mask signal others rest sound made same put put_sound put_grown last fine grown =
    let put' = put ∙ ap (λ s. with_instruction (instruction.Put rest s) two) same in
    let last' = last ∙ ap (λ s. with_instruction (and_of s others rest) three) same in
    let lower = Pushes-earlier old two three (put_now mask.signal None rest) none made.grown made.same
    (Pushes-put two three mask.signal rest made.sound made.can.signal put' put_sound put_grown) in
    Pushes-own (and_of mask.signal others rest) old three new rest (rest_of mask others) (put_now mask.signal None rest) (masked_now mask)
    sound made.past last' fine grown lower (λ p q V. refl) (λ p choice V. refl) (λ p choice V W more has now held.
    let from : Grown two p = Grown-trans two three p put_grown (Grown-trans three new p grown more) in
    let can = CanClear-grown two p mask others rest made.sound from made.can in
    ap (λ N. with_bits N mask.signal 0 (width_at (signals_of p) mask.signal) (bit (held_in p W rest))) now
    ∙ ap (λ w. with_bits (now_in p V) mask.signal 0 w (bit (held_in p W rest))) can.width
    ∙ masked-bits mask (now_in p V) (held_in p W rest)
    (λ b low. ap (λ n. bit n b) held ∙ rest-bits p V mask others rest b can has low))
