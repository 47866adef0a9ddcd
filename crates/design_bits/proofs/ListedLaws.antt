-- Lists of bits, and what is put back.
use Rattle.std.proofs.Common.{ℕ, zero, suc, ◌≡◌, ◌<◌, ◌+◌, ◌-◌, List, [], ◌∷◌, ◌++◌, length, get_or, take, Bool, true, false, refl, sym, ◌∙◌, ap, arith, bit_and, ◌⊎◌, inl, inr}
use Rattle.std.proofs.Math.ListN.{set}
use Rattle.std.specs.Prelude.{◌==◌, ◌&&◌}
use Rattle.std.proofs.lemmas.Bool.{cases_eq}
use Rattle.std.proofs.lemmas.List.{take_more}
use Rattle.loc_base.proofs.ShelfBools.{equal-false, and-false}
use Rattle.design_core.specs.Valuation.{bit}
use Rattle.design_bits.specs.declared.listed.SignalBits.{SignalBits}
use Rattle.design_bits.specs.Masks.{has}
use Rattle.design_bits.specs.Listed.{undone}
use Rattle.design_bits.proofs.Masks.{bit-and}

turned : (q m h : Bool) → (q && (m && h)) ≡ (h && (q && m))
turned true true true = refl
turned true true false = refl
turned true false h = sym (and-false h)
turned false m h = sym (and-false h)

-- of the bits of one signal those that a set has
pub met-entry : (masks : List ℕ) (signal mask s b : ℕ) → (signal == s && bit (bit_and mask (get_or masks signal 0)) b) ≡ (has masks s b && (signal == s && bit mask b))
met-entry masks signal mask s b = at (cases_eq signal s)
  where
    at : (signal ≡ s) ⊎ (signal ≡ s → ⊥) → (signal == s && bit (bit_and mask (get_or masks signal 0)) b) ≡ (has masks s b && (signal == s && bit mask b))
    at (inl same) =
        ap (λ x. signal == s && x) (bit-and mask (get_or masks signal 0) b ∙ ap (λ q. bit mask b && bit (get_or masks q 0) b) same)
        ∙ turned (signal == s) (bit mask b) (has masks s b)
    at (inr apart) =
        let none = equal-false signal s apart in
        ap (λ x. x && bit (bit_and mask (get_or masks signal 0)) b) none ∙ sym (ap (λ x. has masks s b && (x && bit mask b)) none ∙ and-false (has masks s b))

-- the last note is put back first
pub undone-last : (xs : List SignalBits) (e : SignalBits) (table : List ℕ) → undone (xs ++ e ∷ []) table ≡ undone xs (set table e.signal e.mask)
undone-last [] e table = refl
undone-last (x ∷ xs) e table = ap (λ t. set t x.signal x.mask) (undone-last xs e table)

-- what was put in place of a value, and the value put back
pub set-back : (table : List ℕ) (i x : ℕ) → i < length table → set (set table i x) i (get_or table i 0) ≡ table
set-back [] i x below = refl
set-back (t ∷ table) zero x below = refl
set-back (t ∷ table) (suc i) x below = ap (λ rest. t ∷ rest) (set-back table i x (omega (arith, below)))

pub undone-noted : (before : List SignalBits) (table : List ℕ) (note : SignalBits) (x : ℕ) → note.signal < length table → note.mask ≡ get_or table note.signal 0
    → undone (before ++ note ∷ []) (set table note.signal x) ≡ undone before table
undone-noted before table note x below is =
    undone-last before note (set table note.signal x)
    ∙ ap (undone before) (ap (λ m. set (set table note.signal x) note.signal m) is ∙ set-back table note.signal x below)

-- one note more is put back
pub undone-turn : (before : List SignalBits) (turn : ℕ) (d : SignalBits) (table after : List ℕ) → turn < length before
    → after ≡ set table (get_or before (length before - 1 - turn) d).signal (get_or before (length before - 1 - turn) d).mask
    → undone (take (length before - (turn + 1)) before) after ≡ undone (take (length before - turn) before) table
undone-turn before turn d table after below put =
    let k : ℕ = length before - 1 - turn in
    let last : length before - (turn + 1) ≡ k = omega (arith, below) in
    let whole : k + 1 ≡ length before - turn = omega (arith, below) in
    let within : k < length before = omega (arith, below) in
    ap (λ j. undone (take j before) after) last ∙ ap (undone (take k before)) put
    ∙ sym (undone-last (take k before) (get_or before k d) table) ∙ sym (ap (λ xs. undone xs table) (take_more before k d within))
    ∙ ap (λ j. undone (take j before) table) whole
