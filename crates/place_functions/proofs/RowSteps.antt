-- The operands of places, one row for each.
use Rattle.std.proofs.Common.{ℕ, zero, suc, ◌+◌, ◌≡◌, ◌<◌, Bool, List, [], ◌∷◌, ◌++◌, length, get_or, map, take, refl, sym, ◌∙◌, ap₂}
use Rattle.std.specs.Prelude.{if◌then◌else◌}
use Rattle.std.proofs.lemmas.List.{map_more}
use Rattle.design_core.specs.declared.signal.Signal.{Signal}
use Rattle.design_core.specs.declared.design.Design.{Design}
use Rattle.place_functions.specs.declared.note.Note.{Note}
use Rattle.place_functions.specs.declared.signal_bit.SignalBit.{SignalBit}
use Rattle.place_functions.specs.Notes.{notes_have, some_reads}
use Rattle.place_functions.specs.Operands.{bits_passing, all_passing, is_operand, operands_of}
use Rattle.place_functions.proofs.Passing.{bit_at}

-- tests that say the same of each bit
bits-same : (t u : ℕ → Bool) (s from more : ℕ) → ((b : ℕ) → t b ≡ u b) → bits_passing t s from more ≡ bits_passing u s from more
bits-same t u s from zero same = refl
bits-same t u s from (suc more) same =
    ap₂ (λ x xs. if x then bit_at s from ∷ xs else xs) (same from) (bits-same t u s (from + 1) more same)

all-same : (t u : ℕ → ℕ → Bool) (first : ℕ) (signals : List Signal) → ((s b : ℕ) → t s b ≡ u s b) → all_passing t first signals ≡ all_passing u first signals
all-same t u first [] same = refl
all-same t u first (signal ∷ signals) same =
    ap₂ (λ xs ys. xs ++ ys) (bits-same (t first) (u first) first 0 signal.width (same first)) (all-same t u (first + 1) signals same)

-- the row of one place more
pub row-more : (d : Design) (notes ordered part : List Note) (places : List ℕ) (i : ℕ) (rows : List (List SignalBit)) (row : List SignalBit)
    → ((p s b : ℕ) → notes_have notes p s b ≡ is_operand d p s b) → ((p s b : ℕ) → notes_have ordered p s b ≡ notes_have notes p s b)
    → ((s b : ℕ) → some_reads part s b ≡ notes_have ordered (get_or places i 0) s b) → i < length places
    → rows ≡ map (operands_of d) (take i places) → row ≡ all_passing (some_reads part) 0 d.signals.items
    → rows ++ row ∷ [] ≡ map (operands_of d) (take (i + 1) places)
row-more d notes ordered part places i rows row are same of_place below so_far found =
    let place = get_or places i 0 in
    ap₂ (λ xs x. xs ++ x ∷ []) so_far
    (found
    ∙ all-same (some_reads part) (is_operand d place) 0 d.signals.items (λ s b. of_place s b ∙ same place s b ∙ are place s b))
    ∙ sym (map_more (operands_of d) places i 0 below)
