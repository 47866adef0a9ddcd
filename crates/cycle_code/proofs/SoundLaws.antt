-- Programs with one more cell, instruction, expression or left side, and the one without any.
use Rattle.std.proofs.Common.{◌≡◌, ℕ, zero, suc, ◌+◌, ◌<◌, ◌≤◌, List, [], ◌∷◌, ◌++◌, length, map, take, drop, get_or, append_assoc, arith, sym, refl, ◌∙◌, ap, subst, ◌⊎◌, inl, inr}
use Rattle.std.specs.Prelude.{Bool, false, IsTrue, slice_get, Some}
use Rattle.std.proofs.Math.Seq.{take-append_seam, drop-append_seam, take-length}
use Rattle.std.proofs.lemmas.Bool.{cases_lt}
use Rattle.std.proofs.lemmas.List.{length-append, length-take, length-drop, length-map, take-append-le, drop-append-le, get_or_past}
use Rattle.std.proofs.lemmas.Option.{slice_get_within, slice_get-get_or}
use Rattle.loc_base.proofs.ShelfLists.{slice_get-some}
use Rattle.loc_base.proofs.ShelfOptions.{Some-same}
use Rattle.design_core.specs.declared.signal.Signal.{Signal}
use Rattle.design_core.specs.declared.expression.Typed.{Typed}
use Rattle.design_core.specs.declared.statement.Part.{Part}
use Rattle.design_core.specs.declared.design.Design.{Design}
use Rattle.cycle_code.specs.declared.instruction.Instruction.{Instruction}
use Rattle.cycle_code.specs.Program.{Program, signals_of, count_of, signal_widths, three_times, Grown, empty_of, with_cell, with_instruction, with_tree, with_target}
use Rattle.cycle_code.specs.Fitting.{fits, IsSound}
use Rattle.cycle_code.proofs.GrowthLaws.{Grows-push, fits-grown, last-stands}

-- ---- lists
-- the last element of a list, or one before it
push-cases : {X : Type 0} (xs : List X) (x : X) (i : ℕ) (y : X) → slice_get (xs ++ x ∷ []) i ≡ Some y
    → (slice_get xs i ≡ Some y) ⊎ ((i ≡ length xs) × (y ≡ x))
push-cases xs x i y is = elim (cases_lt i (length xs)) [
  | inl low ↦
      let found = slice_get-some xs i low in
      inl (found.1 ∙ ap Some (Some-same (sym (Grows-push xs x i found.0 found.1) ∙ is)))
  | inr high ↦
      let within : i < length (xs ++ x ∷ []) = slice_get_within (xs ++ x ∷ []) i y is in
      let last : i ≡ length xs = omega (arith, length-append xs (x ∷ [])) in
      inr (last, Some-same (sym is ∙ ap (slice_get (xs ++ x ∷ [])) last ∙ last-stands xs x))
]

-- ---- the cells of the signals
-- a program has three cells for each signal
pub sound-cells : (p : Program) → IsSound p → count_of p + count_of p + count_of p ≤ length p.widths
sound-cells p sound =
    let count = count_of p in
    let size : length (take count (drop (count + count) p.widths)) ≡ count =
    ap length sound.room ∙ length-map (signals_of p) (λ s. s.width) in
    omega (arith, length-take count (drop (count + count) p.widths), length-drop (count + count) p.widths)

-- a piece of a list that grows
piece-push : {X : Type 0} (count at : ℕ) (xs : List X) (x : X) → at + count ≤ length xs
    → take count (drop at (xs ++ x ∷ [])) ≡ take count (drop at xs)
piece-push count at xs x h =
    ap (take count) (drop-append-le at xs (x ∷ []) (omega arith))
    ∙ take-append-le count (drop at xs) (x ∷ []) (omega (arith, length-drop at xs))

-- ---- one more
pub Grown-cell : (fixed : Bool) (width value : ℕ) (p : Program) → Grown p (with_cell fixed width value p)
Grown-cell fixed width value p = record {
  design = refl;
  widths = Grows-push p.widths width;
  values = Grows-push p.values value;
  fixed = Grows-push p.fixed fixed;
  instructions = λ i x is. is;
  trees = λ i x is. is;
  targets = λ i x is. is;
}

-- one more instruction
pub Grown-instruction : (instruction : Instruction) (p : Program) → Grown p (with_instruction instruction p)
Grown-instruction instruction p = record {
  design = refl;
  widths = λ i x is. is;
  values = λ i x is. is;
  fixed = λ i x is. is;
  instructions = Grows-push p.instructions instruction;
  trees = λ i x is. is;
  targets = λ i x is. is;
}

-- one more expression
pub Grown-tree : (tree : Typed) (p : Program) → Grown p (with_tree tree p)
Grown-tree tree p = record {
  design = refl;
  widths = λ i x is. is;
  values = λ i x is. is;
  fixed = λ i x is. is;
  instructions = λ i x is. is;
  trees = Grows-push p.trees tree;
  targets = λ i x is. is;
}

-- one more left side
pub Grown-target : (parts : List Part) (p : Program) → Grown p (with_target parts p)
Grown-target parts p = record {
  design = refl;
  widths = λ i x is. is;
  values = λ i x is. is;
  fixed = λ i x is. is;
  instructions = λ i x is. is;
  trees = λ i x is. is;
  targets = Grows-push p.targets parts;
}

-- a program that can be run can be run with one more cell
pub IsSound-cell : (fixed : Bool) (width value : ℕ) (p : Program) → IsSound p → IsSound (with_cell fixed width value p)
IsSound-cell fixed width value p sound =
    let count = count_of p in
    let most : count + count + count ≤ length p.widths = sound-cells p sound in
    let grown = Grown-cell fixed width value p in
    record {
      values = length-append p.values (value ∷ []) ∙ ap (λ n. n + 1) sound.values ∙ sym (length-append p.widths (width ∷ []));
      fixed = length-append p.fixed (fixed ∷ []) ∙ ap (λ n. n + 1) sound.fixed ∙ sym (length-append p.widths (width ∷ []));
      now = take-append-le count p.widths (width ∷ []) (omega arith) ∙ sound.now;
      later = piece-push count count p.widths width (omega arith) ∙ sound.later;
      room = piece-push count (count + count) p.widths width (omega arith) ∙ sound.room;
      signals = λ cell h. grown.fixed cell false (sound.signals cell h);
      instructions = λ q i is. fits-grown p (with_cell fixed width value p) q i grown (sound.instructions q i is);
    }

-- with one more instruction that fits
pub IsSound-instruction : (instruction : Instruction) (p : Program) → IsSound p → IsTrue (fits p (length p.instructions) instruction)
    → IsSound (with_instruction instruction p)
IsSound-instruction instruction p sound here = record {
  values = sound.values;
  fixed = sound.fixed;
  now = sound.now;
  later = sound.later;
  room = sound.room;
  signals = sound.signals;
  instructions = λ q i is. each q i (push-cases p.instructions instruction q i is);
}
  where
    each : (q : ℕ) (i : Instruction)
        → (slice_get p.instructions q ≡ Some i) ⊎ ((q ≡ length p.instructions) × (i ≡ instruction)) → IsTrue (fits p q i)
    each q i (inl is) = sound.instructions q i is
    each q i (inr last) =
        subst (λ n. IsTrue (fits p n i)) (sym last.0) (subst (λ j. IsTrue (fits p (length p.instructions) j)) (sym last.1) here)

-- with one more expression
pub IsSound-tree : (tree : Typed) (p : Program) → IsSound p → IsSound (with_tree tree p)
IsSound-tree tree p sound = record {
  values = sound.values;
  fixed = sound.fixed;
  now = sound.now;
  later = sound.later;
  room = sound.room;
  signals = sound.signals;
  instructions = λ q i is. fits-grown p (with_tree tree p) q i (Grown-tree tree p) (sound.instructions q i is);
}

-- with one more left side
pub IsSound-target : (parts : List Part) (p : Program) → IsSound p → IsSound (with_target parts p)
IsSound-target parts p sound = record {
  values = sound.values;
  fixed = sound.fixed;
  now = sound.now;
  later = sound.later;
  room = sound.room;
  signals = sound.signals;
  instructions = λ q i is. fits-grown p (with_target parts p) q i (Grown-target parts p) (sound.instructions q i is);
}

-- ---- the beginning
-- where no entry of a list is true, none is behind signals without one
all-free : (signals : List Signal) (rest : List Bool) → ((i : ℕ) → get_or rest i false ≡ false) → (i : ℕ)
    → get_or (map (λ (s : Signal). false) signals ++ rest) i false ≡ false
all-free [] rest h i = h i
all-free (s ∷ signals) rest h zero = refl
all-free (s ∷ signals) rest h (suc i) = all-free signals rest h i

-- nor behind none
no-more : (signals : List Signal) (i : ℕ) → get_or (map (λ (s : Signal). false) signals) i false ≡ false
no-more [] i = get_or_past [] i false (omega arith)
no-more (s ∷ signals) zero = refl
no-more (s ∷ signals) (suc i) = no-more signals i

-- a program without instructions can be run
pub IsSound-empty : (d : Design) → IsSound (empty_of d)
IsSound-empty d =
    let signals : List Signal = d.signals.items in
    let widths : List ℕ = signal_widths signals in
    let size : length widths ≡ length signals = length-map signals (λ s. s.width) in
    record {
      values = as-many (map (λ s. 0) signals) widths (length-map signals (λ s. 0) ∙ sym size);
      fixed = as-many (map (λ s. false) signals) widths (length-map signals (λ s. false) ∙ sym size);
      now = first-piece (length signals) widths size;
      later = second-piece (length signals) widths size;
      room = third-piece (length signals) widths size;
      signals = λ cell h. free signals cell h;
      instructions = λ q i is. absurd cc;
    }
  where
    as-many : {X Y : Type 0} (xs : List X) (ys : List Y) → length xs ≡ length ys → length (three_times xs) ≡ length (three_times ys)
    as-many xs ys same =
        length-append (xs ++ xs) xs ∙ ap (λ n. n + length xs) (length-append xs xs)
        ∙ ap (λ n. n + n + n) same
        ∙ sym (length-append (ys ++ ys) ys ∙ ap (λ n. n + length ys) (length-append ys ys))

    first-piece : {X : Type 0} (count : ℕ) (xs : List X) → length xs ≡ count → take count (three_times xs) ≡ xs
    first-piece count xs size =
        ap (λ n. take n (three_times xs)) (sym size)
        ∙ take-append-le (length xs) (xs ++ xs) xs (omega (arith, length-append xs xs))
        ∙ take-append_seam xs xs

    second-piece : {X : Type 0} (count : ℕ) (xs : List X) → length xs ≡ count → take count (drop count (three_times xs)) ≡ xs
    second-piece count xs size =
        ap (λ n. take n (drop n (three_times xs))) (sym size)
        ∙ ap (take (length xs)) (drop-append-le (length xs) (xs ++ xs) xs (omega (arith, length-append xs xs))
        ∙ ap (λ ys. ys ++ xs) (drop-append_seam xs xs))
        ∙ take-append_seam xs xs

    third-piece : {X : Type 0} (count : ℕ) (xs : List X) → length xs ≡ count → take count (drop (count + count) (three_times xs)) ≡ xs
    third-piece count xs size =
        ap (λ n. take n (drop (n + n) (three_times xs))) (sym size)
        ∙ ap (λ n. take (length xs) (drop n (three_times xs))) (sym (length-append xs xs))
        ∙ ap (take (length xs)) (drop-append_seam (xs ++ xs) xs)
        ∙ take-length xs

    free : (signals : List Signal) (cell : ℕ) → cell < length signals + length signals + length signals
        → slice_get (three_times (map (λ (s : Signal). false) signals)) cell ≡ Some false
    free signals cell h =
        let zeros : List Bool = map (λ (s : Signal). false) signals in
        let size : length zeros ≡ length signals = length-map signals (λ s. false) in
        slice_get-get_or (three_times zeros) cell false (omega (arith, length-append (zeros ++ zeros) zeros, length-append zeros zeros))
        ∙ ap (λ xs. Some (get_or xs cell false)) (append_assoc zeros zeros zeros)
        ∙ ap Some (all-free signals (zeros ++ zeros) (all-free signals zeros (no-more signals)) cell)
