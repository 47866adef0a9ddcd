-- The cells where values of expressions will be found.
use Rattle.std.proofs.Common.{◌≡◌, ℕ, ◌+◌, ◌<◌, ◌≤◌, List, [], ◌∷◌, ◌++◌, length, take, arith, sym, refl, ◌∙◌, ap, subst, drop}
use Rattle.std.specs.Prelude.{Bool, true, false, not, ◌&&◌, ◌==◌, IsTrue, slice_get, Option, Some, None, option_map, Result, Ok, Err, IfOk, OnOk}
use Rattle.std.specs.Option.{option_map_or}
use Rattle.std.proofs.lemmas.Bool.{and_parts, ltb-true, lt-ltb, le-leb, eqb-true}
use Rattle.std.proofs.lemmas.Option.{slice_get-map}
use Rattle.std.proofs.lemmas.List.{length-append}
use Rattle.loc_base.specs.declared.bits.Bits.{Bits}
use Rattle.loc_base.specs.Bits.{width_of, value_of}
use Rattle.design_core.specs.declared.signal.Signal.{Signal}
use Rattle.design_core.specs.declared.expression.Typed.{Typed}
use Rattle.design_core.specs.declared.expression.Node.TheVariants as node
use Rattle.design_core.specs.Valuation.{Valuation, number, width_at}
use Rattle.design_core.specs.Value.{node_value}
use Rattle.design_core.specs.WellFormed.{is_width, is_signal, node_fits, typed_fits}
use Rattle.design_core.proofs.NumberLaws.{number-same}
use Rattle.cycle_code.specs.Program.{Program, signals_of, count_of, Grown, with_cell, signal_widths}
use Rattle.cycle_code.specs.Cells.{width_in, below}
use Rattle.cycle_code.specs.Fitting.{is_cell, is_own, IsSound}
use Rattle.cycle_code.proofs.GrowthLaws.{both, of_three, is_cell-grown, width_in-grown, is_own-grown, is_own-cell, Grown-trans, last-stands}
use Rattle.cycle_code.proofs.SoundLaws.{sound-cells}
use Rattle.cycle_code.proofs.WordCells.{slice_get-take, slice_get-drop}
use Rattle.cycle_compile.specs.Compiling.{is_leaf, IsPlaceFor}
use Rattle.cycle_compile.proofs.Leading.{count-grown}

-- a cell is one for an expression in each program that has all that this one has
pub IsPlaceFor-grown : (p r : Program) (e : Typed) (cell : ℕ) → Grown p r → IsPlaceFor p e cell → IsPlaceFor r e cell
IsPlaceFor-grown p r e cell grown at = record {
  is_there = is_cell-grown p r cell grown at.is_there;
  width = width_in-grown p r cell grown at.is_there ∙ at.width;
  stands = λ leaf q V more has. at.stands leaf q V (Grown-trans p r q grown more) has;
  own = λ inner. is_own-grown p r cell grown (at.own inner);
}

-- one of the code's own, which is no constant, is one for each expression of its width that stands in no cell yet
pub IsPlaceFor-own : (p : Program) (e : Typed) (cell : ℕ) → is_leaf e.node ≡ false → IsTrue (is_own p cell)
    → width_in p.widths cell ≡ e.width → IsPlaceFor p e cell
IsPlaceFor-own p e cell inner own width = record {
  is_there = is_own-cell p cell own;
  width = width;
  stands = λ leaf q V grown has. absurd (differ (sym leaf ∙ inner));
  own = λ _. own;
}
  where
    differ : true ≡ false → ⊥
    differ same = absurd cc

-- ---- new cells
-- what stands behind a list
last-at : {X : Type 0} (xs ys : List X) (x : X) (i : ℕ) → i ≡ length xs → ys ≡ xs ++ x ∷ [] → slice_get ys i ≡ Some x
last-at xs ys x i here is = ap (λ zs. slice_get zs i) is ∙ ap (slice_get (xs ++ x ∷ [])) here ∙ last-stands xs x

record IsLast (old new : Program) (fixed : Bool) (width value : ℕ) : Type 0 where
  is_there : IsTrue (is_cell new (length old.widths))
  has_width : width_in new.widths (length old.widths) ≡ width
  is_fixed : slice_get new.fixed (length old.widths) ≡ Some fixed
  has_value : slice_get new.values (length old.widths) ≡ Some value

last-cell : (old new : Program) (fixed : Bool) (width value : ℕ) → IsSound old → new ≡ with_cell fixed width value old
    → IsLast old new fixed width value
last-cell old new fixed width value sound is =
    let cell = length old.widths in
    let widths : new.widths ≡ old.widths ++ width ∷ [] = ap (λ (p : Program). p.widths) is in
    record {
      is_there = lt-ltb cell (length new.widths) (omega (arith, ap length widths, length-append old.widths (width ∷ [])));
      has_width = ap (λ o. option_map_or (λ w. w) o 0) (last-at old.widths new.widths width cell refl widths);
      is_fixed = last-at old.fixed new.fixed fixed cell (sym sound.fixed) (ap (λ (p : Program). p.fixed) is);
      has_value = last-at old.values new.values value cell (sym sound.values) (ap (λ (p : Program). p.values) is);
    }

-- a new constant has the value of a constant expression
pub IsPlaceFor-constant : (old new : Program) (e : Typed) (word : Bits) → e.node ≡ node.Const word
    → IsTrue (typed_fits (signals_of old) e) → IsSound old
    → new ≡ with_cell true (width_of word) (value_of word) old → IsPlaceFor new e (length old.widths)
IsPlaceFor-constant old new e word is fits sound made =
    let last = last-cell old new true (width_of word) (value_of word) sound made in
    let fit : IsTrue (is_width e.width && width_of word == e.width) =
    subst (λ n. IsTrue (node_fits (signals_of old) e.width e.signed n)) is fits in
    let wide : width_of word ≡ e.width = eqb-true (width_of word) e.width (and_parts (is_width e.width) (width_of word == e.width) fit).1 in
    record {
      is_there = last.is_there;
      width = last.has_width ∙ wide;
      stands = λ leaf q V grown has.
          has.constants (length old.widths) (value_of word) (grown.fixed (length old.widths) true last.is_fixed)
          (grown.values (length old.widths) (value_of word) last.has_value)
          ∙ ap (node_value (signals_of q) (below (count_of q) V) e.width) (sym is);
      own = λ inner. absurd (differ (sym (ap is_leaf is) ∙ inner));
    }
  where
    differ : true ≡ false → ⊥
    differ same = absurd cc

-- a new cell that is no constant is one of the code's own
pub new-own : (old new : Program) (width cell : ℕ) → IsSound old → new ≡ with_cell false width 0 old → cell ≡ length old.widths
    → IsTrue (is_own new cell) × (width_in new.widths cell ≡ width)
new-own old new width cell sound made here =
    let last = last-cell old new false width 0 sound made in
    let same : count_of new ≡ count_of old = ap count_of made in
    let most : count_of old + count_of old + count_of old ≤ length old.widths = sound-cells old sound in (
      both (both (subst (λ n. IsTrue (is_cell new n)) (sym here) last.is_there)
          (ap (λ o. option_map_or not o false) (ap (slice_get new.fixed) here ∙ last.is_fixed)))
          (le-leb (count_of new + count_of new + count_of new) cell (omega arith)),
      ap (width_in new.widths) here ∙ last.has_width,
    )

-- a new cell that is no constant serves any other expression
pub IsPlaceFor-temporary : (old new : Program) (e : Typed) → is_leaf e.node ≡ false → IsSound old → new ≡ with_cell false e.width 0 old
    → IsPlaceFor new e (length old.widths)
IsPlaceFor-temporary old new e inner sound made =
    let last = last-cell old new false e.width 0 sound made in
    let same : count_of new ≡ count_of old = ap count_of made in
    let most : count_of old + count_of old + count_of old ≤ length old.widths = sound-cells old sound in
    record {
      is_there = last.is_there;
      width = last.has_width;
      stands = λ leaf q V grown has. absurd (differ (sym leaf ∙ inner));
      own = λ _. both (both last.is_there (ap (λ o. option_map_or not o false) last.is_fixed))
          (le-leb (count_of new + count_of new + count_of new) (length old.widths) (omega arith));
    }
  where
    differ : true ≡ false → ⊥
    differ same = absurd cc

-- a call's result is the number of the cell that it made
pub new-cell : {E : Type 0} (old made new : Program) (e : Typed) (r : Result ℕ E) → IfOk r (λ cell. cell ≡ length old.widths)
    → OnOk r (new ≡ made)
    → IsPlaceFor made e (length old.widths) → IfOk r (IsPlaceFor new e)
new-cell old made new e (Ok cell) here is at = subst (λ p. IsPlaceFor p e cell) (sym is) (subst (IsPlaceFor made e) (sym here) at)
new-cell old made new e (Err _) here is at = tt

-- ---- signals
width-of : (signals : List Signal) (widths : List ℕ) (s : ℕ) → s < length signals → take (length signals) widths ≡ signal_widths signals
    → option_map_or (λ width. width) (slice_get widths s) 0 ≡ width_at signals s
width-of signals widths s h is =
    ap (λ o. option_map_or (λ width. width) o 0)
    (sym (slice_get-take (length signals) widths s h) ∙ ap (λ ws. slice_get ws s) is ∙ slice_get-map (λ (x : Signal). x.width) signals s)
    ∙ mapped (slice_get signals s)
  where
    mapped : (o : Option Signal)
        → option_map_or (λ width. width) (option_map (λ (x : Signal). x.width) o) 0 ≡ option_map_or (λ (x : Signal). x.width) o 0
    mapped None = refl
    mapped (Some x) = refl

-- the cell of a signal's word has the signal's width
pub width_in-signal : (p : Program) (s : ℕ) → IsSound p → s < count_of p → width_in p.widths s ≡ width_at (signals_of p) s
width_in-signal p s sound h = width-of (signals_of p) p.widths s h sound.now

-- and so has that of its later update
pub later-width : (p : Program) (s : ℕ) → IsSound p → s < count_of p → width_in p.widths (count_of p + s) ≡ width_at (signals_of p) s
later-width p s sound h =
    ap (λ o. option_map_or (λ width. width) o 0) (sym (slice_get-drop (count_of p) p.widths s))
    ∙ width-of (signals_of p) (drop (count_of p) p.widths) s h sound.later

-- the words that are read are those of the cells
pub number-below_cells : (count width s : ℕ) (V : Valuation) → s < count → number width (below count V s) ≡ number width (V s)
number-below_cells count width s V low = number-same width (below count V s) (V s) (λ b h. ap (λ t. t && V s b) (lt-ltb s count low))

-- the cell of a signal has its value
pub IsPlaceFor-whole : (p : Program) (e : Typed) (s : ℕ) → e.node ≡ node.Whole s → IsTrue (typed_fits (signals_of p) e)
    → IsSound p → IsPlaceFor p e s
IsPlaceFor-whole p e s is fits sound =
    let fit : IsTrue (is_width e.width && is_signal (signals_of p) s && width_at (signals_of p) s == e.width) =
    subst (λ n. IsTrue (node_fits (signals_of p) e.width e.signed n)) is fits in
    let t = of_three (is_width e.width) (is_signal (signals_of p) s) (width_at (signals_of p) s == e.width) fit in
    let low : s < count_of p = ltb-true s (count_of p) t.1 in
    let most : count_of p + count_of p + count_of p ≤ length p.widths = sound-cells p sound in
    let there : IsTrue (is_cell p s) = lt-ltb s (length p.widths) (omega arith) in
    let wide : width_in p.widths s ≡ e.width = width_in-signal p s sound low ∙ eqb-true (width_at (signals_of p) s) e.width t.2 in
    record {
      is_there = there;
      width = wide;
      stands = λ leaf q V grown has.
          let same : count_of q ≡ count_of p = count-grown p q grown in
          ap (λ w. number w (V s)) (width_in-grown p q s grown there ∙ wide)
          ∙ sym (number-below_cells (count_of q) e.width s V (omega arith))
          ∙ ap (node_value (signals_of q) (below (count_of q) V) e.width) (sym is);
      own = λ inner. absurd (differ (sym (ap is_leaf is) ∙ inner));
    }
  where
    differ : true ≡ false → ⊥
    differ same = absurd cc
