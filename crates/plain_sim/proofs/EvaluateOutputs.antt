-- The outputs compared with what is expected of them, from the first on.
use Rattle.std.proofs.Common.{◌≡◌, ◌≢◌, ℕ, zero, suc, ◌+◌, ◌<◌, ◌≤◌, ◌⊎◌, inl, inr, true, false, ◌==◌, ◌&&◌, List, [], ◌∷◌, length, get_or, refl, ap, sym, ◌∙◌, subst, arith}
use Rattle.std.specs.Prelude.{IsTrue, slice_get, Some, bit_and}
use Rattle.std.specs.Option.{option_map_or}
use Rattle.std.proofs.lemmas.Option.{slice_get_within, get_or_from_slice_get}
use Rattle.loc_base.specs.declared.bits.Bits.{Bits}
use Rattle.loc_base.specs.Bits.{width_of, value_of, bit_of}
use Rattle.design_core.specs.declared.signal.Signal.{Signal}
use Rattle.design_core.specs.declared.trace.Checked.{Checked}
use Rattle.design_core.specs.declared.design.Design.{Design}
use Rattle.design_core.specs.Valuation.{width_at}
use Rattle.design_core.specs.Words.{valuation_of, AreWordsOf}
use Rattle.design_core.specs.TraceFits.{expected_fit}
use Rattle.design_core.specs.Run.{IsRight}
use Rattle.std.proofs.lemmas.Bool.{and_parts}
use Rattle.loc_base.proofs.ShelfBools.{equal-true}
use Rattle.loc_base.proofs.ShelfLists.{slice_get-at}
use Rattle.loc_base.proofs.ShelfOptions.{Some-same}
use Rattle.plain_values.proofs.EvaluateWords.{word-width, words-length}
use Rattle.plain_sim.specs.EvaluateCycle.{IsRightWord}
use Rattle.plain_sim.proofs.EvaluateSamples.{width-signal}

same_or_not : (m n : ℕ) → (m ≡ n) ⊎ (m ≢ n)
same_or_not zero zero = inl refl
same_or_not zero (suc n) = inr (λ e. absurd (omega (arith, e)))
same_or_not (suc m) zero = inr (λ e. absurd (omega (arith, e)))
same_or_not (suc m) (suc n) = elim (same_or_not m n) [ inl e ↦ inl (ap suc e) | inr ne ↦ inr (λ e. ne (omega (arith, e))) ]

word-bit : (words : List Bits) (s : ℕ) (word : Bits) (b : ℕ) → slice_get words s ≡ Some word → valuation_of words s b ≡ bit_of word b
word-bit words s word b e = ap (λ o. option_map_or (λ x. bit_of x b) o false) e

-- the first outputs are right
abbrev pub AreRightBefore : Design → List Checked → List Bits → ℕ → Type 0
AreRightBefore d expected words count =
    (i output : ℕ) (checked : Checked) (b : ℕ) → i < count → slice_get d.outputs.items i ≡ Some output → slice_get expected i ≡ Some checked
    → IsTrue (bit_of checked.mask b) → valuation_of words output b ≡ bit_of checked.value b

-- an entry fits its output
pub record EntryFits (signals : List Signal) (outputs : List ℕ) (expected : List Checked) (i : ℕ) : Type 0 where
  pub within : i < length outputs
  pub value : (x : Checked) → width_of (get_or expected i x).value ≡ width_at signals (get_or outputs i 0)
  pub mask : (x : Checked) → width_of (get_or expected i x).mask ≡ width_at signals (get_or outputs i 0)

pub entry-fits : (signals : List Signal) (outputs : List ℕ) (expected : List Checked) (i : ℕ) → expected_fit signals outputs expected ≡ true → i < length expected → EntryFits signals outputs expected i
entry-fits signals outputs [] i h l = absurd (omega (arith, l))
entry-fits signals [] (e ∷ expected) i h l = absurd (bad h)
  where
    bad : false ≡ true → ⊥
    bad e = cc
entry-fits signals (s ∷ outputs) (e ∷ expected) zero h l =
    let three : _ × _ = and_parts ((width_of e.value == width_at signals s && width_of e.mask == width_at signals s) && bit_and (value_of e.value) (value_of e.mask) == value_of e.value) (expected_fit signals outputs expected) h in
    let two : _ × _ = and_parts (width_of e.value == width_at signals s && width_of e.mask == width_at signals s) (bit_and (value_of e.value) (value_of e.mask) == value_of e.value) three.0 in
    let one : _ × _ = and_parts (width_of e.value == width_at signals s) (width_of e.mask == width_at signals s) two.0 in
    record { within = omega arith; value = λ x. equal-true _ _ one.0; mask = λ x. equal-true _ _ one.1 }
entry-fits signals (s ∷ outputs) (e ∷ expected) (suc i) h l =
    later (entry-fits signals outputs expected i (and_parts ((width_of e.value == width_at signals s && width_of e.mask == width_at signals s) && bit_and (value_of e.value) (value_of e.mask) == value_of e.value) (expected_fit signals outputs expected) h).1 (omega (arith, l)))
  where
    later : EntryFits signals outputs expected i → EntryFits signals (s ∷ outputs) (e ∷ expected) (suc i)
    later f = record { within = omega (arith, f.within); value = f.value; mask = f.mask }

pub some-index : (xs : List ℕ) (i x : ℕ) → slice_get xs i ≡ Some x → get_or xs i 0 ≡ x
some-index xs i x e = get_or_from_slice_get xs i x 0 e

-- the output of an entry, and its word
pub record At (d : Design) (words : List Bits) (expected : List Checked) (i output : ℕ) : Type 0 where
  pub entry : i < length expected
  pub listed : i < length d.outputs.items
  pub is_output : slice_get d.outputs.items i ≡ Some output
  pub within : output < length words

pub outputs-listed : (d : Design) (expected : List Checked) (i : ℕ) → expected_fit d.signals.items d.outputs.items expected ≡ true → i < length expected → i < length d.outputs.items
outputs-listed d expected i h l = (entry-fits d.signals.items d.outputs.items expected i h l).within

pub output-at : (d : Design) (words : List Bits) (expected : List Checked) (i output : ℕ) (checked : Checked) → AreWordsOf d.signals.items words → expected_fit d.signals.items d.outputs.items expected ≡ true
    → i < length expected → checked ≡ get_or expected i checked → output ≡ get_or d.outputs.items i output → At d words expected i output
output-at d words expected i output checked a h l at is =
    record {
      entry = l;
      listed = outputs-listed d expected i h l;
      is_output = listed;
      within = subst (λ n. output < n) (sym (words-length d.signals.items words a))
          (width-signal d.signals.items output
          (subst (λ n. 1 ≤ n) (ap (λ e. width_of e.value) at ∙ (entry-fits d.signals.items d.outputs.items expected i h l).value checked ∙ ap (width_at d.signals.items) (some-index d.outputs.items i output listed)) checked.value.at_least_one));
    }
  where
    listed : slice_get d.outputs.items i ≡ Some output
    listed = slice_get-at d.outputs.items i output (outputs-listed d expected i h l) is

-- one more output is right
pub right-next : (d : Design) (expected : List Checked) (words : List Bits) (i output : ℕ) (word : Bits) (checked : Checked) → AreRightBefore d expected words i → At d words expected i output
    → word ≡ get_or words output word → checked ≡ get_or expected i checked → IsRightWord word checked → AreRightBefore d expected words (i + 1)
right-next d expected words i output word checked before at at_word at_checked right j other entry b h o e m = by_place (same_or_not j i)
  where
    by_place : (j ≡ i) ⊎ (j ≢ i) → valuation_of words other b ≡ bit_of entry.value b
    by_place (inr apart) = before j other entry b (omega (arith, h, apart)) o e m
    by_place (inl same) =
        word-bit words other word b (ap (slice_get words) which ∙ slice_get-at words output word at.within at_word)
        ∙ right b (subst (λ x. IsTrue (bit_of x.mask b)) entry_is m) ∙ sym (ap (λ x. bit_of x.value b) entry_is)
      where
        entry_is : entry ≡ checked
        entry_is = Some-same (sym e ∙ ap (slice_get expected) same ∙ slice_get-at expected i checked at.entry at_checked)

        which : other ≡ output
        which = Some-same (sym o ∙ ap (slice_get d.outputs.items) same ∙ at.is_output)

-- where the outputs are right, each is
pub right-at : (d : Design) (expected : List Checked) (words : List Bits) (i output : ℕ) (word : Bits) (checked : Checked) → At d words expected i output
    → word ≡ get_or words output word → checked ≡ get_or expected i checked → IsRight d expected (valuation_of words) → IsRightWord word checked
right-at d expected words i output word checked at at_word at_checked right b m =
    sym (word-bit words output word b (slice_get-at words output word at.within at_word))
    ∙ right i output checked b at.is_output (slice_get-at expected i checked at.entry at_checked) m

-- the widths that are compared are the output's
pub entry-widths : (d : Design) (words : List Bits) (expected : List Checked) (i output : ℕ) (word : Bits) (checked : Checked) → AreWordsOf d.signals.items words
    → expected_fit d.signals.items d.outputs.items expected ≡ true → At d words expected i output → word ≡ get_or words output word → checked ≡ get_or expected i checked
    → (width_of word ≡ width_of checked.value) × (width_of word ≡ width_of checked.mask)
entry-widths d words expected i output word checked a h at at_word at_checked = (
  wide ∙ sym (ap (λ e. width_of e.value) at_checked ∙ fits.value checked ∙ which),
  wide ∙ sym (ap (λ e. width_of e.mask) at_checked ∙ fits.mask checked ∙ which),
)
  where
    fits : EntryFits d.signals.items d.outputs.items expected i
    fits = entry-fits d.signals.items d.outputs.items expected i h at.entry

    which : width_at d.signals.items (get_or d.outputs.items i 0) ≡ width_at d.signals.items output
    which = ap (width_at d.signals.items) (some-index d.outputs.items i output at.is_output)

    wide : width_of word ≡ width_at d.signals.items output
    wide = word-width d.signals.items words output word a (slice_get-at words output word at.within at_word)

pub all-right : (d : Design) (expected : List Checked) (words : List Bits) (count : ℕ) → length expected ≤ count → AreRightBefore d expected words count → IsRight d expected (valuation_of words)
all-right d expected words count h before i output checked b o e m =
    before i output checked b (omega (arith, h, slice_get_within expected i checked e)) o e m
