-- The outputs of a cycle compared with what is expected of them, one after another.
use Rattle.std.proofs.Common.{ℕ, ◌+◌, ◌≡◌, ◌<◌, ◌≤◌, true, List, length, get_or, ap, sym, subst, ◌∙◌, arith, ◌⊎◌, inl, inr}
use Rattle.std.proofs.lemmas.Bool.{cases_lt}
use Rattle.std.specs.Prelude.{IsTrue, slice_get, Some}
use Rattle.std.proofs.lemmas.Option.{slice_get_within}
use Rattle.loc_base.specs.Bits.{bit_of, width_of}
use Rattle.loc_base.proofs.ShelfLists.{slice_get-at}
use Rattle.loc_base.proofs.ShelfOptions.{Some-same}
use Rattle.design_core.specs.declared.design.Design.{Design}
use Rattle.design_core.specs.declared.trace.Checked.{Checked}
use Rattle.design_core.specs.Run.{IsRight}
use Rattle.design_core.specs.TraceFits.{expected_fit}
use Rattle.design_core.specs.Valuation.{Valuation, width_at}
use Rattle.plain_sim.proofs.EvaluateOutputs.{EntryFits, entry-fits, some-index}
use Rattle.plain_sim.proofs.EvaluateSamples.{width-signal}
use Rattle.cycle_sim.specs.Replaying.{RightBefore}

-- an output with what is expected of it
pub record Entry (d : Design) (expected : List Checked) (i output : ℕ) (checked : Checked) : Type 0 where
  pub is_output : slice_get d.outputs.items i ≡ Some output
  pub is_checked : slice_get expected i ≡ Some checked
  pub within : output < length d.signals.items
  pub value : width_at d.signals.items output ≡ width_of checked.value
  pub mask : width_at d.signals.items output ≡ width_of checked.mask

pub entry-at : (d : Design) (expected : List Checked) (i output : ℕ) (checked : Checked) → expected_fit d.signals.items d.outputs.items expected ≡ true → i < length expected
    → output ≡ get_or d.outputs.items i output → checked ≡ get_or expected i checked → Entry d expected i output checked
entry-at d expected i output checked fit low at there =
    record {
      is_output = listed;
      is_checked = slice_get-at expected i checked low there;
      within = width-signal d.signals.items output (subst (λ n. 1 ≤ n) (sym value) checked.value.at_least_one);
      value = value;
      mask = sym (ap (λ (e : Checked). width_of e.mask) there ∙ fits.mask checked ∙ which);
    }
  where
    fits : EntryFits d.signals.items d.outputs.items expected i
    fits = entry-fits d.signals.items d.outputs.items expected i fit low

    listed : slice_get d.outputs.items i ≡ Some output
    listed = slice_get-at d.outputs.items i output fits.within at

    which : width_at d.signals.items (get_or d.outputs.items i 0) ≡ width_at d.signals.items output
    which = ap (width_at d.signals.items) (some-index d.outputs.items i output listed)

    value : width_at d.signals.items output ≡ width_of checked.value
    value = sym (ap (λ (e : Checked). width_of e.value) there ∙ fits.value checked ∙ which)

-- one output more is right
pub right-next : (d : Design) (expected : List Checked) (V : Valuation) (n : ℕ) → RightBefore d expected V n
    → ((output : ℕ) (checked : Checked) → slice_get d.outputs.items n ≡ Some output → slice_get expected n ≡ Some checked
    → (b : ℕ) → IsTrue (bit_of checked.mask b) → V output b ≡ bit_of checked.value b)
    → RightBefore d expected V (n + 1)
right-next d expected V n before here i output checked b low is_output is_checked masked = at (cases_lt i n)
  where
    at : (i < n) ⊎ (n ≤ i) → V output b ≡ bit_of checked.value b
    at (inl lower) = before i output checked b lower is_output is_checked masked
    at (inr higher) =
        let same : n ≡ i = omega (arith, higher, low) in
        here output checked (ap (slice_get d.outputs.items) same ∙ is_output) (ap (slice_get expected) same ∙ is_checked) b masked

pub right-more : (d : Design) (expected : List Checked) (V : Valuation) (i output : ℕ) (checked : Checked) → RightBefore d expected V i → Entry d expected i output checked
    → ((b : ℕ) → IsTrue (bit_of checked.mask b) → V output b ≡ bit_of checked.value b) → RightBefore d expected V (i + 1)
right-more d expected V i output checked before entry right =
    right-next d expected V i before (λ other found at there b masked.
    subst (λ s. V s b ≡ bit_of found.value b) (Some-same (sym entry.is_output ∙ at))
    (subst (λ (e : Checked). IsTrue (bit_of e.mask b) → V output b ≡ bit_of e.value b) (Some-same (sym entry.is_checked ∙ there)) (right b) masked))

-- all of them are
pub right-throughout : (d : Design) (expected : List Checked) (V : Valuation) (n : ℕ) → length expected ≤ n → RightBefore d expected V n → IsRight d expected V
right-throughout d expected V n all before i output checked b is_output is_checked masked =
    before i output checked b (omega (arith, all, slice_get_within expected i checked is_checked)) is_output is_checked masked
