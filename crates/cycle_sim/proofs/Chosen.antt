-- The entries of a cycle are the choice of its row.
use Rattle.std.proofs.Common.{◌≡◌, ℕ, ◌+◌, ◌*◌, Bool, true, false, List, [], ◌∷◌, take, drop, map, length, ap, ◌∙◌, sym, refl, arith, ◌⊎◌, inl, inr}
use Rattle.std.specs.Prelude.{◌==◌, if◌then◌else◌}
use Rattle.std.proofs.Math.Path.{fun_ext}
use Rattle.std.proofs.lemmas.Bool.{or_parts, cases_Bool}
use Rattle.loc_base.specs.declared.bits.Bits.{Bits}
use Rattle.loc_base.specs.Bits.{value_of}
use Rattle.design_core.specs.declared.values.Values.{Values}
use Rattle.design_core.specs.Run.{choice_at}
use Rattle.design_core.specs.Words.{choice_of}
use Rattle.design_core.specs.Given.{row}
use Rattle.design_core.specs.Explained.{is_one_of, number_for, row_of, row_at}
use Rattle.cycle_sim.specs.Replaying.{AreReady, chosen_at, choices_from}

number_for-none : (places numbers : List ℕ) (p : ℕ) → is_one_of places p ≡ false → number_for places numbers p ≡ 0
number_for-none [] numbers p none = refl
number_for-none (place ∷ places) [] p none = refl
number_for-none (place ∷ places) (number ∷ numbers) p none =
    let both = or_parts (place == p) (is_one_of places p) none in
    ap (λ t. if t then number else number_for places numbers p) both.0 ∙ number_for-none places numbers p both.1

-- a row of a flat list
pub row-is : (places : List ℕ) (rows : List Bits) (r : ℕ) → row rows (length places) r ≡ row_of places rows r
row-is places rows r = ap (λ n. take n (drop (r * length places) rows)) (omega arith)

-- what is chosen is what the rows give
pub chosen-is : (values : Values) (old new : List Bits) (frees : List Bool) (first t : ℕ) (chosen : List Bits) → AreReady values frees old
    → chosen ≡ row values.rows.items (length values.places.items) (first + t)
    → ((p : ℕ) → chosen_at new p ≡ (if is_one_of values.places.items p then number_for values.places.items
    (map value_of chosen) p else chosen_at old p))
    → (p : ℕ) → chosen_at new p ≡ choices_from values first t p
chosen-is values old new frees first t chosen ready is each p = each p ∙ at (cases_Bool (is_one_of values.places.items p))
  where
    numbers : map value_of chosen ≡ row_at values (first + t)
    numbers = ap (map value_of) (is ∙ row-is values.places.items values.rows.items (first + t))

    at : (is_one_of values.places.items p ≡ true) ⊎ (is_one_of values.places.items p ≡ false)
        → (if is_one_of values.places.items p then number_for values.places.items (map value_of chosen) p else chosen_at old
        p) ≡ choices_from values first t p
    at (inl on) =
        ap (λ x. if x then number_for values.places.items (map value_of chosen) p else chosen_at old p) on
        ∙ ap (λ ns. number_for values.places.items ns p) numbers
    at (inr off) =
        ap (λ x. if x then number_for values.places.items (map value_of chosen) p else chosen_at old p) off
        ∙ ready.zeros p off ∙ sym (number_for-none values.places.items (row_at values (first + t)) p off)

pub choice-is : (values : Values) (frees : List Bool) (new : List Bits) (first t : ℕ)
    → ((p : ℕ) → (choice_of frees new).frees p ≡ is_one_of values.places.items p)
    → ((p : ℕ) → chosen_at new p ≡ choices_from values first t p)
    → choice_of frees new ≡ choice_at (is_one_of values.places.items) (choices_from values first) t
choice-is values frees new first t by_freed by_chosen =
    ap (λ (f : ℕ → Bool). record { frees = f; chosen = chosen_at new }) (fun_ext by_freed)
    ∙ ap (λ (g : ℕ → ℕ). record { frees = is_one_of values.places.items; chosen = g }) (fun_ext by_chosen)

-- the entries are ready for the next cycle
pub still-ready : (values : Values) (frees : List Bool) (old new : List Bits) (numbers : List ℕ) → AreReady values frees old
    → ((p : ℕ) → chosen_at new p ≡ (if is_one_of values.places.items p then number_for values.places.items numbers p else
    chosen_at old p)) → AreReady values frees new
still-ready values frees old new numbers ready each =
    record {
      freed = ready.freed;
      zeros = λ p off. each p ∙ ap (λ x. if x then number_for values.places.items numbers p else chosen_at old p) off ∙ ready.zeros p off;
    }
