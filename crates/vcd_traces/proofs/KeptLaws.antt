-- The cycles that are kept are those of the stamps, one stamp after another.
use Rattle.std.proofs.Common.{◌≡◌, ℕ, suc, ◌+◌, ◌<◌, ◌≤◌, ◌==◌, Bool, true, false, ◌||◌, List, [], ◌∷◌, ◌++◌, length, refl, sym, ◌∙◌, ap, subst, inl, inr, arith, append_assoc, length-append, Option, Some, None, is_some, nat_lt}
use Rattle.std.specs.List.{find}
use Rattle.std.specs.Option.{option_map, option_or}
use Rattle.std.proofs.lemmas.Bool.{cases_Bool, cond-true, cond-false, ltb-true}
use Rattle.std.proofs.lemmas.Bool.Decides.{nat_tests}
use Rattle.std.proofs.lemmas.List.{append-nil}
use Rattle.loc_base.proofs.ShelfBools.{equal-true}
use Rattle.loc_base.proofs.ShelfOptions.{is_some-true, is_some-false}
use Rattle.vcd_reading.specs.declared.error.VcdErr.{VcdErr}
use Rattle.vcd_reading.specs.declared.error.VcdErr.TheVariants.{UnknownInput}
use Rattle.vcd_traces.specs.declared.rows.Unknown.{Unknown}
use Rattle.vcd_reading.specs.Events.{Event}
use Rattle.vcd_traces.specs.Samples.{Watch, Watches, is_unknown, needed, unknown_in, unknown_from}
use Rattle.vcd_traces.specs.Rows.{Row, Kept, no_row, no_rows, joined, with_cycle, pushed}
use Rattle.vcd_traces.specs.Kept.{row_at, cycle_at, rows_at, refusal_by, AreKept}
use Rattle.vcd_traces.proofs.RowLaws.{row_with}

pub row_same : (a b c d e f : List ℕ) (k l m n o p : List ℕ) → a ≡ k → b ≡ l → c ≡ m → d ≡ n → e ≡ o → f ≡ p
    → row_with a b c d e f ≡ row_with k l m n o p
row_same a b c d e f k l m n o p one two three four five six = cc

joined_assoc : (a b c : Row) → joined (joined a b) c ≡ joined a (joined b c)
joined_assoc a b c =
    row_same _ _ _ _ _ _ _ _ _ _ _ _ (append_assoc a.inputs b.inputs c.inputs) (append_assoc a.input_widths b.input_widths c.input_widths)
    (append_assoc a.masks b.masks c.masks) (append_assoc a.mask_widths b.mask_widths c.mask_widths)
    (append_assoc a.values b.values c.values) (append_assoc a.value_widths b.value_widths c.value_widths)

joined_none : (a : Row) → joined a no_row ≡ a
joined_none a =
    row_same _ _ _ _ _ _ _ _ _ _ _ _ (append-nil a.inputs) (append-nil a.input_widths) (append-nil a.masks) (append-nil a.mask_widths)
    (append-nil a.values) (append-nil a.value_widths)

-- one more stamp
rows_more : (w : Watches) (events : List Event) (times : List ℕ) (time : ℕ)
    → rows_at w events (times ++ time ∷ []) ≡ joined (rows_at w events times) (row_at w events time)
rows_more w events [] time = joined_none (row_at w events time)
rows_more w events (first ∷ times) time =
    ap (joined (row_at w events first)) (rows_more w events times time) ∙ sym (joined_assoc (row_at w events first) (rows_at w events times) (row_at w events time))

or_assoc : (a b c : Option VcdErr) → option_or a (option_or b c) ≡ option_or (option_or a b) c
or_assoc None b c = refl
or_assoc (Some a) b c = refl

or_none : (a : Option VcdErr) → option_or a None ≡ a
or_none None = refl
or_none (Some a) = refl

unknown_more : (w : Watches) (events : List Event) (cycle : ℕ) (times : List ℕ) (time : ℕ)
    → unknown_from w events cycle (times ++ time ∷ [])
    ≡ option_or (unknown_from w events cycle times) (unknown_in (cycle + length times) (find (is_unknown w.clock events time) (needed w.zero_inputs w.inputs)))
unknown_more w events cycle [] time =
    let same : cycle ≡ cycle + 0 = omega arith in
    or_none (unknown_in cycle (find (is_unknown w.clock events time) (needed w.zero_inputs w.inputs)))
    ∙ ap (λ n. unknown_in n (find (is_unknown w.clock events time) (needed w.zero_inputs w.inputs))) same
unknown_more w events cycle (first ∷ times) time =
    let same : cycle + 1 + length times ≡ cycle + suc (length times) = omega arith in
    let here = unknown_in cycle (find (is_unknown w.clock events first) (needed w.zero_inputs w.inputs)) in
    let last = find (is_unknown w.clock events time) (needed w.zero_inputs w.inputs) in
    ap (option_or here) (unknown_more w events (cycle + 1) times time ∙ ap (λ n. option_or (unknown_from w events (cycle + 1) times) (unknown_in n last)) same)
    ∙ or_assoc here (unknown_from w events (cycle + 1) times) (unknown_in (cycle + suc (length times)) last)

length_more : (times : List ℕ) (time : ℕ) → length (times ++ time ∷ []) ≡ length times + 1
length_more times time = length-append times (time ∷ [])

-- no stamp yet
pub kept_none : (w : Watches) (events : List Event) → AreKept w events [] no_rows
kept_none w events = record { cycles = refl; unknown = λ few. refl; rows = λ few none. refl }

-- more cycles than a trace may have
kept_full : (w : Watches) (events : List Event) (times : List ℕ) (time : ℕ) (kept : Kept) → AreKept w events times kept
    → 100000 < kept.cycles → AreKept w events (times ++ time ∷ []) kept
kept_full w events times time kept are full = record {
  cycles = omega (arith, are.cycles, length_more times time);
  unknown = λ few. absurd (omega (arith, are.cycles, length_more times time));
  rows = λ few none. absurd (omega (arith, are.cycles, length_more times time));
}

-- an unknown input before, or one cycle too many
kept_counted : (w : Watches) (events : List Event) (times : List ℕ) (time : ℕ) (kept : Kept) → AreKept w events times kept
    → kept.cycles ≤ 100000 → (is_some kept.unknown || kept.cycles == 100000) ≡ true
    → AreKept w events (times ++ time ∷ []) (record kept { cycles = kept.cycles + 1 })
kept_counted w events times time kept are within stays = record {
  cycles = omega (arith, are.cycles, length_more times time);
  unknown = λ few.
      let less : kept.cycles < 100000 = omega (arith, are.cycles, length_more times time) in
      let some = is_some-true kept.unknown (some_of (is_some kept.unknown) kept.cycles less stays) in
      let before : unknown_from w events 0 times ≡ Some (UnknownInput some.0.cycle some.0.signal) =
      sym (are.unknown (omega (arith, are.cycles, length_more times time))) ∙ ap refusal_by some.1 in
      ap refusal_by some.1
      ∙ sym (unknown_more w events 0 times time ∙ ap (λ o. option_or o (unknown_in (0 + length times) (find (is_unknown w.clock events time) (needed w.zero_inputs w.inputs)))) before);
  rows = λ few none.
      let less : kept.cycles < 100000 = omega (arith, are.cycles, length_more times time) in
      let some = some_of (is_some kept.unknown) kept.cycles less stays in
      absurd (false_some kept.unknown none some);
}
  where
    some_of : (b : Bool) (n : ℕ) → n < 100000 → (b || n == 100000) ≡ true → b ≡ true
    some_of true n less either = refl
    some_of false n less either = absurd (omega (arith, equal-true n 100000 either))

    false_some : (o : Option Unknown) → o ≡ None → is_some o ≡ true → ⊥
    false_some o none some = let e : is_some o ≡ false = ap is_some none in cc

-- a cycle is taken
kept_taken : (w : Watches) (events : List Event) (times : List ℕ) (time : ℕ) (kept : Kept) (found : Option Watch) → AreKept w events times kept
    → kept.cycles < 100000 → kept.unknown ≡ None → found ≡ find (is_unknown w.clock events time) (needed w.zero_inputs w.inputs)
    → AreKept w events (times ++ time ∷ [])
    (with_cycle (record kept { cycles = kept.cycles + 1 }) kept.cycles (cycle_at w events time) (option_map (λ (watch : Watch). watch.signal) found))
kept_taken w events times time kept None are less none is = record {
  cycles = omega (arith, are.cycles, length_more times time);
  unknown = λ few.
      are.unknown (omega (arith, are.cycles)) ∙ sym (or_none (unknown_from w events 0 times))
      ∙ ap (λ f. option_or (unknown_from w events 0 times) (unknown_in (0 + length times) f)) is ∙ sym (unknown_more w events 0 times time);
  rows = λ few still.
      ap (λ r. joined r (row_at w events time)) (are.rows (omega (arith, are.cycles)) none) ∙ sym (rows_more w events times time);
}
kept_taken w events times time kept (Some watch) are less none is = record {
  cycles = omega (arith, are.cycles, length_more times time);
  unknown = λ few.
      let before : unknown_from w events 0 times ≡ None = sym (are.unknown (omega (arith, are.cycles))) ∙ ap refusal_by none in
      let count : kept.cycles ≡ 0 + length times = omega (arith, are.cycles) in
      ap (λ n. Some (UnknownInput n watch.signal)) count
      ∙ sym
      (unknown_more w events 0 times time ∙ ap (λ o. option_or o (unknown_in (0 + length times) (find (is_unknown w.clock events time) (needed w.zero_inputs w.inputs)))) before
      ∙ ap (unknown_in (0 + length times)) (sym is));
  rows = λ few still. cc;
}

neither : (a b : Bool) → (a || b) ≡ false → (a ≡ false) × (b ≡ false)
neither true b e = cc
neither false b e = (refl, e)

-- one more stamp that is a cycle
pub kept_more : (w : Watches) (events : List Event) (times : List ℕ) (time : ℕ) (kept : Kept) → AreKept w events times kept
    → AreKept w events (times ++ time ∷ []) (pushed kept (cycle_at w events time))
kept_more w events times time kept are =
    let K : Kept → Type 0 = AreKept w events (times ++ time ∷ []) in
    elim (cases_Bool (nat_lt 100000 kept.cycles)) [
      | inl full ↦ subst K (sym (cond-true _ _ _ full)) (kept_full w events times time kept are (ltb-true 100000 kept.cycles full))
      | inr room ↦
          let within : kept.cycles ≤ 100000 = not_above kept.cycles room in
          elim (cases_Bool (is_some kept.unknown || kept.cycles == 100000)) [
            | inl stays ↦ subst K (sym (cond-false _ _ _ room ∙ cond-true _ _ _ stays)) (kept_counted w events times time kept are within stays)
            | inr takes ↦
                let parts = neither (is_some kept.unknown) (kept.cycles == 100000) takes in
                subst K (sym (cond-false _ _ _ room ∙ cond-false _ _ _ takes))
                (kept_taken w events times time kept (find (is_unknown w.clock events time) (needed w.zero_inputs w.inputs)) are (below kept.cycles within parts.1)
                (is_some-false kept.unknown parts.0) refl)
          ]
    ]
  where
    not_above : (n : ℕ) → nat_lt 100000 n ≡ false → n ≤ 100000
    not_above n e = grind (arith, nat_tests)

    below : (n : ℕ) → n ≤ 100000 → (n == 100000) ≡ false → n < 100000
    below n within e = grind (arith, nat_tests)
