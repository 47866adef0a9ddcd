-- What the rows of all traces say of a set.
use Rattle.std.proofs.Common.{◌≡◌, ℕ, zero, suc, ◌+◌, ◌-◌, ◌*◌, ◌<◌, ◌≤◌, ◌^◌, ◌==◌, if◌then◌else◌, ◌⊎◌, inl, inr, Bool, true, false, List, [], ◌∷◌, ◌++◌, length, take, drop, map, get_or, refl, ap, sym, ◌∙◌, subst, arith, pow_pos}
use Rattle.std.specs.Prelude.{slice_get, Some}
use Rattle.std.specs.List.Sorted.{IsStrictlyIncreasing}
use Rattle.std.specs.Option.{option_map_or}
use Rattle.std.proofs.Math.Nat.{mul-le-mul_right, eq-or-lt_of_le}
use Rattle.std.proofs.lemmas.Grind.{common_steps}
use Rattle.std.proofs.lemmas.Option.{slice_get_within}
use Rattle.loc_base.specs.declared.bits.Bits.{Bits}
use Rattle.loc_base.specs.Bits.{value_of}
use Rattle.loc_base.proofs.ShelfOptions.{Some-same}
use Rattle.design_core.specs.declared.design.Design.{Design}
use Rattle.design_core.specs.declared.place.Place.{Place}
use Rattle.design_core.specs.declared.trace.Trace.{Trace}
use Rattle.design_core.specs.declared.values.Values.{Values}
use Rattle.design_core.specs.Run.{Choices, Meets, expected_at, samples_at}
use Rattle.design_core.specs.Works.{AreOfWidth, places_of, IsSet, Works}
use Rattle.plain_list.specs.Network.{IsNetwork}
use Rattle.plain_list.specs.Trial.{AreNumbersFor}
use Rattle.design_core.specs.Explained.{cycles_before, choices_in, number_for, is_one_of, place_width, Explains}
use Rattle.plain_list.specs.Rightness.{AreRight}
use Rattle.plain_list.specs.Groups.{groups_of, places_in}
use Rattle.plain_list.specs.Rows.{IsRightRow, AreAdded, AreExplained, CanBeRight}
use Rattle.design_core.specs.Explained.{row_of, AreRows, AreValuesOf}
use Rattle.design_core.proofs.CyclesBefore.{cycles_before-none, cycles_before-next, cycles-within}
use Rattle.plain_list.proofs.Settled.{lt_or_ge}
use Rattle.plain_list.proofs.Cycles.{meets-by-cycles}
use Rattle.plain_list.proofs.Rowing.{IsRow-numbers}
use Rattle.plain_list.proofs.Grouping.{freed-places, places_in-rising, set-positive}

-- at first no trace is explained
pub nothing-explained : (d : Design) (order : List ℕ) (traces : List Trace) (places : List ℕ) (rows : List Bits) → rows ≡ [] → AreExplained d order traces places rows 0
nothing-explained d order traces places rows e =
    record {
      fit = subst (AreRows d places rows) (sym (cycles_before-none traces)) (record { whole = ap length e ∙ none_mul; each = λ r h. absurd (omega (arith, h)) });
      right = λ j trace t at h l. absurd (omega (arith, h));
    }
  where
    none_mul : 0 ≡ 0 * length places
    none_mul = omega arith

-- one more trace is explained
pub one_more-explained : (d : Design) (order : List ℕ) (traces : List Trace) (places : List ℕ) (old new : List Bits) (k : ℕ) (trace : Trace) → slice_get traces k ≡ Some trace
    → AreExplained d order traces places old k
    → ((first : ℕ) → AreRows d places old first → AreAdded d order trace places old new first trace.cycles)
    → AreExplained d order traces places new (k + 1)
one_more-explained d order traces places old new k trace at a adds =
    record {
      fit = subst (AreRows d places new) (sym (cycles_before-next traces k trace at)) added.rows;
      right = λ j other t at' h l. right j other t at' (eq-or-lt_of_le (below j h)) l;
    }
  where
    added : AreAdded d order trace places old new (cycles_before traces k) trace.cycles
    added = adds (cycles_before traces k) a.fit

    below : (j : ℕ) → j < k + 1 → j ≤ k
    below j h = omega (arith, h)

    right : (j : ℕ) (other : Trace) (t : ℕ) → slice_get traces j ≡ Some other → (j ≡ k) ⊎ (j < k) → t < other.cycles
        → IsRightRow d order other places new t (cycles_before traces j + t)
    right j other t at' (inl e) l =
        let same : trace ≡ other = Some-same (sym at ∙ ap (slice_get traces) (sym e) ∙ at') in
        subst (λ n. IsRightRow d order other places new t (cycles_before traces n + t)) (sym e)
        (subst (λ x. IsRightRow d order x places new t (cycles_before traces k + t)) same
        (added.right t (subst (λ (x : Trace). t < x.cycles) (sym same) l)))
    right j other t at' (inr h) l =
        subst (λ row. AreRight d order (samples_at d other t) (expected_at d other t) places (map value_of row))
        (sym (added.kept (cycles_before traces j + t) (cycles-within traces j k other t at' h l)))
        (a.right j other t at' h l)

-- where no values make one trace right, not all traces can be right
pub one-wrong : (d : Design) (traces : List Trace) (freed : ℕ → Bool) (k : ℕ) (trace : Trace) → k < length traces → trace ≡ get_or traces k trace
    → ((c : Choices) → AreOfWidth d freed c → ¬ Meets d trace freed c) → ¬ CanBeRight d traces freed
one-wrong d traces freed k trace h at none can = wrong (can trace (k, h, sym at))
  where
    wrong : (c : Choices) × AreOfWidth d freed c × Meets d trace freed c → ⊥
    wrong (c, widths, meets) = none c widths meets

-- one more place with a number
pub AreNumbersFor-push : (d : Design) (places numbers : List ℕ) (place number : ℕ) → AreNumbersFor d places numbers → number < 2 ^ place_width d place
    → AreNumbersFor d (places ++ place ∷ []) (numbers ++ number ∷ [])
AreNumbersFor-push d [] [] place number a h = (h, tt)
AreNumbersFor-push d [] (n ∷ numbers) place number a h = absurd a
AreNumbersFor-push d (p ∷ places) [] place number a h = absurd a
AreNumbersFor-push d (p ∷ places) (n ∷ numbers) place number a h = (a.0, AreNumbersFor-push d places numbers place number a.1 h)

-- a number for a place is of the place's width, also where the row has ended
pub number_for-range : (d : Design) (places numbers : List ℕ) (p : ℕ) → AreNumbersFor d places numbers → number_for places numbers p < 2 ^ place_width d p
number_for-range d [] [] p a = pow_pos (place_width d p)
number_for-range d [] (number ∷ numbers) p a = absurd a
number_for-range d (place ∷ places) [] p a = absurd a
number_for-range d (place ∷ places) (number ∷ numbers) p a = by_test (place == p) refl (number_for-range d places numbers p a.1)
  where
    same_test : (m n : ℕ) → (m == n) ≡ true → m ≡ n
    same_test m n h = grind (arith, common_steps)

    by_test : (x : Bool) → (place == p) ≡ x → number_for places numbers p < 2 ^ place_width d p → (if place == p then number else number_for places numbers p) < 2 ^ place_width d p
    by_test true e later = rw e (subst (λ n. number < 2 ^ place_width d n) (same_test place p e) a.0)
    by_test false e later = rw e later

number_for-ended : (places : List ℕ) (p : ℕ) → number_for places [] p ≡ 0
number_for-ended [] p = refl
number_for-ended (place ∷ places) p = refl

-- past the last row there is nothing
row_of-ended : (places : List ℕ) (rows : List Bits) (count r : ℕ) → length rows ≡ count * length places → count ≤ r → row_of places rows r ≡ []
row_of-ended places rows count r whole h =
    let le : count * length places ≤ r * length places = mul-le-mul_right (length places) h in
    ap (take (length places)) (ended (r * length places) rows (subst (λ n. n ≤ r * length places) (sym whole) le)) ∙ take-nil (length places)
  where
    ended : (m : ℕ) (xs : List Bits) → length xs ≤ m → drop m xs ≡ []
    ended zero [] h = refl
    ended zero (x ∷ xs) h = absurd (omega (arith, h))
    ended (suc m) [] h = refl
    ended (suc m) (x ∷ xs) h = ended m xs (omega (arith, h))

    take-nil : (n : ℕ) → take {A = Bits} n [] ≡ []
    take-nil zero = refl
    take-nil (suc n) = refl

pub row-range : (d : Design) (places : List ℕ) (rows : List Bits) (count r p : ℕ) → AreRows d places rows count → number_for places (map value_of (row_of places rows r)) p < 2 ^ place_width d p
row-range d places rows count r p a = elim (lt_or_ge r count) [
  | inl h ↦ number_for-range d places (map value_of (row_of places rows r)) p (IsRow-numbers d places (row_of places rows r) (a.each r h))
  | inr h ↦ subst (λ row. number_for places (map value_of row) p < 2 ^ place_width d p) (sym (row_of-ended places rows count r a.whole h))
      (subst (λ n. n < 2 ^ place_width d p) (sym (number_for-ended places p)) (pow_pos (place_width d p)))
]

-- the rows of all traces are values that explain them
pub explains-by : (d : Design) (order : List ℕ) (traces : List Trace) (set : List ℕ) (values : Values) → IsNetwork d order → IsSet (groups_of d) set
    → values.places.items ≡ places_in set → AreExplained d order traces values.places.items values.rows.items (length traces)
    → Explains d traces (groups_of d) set values
explains-by d order traces set values n s of_set a =
    record {
      widths = λ j trace at t p place at' freed.
          subst (λ w. choices_in traces values j t p < 2 ^ w) (ap (λ o. option_map_or (λ (q : Place). q.width) o 0) at')
          (row-range d values.places.items values.rows.items (cycles_before traces (length traces)) (cycles_before traces j + t) p a.fit);
      meets = λ j trace at. subst (λ f. Meets d trace f (choices_in traces values j)) (sym freed)
          (meets-by-cycles d order trace (is_one_of values.places.items) (choices_in traces values j) n (λ t l. a.right j trace t at (slice_get_within traces j trace at) l));
    }
  where
    freed : places_of (groups_of d) set ≡ is_one_of values.places.items
    freed = freed-places d set s ∙ ap is_one_of (sym of_set)

pub values-by : (d : Design) (order : List ℕ) (traces : List Trace) (set : List ℕ) (values : Values) → IsSet (groups_of d) set
    → values.places.items ≡ places_in set → AreExplained d order traces values.places.items values.rows.items (length traces)
    → AreValuesOf d traces (groups_of d) set values
values-by d order traces set values s of_set a =
    record {
      ascending = subst IsStrictlyIncreasing (sym of_set) (places_in-rising set (set-positive d set s) s.ascending);
      places = λ p. ap (λ places. is_one_of places p) of_set ∙ sym (ap (λ f. f p) (freed-places d set s));
      rows = a.fit;
    }

-- and where there are none the set doesn't work
pub works-not : (d : Design) (traces : List Trace) (set places : List ℕ) → IsSet (groups_of d) set → places ≡ places_in set
    → ¬ CanBeRight d traces (is_one_of places) → ¬ Works d traces (groups_of d) set
works-not d traces set places s of_set none works =
    none (subst (CanBeRight d traces) (freed-places d set s ∙ ap is_one_of (sym of_set)) works)
