-- The run of values is the run with the changes that they are, and back; and values are one list of changes.
use Rattle.std.proofs.Common.{ℕ, suc, ◌+◌, ◌%◌, ◌^◌, ◌≡◌, ◌≢◌, ◌≤◌, Bool, true, false, List, [], ◌∷◌, refl, ap, sym, ◌∙◌, subst, arith, ◌⊎◌, inl, inr, Option, Some, None}
use Rattle.std.specs.Prelude.{◌==◌, if◌then◌else◌, is_some, slice_get, unwrap_or, option_and_then}
use Rattle.std.proofs.Math.Path.{fun_ext}
use Rattle.std.proofs.lemmas.Bool.{cases_Bool, cond-true, cond-false, eqb-true, eq-eqb, both_ways}
use Rattle.std.proofs.lemmas.Option.{slice_get_within}
use Rattle.loc_base.proofs.BitLaws.{bit_at-mod_low}
use Rattle.loc_base.proofs.ShelfOptions.{Some-same}
use Rattle.design_core.specs.declared.place.Place.{Place}
use Rattle.design_core.specs.declared.design.Design.{Design}
use Rattle.design_core.specs.declared.trace.Trace.{Trace}
use Rattle.design_core.specs.Valuation.{Valuation, bit}
use Rattle.design_core.specs.Run.{Choices, choice_at, samples_at, start_state, IsRunFrom, IsRun}
use Rattle.design_core.specs.WellFormed.{times_in_design, IsWellFormed}
use Rattle.design_core.specs.Reads.{IsOrder}
use Rattle.design_core.proofs.StoreBits.{SameBelow}
use Rattle.design_core.proofs.RunLaws.{run-unique}
use Rattle.changes.specs.Reached.{reached}
use Rattle.changes.specs.Changes.{Changes, changing, IsChangedFrom, Differs, AreChangesOf, differing, change_of, change_in}
use Rattle.changes.proofs.ReachedLaws.{SameReached}
use Rattle.changes.proofs.CycleAlike.{cycle-alike, reached-alike}

-- each place stands once at most
once_each : (d : Design) → IsWellFormed d → (p : ℕ) (place : Place) → slice_get d.places.items p ≡ Some place → times_in_design d p ≤ 1
once_each d well p place at = omega (arith, well.each_place_once p (slice_get_within d.places.items p place at))

-- a number cut to a width has the same bits below it
bit-cut : (width n : ℕ) → SameBelow width (bit (n % 2 ^ width)) (bit n)
bit-cut width n b below = ap (λ k. k == 1) (bit_at-mod_low n width b below)

-- what a place assigns by its value has the bits of what it assigns by its change
value_bits : (change : Option ℕ) (free : Bool) (value n width : ℕ) → ((w : ℕ) → change ≡ Some w → (free ≡ true) × (value ≡ w))
    → (change ≡ None → free ≡ true → value ≡ n % 2 ^ width)
    → SameBelow width (bit (if free then value else n)) (bit (if is_some change then unwrap_or change 0 else n))
value_bits (Some w) true value n width taken stays b below = ap (λ k. bit k b) (taken w refl).1
value_bits (Some w) false value n width taken stays b below = let e : false ≡ true = (taken w refl).0 in cc
value_bits None true value n width taken stays b below = ap (λ k. bit k b) (stays refl refl) ∙ bit-cut width n b below
value_bits None false value n width taken stays b below = refl

-- in each cycle of a run with changes these assign the same bits as the values that they are of
pub changes-same : (d : Design) (trace : Trace) (places : ℕ → Bool) (c : Choices) (ch : Changes) (run : List Valuation) → IsWellFormed d
    → AreChangesOf d trace places c ch run → (t : ℕ) (V : Valuation) → slice_get run t ≡ Some V
    → SameReached d.places.items (changing ch t) (choice_at places c t) (times_in_design d) (reached d (changing ch t) V)
changes-same d trace places c ch run well are t V at =
    record {
      once = once_each d well;
      same = λ p n place is computed.
          value_bits (ch t p) (places p) (c t p) n place.width
          (λ w taken. let differs : Differs d places c ch run t p w = are.differs t p w taken in (differs.place, differs.value))
          (λ none free. are.stays t p (n % 2 ^ place.width) V at free none computed);
    }

values-run_from : (d : Design) (trace : Trace) (places : ℕ → Bool) (c : Choices) (ch : Changes) → IsWellFormed d
    → (t : ℕ) (state : Valuation) (run : List Valuation)
    → ((k : ℕ) (V : Valuation) → slice_get run k ≡ Some V
    → SameReached d.places.items (changing ch (t + k)) (choice_at places c (t + k)) (times_in_design d) (reached d (changing ch (t + k)) V))
    → IsChangedFrom d trace ch t state run → IsRunFrom d trace places c t state run
values-run_from d trace places c ch well t state [] each is = is
values-run_from d trace places c ch well t state (V ∷ rest) each (lt, (next, cycle, later)) =
    let Same : ℕ → Valuation → Type 0 =
    λ u W. SameReached d.places.items (changing ch u) (choice_at places c u) (times_in_design d) (reached d (changing ch u) W) in
    let here : t + 0 ≡ t = omega arith in (
      lt,
      (
        next,
        cycle-alike d (samples_at d trace t) state (changing ch t) (choice_at places c t) V next well
            (subst (λ u. Same u V) here (each 0 V refl)) cycle,
        values-run_from d trace places c ch well (t + 1) next rest
            (λ k W at. let same : t + suc k ≡ (t + 1) + k = omega arith in subst (λ u. Same u W) same (each (suc k) W at)) later,
      ),
    )

-- of the changes that values are, the run is that of the values
pub values-run : (d : Design) (trace : Trace) (places : ℕ → Bool) (c : Choices) (ch : Changes) (run : List Valuation) → IsWellFormed d
    → AreChangesOf d trace places c ch run → IsRun d trace places c run
values-run d trace places c ch run well are =
    values-run_from d trace places c ch well 0 (start_state d) run
    (λ k V at. let same : k ≡ 0 + k = omega arith in
    subst (λ u. SameReached d.places.items (changing ch u) (choice_at places c u) (times_in_design d) (reached d (changing ch u) V)) same
    (changes-same d trace places c ch run well are k V at)) are.is_run

-- ---- and back
-- what a place assigns by the change of its value has the bits of what it assigns by its value
change_bits : (free : Bool) (value n width : ℕ) (change : Option ℕ) → change ≡ change_of free value (Some (n % 2 ^ width))
    → SameBelow width (bit (if is_some change then unwrap_or change 0 else n)) (bit (if free then value else n))
change_bits false value n width change is b below = ap (λ o. bit (if is_some o then unwrap_or o 0 else n) b) is
change_bits true value n width change is b below = at (cases_Bool ((n % 2 ^ width) == value))
  where
    at : ((n % 2 ^ width == value) ≡ true) ⊎ ((n % 2 ^ width == value) ≡ false)
        → bit (if is_some change then unwrap_or change 0 else n) b ≡ bit value b
    at (inl same) =
        ap (λ o. bit (if is_some o then unwrap_or o 0 else n) b) (is ∙ cond-true (n % 2 ^ width == value) None (Some value) same)
        ∙ sym (bit-cut width n b below) ∙ ap (λ k. bit k b) (eqb-true (n % 2 ^ width) value same)
    at (inr other) =
        ap (λ o. bit (if is_some o then unwrap_or o 0 else n) b) (is ∙ cond-false (n % 2 ^ width == value) None (Some value) other)

-- the change of a place in a cycle of the run
change_at : (d : Design) (places : ℕ → Bool) (c : Choices) (run : List Valuation) (t p : ℕ) (V : Valuation)
    (computed : Option ℕ) → slice_get run t ≡ Some V
    → reached d (choice_at places c t) V p ≡ computed → change_in d places c run t p ≡ change_of (places p) (c t p) computed
change_at d places c run t p V computed at is =
    ap (option_and_then (λ V. change_of (places p) (c t p) (reached d (choice_at places c t) V p))) at
    ∙ ap (change_of (places p) (c t p)) is

pub change_in-same : (d : Design) (places : ℕ → Bool) (c : Choices) (run : List Valuation) → IsWellFormed d
    → (t : ℕ) (V : Valuation) → slice_get run t ≡ Some V
    → SameReached d.places.items (choice_at places c t) (changing (change_in d places c run) t) (times_in_design d)
    (reached d (choice_at places c t) V)
change_in-same d places c run well t V at =
    record {
      once = once_each d well;
      same = λ p n place is computed.
          change_bits (places p) (c t p) n place.width (change_in d places c run t p)
          (change_at d places c run t p V (Some (n % 2 ^ place.width)) at computed);
    }

changed-run_from : (d : Design) (trace : Trace) (places : ℕ → Bool) (c : Choices) (ch : Changes) → IsWellFormed d
    → (t : ℕ) (state : Valuation) (run : List Valuation)
    → ((k : ℕ) (V : Valuation) → slice_get run k ≡ Some V
    → SameReached d.places.items (choice_at places c (t + k)) (changing ch (t + k)) (times_in_design d)
    (reached d (choice_at places c (t + k)) V))
    → IsRunFrom d trace places c t state run → IsChangedFrom d trace ch t state run
changed-run_from d trace places c ch well t state [] each is = is
changed-run_from d trace places c ch well t state (V ∷ rest) each (lt, (next, cycle, later)) =
    let Same : ℕ → Valuation → Type 0 =
    λ u W. SameReached d.places.items (choice_at places c u) (changing ch u) (times_in_design d) (reached d (choice_at places c u) W) in
    let here : t + 0 ≡ t = omega arith in (
      lt,
      (
        next,
        cycle-alike d (samples_at d trace t) state (choice_at places c t) (changing ch t) V next well
            (subst (λ u. Same u V) here (each 0 V refl)) cycle,
        changed-run_from d trace places c ch well (t + 1) next rest
            (λ k W at. let same : t + suc k ≡ (t + 1) + k = omega arith in subst (λ u. Same u W) same (each (suc k) W at)) later,
      ),
    )

-- what a change of a value says of it
record Changing {X : Type 0} (now : Option X) (free : Bool) (value w : ℕ) (reaches : X → Option ℕ) : Type 0 where
  it : X
  is : now ≡ Some it
  place : free ≡ true
  taken : value ≡ w
  computes : ℕ
  computed : reaches it ≡ Some computes
  other : computes ≢ w

change_says : {X : Type 0} (now : Option X) (free : Bool) (value w : ℕ) (reaches : X → Option ℕ)
    → option_and_then (λ x. change_of free value (reaches x)) now ≡ Some w → Changing now free value w reaches
change_says None free value w reaches e = cc
change_says (Some x) false value w reaches e = cc
change_says {X} (Some x) true value w reaches e = at (reaches x) refl e
  where
    by : (computes : ℕ) → reaches x ≡ Some computes → (t : Bool) → (computes == value) ≡ t → (if t then None else Some value) ≡ Some w
        → Changing (Some x) true value w reaches
    by computes is true same e = cc
    by computes is false other e =
        let taken : value ≡ w = Some-same e in
        record {
          it = x;
          is = refl;
          place = refl;
          taken = taken;
          computes = computes;
          computed = is;
          other = λ same. both_ways (computes == value) other (eq-eqb computes value (same ∙ sym taken));
        }

    at : (o : Option ℕ) → reaches x ≡ o → option_and_then (differing value) o ≡ Some w → Changing (Some x) true value w reaches
    at None is e = cc
    at (Some computes) is e = by computes is (computes == value) refl e

-- a value that is no change is the computed one
no_change : (value computes : ℕ) → change_of true value (Some computes) ≡ None → value ≡ computes
no_change value computes e = at (computes == value) refl e
  where
    at : (t : Bool) → (computes == value) ≡ t → (if t then None else Some value) ≡ None → value ≡ computes
    at true same e = sym (eqb-true computes value same)
    at false other e = cc

-- values that have a run are changes
pub change_in-are : (d : Design) (trace : Trace) (places : ℕ → Bool) (c : Choices) (run : List Valuation) → IsWellFormed d
    → IsRun d trace places c run → AreChangesOf d trace places c (change_in d places c run) run
change_in-are d trace places c run well is_run =
    let ch : Changes = change_in d places c run in
    let alike : (t p : ℕ) (V : Valuation) → slice_get run t ≡ Some V
    → reached d (changing ch t) V p ≡ reached d (choice_at places c t) V p =
    λ t p V at. reached-alike d (choice_at places c t) (changing ch t) V p well (change_in-same d places c run well t V at) in
    record {
      is_run = changed-run_from d trace places c ch well 0 (start_state d) run
          (λ k V at. let same : k ≡ 0 + k = omega arith in
          subst (λ u. SameReached d.places.items (choice_at places c u) (changing ch u) (times_in_design d)
          (reached d (choice_at places c u) V)) same
          (change_in-same d places c run well k V at)) is_run;
      differs = λ t p w taken.
          let says = change_says (slice_get run t) (places p) (c t p) w (λ V. reached d (choice_at places c t) V p) taken in
          record {
            place = says.place;
            value = says.taken;
            now = says.it;
            cycle = says.is;
            computes = says.computes;
            reached = alike t p says.it says.is ∙ says.computed;
            other = says.other;
          };
      stays = λ t p computes V at free none computed.
          no_change (c t p) computes
          (sym (ap (λ f. change_of f (c t p) (Some computes)) free)
          ∙ sym (change_at d places c run t p V (Some computes) at (sym (alike t p V at) ∙ computed)) ∙ none);
    }

-- ---- values are one list of changes
-- a change of the one list is one of the other
change-other : (d : Design) (trace : Trace) (places : ℕ → Bool) (c : Choices) (ch ch' : Changes) (run : List Valuation) → IsWellFormed d
    → AreChangesOf d trace places c ch run → AreChangesOf d trace places c ch' run → (t p w : ℕ) → ch t p ≡ Some w
    → (o : Option ℕ) → ch' t p ≡ o → o ≡ Some w
change-other d trace places c ch ch' run well are are' t p w taken (Some w') taken' =
    let differs = are.differs t p w taken in
    let differs' = are'.differs t p w' taken' in
    ap Some (sym differs'.value ∙ differs.value)
change-other d trace places c ch ch' run well are are' t p w taken None taken' =
    let differs = are.differs t p w taken in
    let V : Valuation = differs.now in
    let values : reached d (choice_at places c t) V p ≡ reached d (changing ch t) V p =
    reached-alike d (changing ch t) (choice_at places c t) V p well (changes-same d trace places c ch run well are t V differs.cycle) in
    let values' : reached d (choice_at places c t) V p ≡ reached d (changing ch' t) V p =
    reached-alike d (changing ch' t) (choice_at places c t) V p well (changes-same d trace places c ch' run well are' t V differs.cycle) in
    let stays : c t p ≡ differs.computes =
    are'.stays t p differs.computes V differs.cycle differs.place taken' (sym values' ∙ values ∙ differs.reached) in
    absurd (differs.other (sym stays ∙ differs.value))

changes-one : (d : Design) (trace : Trace) (places : ℕ → Bool) (c : Choices) (ch ch' : Changes) (run : List Valuation) → IsWellFormed d
    → AreChangesOf d trace places c ch run → AreChangesOf d trace places c ch' run → ch ≡ ch'
changes-one d trace places c ch ch' run well are are' = fun_ext (λ t. fun_ext (λ p. at t p (ch t p) refl (ch' t p) refl))
  where
    at : (t p : ℕ) (o : Option ℕ) → ch t p ≡ o → (o' : Option ℕ) → ch' t p ≡ o' → ch t p ≡ ch' t p
    at t p (Some w) is o' is' = is ∙ sym (change-other d trace places c ch ch' run well are are' t p w is o' is') ∙ sym is'
    at t p None is (Some w') is' = change-other d trace places c ch' ch run well are' are t p w' is' (ch t p) refl ∙ sym is'
    at t p None is None is' = is ∙ sym is'

pub changes-unique : (d : Design) (order : List ℕ) (trace : Trace) (places : ℕ → Bool) (c : Choices)
    (ch ch' : Changes) (run run' : List Valuation) → IsWellFormed d
    → IsOrder d order → AreChangesOf d trace places c ch run → AreChangesOf d trace places c ch' run' → (ch ≡ ch') × (run ≡ run')
changes-unique d order trace places c ch ch' run run' well ordered are are' =
    let same : run ≡ run' = run-unique d order well ordered trace places c run run'
    (values-run d trace places c ch run well are) (values-run d trace places c ch' run' well are') in
    let P : List Valuation → Type 0 = λ r. AreChangesOf d trace places c ch' r in
    (changes-one d trace places c ch ch' run well are (subst P (sym same) are'), same)
