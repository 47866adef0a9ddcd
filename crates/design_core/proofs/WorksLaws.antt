-- A set that contains a working set works: the added places are given what they compute in the same run.
use Rattle.std.proofs.Common.{ℕ, ◌+◌, ◌%◌, ◌^◌, ◌≡◌, ◌<◌, ◌≤◌, Bool, true, false, List, [], ◌∷◌, refl, ap, sym, subst, arith, ◌⊎◌, inl, inr, Some}
use Rattle.std.specs.Prelude.{◌==◌, if◌then◌else◌, slice_get, All, Contains}
use Rattle.std.specs.List.{list_any}
use Rattle.std.specs.Option.{option_map_or}
use Rattle.std.proofs.Math.Path.{fun_ext}
use Rattle.std.proofs.lemmas.Bool.{or_cases, cond_both, eq-eqb, ne_eqb, cond-true, cond-false}
use Rattle.std.proofs.lemmas.Nat.{pow_pos}
use Rattle.std.proofs.lemmas.Option.{slice_get_within}
use Rattle.std.proofs.Math.Nat.{mod-lt}
use Rattle.loc_base.proofs.BitLaws.{bit_at-mod_low}
use Rattle.loc_base.proofs.ShelfLists.{list_any-member}
use Rattle.design_core.specs.declared.place.Place.{Place}
use Rattle.design_core.specs.declared.design.Design.{Design}
use Rattle.design_core.specs.declared.trace.Trace.{Trace}
use Rattle.design_core.specs.Valuation.{Valuation, bit}
use Rattle.design_core.specs.Cycle.{before, Cycle}
use Rattle.design_core.specs.Run.{samples_at, choice_at, Choices, IsRunFrom, start_state}
use Rattle.design_core.specs.Works.{Groups, suspect_has, places_of, AreOfWidth, Works, IsWithin}
use Rattle.design_core.specs.WellFormed.{times_in_design, IsWellFormed}
use Rattle.design_core.proofs.Lists.{All-later}
use Rattle.design_core.proofs.StoreBits.{SameBelow}
use Rattle.design_core.proofs.Computed.{SamePlaces}
use Rattle.design_core.proofs.Widened.{computed_cycle, cycle-wider}

-- a number cut to a width has the same bits below it
bit-cut : (width n : ℕ) → SameBelow width (bit (n % 2 ^ width)) (bit n)
bit-cut width n b below = ap (λ k. k == 1) (bit_at-mod_low n width b below)

-- the value chosen where a place is free already, else the computed one, cut to the width
abbrev pub given : Bool → ℕ → ℕ → ℕ → ℕ
given freed chosen computes width = if freed then chosen else computes % 2 ^ width

-- it assigns the same bits
given-same : (freed wider : Bool) (chosen computes width : ℕ) → (freed ≡ true → wider ≡ true)
    → SameBelow width (bit (if wider then given freed chosen computes width else computes)) (bit (if freed then chosen else computes))
given-same true true chosen computes width more b below = refl
given-same true false chosen computes width more b below = let e : false ≡ true = more refl in cc
given-same false true chosen computes width more b below = bit-cut width computes b below
given-same false false chosen computes width more b below = refl

-- and is of the width
given-width : (freed : Bool) (chosen computes width : ℕ) → (freed ≡ true → chosen < 2 ^ width) → given freed chosen computes width < 2 ^ width
given-width true chosen computes width low = low refl
given-width false chosen computes width low = mod-lt computes (pow_pos width)

-- the width of a place
abbrev pub place_width : Design → ℕ → ℕ
place_width d p = option_map_or (λ place. place.width) (slice_get d.places.items p) 0

-- the places of the design assign the same bits, the added ones being given what they compute
given-places : (d : Design) (freed wider : ℕ → Bool) (chosen computes : ℕ → ℕ) → IsWellFormed d → ((p : ℕ) → freed p ≡ true → wider p ≡ true)
    → SamePlaces d.places.items (record { frees = freed; chosen = chosen })
    (record { frees = wider; chosen = λ p. given (freed p) (chosen p) (computes p) (place_width d p) }) (times_in_design d) computes
given-places d freed wider chosen computes well more =
    record {
      once = λ p place at. omega (arith, well.each_place_once p (slice_get_within d.places.items p place at));
      same = λ p place at stands b below.
          given-same (freed p) (wider p) (chosen p) (computes p) (place_width d p) (more p) b
          (omega (arith, below, ap (λ o. option_map_or (λ (q : Place). q.width) o 0) at));
    }

-- a run from a cycle on asks for no values before it
run-later : (d : Design) (trace : Trace) (freed : ℕ → Bool) (c c' : Choices) (t : ℕ) (state : Valuation) (run : List Valuation)
    → ((u : ℕ) → t ≤ u → c u ≡ c' u) → IsRunFrom d trace freed c t state run → IsRunFrom d trace freed c' t state run
run-later d trace freed c c' t state [] same run = run
run-later d trace freed c c' t state (V ∷ rest) same (lt, (next, cycle, behind)) =
    let P : (ℕ → ℕ) → Type 0 = λ chosen. Cycle d (samples_at d trace t) state (record { frees = freed; chosen = chosen }) V next in
    (lt, (next, subst P (same t (omega arith)) cycle, run-later d trace freed c c' (t + 1) next rest (λ u low. same u (omega arith)) behind))

-- values of a cycle before those of the later ones
abbrev pub first_then : ℕ → (ℕ → ℕ) → Choices → Choices
first_then t here later u p = if u == t then here p else later u p

pub run-wider : (d : Design) (trace : Trace) (freed wider : ℕ → Bool) (c : Choices) → IsWellFormed d → ((p : ℕ) → freed p ≡ true → wider p ≡ true)
    → AreOfWidth d freed c → (t : ℕ) (state : Valuation) (run : List Valuation) → IsRunFrom d trace freed c t state run
    → (c' : Choices) × AreOfWidth d wider c' × IsRunFrom d trace wider c' t state run
run-wider d trace freed wider c well more widths t state [] run = ((λ u p. 0), (λ u p place at free. pow_pos place.width), run)
run-wider d trace freed wider c well more widths t state (V ∷ rest) (lt, (next, cycle, behind)) =
    let (later, later_widths, later_run) = run-wider d trace freed wider c well more widths (t + 1) next rest behind in
    let samples = samples_at d trace t in
    let computes : ℕ → ℕ = computed_cycle d (choice_at freed c t) V (before d samples state) in
    let here : ℕ → ℕ = λ p. given (freed p) (c t p) (computes p) (place_width d p) in
    let width : (p : ℕ) (place : Place) → slice_get d.places.items p ≡ Some place → here p < 2 ^ place.width =
    λ p place at. let same : place_width d p ≡ place.width = ap (λ o. option_map_or (λ (q : Place). q.width) o 0) at in
    subst (λ w. given (freed p) (c t p) (computes p) w < 2 ^ place.width) (sym same)
    (given-width (freed p) (c t p) (computes p) place.width (widths t p place at)) in
    let now : here ≡ first_then t here later t = fun_ext (λ p. sym (cond-true (t == t) (here p) (later t p) (eq-eqb t t refl))) in
    let P : (ℕ → ℕ) → Type 0 = λ chosen. Cycle d samples state (record { frees = wider; chosen = chosen }) V next in (
      first_then t here later,
      (λ u p place at free. cond_both (u == t) (here p) (later u p) (λ n. n < 2 ^ place.width) (λ _. width p place at) (λ _. later_widths u p place at free)),
      (
        lt,
        (
          next,
          subst P now (cycle-wider d samples state (choice_at freed c t) (record { frees = wider; chosen = here }) V next well
              (given-places d freed wider (c t) computes well more) cycle),
          run-later d trace wider later (first_then t here later) (t + 1) next rest
              (λ u low. fun_ext (λ p. sym (cond-false (u == t) (here p) (later u p) (ne_eqb u t (λ e. omega arith))))) later_run,
        ),
      ),
    )

list_any-within : {X : Type 0} (test : X → Bool) (inner outer : List X) → All (Contains outer) inner → list_any test inner ≡ true → list_any test outer ≡ true
list_any-within test [] outer within passes = cc
list_any-within test (x ∷ xs) outer within passes =
    at (or_cases (test x) (list_any test xs) passes) (λ later. list_any-within test xs outer (All-later (Contains outer) x xs within) later)
  where
    at : (test x ≡ true) ⊎ (list_any test xs ≡ true) → (list_any test xs ≡ true → list_any test outer ≡ true) → list_any test outer ≡ true
    at (inl here) behind = list_any-member test outer x (within 0 x (omega arith)) here
    at (inr later) behind = behind later

-- a set that contains a working set works
pub works-more : (d : Design) (traces : List Trace) (groups : Groups) (inner outer : List ℕ) → IsWellFormed d → IsWithin inner outer
    → Works d traces groups inner → Works d traces groups outer
works-more d traces groups inner outer well within works trace member =
    let (c, widths, (run, is_run, right)) = works trace member in
    let (c', widths', is_run') =
    run-wider d trace (places_of groups inner) (places_of groups outer) c well
    (λ p freed. list_any-within (suspect_has groups p) inner outer within freed) widths 0 (start_state d) run is_run in
    (c', widths', (run, is_run', right))
