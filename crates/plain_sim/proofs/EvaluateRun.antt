-- Whether a trace is right, cycle by cycle.
use Rattle.std.proofs.Common.{◌≡◌, ℕ, zero, suc, ◌+◌, ◌*◌, ◌<◌, ◌≤◌, Bool, List, [], ◌∷◌, length, map, ap, ◌∙◌, sym, refl, subst, arith}
use Rattle.std.specs.Prelude.{true, false, ◌==◌, ◌&&◌, if◌then◌else◌, slice_get, Option, Some, None, option_map}
use Rattle.std.specs.List.{list_all}
use Rattle.std.proofs.Math.Path.{fun_ext}
use Rattle.std.proofs.lemmas.Bool.{and_parts, eqb-true}
use Rattle.std.specs.Option.{option_map_or}
use Rattle.std.proofs.Math.Nat.{mul-le-mul_right}
use Rattle.std.proofs.lemmas.Option.{slice_get-map}
use Rattle.loc_base.specs.declared.bits.Bits.{Bits}
use Rattle.loc_base.specs.Bits.{bit_of, width_of}
use Rattle.loc_base.proofs.ShelfOptions.{Some-same}
use Rattle.design_core.specs.declared.design.Design.{Design}
use Rattle.design_core.specs.declared.trace.Trace.{Trace}
use Rattle.design_core.specs.declared.signal.Signal.{Signal}
use Rattle.plain_sim.specs.declared.cycle.region.Region.TheVariants as region
use Rattle.design_core.specs.Valuation.{Valuation, distance_of}
use Rattle.design_core.specs.Constant.{zeros}
use Rattle.design_core.specs.Words.{valuation_of, choice_of}
use Rattle.design_core.specs.Drives.{is_register_bit}
use Rattle.design_core.specs.Cycle.{Cycle}
use Rattle.design_core.specs.Run.{Choices, choice_at, samples_at, expected_at, start_state, IsRight, Meets}
use Rattle.design_core.specs.WellFormed.{is_width, spans, signal_fits, IsWellFormed}
use Rattle.design_core.specs.Reads.{IsOrder}
use Rattle.plain_sim.specs.EvaluateCycle.{is_in, blended, MeetsFrom}
use Rattle.design_core.specs.Given.{CanRun, row, freed_of, choices_of}
use Rattle.design_core.proofs.CycleLaws.{cycle-unique}
use Rattle.plain_sim.proofs.EvaluateSteps.{kept-bit}

-- the entries of a cycle are there
pub row-within : (t cycles width count : ℕ) → t < cycles → count ≡ cycles * width → t * width + width ≤ count
row-within t cycles width count h e =
    let more : (t + 1) * width ≤ cycles * width = mul-le-mul_right width (omega (arith, h)) in
    let one : (t + 1) * width ≡ t * width + width = next t width in
    omega (arith, more, one, e)
  where
    next : (t w : ℕ) → (t + 1) * w ≡ t * w + w
    next t w = omega arith

-- behind the last cycle nothing is left to be right
pub meets-end : (d : Design) (trace : Trace) (freed : ℕ → Bool) (c : Choices) (t : ℕ) (state : Valuation) → t ≡ trace.cycles → MeetsFrom d trace freed c t state
meets-end d trace freed c t state e = ([], e, λ j V at. absurd (cc))

-- one cycle that is right before those that are
pub meets-next : (d : Design) (trace : Trace) (freed : ℕ → Bool) (c : Choices) (t : ℕ) (state V next : Valuation) → t < trace.cycles
    → Cycle d (samples_at d trace t) state (choice_at freed c t) V next → IsRight d (expected_at d trace t) V
    → MeetsFrom d trace freed c (t + 1) next → MeetsFrom d trace freed c t state
meets-next d trace freed c t state V next h cycle right (run, is_run, rest) = (V ∷ run, (h, (next, cycle, is_run)), at)
  where
    none : (t : ℕ) → t ≡ t + 0
    none t = omega arith

    shift : (t j : ℕ) → t + 1 + j ≡ t + suc j
    shift t j = omega arith

    at : (j : ℕ) (W : Valuation) → slice_get (V ∷ run) j ≡ Some W → IsRight d (expected_at d trace (t + j)) W
    at zero W e =
        subst (λ n. IsRight d (expected_at d trace n) W) (none t)
        (subst (λ (U : Valuation). IsRight d (expected_at d trace t) U) (Some-same e) right)
    at (suc j) W e = subst (λ n. IsRight d (expected_at d trace n) W) (shift t j) (rest j W e)

-- where the cycles from t on are right, there is a cycle now, it is right, and those behind it are right
pub record First (d : Design) (trace : Trace) (freed : ℕ → Bool) (c : Choices) (t : ℕ) (state : Valuation) : Type 0 where
  pub V : Valuation
  pub next : Valuation
  pub cycle : Cycle d (samples_at d trace t) state (choice_at freed c t) V next
  pub right : IsRight d (expected_at d trace t) V
  pub rest : MeetsFrom d trace freed c (t + 1) next

pub first-of : (d : Design) (trace : Trace) (freed : ℕ → Bool) (c : Choices) (t : ℕ) (state : Valuation) → t < trace.cycles
    → MeetsFrom d trace freed c t state → First d trace freed c t state
first-of d trace freed c t state h ([], e, rest) = absurd (omega (arith, h, e))
first-of d trace freed c t state h ((V ∷ run), (lt, (next, cycle, is_run)), all) =
    record {
      V = V;
      next = next;
      cycle = cycle;
      right = subst (λ n. IsRight d (expected_at d trace n) V) (none t) (all 0 V refl);
      rest = (run, is_run, λ j W e. subst (λ n. IsRight d (expected_at d trace n) W) (shift t j) (all (suc j) W e));
    }
  where
    none : (t : ℕ) → t + 0 ≡ t
    none t = omega arith

    shift : (t j : ℕ) → t + suc j ≡ t + 1 + j
    shift t j = omega arith

-- the cycle that was computed is the first one
pub first-right : (d : Design) (order : List ℕ) (trace : Trace) (freed : ℕ → Bool) (c : Choices) (t : ℕ) (state V next : Valuation) → IsWellFormed d → IsOrder d order → t < trace.cycles
    → Cycle d (samples_at d trace t) state (choice_at freed c t) V next → MeetsFrom d trace freed c t state
    → IsRight d (expected_at d trace t) V × MeetsFrom d trace freed c (t + 1) next
first-right d order trace freed c t state V next well h lt cycle meets =
    let f : First d trace freed c t state = first-of d trace freed c t state lt meets in
    let (same, same_next) = cycle-unique d order well h (samples_at d trace t) state (choice_at freed c t) f.V f.next V next f.cycle cycle in (
      subst (λ (U : Valuation). IsRight d (expected_at d trace t) U) same f.right,
      subst (λ (U : Valuation). MeetsFrom d trace freed c (t + 1) U) same_next f.rest,
    )

pub meets-from : (d : Design) (trace : Trace) (freed : ℕ → Bool) (c : Choices) → Meets d trace freed c → MeetsFrom d trace freed c 0 (start_state d)
meets-from d trace freed c (run, is_run, right) = (run, is_run, λ j V at. subst (λ n. IsRight d (expected_at d trace n) V) (none j) (right j V at))
  where
    none : (j : ℕ) → j ≡ 0 + j
    none j = omega arith

pub from-meets : (d : Design) (trace : Trace) (freed : ℕ → Bool) (c : Choices) → MeetsFrom d trace freed c 0 (start_state d) → Meets d trace freed c
from-meets d trace freed c (run, is_run, right) = (run, is_run, λ j V at. subst (λ n. IsRight d (expected_at d trace n) V) (none j) (right j V at))
  where
    none : (j : ℕ) → 0 + j ≡ j
    none j = omega arith

-- ---- the start values
pub starts-fit : (signals : List Signal) → list_all signal_fits signals ≡ true → map width_of (map (λ s. s.start) signals) ≡ map (λ s. s.width) signals
starts-fit [] h = refl
starts-fit (s ∷ signals) h =
    let parts = and_parts (signal_fits s) (list_all signal_fits signals) h in
    let own = and_parts (is_width s.width && spans s.width (distance_of s.left s.right s.left)) (width_of s.start == s.width) parts.0 in
    let here : width_of s.start ≡ s.width = eqb-true (width_of s.start) s.width own.1 in
    let rest : map width_of (map (λ s. s.start) signals) ≡ map (λ s. s.width) signals = starts-fit signals parts.1 in
    cc

pub start-is : (d : Design) (U Z state : Valuation) (words : List Bits) → words ≡ map (λ s. s.start) d.signals.items → Z ≡ zeros
    → state ≡ blended (is_in d U region.Registers) (valuation_of words) Z → state ≡ start_state d
start-is d U Z state words is z taken =
    taken
    ∙ fun_ext (λ s. fun_ext (λ b.
    ap (λ Y. if is_register_bit d s b then valuation_of words s b else Y s b) z
    ∙ ap (λ x. if is_register_bit d s b then x else false)
    (ap (λ ws. valuation_of ws s b) is ∙ ap (λ o. option_map_or (λ word. bit_of word b) o false) (slice_get-map (λ s. s.start) d.signals.items s) ∙ mapped b (slice_get d.signals.items s))
    ∙ kept-bit (is_register_bit d s b) (option_map_or (λ signal. bit_of signal.start b) (slice_get d.signals.items s) false)))
  where
    mapped : (b : ℕ) (o : Option Signal) → option_map_or (λ word. bit_of word b) (option_map (λ (s : Signal). s.start) o) false ≡ option_map_or (λ (s : Signal). bit_of s.start b) o false
    mapped b None = refl
    mapped b (Some s) = refl

-- ---- one cycle of a trace
pub row-is : {X : Type 0} (r xs ys : List X) (n m t : ℕ) → r ≡ row xs n t → xs ≡ ys → n ≡ m → r ≡ row ys m t
row-is r xs ys n m t is same width = is ∙ ap (λ zs. row zs n t) same ∙ ap (λ k. row ys k t) width

pub step-cycle : (d : Design) (trace : Trace) (freed : List Bool) (chosen samples values : List Bits) (t : ℕ) (state V next : Valuation)
    → samples ≡ samples_at d trace t → values ≡ row chosen (length d.places.items) t
    → Cycle d samples state (choice_of freed values) V next
    → Cycle d (samples_at d trace t) state (choice_at (freed_of freed) (choices_of d chosen) t) V next
step-cycle d trace freed chosen samples values t state V next samples_is values_is cycle =
    subst (λ vs. Cycle d (samples_at d trace t) state (choice_of freed vs) V next) values_is
    (subst (λ ss. Cycle d ss state (choice_of freed values) V next) samples_is cycle)

pub cycle-step : (d : Design) (trace : Trace) (freed : List Bool) (chosen samples values : List Bits) (t : ℕ) (state V next : Valuation)
    → samples ≡ samples_at d trace t → values ≡ row chosen (length d.places.items) t
    → Cycle d (samples_at d trace t) state (choice_at (freed_of freed) (choices_of d chosen) t) V next
    → Cycle d samples state (choice_of freed values) V next
cycle-step d trace freed chosen samples values t state V next samples_is values_is cycle =
    subst (λ ss. Cycle d ss state (choice_of freed values) V next) (sym samples_is)
    (subst (λ vs. Cycle d (samples_at d trace t) state (choice_of freed vs) V next) (sym values_is) cycle)

-- a well-formed design can be carried out
pub can-run : (d : Design) → IsWellFormed d → CanRun d
can-run d well = record { signals = well.signals; drivers = well.drivers; clocked = well.clocked }
