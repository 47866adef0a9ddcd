-- Nothing refuses the text of a wave.
use Rattle.std.proofs.Common.{◌≡◌, ℕ, zero, suc, arith, ◌+◌, ◌≤◌, ◌<◌, ◌==◌, Bool, false, not, Option, Some, None, is_some, List, [], ◌∷◌, length, map, refl, ◌∙◌, ap, subst, inl, inr}
use Rattle.std.specs.Prelude.{slice_get, Contains, fold, nat_lt}
use Rattle.std.specs.List.{find}
use Rattle.std.specs.Option.{option_or, option_map}
use Rattle.std.proofs.lemmas.Bool.{cond-false}
use Rattle.std.proofs.lemmas.Bool.Decides.{nat_tests}
use Rattle.std.proofs.lemmas.List.Elements.{Contains-append_cases}
use Rattle.std.proofs.lemmas.Option.{slice_get_within}
use Rattle.loc_base.proofs.ShelfLists.{Contains-empty, Contains-cons, Contains-first, Contains-later, slice_get-some}
use Rattle.vcd_words.specs.declared.level.Level.{Level}
use Rattle.vcd_reading.specs.declared.error.VcdErr.{VcdErr}
use Rattle.vcd_reading.specs.declared.error.VcdErr.TheVariants.{PortWidth}
use Rattle.vcd_reading.specs.Scopes.{Port, port_at, is_unfit}
use Rattle.vcd_reading.specs.Events.{Event}
use Rattle.vcd_traces.specs.Samples.{by_clock, needed, Watches, is_unknown, unknown_in, unknown_from, cycle_refusal, cycles_of, with_lesser, scope_refusal, width_refusal, refusal_of, watch_of}
use Rattle.vcd_waves.proofs.Sites.{first_scope, port_fits}
use Rattle.vcd_waves.proofs.MomentLevels.{moment_at, sampled}
use Rattle.vcd_waves.proofs.Scenes.{Scene, variables, freed, ports, sought, header, past, IsScene, samples_many}
use Rattle.vcd_waves.proofs.Sampled.{watches, watch, events, cycles_are, input_sample}
use Rattle.vcd_waves.proofs.TraceBack.{sampled_many}

-- ---- widths
least_none : (test : Port → Bool) (ps : List Port) → ((p : Port) → Contains ps p → test p ≡ false)
    → fold (with_lesser test) None ps ≡ None
least_none test [] each = refl
least_none test (p ∷ ps) each =
    ap (λ o. fold (with_lesser test) o ps) (cond-false _ _ _ (each p (Contains-first p ps)))
    ∙ least_none test ps (λ q member. each q (Contains-later p ps q member))

widths_fit : (s : Scene) → IsScene s → width_refusal (header s) (sought s) ≡ None
widths_fit s is =
    ap (λ (o : Option ℕ). option_map (λ (port : ℕ). PortWidth port) o)
    (least_none (is_unfit (header s) (sought s)) (ports s)
    (λ port member. port_fits s.design s.clock (variables s) (freed s) (ports s) (header s) is.known port
    (is.known.site port member)))

-- ---- cycles
few_cycles : (cycles : ℕ) → 1 ≤ cycles → cycles ≤ 100000 → cycle_refusal cycles ≡ None
few_cycles cycles some most = cond-false _ _ _ (not_none cycles some) ∙ cond-false _ _ _ (not_more cycles most)
  where
    not_none : (n : ℕ) → 1 ≤ n → (n == 0) ≡ false
    not_none n some = grind (arith, nat_tests)

    not_more : (n : ℕ) → n ≤ 100000 → nat_lt 100000 n ≡ false
    not_more n most = grind (arith, nat_tests)

-- ---- unknown inputs
find_none : {P W : Type 0} (test : W → Bool) (two : P → W) (one : ℕ → P) (numbers : List ℕ)
    → ((i n : ℕ) → slice_get numbers i ≡ Some n → test (two (one n)) ≡ false)
    → find test (map two (map one numbers)) ≡ None
find_none test two one [] each = refl
find_none test two one (n ∷ numbers) each =
    cond-false _ _ _ (each 0 n refl) ∙ find_none test two one numbers (λ i m at. each (suc i) m at)

cycle_known : (s : Scene) → IsScene s → (t : ℕ) → t < s.cycles
    → find (is_unknown (watches s).clock (events s) (moment_at (is_some s.clock) t)) (watches s).inputs ≡ None
cycle_known s is t within =
    find_none (is_unknown (watches s).clock (events s) (moment_at (is_some s.clock) t))
    (watch_of (header s) (sought s)) (port_at s.design)
    s.design.inputs.items
    (λ i n number. known_at i n number)
  where
    known_at : (i n : ℕ) → slice_get s.design.inputs.items i ≡ Some n
        → is_unknown (watches s).clock (events s) (moment_at (is_some s.clock) t) (watch s n) ≡ false
    known_at i n number =
        let many = samples_many s.design.signals.items s.design.inputs.items (s.rows t).samples (is.samples t within) in
        let below = slice_get_within s.design.inputs.items i n number in
        let shown = slice_get-some (s.rows t).samples i (omega (arith, many, below)) in
        ap (λ (l : Level). not (l.unknowns == 0)) (input_sample s is t i n shown.0 within number shown.1)

-- the number of a cycle that is sampled
pub record Sampled (clocked : Bool) (cycles time : ℕ) : Type 0 where
  pub cycle : ℕ
  pub below : cycle < cycles
  pub is : moment_at clocked cycle ≡ time

sampled_at : (clocked : Bool) (t time : ℕ) → Contains (sampled clocked t) time → Sampled clocked t time
sampled_at clocked zero time member = absurd (Contains-empty time member)
sampled_at clocked (suc t) time member =
    elim (Contains-append_cases (sampled clocked t) (moment_at clocked t ∷ []) time member) [
      | inl before ↦ let one = sampled_at clocked t time before in let below = one.below in record
          { cycle = one.cycle; below = omega (arith, below); is = one.is }
      | inr last ↦ elim (Contains-cons (moment_at clocked t) [] time last) [
        | inl same ↦ record { cycle = t; below = omega arith; is = same }
        | inr none ↦ absurd (Contains-empty time none)
      ]
    ]

unknown_none : (w : Watches) (events : List Event) (cycle : ℕ) (times : List ℕ)
    → ((time : ℕ) → Contains times time → find (is_unknown w.clock events time) (needed w.zero_inputs w.inputs) ≡ None)
    → unknown_from w events cycle times ≡ None
unknown_none w events cycle [] each = refl
unknown_none w events cycle (time ∷ times) each =
    ap (λ o. option_or (unknown_in cycle o) (unknown_from w events (cycle + 1) times))
    (each time (Contains-first time times))
    ∙ unknown_none w events (cycle + 1) times (λ u member. each u (Contains-later time times u member))

all_known : (s : Scene) → IsScene s → unknown_from (watches s) (events s) 0 (sampled (is_some s.clock) s.cycles) ≡ None
all_known s is =
    unknown_none (watches s) (events s) 0 (sampled (is_some s.clock) s.cycles)
    (λ time member. one time (sampled_at (is_some s.clock) s.cycles time member))
  where
    one : (time : ℕ) → Sampled (is_some s.clock) s.cycles time
        → find (is_unknown (watches s).clock (events s) time) (watches s).inputs ≡ None
    one time at =
        subst (λ u. find (is_unknown (watches s).clock (events s) u) (watches s).inputs ≡ None) at.is
        (cycle_known s is at.cycle at.below)

-- ---- none of them
pub never_refused : (s : Scene) → IsScene s → refusal_of s.design (by_clock s.clock) (past s) ≡ None
never_refused s is =
    let times = cycles_are s.top s.design s.clock s.places s.rows s.cycles is in
    let cycles : List ℕ = cycles_of s.design (by_clock s.clock) (past s) in
    let unknown : Option VcdErr = unknown_from (watches s) (events s) 0 (cycles_of s.design (by_clock s.clock) (past s)) in
    ap (λ scope. option_or (scope_refusal scope)
    (option_or (width_refusal (header s) (sought s)) (option_or (cycle_refusal (length cycles)) unknown)))
    (first_scope s.design s.clock (variables s) (freed s) (ports s) (header s) is.known)
    ∙ ap (λ o. option_or o (option_or (cycle_refusal (length cycles)) unknown)) (widths_fit s is)
    ∙ ap (λ l. option_or (cycle_refusal (length l)) (unknown_from (watches s) (events s) 0 l)) times
    ∙ ap (λ n. option_or (cycle_refusal n)
    (unknown_from (watches s) (events s) 0 (sampled (is_some s.clock) s.cycles)))
    (sampled_many (is_some s.clock) s.cycles)
    ∙ ap (λ o. option_or o (unknown_from (watches s) (events s) 0 (sampled (is_some s.clock) s.cycles)))
    (few_cycles s.cycles is.some is.most)
    ∙ all_known s is
