-- The cycles of all traces, one after another: which number each has, and choices that are put together from those of each trace.
use Rattle.std.proofs.Common.{◌≡◌, ◌⊎◌, inl, inr, ℕ, zero, suc, ◌+◌, ◌-◌, ◌<◌, ◌≤◌, Bool, false, if◌then◌else◌, List, [], ◌∷◌, ◌++◌, length, map, take, get_or, Some, refl, sym, ◌∙◌, ap, subst, arith, append_assoc, append-nil, length-append}
use Rattle.std.specs.Prelude.{nat_lt, slice_get}
use Rattle.std.proofs.lemmas.Bool.{cases_lt, lt-ltb, le-ltb}
use Rattle.std.proofs.Math.Seq.{get_or-append_seam}
use Rattle.loc_base.proofs.ShelfBools.{if-true, if-false}
use Rattle.loc_base.proofs.ShelfLists.{Contains-first, Contains-later}
use Rattle.loc_base.proofs.ShelfOptions.{Some-same}
use Rattle.gate_base.specs.declared.literal.Literal.{Literal}
use Rattle.design_core.specs.declared.trace.Trace.{Trace}
use Rattle.bit_circuit.specs.Circuits.{BitNet}
use Rattle.unroller.specs.Cycles.{words_translated}
use Rattle.unroller.specs.Unrolls.{Unrolling, constant_word, expected_in, with_cycle, with_trace, cycles_unrolled, traces_unrolled, cycles_of}
use Rattle.unroller.proofs.TraceSteps.{made_in, ends-cycles}
use Rattle.form_laws.specs.Runs.{Chosen, CircuitMeets, CircuitWorks}
use Rattle.form_laws.proofs.SameRuns.{ChooseAlike, meets-alike}

-- the number of the first cycle of a trace among all
abbrev pub first_of : List Trace → ℕ → ℕ
first_of traces i = cycles_of (take i traces)

-- the cycles of a trace are among all
pub cycles-within : (traces : List Trace) (i : ℕ) (trace : Trace) → slice_get traces i ≡ Some trace
    → first_of traces i + trace.cycles ≤ cycles_of traces
cycles-within [] i trace there = cc
cycles-within (x ∷ traces) zero trace there =
    let same : x.cycles ≡ trace.cycles = ap (λ (t : Trace). t.cycles) (Some-same there) in omega (arith, same)
cycles-within (x ∷ traces) (suc i) trace there = let rest = cycles-within traces i trace there in omega (arith, rest)

-- each of all cycles is one of a trace
pub record Located (traces : List Trace) (moment : ℕ) : Type 0 where
  pub number : ℕ
  pub trace : Trace
  pub there : slice_get traces number ≡ Some trace
  pub cycle : ℕ
  pub low : cycle < trace.cycles
  pub is : first_of traces number + cycle ≡ moment

pub located : (traces : List Trace) (moment : ℕ) → moment < cycles_of traces → Located traces moment
located [] moment less = absurd (omega (arith, less))
located (x ∷ traces) moment less = at (cases_lt moment x.cycles) (λ rest. located traces (moment - x.cycles) rest)
  where
    at : (moment < x.cycles) ⊎ (x.cycles ≤ moment) → (moment - x.cycles < cycles_of traces → Located traces (moment - x.cycles))
        → Located (x ∷ traces) moment
    at (inl here) behind =
        record { number = 0; trace = x; there = refl; cycle = moment; low = here; is = omega arith }
    at (inr past) behind =
        let l = behind (omega (arith, past, less)) in
        record { number = suc l.number; trace = l.trace; there = l.there; cycle = l.cycle; low = l.low; is = omega (arith, past, l.is) }

-- ---- the numbers of the first cycles that a form keeps

record Longer (one other : List ℕ) : Type 0 where
  more : List ℕ
  is : other ≡ one ++ more

module _ (circuit : BitNet) (grouped : ℕ → Bool) where
  firsts-cycles : (trace : Trace) (n : ℕ) (u : Unrolling) (states : List (List Literal)) (t : ℕ)
      → (cycles_unrolled circuit grouped trace u states t n).firsts ≡ u.firsts
  unfolding cycles_unrolled
  firsts-cycles trace zero u states t = refl
  firsts-cycles trace (suc n) u states t =
      let m = made_in circuit grouped trace u states t in
      firsts-cycles trace n (with_cycle circuit u (expected_in (length circuit.outputs) trace t) m.nodes m.bits)
      (words_translated m.bits circuit.next) (t + 1)

  abbrev after : Unrolling → Trace → Unrolling
  after u trace = cycles_unrolled circuit grouped trace (with_trace u) (map constant_word circuit.start) 0 trace.cycles

  firsts-after : (u : Unrolling) (trace : Trace) → (after u trace).firsts ≡ u.firsts ++ length u.ends ∷ []
  firsts-after u trace = firsts-cycles trace trace.cycles (with_trace u) (map constant_word circuit.start) 0

  ends-after : (u : Unrolling) (trace : Trace) → length (after u trace).ends ≡ length u.ends + trace.cycles
  ends-after u trace = ends-cycles circuit grouped trace trace.cycles (with_trace u) (map constant_word circuit.start) 0

  firsts-longer : (traces : List Trace) (u : Unrolling) → Longer u.firsts (traces_unrolled circuit grouped u traces).firsts
  unfolding traces_unrolled
  firsts-longer [] u = record { more = []; is = sym (append-nil u.firsts) }
  firsts-longer (trace ∷ traces) u =
      let rest = firsts-longer traces (after u trace) in
      record {
        more = length u.ends ∷ rest.more;
        is = rest.is ∙ ap (λ ns. ns ++ rest.more) (firsts-after u trace) ∙ append_assoc u.firsts (length u.ends ∷ []) rest.more;
      }

  pub firsts-at : (traces : List Trace) (u : Unrolling) (i : ℕ) (trace : Trace) → slice_get traces i ≡ Some trace
      → get_or (traces_unrolled circuit grouped u traces).firsts (length u.firsts + i) 0 ≡ length u.ends + first_of traces i
  unfolding traces_unrolled
  firsts-at [] u i trace there = cc
  firsts-at (x ∷ traces) u zero trace there =
      let rest = firsts-longer traces (after u x) in
      let whole = (traces_unrolled circuit grouped (after u x) traces).firsts in
      let is : whole ≡ u.firsts ++ (length u.ends ∷ rest.more) =
      rest.is ∙ ap (λ ns. ns ++ rest.more) (firsts-after u x) ∙ append_assoc u.firsts (length u.ends ∷ []) rest.more in
      let place : length u.firsts + 0 ≡ length u.firsts = omega arith in
      let none : length u.ends ≡ length u.ends + 0 = omega arith in
      ap (λ n. get_or whole n 0) place ∙ ap (λ ns. get_or ns (length u.firsts) 0) is
      ∙ get_or-append_seam u.firsts (length u.ends) rest.more 0 ∙ none
  firsts-at (x ∷ traces) u (suc i) trace there =
      let v = after u x in
      let place : length v.firsts + i ≡ length u.firsts + suc i =
      omega (arith, ap length (firsts-after u x), length-append u.firsts (length u.ends ∷ [])) in
      let number : length v.ends + first_of traces i ≡ length u.ends + (x.cycles + first_of traces i) = omega (arith, ends-after u x) in
      ap (λ n. get_or (traces_unrolled circuit grouped v traces).firsts n 0) (sym place)
      ∙ firsts-at traces v i trace there ∙ number

-- ---- choices for all traces

module _ (circuit : BitNet) (freed : ℕ → Bool) where
  -- bits for each trace with which it is met
  abbrev pub AllChosen : List Trace → Type 0
  AllChosen [] = Unit {0}
  AllChosen (trace ∷ traces) = ((chosen : Chosen) × CircuitMeets circuit trace freed chosen) × AllChosen traces

  pub all-chosen : (traces : List Trace) → CircuitWorks circuit traces freed → AllChosen traces
  all-chosen [] works = tt
  all-chosen (trace ∷ traces) works = (
    works trace (Contains-first trace traces),
    all-chosen traces (λ other member. works other (Contains-later trace traces other member)),
  )

  -- put together, by the number of the cycle among all
  abbrev pub pasted : (traces : List Trace) → AllChosen traces → Chosen
  pasted [] all moment place bit = false
  pasted (trace ∷ traces) all moment place bit =
      if nat_lt moment trace.cycles then all.0.0 moment place bit else pasted traces all.1 (moment - trace.cycles) place bit

  pub pasted-meets : (traces : List Trace) (all : AllChosen traces) (i : ℕ) (trace : Trace) → slice_get traces i ≡ Some trace
      → CircuitMeets circuit trace freed (λ t. pasted traces all (first_of traces i + t))
  pasted-meets [] all i trace there = cc
  pasted-meets (x ∷ traces) all zero trace there =
      subst (λ (y : Trace). CircuitMeets circuit y freed (λ t. pasted (x ∷ traces) all (0 + t))) (Some-same there)
      (meets-alike circuit x freed all.0.0 (λ t. pasted (x ∷ traces) all (0 + t)) here all.0.1)
    where
      here : ChooseAlike circuit x freed all.0.0 (λ t. pasted (x ∷ traces) all (0 + t))
      here t place bit low read is_freed =
          let number : t ≡ 0 + t = omega arith in
          ap (λ n. all.0.0 n place bit) number
          ∙ sym (if-true (nat_lt (0 + t) x.cycles) (all.0.0 (0 + t) place bit) (pasted traces all.1 (0 + t - x.cycles) place bit)
          (all.0.0 (0 + t) place bit) (lt-ltb (0 + t) x.cycles (omega (arith, low))) refl)
  pasted-meets (x ∷ traces) all (suc i) trace there =
      meets-alike circuit trace freed (λ t. pasted traces all.1 (first_of traces i + t))
      (λ t. pasted (x ∷ traces) all (x.cycles + first_of traces i + t)) later (pasted-meets traces all.1 i trace there)
    where
      later : ChooseAlike circuit trace freed (λ t. pasted traces all.1 (first_of traces i + t))
          (λ t. pasted (x ∷ traces) all (x.cycles + first_of traces i + t))
      later t place bit low read is_freed =
          let moment = x.cycles + first_of traces i + t in
          let number : first_of traces i + t ≡ x.cycles + first_of traces i + t - x.cycles = omega arith in
          ap (λ n. pasted traces all.1 n place bit) number
          ∙ sym (if-false (nat_lt moment x.cycles) (all.0.0 moment place bit) (pasted traces all.1 (moment - x.cycles) place bit)
          (pasted traces all.1 (moment - x.cycles) place bit) (le-ltb moment x.cycles (omega arith)) refl)
