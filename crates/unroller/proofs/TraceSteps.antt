-- Steps of the loop over the cycles of a trace.
use Rattle.std.proofs.Common.{◌≡◌, ℕ, zero, suc, ◌+◌, ◌-◌, ◌*◌, ◌<◌, ◌≤◌, Bool, false, List, [], ◌∷◌, ◌++◌, length, get_or, map, take, drop, refl, sym, ◌∙◌, ap, ap₂, subst, arith, length-append}
use Rattle.std.proofs.Math.Nat.{mul-le-mul_right}
use Rattle.std.proofs.lemmas.List.{take_all, drop_all}
use Rattle.loc_base.specs.declared.bits.Bits.{Bits}
use Rattle.loc_base.proofs.ShelfLists.{drop-at, map-take_at}
use Rattle.design_core.specs.declared.trace.Trace.{Trace}
use Rattle.design_core.specs.declared.trace.Checked.{Checked}
use Rattle.gate_base.specs.declared.literal.Literal.{Literal}
use Rattle.gate_base.specs.declared.node.Node.{Node}
use Rattle.gate_base.specs.Nodes.{Word, counted, sources_in}
use Rattle.gate_base.proofs.Counts.{refused-more}
use Rattle.bit_circuit.specs.Circuits.{BitNet}
use Rattle.unroller.specs.Cycles.{Frame, nodes_unrolled, words_translated}
use Rattle.unroller.specs.Unrolls.{Unrolling, constant_word, samples_in, expected_in, with_cycle, with_trace, cycles_unrolled, traces_unrolled, cycles_of}
use Rattle.unroller.proofs.NodeSteps.{counted-nodes, sources-nodes}

-- the entries of a cycle are there
pub row-within : (cycles width t n : ℕ) → t < cycles → n ≡ cycles * width → t * width + width ≤ n
row-within cycles width t n low is =
    let more : (t + 1) * width ≤ cycles * width = mul-le-mul_right width (omega (arith, low)) in
    omega (arith, more, is, one-more t width)
  where
    one-more : (t w : ℕ) → (t + 1) * w ≡ t * w + w
    one-more t w = omega arith

pub ruleset samples = (row-within)

-- a cycle as the definition makes it
abbrev pub made_in : BitNet → (ℕ → Bool) → Trace → Unrolling → List (List Literal) → ℕ → Word
made_in circuit grouped trace u states t =
    nodes_unrolled
    (record { moment = length u.ends; samples = samples_in trace t; states = states; grouped = grouped })
    u.definitions [] circuit.nodes

module _ (circuit : BitNet) (grouped : ℕ → Bool) (trace : Trace) where
  pub cycles-more : (u : Unrolling) (states : List (List Literal)) (t n : ℕ) → t < n
      → cycles_unrolled circuit grouped trace u states t (n - t)
      ≡ cycles_unrolled circuit grouped trace
      (with_cycle circuit u (expected_in (length circuit.outputs) trace t)
      (made_in circuit grouped trace u states t).nodes (made_in circuit grouped trace u states t).bits)
      (words_translated (made_in circuit grouped trace u states t).bits circuit.next) (t + 1) (n - (t + 1))
  unfolding cycles_unrolled
  cycles-more u states t n less = ap (cycles_unrolled circuit grouped trace u states t) count
    where
      count : n - t ≡ suc (n - (t + 1))
      count = omega (arith, less)

  pub cycles-end : (u : Unrolling) (states : List (List Literal)) (t n : ℕ) → n ≤ t
      → cycles_unrolled circuit grouped trace u states t (n - t) ≡ u
  unfolding cycles_unrolled
  cycles-end u states t n past = ap (cycles_unrolled circuit grouped trace u states t) count
    where
      count : n - t ≡ 0
      count = omega (arith, past)

  -- definitions are never taken away, and none is a source
  pub counted-cycles : (n : ℕ) (u : Unrolling) (states : List (List Literal)) (t : ℕ)
      → counted u.definitions ≤ counted (cycles_unrolled circuit grouped trace u states t n).definitions
  unfolding cycles_unrolled
  counted-cycles zero u states t = omega arith
  counted-cycles (suc n) u states t =
      let m = made_in circuit grouped trace u states t in
      omega (
        arith,
        counted-nodes
            (record { moment = length u.ends; samples = samples_in trace t; states = states; grouped = grouped })
            circuit.nodes u.definitions [],
        counted-cycles n (with_cycle circuit u (expected_in (length circuit.outputs) trace t) m.nodes m.bits)
            (words_translated m.bits circuit.next) (t + 1),
      )

  pub sources-cycles : (n : ℕ) (u : Unrolling) (states : List (List Literal)) (t : ℕ)
      → sources_in (cycles_unrolled circuit grouped trace u states t n).definitions ≡ sources_in u.definitions
  unfolding cycles_unrolled
  sources-cycles zero u states t = refl
  sources-cycles (suc n) u states t =
      let m = made_in circuit grouped trace u states t in
      sources-cycles n (with_cycle circuit u (expected_in (length circuit.outputs) trace t) m.nodes m.bits)
      (words_translated m.bits circuit.next) (t + 1)
      ∙ sources-nodes
      (record { moment = length u.ends; samples = samples_in trace t; states = states; grouped = grouped })
      circuit.nodes u.definitions []

  pub counted-cycles_more : (u : Unrolling) (states : List (List Literal)) (t n : ℕ) → t < n
      → counted (made_in circuit grouped trace u states t).nodes
      ≤ counted (cycles_unrolled circuit grouped trace u states t (n - t)).definitions
  counted-cycles_more u states t n less =
      let m = made_in circuit grouped trace u states t in
      rw (cycles-more u states t n less)
      (counted-cycles (n - (t + 1))
      (with_cycle circuit u (expected_in (length circuit.outputs) trace t) m.nodes m.bits)
      (words_translated m.bits circuit.next) (t + 1))

  -- one more cycle, as the code makes it
  pub cycle-step : (u after : Unrolling) (states next : List (List Literal)) (t n : ℕ) (frame : Frame) (expected : List Checked) (m : Word)
      → t < n
      → frame ≡ record { moment = length u.ends; samples = samples_in trace t; states = states; grouped = grouped }
      → m ≡ nodes_unrolled frame u.definitions [] circuit.nodes
      → expected ≡ expected_in (length circuit.outputs) trace t
      → after ≡ with_cycle circuit u expected m.nodes m.bits
      → next ≡ words_translated m.bits circuit.next
      → cycles_unrolled circuit grouped trace u states t (n - t)
      ≡ cycles_unrolled circuit grouped trace after next (t + 1) (n - (t + 1))
  cycle-step u after states next t n frame expected m less is_frame is_m is_expected is_after is_next =
      cycles-more u states t n less
      ∙ sym (rw (is_next, is_after, is_expected, is_m, is_frame) refl)

-- a frame by its parts
abbrev pub frame_from : ℕ → List Bits → List (List Literal) → List Bool → Frame
frame_from moment words states grouped =
    record { moment = moment; samples = words; states = states; grouped = λ place. get_or grouped place false }

pub frame-same : (moment m : ℕ) (words ws : List Bits) (states : List (List Literal)) (grouped gs : List Bool) → moment ≡ m → words ≡ ws
    → grouped ≡ gs → frame_from moment words states grouped ≡ frame_from m ws states gs
frame-same moment m words ws states grouped gs same_moment same_words same_grouped =
    ap (λ x. frame_from x words states grouped) same_moment ∙ ap (λ x. frame_from m x states grouped) same_words
    ∙ ap (λ x. frame_from m ws states x) same_grouped

-- which places are in a group, by a table
abbrev pub in_table : List Bool → ℕ → Bool
in_table table place = get_or table place false

pub table-same : (table other : List Bool) → table ≡ other → in_table table ≡ in_table other
table-same table other same = ap in_table same

-- fewer definitions stand behind the next cycle than behind all
pub cycle-count : (circuit : BitNet) (grouped : ℕ → Bool) (trace : Trace) (u : Unrolling) (states : List (List Literal)) (t n : ℕ) (frame : Frame)
    → t < n → frame ≡ record { moment = length u.ends; samples = samples_in trace t; states = states; grouped = grouped }
    → counted (nodes_unrolled frame u.definitions [] circuit.nodes).nodes
    ≤ counted (cycles_unrolled circuit grouped trace u states t (n - t)).definitions
cycle-count circuit grouped trace u states t n frame less is =
    subst (λ f. counted (nodes_unrolled f u.definitions [] circuit.nodes).nodes ≤ counted (cycles_unrolled circuit grouped trace u states t (n - t)).definitions)
    (sym is) (counted-cycles_more circuit grouped trace u states t n less)

-- one more cycle
pub ends-after : (circuit : BitNet) (u after : Unrolling) (expected : List Checked) (nodes : List Node) (now : List Literal)
    → after ≡ with_cycle circuit u expected nodes now → length after.ends ≡ length u.ends + 1
ends-after circuit u after expected nodes now is =
    ap (λ v. length v.ends) is ∙ omega (arith, length-append u.ends (length nodes ∷ []))

pub ruleset cycles = (row-within, cycles-more, cycles-end, counted-cycles_more, refused-more)

-- ---- all traces

-- a literal of the states before the first cycle, one word more
pub start-more : (start : List Bits) (i : ℕ) (word : Bits) → i < length start → word ≡ get_or start i word
    → map constant_word (take (i + 1) start) ≡ map constant_word (take i start) ++ constant_word word ∷ []
start-more start i word within is = map-take_at constant_word start i word within is

pub start-all : (start : List Bits) (i : ℕ) → length start ≤ i → map constant_word (take i start) ≡ map constant_word start
start-all start i past = ap (map constant_word) (take_all i start past)

pub ruleset starts = (start-more, start-all)

module _ (circuit : BitNet) (grouped : ℕ → Bool) where
  pub base-cycles : (trace : Trace) (n : ℕ) (u : Unrolling) (states : List (List Literal)) (t : ℕ)
      → (cycles_unrolled circuit grouped trace u states t n).base ≡ u.base
  unfolding cycles_unrolled
  base-cycles trace zero u states t = refl
  base-cycles trace (suc n) u states t =
      let m = made_in circuit grouped trace u states t in
      base-cycles trace n (with_cycle circuit u (expected_in (length circuit.outputs) trace t) m.nodes m.bits)
      (words_translated m.bits circuit.next) (t + 1)

  -- as many cycles more
  pub ends-cycles : (trace : Trace) (n : ℕ) (u : Unrolling) (states : List (List Literal)) (t : ℕ)
      → length (cycles_unrolled circuit grouped trace u states t n).ends ≡ length u.ends + n
  unfolding cycles_unrolled
  ends-cycles trace zero u states t = omega arith
  ends-cycles trace (suc n) u states t =
      let m = made_in circuit grouped trace u states t in
      omega (
        arith,
        ends-cycles trace n (with_cycle circuit u (expected_in (length circuit.outputs) trace t) m.nodes m.bits)
            (words_translated m.bits circuit.next) (t + 1),
        length-append u.ends (length m.nodes ∷ []),
      )

  -- the form behind a trace
  abbrev pub behind : Unrolling → Trace → Unrolling
  behind u trace = cycles_unrolled circuit grouped trace (with_trace u) (map constant_word circuit.start) 0 trace.cycles

  pub base-traces : (traces : List Trace) (u : Unrolling) → (traces_unrolled circuit grouped u traces).base ≡ u.base
  unfolding traces_unrolled
  base-traces [] u = refl
  base-traces (trace ∷ traces) u =
      base-traces traces (behind u trace) ∙ base-cycles trace trace.cycles (with_trace u) (map constant_word circuit.start) 0

  pub sources-traces : (traces : List Trace) (u : Unrolling)
      → sources_in (traces_unrolled circuit grouped u traces).definitions ≡ sources_in u.definitions
  unfolding traces_unrolled
  sources-traces [] u = refl
  sources-traces (trace ∷ traces) u =
      sources-traces traces (behind u trace)
      ∙ sources-cycles circuit grouped trace trace.cycles (with_trace u) (map constant_word circuit.start) 0

  pub counted-traces : (traces : List Trace) (u : Unrolling)
      → counted u.definitions ≤ counted (traces_unrolled circuit grouped u traces).definitions
  unfolding traces_unrolled
  counted-traces [] u = omega arith
  counted-traces (trace ∷ traces) u =
      omega (
        arith,
        counted-cycles circuit grouped trace trace.cycles (with_trace u) (map constant_word circuit.start) 0,
        counted-traces traces (behind u trace),
      )

  module _ (traces : List Trace) (i : ℕ) (trace : Trace) (u : Unrolling) where
    pub traces-more : i < length traces → trace ≡ get_or traces i trace
        → traces_unrolled circuit grouped u (drop i traces) ≡ traces_unrolled circuit grouped (behind u trace) (drop (i + 1) traces)
    unfolding traces_unrolled
    traces-more within is = ap (traces_unrolled circuit grouped u) (drop-at traces i trace within is)

    pub counted-traces_more : i < length traces → trace ≡ get_or traces i trace
        → counted (behind u trace).definitions ≤ counted (traces_unrolled circuit grouped u (drop i traces)).definitions
    counted-traces_more within is = rw (traces-more within is) (counted-traces (drop (i + 1) traces) (behind u trace))

  pub traces-end : (traces : List Trace) (i : ℕ) (u : Unrolling) → length traces ≤ i
      → traces_unrolled circuit grouped u (drop i traces) ≡ u
  unfolding traces_unrolled
  traces-end traces i u past = ap (traces_unrolled circuit grouped u) (drop_all i traces past)

-- one more trace, as the code makes it
module _ (circuit : BitNet) (grouped g : ℕ → Bool) (traces : List Trace) (i : ℕ) (trace : Trace) (u v : Unrolling) (states : List (List Literal))
    (within : i < length traces) (is : trace ≡ get_or traces i trace) (is_grouped : g ≡ grouped) (is_before : v ≡ with_trace u)
    (is_start : states ≡ map constant_word circuit.start) where
  made-behind : cycles_unrolled circuit g trace v states 0 trace.cycles ≡ behind circuit grouped u trace
  made-behind =
      ap (λ f. cycles_unrolled circuit f trace v states 0 trace.cycles) is_grouped
      ∙ ap₂ (λ x ss. cycles_unrolled circuit grouped trace x ss 0 trace.cycles) is_before is_start

  pub ends-step : (after : Unrolling) → after ≡ cycles_unrolled circuit g trace v states 0 trace.cycles
      → length after.ends ≡ length u.ends + trace.cycles
  ends-step after is_after =
      ap (λ x. length x.ends) (is_after ∙ made-behind)
      ∙ ends-cycles circuit grouped trace trace.cycles (with_trace u) (map constant_word circuit.start) 0

  pub trace-step : (after : Unrolling) → after ≡ cycles_unrolled circuit g trace v states 0 trace.cycles
      → traces_unrolled circuit grouped u (drop i traces) ≡ traces_unrolled circuit grouped after (drop (i + 1) traces)
  trace-step after is_after =
      traces-more circuit grouped traces i trace u within is
      ∙ ap (λ x. traces_unrolled circuit grouped x (drop (i + 1) traces)) (sym (is_after ∙ made-behind))

  pub trace-count : counted (cycles_unrolled circuit g trace v states 0 trace.cycles).definitions
      ≤ counted (traces_unrolled circuit grouped u (drop i traces)).definitions
  trace-count =
      subst (λ x. counted x.definitions ≤ counted (traces_unrolled circuit grouped u (drop i traces)).definitions) (sym made-behind)
      (counted-traces_more circuit grouped traces i trace u within is)

-- the form before a trace, by the numbers of the first cycles
pub before-trace : (u : Unrolling) (firsts : List ℕ) → firsts ≡ u.firsts ++ length u.ends ∷ [] → record u { firsts = firsts } ≡ with_trace u
before-trace u firsts is = ap (λ f. with_firsts f) is
  where
    with_firsts : List ℕ → Unrolling
    with_firsts f = record u { firsts = f }

pub cycles-left : (traces : List Trace) (i : ℕ) (trace : Trace) → i < length traces → trace ≡ get_or traces i trace
    → cycles_of (drop i traces) ≡ trace.cycles + cycles_of (drop (i + 1) traces)
cycles-left traces i trace within is = ap cycles_of (drop-at traces i trace within is)
