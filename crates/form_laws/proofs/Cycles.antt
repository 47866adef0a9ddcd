-- What stands of each cycle in the whole form: the literals of the circuit there, which mean the circuit's values in the run.
use Rattle.std.proofs.Common.{◌≡◌, ℕ, zero, suc, ◌+◌, ◌-◌, ◌*◌, ◌<◌, ◌≤◌, ◌^◌, ◌/◌, ◌==◌, Bool, false, List, [], ◌∷◌, ◌++◌, length, map, take, drop, get_or, Some, refl, sym, ◌∙◌, ap, subst, arith, add-one, append_assoc, append-nil, length-append, ◌⊎◌, inl, inr}
use Rattle.std.specs.Prelude.{slice_get, All}
use Rattle.std.specs.Int.{bit_at}
use Rattle.std.proofs.Math.Nat.{pow-suc}
use Rattle.std.proofs.lemmas.List.{length-map, length-drop, length-take-le, take_all, take-append-le, drop_at}
use Rattle.std.proofs.lemmas.List.Elements.{All-head, All-tail}
use Rattle.std.proofs.lemmas.Nat.Bits.{bit_at_above, bit_at_lowest, bit_at-suc}
use Rattle.std.proofs.lemmas.Bool.{cases_lt}
use Rattle.loc_base.proofs.ShelfOptions.{Some-same}
use Rattle.loc_base.specs.declared.bits.Bits.{Bits}
use Rattle.loc_base.specs.Bits.{width_of, value_of}
use Rattle.gate_base.specs.declared.literal.Literal.{Literal}
use Rattle.gate_base.specs.declared.literal.Literal.TheVariants.{Known}
use Rattle.gate_base.specs.declared.node.Node.{Node}
use Rattle.gate_base.specs.Nodes.{Word}
use Rattle.gate_base.specs.Meaning.{Source, Means, Grown, bit_value}
use Rattle.gate_base.proofs.Meaning.{keep, known-means, grown-none, grown-then}
use Rattle.design_core.specs.declared.trace.Checked.{Checked}
use Rattle.design_core.specs.declared.trace.Trace.{Trace}
use Rattle.design_core.specs.Given.{row}
use Rattle.bit_circuit.specs.Wires.{constant_bits}
use Rattle.bit_circuit.specs.Circuits.{BitNet}
use Rattle.unroller.specs.Cycles.{Frame, sampled, held, translated, words_translated, nodes_unrolled}
use Rattle.unroller.specs.Meaning.{CycleGiven, AreHeld, FreesGrouped}
use Rattle.unroller.specs.Unrolls.{Unrolling, constant_word, samples_in, expected_in, with_cycle, with_trace, cycles_unrolled, traces_unrolled, cycles_of, IsTraceOf}
use Rattle.unroller.proofs.CycleLaws.{cycle-grown, cycle-literals, cycle-next}
use Rattle.unroller.proofs.TraceSteps.{row-within}
use Rattle.form_laws.specs.Runs.{Chosen, given, state_before}

-- ---- a form, and one with more cycles

-- a list begins with another
pub record Begins (X : Type 0) (one other : List X) : Type 0 where
  pub more : List X
  pub is : other ≡ one ++ more

begins-none : (X : Type 0) (xs : List X) → Begins X xs xs
begins-none X xs = record { more = []; is = sym (append-nil xs) }

begins-then : (X : Type 0) (xs ys zs : List X) → Begins X xs ys → Begins X ys zs → Begins X xs zs
begins-then X xs ys zs one next = record {
  more = one.more ++ next.more;
  is = next.is ∙ ap (λ vs. vs ++ next.more) one.is ∙ append_assoc xs one.more next.more;
}

-- cycles follow, and what stands stays
pub record After (u v : Unrolling) : Type 0 where
  pub each : v.each ≡ u.each
  pub definitions : Grown u.definitions v.definitions
  pub outputs : Begins (List Literal) u.outputs v.outputs
  pub expected : Begins Checked u.expected v.expected

pub after-none : (u : Unrolling) → After u u
after-none u = record {
  each = refl;
  definitions = grown-none u.definitions;
  outputs = begins-none (List Literal) u.outputs;
  expected = begins-none Checked u.expected;
}

pub after-then : (u v w : Unrolling) → After u v → After v w → After u w
after-then u v w one next = record {
  each = next.each ∙ one.each;
  definitions = grown-then one.definitions next.definitions;
  outputs = begins-then (List Literal) u.outputs v.outputs w.outputs one.outputs next.outputs;
  expected = begins-then Checked u.expected v.expected w.expected one.expected next.expected;
}

-- there are as many words in each cycle
pub record Long (circuit : BitNet) (u : Unrolling) : Type 0 where
  pub each : u.each ≡ length circuit.outputs
  pub outputs : length u.outputs ≡ length u.ends * u.each
  pub expected : length u.expected ≡ length u.ends * u.each

-- ---- rows

-- the row that was appended, whatever follows
row-seam : {X : Type 0} (xs ys more all : List X) (width t : ℕ) → length xs ≡ t * width → length ys ≡ width
    → all ≡ (xs ++ ys) ++ more → row all width t ≡ ys
row-seam xs ys more all width t before long is =
    let count : t * width + width - t * width ≡ width = omega arith in
    ap (λ vs. row vs width t) (is ∙ append_assoc xs ys more)
    ∙ ap (λ vs. take (t * width + width - t * width) vs) (drop_at xs (ys ++ more) (t * width) before)
    ∙ ap (λ n. take n (ys ++ more)) count
    ∙ take-append-le width ys more (omega (arith, long))
    ∙ take_all width ys (omega (arith, long))

-- ---- the states before the first cycle

constant-bit : (width value b : ℕ) → value < 2 ^ width → get_or (constant_bits width value) b (Known false) ≡ Known (bit_at value b == 1)
unfolding constant_bits
constant-bit zero value b below =
    let none : bit_at value b ≡ 0 = bit_at_above value 0 b below (omega arith) in
    ap (λ n. Known (n == 1)) (sym none)
constant-bit (suc width) value zero below = ap (λ n. Known (n == 1)) (sym (bit_at_lowest value))
constant-bit (suc width) value (suc b) below =
    constant-bit width (value / 2) b (half value (2 ^ width) (2 ^ suc width) (double width) below)
    ∙ ap (λ n. Known (n == 1)) (sym (bit_at-suc value b))
  where
    half : (v p q : ℕ) → q ≡ 2 * p → v < q → v / 2 < p
    half v p q is less = omega (arith, is, less)

    double : (w : ℕ) → 2 ^ suc w ≡ 2 * 2 ^ w
    double w = omega (arith, pow-suc 2 w)

start-is : (start : List Bits) (s b : ℕ) → held (map constant_word start) s b ≡ Known (sampled start s b)
start-is [] s b = refl
start-is (word ∷ start) zero b = constant-bit (width_of word) (value_of word) b word.in_range
start-is (word ∷ start) (suc s) b = start-is start s b

pub start-held : (e : Source) (nodes : List Node) (start : List Bits) → AreHeld e nodes (map constant_word start) (sampled start)
start-held e nodes start s b =
    subst (λ l. Means e nodes l (sampled start s b)) (sym (start-is start s b)) (known-means e nodes (sampled start s b))

-- ---- a cycle in the whole form

-- the literals of the circuit's nodes in a cycle; those of the outputs, and what is expected of them; each literal of the
-- circuit means its value
pub record CycleStands (e : Source) (circuit : BitNet) (final : Unrolling) (moment : ℕ) (source : Source)
    (expected : List Checked) : Type 0 where
  pub now : List Literal
  pub outputs : row final.outputs final.each moment ≡ words_translated now circuit.outputs
  pub expected_is : row final.expected final.each moment ≡ expected
  pub means : (l : Literal) → Means e final.definitions (translated now l) (bit_value source circuit.nodes l)

one-more : (t w : ℕ) → (t + 1) * w ≡ t * w + w
one-more t w = omega arith

-- as many entries as there are in a cycle
length-expected : (circuit : BitNet) (trace : Trace) (t : ℕ) → IsTraceOf (length circuit.outputs) trace → t < trace.cycles
    → length (expected_in (length circuit.outputs) trace t) ≡ length circuit.outputs
length-expected circuit trace t fits low =
    let width = length circuit.outputs in
    let from = t * width in
    let within : from + width ≤ length trace.expected.items =
    row-within trace.cycles width t (length trace.expected.items) low fits.expected in
    let count : from + width - from ≡ width = omega arith in
    length-take-le (from + width - from) (drop from trace.expected.items)
    (omega (arith, within, length-drop from trace.expected.items)) ∙ count

module _ (e : Source) (circuit : BitNet) (grouped : ℕ → Bool) (frees : FreesGrouped e grouped) where
  -- the bits that are chosen in a trace, by the number of its first cycle
  abbrev pub chosen_from : ℕ → Chosen
  chosen_from first t = e.chosen (first + t)

  -- a cycle of a trace, of which the first cycle has that number among all, stands in the whole form
  abbrev pub StandsAt : Trace → ℕ → Unrolling → ℕ → Type 0
  StandsAt trace first final t =
      CycleStands e circuit final (first + t)
      (given trace e.frees (chosen_from first) t (state_before circuit trace e.frees (chosen_from first) t))
      (expected_in (length circuit.outputs) trace t)

  module _ (trace : Trace) (fits : IsTraceOf (length circuit.outputs) trace) (first : ℕ) where
    abbrev before : ℕ → ℕ → ℕ → Bool
    before t = state_before circuit trace e.frees (chosen_from first) t

    abbrev source_at : ℕ → Source
    source_at t = given trace e.frees (chosen_from first) t (before t)

    abbrev Stands : Unrolling → ℕ → Type 0
    Stands final t = StandsAt trace first final t

    module _ (u : Unrolling) (states : List (List Literal)) (t : ℕ) (low : t < trace.cycles) (long : Long circuit u)
        (at : length u.ends ≡ first + t) (held_as : AreHeld e u.definitions states (before t)) where
      abbrev frame : Frame
      frame = record { moment = length u.ends; samples = samples_in trace t; states = states; grouped = grouped }

      abbrev of : CycleGiven
      of = record { source = e; frame = frame; definitions = u.definitions; circuit = circuit.nodes; state = before t }

      abbrev m : Word
      m = nodes_unrolled frame u.definitions [] circuit.nodes

      abbrev v : Unrolling
      v = with_cycle circuit u (expected_in (length circuit.outputs) trace t) m.nodes m.bits

      -- what the circuit is given, by the number of the cycle among all
      abbrev given_at : ℕ → Source
      given_at moment = record {
        inputs = sampled (samples_in trace t);
        states = before t;
        frees = e.frees;
        chosen = λ _ place bit. e.chosen moment place bit;
      }

      as-given : given_at (length u.ends) ≡ source_at t
      as-given = ap given_at at

      after-cycle : After u v
      after-cycle = record {
        each = refl;
        definitions = cycle-grown of held_as frees;
        outputs = record { more = words_translated m.bits circuit.outputs; is = refl };
        expected = record { more = expected_in (length circuit.outputs) trace t; is = refl };
      }

      ends-cycle : length v.ends ≡ length u.ends + 1
      ends-cycle = length-append u.ends (length m.nodes ∷ [])

      length-outputs : length (words_translated m.bits circuit.outputs) ≡ u.each
      length-outputs = length-map circuit.outputs (map (translated m.bits)) ∙ sym long.each

      length-checked : length (expected_in (length circuit.outputs) trace t) ≡ u.each
      length-checked = length-expected circuit trace t fits low ∙ sym long.each

      long-cycle : Long circuit v
      long-cycle =
          let rows : length v.ends * u.each ≡ length u.ends * u.each + u.each =
          ap (λ n. n * u.each) ends-cycle ∙ one-more (length u.ends) u.each in
          record {
            each = long.each;
            outputs = omega (arith, rows, long.outputs, length-outputs, length-append u.outputs (words_translated m.bits circuit.outputs));
            expected = omega (
              arith,
              rows,
              long.expected,
              length-checked,
              length-append u.expected (expected_in (length circuit.outputs) trace t),
            );
          }

      cycle-stands : (final : Unrolling) → After v final → Stands final t
      cycle-stands final after =
          let rows : row final.outputs final.each (length u.ends) ≡ words_translated m.bits circuit.outputs =
          ap (λ w. row final.outputs w (length u.ends)) after.each
          ∙ row-seam u.outputs (words_translated m.bits circuit.outputs) after.outputs.more final.outputs u.each (length u.ends)
          long.outputs length-outputs after.outputs.is in
          let checked : row final.expected final.each (length u.ends) ≡ expected_in (length circuit.outputs) trace t =
          ap (λ w. row final.expected w (length u.ends)) after.each
          ∙ row-seam u.expected (expected_in (length circuit.outputs) trace t) after.expected.more final.expected u.each (length u.ends)
          long.expected length-checked after.expected.is in
          record {
            now = m.bits;
            outputs = subst (λ n. row final.outputs final.each n ≡ words_translated m.bits circuit.outputs) at rows;
            expected_is = subst (λ n. row final.expected final.each n ≡ expected_in (length circuit.outputs) trace t) at checked;
            means = λ l. keep after.definitions
                (subst (λ s. Means e m.nodes (translated m.bits l) (bit_value s circuit.nodes l)) as-given
                (cycle-literals of held_as frees l));
          }

      next-held : AreHeld e v.definitions (words_translated m.bits circuit.next) (before (t + 1))
      next-held =
          let next : before (t + 1) ≡ (λ s b. bit_value (source_at t) circuit.nodes (held circuit.next s b)) = ap before (add-one t) in
          subst (AreHeld e m.nodes (words_translated m.bits circuit.next)) (sym next)
          (subst (λ s. AreHeld e m.nodes (words_translated m.bits circuit.next) (λ i b. bit_value s circuit.nodes (held circuit.next i b)))
          as-given (cycle-next of held_as frees circuit.next))

    -- so many cycles from one on stand in each form that comes after
    record CyclesTie (u r : Unrolling) (t n : ℕ) : Type 0 where
      long : Long circuit r
      ends : length r.ends ≡ length u.ends + n
      after : After u r
      stands : (final : Unrolling) → After r final → (i : ℕ) → t ≤ i → i < t + n → Stands final i

    cycles-tie : (n : ℕ) (u : Unrolling) (states : List (List Literal)) (t : ℕ) → t + n ≡ trace.cycles → Long circuit u
        → length u.ends ≡ first + t → AreHeld e u.definitions states (before t)
        → CyclesTie u (cycles_unrolled circuit grouped trace u states t n) t n
    unfolding cycles_unrolled
    cycles-tie zero u states t last long at held_as = record {
      long = long;
      ends = omega arith;
      after = after-none u;
      stands = λ final after i from below. absurd (omega (arith, from, below));
    }
    cycles-tie (suc n) u states t last long at held_as =
        let low : t < trace.cycles = omega (arith, last) in
        let w = v u states t low long at held_as in
        let number = ends-cycle u states t low long at held_as in
        let one : After u w = after-cycle u states t low long at held_as in
        let rest = cycles-tie n w (words_translated (m u states t low long at held_as).bits circuit.next) (t + 1)
        (omega (arith, last)) (long-cycle u states t low long at held_as) (omega (arith, number, at))
        (next-held u states t low long at held_as) in
        record {
          long = rest.long;
          ends = omega (arith, rest.ends, number);
          after = after-then u w _ one rest.after;
          stands = λ final after i from below.
              stands-at w _ rest.after rest.stands (cycle-stands u states t low long at held_as) final after i from below (cases_lt t i);
        }
      where
        stands-at : (w r : Unrolling) → After w r
            → ((final : Unrolling) → After r final → (i : ℕ) → t + 1 ≤ i → i < t + 1 + n → Stands final i)
            → ((final : Unrolling) → After w final → Stands final t)
            → (final : Unrolling) → After r final → (i : ℕ) → t ≤ i → i < t + suc n → (t < i) ⊎ (i ≤ t) → Stands final i
        stands-at w r behind rest here final after i from below (inl later) =
            rest final after i (omega (arith, later)) (omega (arith, below))
        stands-at w r behind rest here final after i from below (inr not_later) =
            let same : t ≡ i = omega (arith, from, not_later) in
            subst (Stands final) same (here final (after-then w r final behind after))

  -- all cycles of a trace stand
  abbrev pub TraceStands : Trace → ℕ → Unrolling → Type 0
  TraceStands trace first final = (t : ℕ) → t < trace.cycles → StandsAt trace first final t

  -- the form behind a trace
  abbrev behind : Unrolling → Trace → Unrolling
  behind u trace = cycles_unrolled circuit grouped trace (with_trace u) (map constant_word circuit.start) 0 trace.cycles

  -- the cycles of traces stand in each form that comes after
  pub record TracesTie (u r : Unrolling) (traces : List Trace) : Type 0 where
    pub long : Long circuit r
    pub ends : length r.ends ≡ length u.ends + cycles_of traces
    pub after : After u r
    pub stands : (final : Unrolling) → After r final → (i : ℕ) (trace : Trace) → slice_get traces i ≡ Some trace
        → TraceStands trace (length u.ends + cycles_of (take i traces)) final

  nothing-there : (i : ℕ) (trace : Trace) → slice_get [] i ≡ Some trace → ⊥
  nothing-there i trace there = cc

  pub traces-tie : (traces : List Trace) (u : Unrolling) → All (IsTraceOf (length circuit.outputs)) traces → Long circuit u
      → TracesTie u (traces_unrolled circuit grouped u traces) traces
  unfolding traces_unrolled
  traces-tie [] u fit long = record {
    long = long;
    ends = omega arith;
    after = after-none u;
    stands = λ final after i trace there t low. absurd (nothing-there i trace there);
  }
  traces-tie (trace ∷ traces) u fit long =
      let fits = All-head (IsTraceOf (length circuit.outputs)) trace traces fit in
      let begun : Long circuit (with_trace u) = record { each = long.each; outputs = long.outputs; expected = long.expected } in
      let start : length u.ends ≡ length u.ends + 0 = omega arith in
      let one = cycles-tie trace fits (length u.ends) trace.cycles (with_trace u) (map constant_word circuit.start) 0 (omega arith)
      begun start
      (start-held e u.definitions circuit.start) in
      let v = behind u trace in
      let rest = traces-tie traces v (All-tail (IsTraceOf (length circuit.outputs)) trace traces fit) one.long in
      record {
        long = rest.long;
        ends = omega (arith, rest.ends, one.ends);
        after = after-then u v _ (as-before one.after) rest.after;
        stands = λ final after i other there. stands-at v _ one.ends rest.after one.stands rest.stands final after i other there;
      }
    where
      as-before : {r : Unrolling} → After (with_trace u) r → After u r
      as-before after = record { each = after.each; definitions = after.definitions; outputs = after.outputs; expected = after.expected }

      stands-at : (v r : Unrolling) → length v.ends ≡ length u.ends + trace.cycles → After v r
          → ((final : Unrolling) → After v final → (t : ℕ) → 0 ≤ t → t < 0 + trace.cycles
          → StandsAt trace (length u.ends) final t)
          → ((final : Unrolling) → After r final → (i : ℕ) (other : Trace) → slice_get traces i ≡ Some other
          → TraceStands other (length v.ends + cycles_of (take i traces)) final)
          → (final : Unrolling) → After r final → (i : ℕ) (other : Trace) → slice_get (trace ∷ traces) i ≡ Some other
          → TraceStands other (length u.ends + cycles_of (take i (trace ∷ traces))) final
      stands-at v r number behind_v here rest final after zero other there t low =
          let place : length u.ends ≡ length u.ends + 0 = omega arith in
          let same : trace ≡ other = Some-same there in
          subst (λ (x : Trace). t < x.cycles → StandsAt x (length u.ends + 0) final t) same
          (λ less. subst (λ n. StandsAt trace n final t) place
          (here final (after-then v r final behind_v after) t (omega arith) (omega (arith, less)))) low
      stands-at v r number behind_v here rest final after (suc i) other there t low =
          let place : length v.ends + cycles_of (take i traces) ≡ length u.ends + (trace.cycles + cycles_of (take i traces)) =
          omega (arith, number) in
          subst (λ n. StandsAt other n final t) place (rest final after i other there t low)
