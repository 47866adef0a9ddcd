-- What an unrolled form keeps, cycle by cycle.
use Rattle.std.proofs.Common.{◌≡◌, ℕ, zero, suc, ◌+◌, ◌-◌, ◌*◌, ◌≤◌, Bool, true, false, if◌then◌else◌, List, [], ◌∷◌, ◌++◌, length, map, get_or, drop, Option, Some, None, refl, sym, ◌∙◌, ap, arith, length-append}
use Rattle.std.specs.Prelude.{All, slice_range}
use Rattle.std.specs.Option.{is_some}
use Rattle.std.proofs.lemmas.List.{length-map, length-drop, length-take-le}
use Rattle.loc_base.specs.declared.bits.Bits.{Bits}
use Rattle.loc_base.specs.Bits.{width_of, value_of}
use Rattle.loc_base.proofs.Cut.{EndsAscend-push}
use Rattle.design_core.specs.declared.trace.Trace.{Trace}
use Rattle.design_core.specs.declared.trace.Checked.{Checked}
use Rattle.gate_base.specs.declared.literal.Literal.{Literal}
use Rattle.gate_base.specs.declared.literal.Literal.TheVariants.{Known, Of}
use Rattle.gate_base.specs.declared.node.Node.{Node}
use Rattle.gate_base.specs.Literals.{IsBelow}
use Rattle.gate_base.specs.Nodes.{Word}
use Rattle.gate_base.specs.Meaning.{Source, bit_value, Grown}
use Rattle.bit_circuit.specs.Circuits.{BitNet}
use Rattle.bit_circuit.specs.Wires.{constant_bits}
use Rattle.unroller.specs.declared.free_bit.FreeBit.{FreeBit}
use Rattle.unroller.specs.Cycles.{Frame, held, translated, words_translated, nodes_unrolled, free_bit, free_bits, and_then, is_free, frees_at}
use Rattle.unroller.specs.Meaning.{CycleGiven, AreHeld, FreesGrouped}
use Rattle.unroller.specs.Unrolls.{Unrolling, constant_word, samples_in, expected_in, with_cycle, with_trace, cycles_unrolled, traces_unrolled, unrolled_before, IsTraceOf}
use Rattle.unroller.specs.Reads.{IsWordBelow, AreWordsBelow, AreAsLong, AreKept}
use Rattle.unroller.proofs.CycleLaws.{cycle-grown, cycle-literals, cycle-next}
use Rattle.unroller.proofs.WorkSteps.{length-nodes}
use Rattle.unroller.proofs.TraceSteps.{row-within, made_in}

-- ---- lists of literals

below-more : (n m : ℕ) (l : Literal) → n ≤ m → IsBelow n l → IsBelow m l
below-more n m (Known value) more below = tt
below-more n m (Of node negated) more below = omega (arith, more, below)

word-more : (n m : ℕ) (xs : List Literal) → n ≤ m → IsWordBelow n xs → IsWordBelow m xs
word-more n m [] more below = tt
word-more n m (x ∷ xs) more below = (below-more n m x more below.0, word-more n m xs more below.1)

words-more : (n m : ℕ) (words : List (List Literal)) → n ≤ m → AreWordsBelow n words → AreWordsBelow m words
words-more n m [] more below = tt
words-more n m (xs ∷ words) more below = (word-more n m xs more below.0, words-more n m words more below.1)

words-append : (n : ℕ) (a b : List (List Literal)) → AreWordsBelow n a → AreWordsBelow n b → AreWordsBelow n (a ++ b)
words-append n [] b in_a in_b = in_b
words-append n (xs ∷ a) b in_a in_b = (in_a.0, words-append n a b in_a.1 in_b)

long-append : (n : ℕ) (a b : List (List Literal)) → AreAsLong n a → AreAsLong n b → AreAsLong n (a ++ b)
long-append n [] b in_a in_b = in_b
long-append n (xs ∷ a) b in_a in_b = (in_a.0, long-append n a b in_a.1 in_b)

-- a word is below where each entry is
from-entries : (n : ℕ) (xs : List Literal) → ((b : ℕ) → IsBelow n (get_or xs b (Known false))) → IsWordBelow n xs
from-entries n [] each = tt
from-entries n (x ∷ xs) each = (each 0, from-entries n xs (λ b. each (suc b)))

if-below : (n : ℕ) (is : Bool) (l : Literal) (rest : List Literal) → IsBelow n l → IsWordBelow n rest
    → IsWordBelow n (if is then l ∷ rest else rest)
if-below n true l rest one all = (one, all)
if-below n false l rest one all = all

frees-below : (n : ℕ) (nodes : List Node) (now : List Literal) → IsWordBelow n now → IsWordBelow n (frees_at nodes now)
frees-below n [] now all = tt
frees-below n (node ∷ nodes) [] all = tt
frees-below n (node ∷ nodes) (l ∷ now) all =
    if-below n (is_free node) l (frees_at nodes now) all.0 (frees-below n nodes now all.1)

-- as many literals as free bits
one-long : (o : Option FreeBit) (l : Literal) (rest : List Literal) (bits : List FreeBit) → length rest ≡ length bits
    → length (if is_some o then l ∷ rest else rest) ≡ length (and_then o bits)
one-long None l rest bits same = same
one-long (Some bit) l rest bits same = ap suc same

frees-long : (nodes : List Node) (now : List Literal) → length nodes ≡ length now
    → length (frees_at nodes now) ≡ length (free_bits nodes)
frees-long [] now same = refl
frees-long (node ∷ nodes) [] same = absurd (omega (arith, same))
frees-long (node ∷ nodes) (l ∷ now) same =
    one-long (free_bit node) l (frees_at nodes now) (free_bits nodes) (frees-long nodes now (omega (arith, same)))

-- ---- the literals of a cycle

-- nothing is given
abbrev nothing : Source
nothing = record { inputs = λ input bit. false; states = λ state bit. false; frees = λ place. false; chosen = λ moment place bit. false }

-- each bit of a state is a constant or a definition with a number below that
abbrev pub AreStatesBelow : ℕ → List (List Literal) → Type 0
AreStatesBelow n states = (s b : ℕ) → IsBelow n (held states s b)

module _ (circuit : BitNet) (frame : Frame) (definitions : List Node) (states : AreStatesBelow (length definitions) frame.states) where
  abbrev given : CycleGiven
  given = record {
    source = nothing;
    frame = frame;
    definitions = definitions;
    circuit = circuit.nodes;
    state = λ s b. bit_value nothing definitions (held frame.states s b);
  }

  are_held : AreHeld given.source given.definitions given.frame.states given.state
  are_held s b = record { within = states s b; value = refl }

  none_free : FreesGrouped given.source given.frame.grouped
  none_free place is = refl

  abbrev now : Word
  now = nodes_unrolled frame definitions [] circuit.nodes

  cycle-more : Grown definitions now.nodes
  cycle-more = cycle-grown given are_held none_free

  cycle-below : (l : Literal) → IsBelow (length now.nodes) (translated now.bits l)
  cycle-below l = (cycle-literals given are_held none_free l).within

  cycle-word : (xs : List Literal) → IsWordBelow (length now.nodes) (map (translated now.bits) xs)
  cycle-word [] = tt
  cycle-word (x ∷ xs) = (cycle-below x, cycle-word xs)

  cycle-words : (words : List (List Literal)) → AreWordsBelow (length now.nodes) (words_translated now.bits words)
  cycle-words [] = tt
  cycle-words (xs ∷ words) = (cycle-word xs, cycle-words words)

  cycle-bits : IsWordBelow (length now.nodes) now.bits
  cycle-bits = from-entries (length now.nodes) now.bits (λ b. cycle-below (Of b false))

  cycle-states : (next : List (List Literal)) → AreStatesBelow (length now.nodes) (words_translated now.bits next)
  cycle-states next s b = (cycle-next given are_held none_free next s b).within

  cycle-longer : length definitions ≤ length now.nodes
  cycle-longer = omega (arith, ap length cycle-more.is, length-append definitions cycle-more.more)

-- ---- a form, and one more cycle

pub record Follows (circuit : BitNet) (u : Unrolling) : Type 0 where
  pub each : u.each ≡ length circuit.outputs
  pub bits : u.bits ≡ free_bits circuit.nodes
  pub kept : AreKept u

one-more : (t w : ℕ) → (t + 1) * w ≡ t * w + w
one-more t w = omega arith

module _ (circuit : BitNet) (frame : Frame) (u : Unrolling) (expected : List Checked) where
  abbrev then : Word
  then = nodes_unrolled frame u.definitions [] circuit.nodes

  abbrev after : Unrolling
  after = with_cycle circuit u expected then.nodes then.bits

  cycle-follows : Follows circuit u → AreStatesBelow (length u.definitions) frame.states → length expected ≡ length circuit.outputs
      → Follows circuit after
  cycle-follows before states many =
      let kept = before.kept in
      let longer : length u.definitions ≤ length then.nodes = cycle-longer circuit frame u.definitions states in
      let as_many : length circuit.nodes ≡ length then.bits = omega (arith, length-nodes frame circuit.nodes u.definitions []) in
      let ends : length after.ends ≡ length u.ends + 1 = omega (arith, length-append u.ends (length then.nodes ∷ [])) in
      let rows : length after.ends * u.each ≡ length u.ends * u.each + u.each = ap (λ n. n * u.each) ends ∙ one-more (length u.ends) u.each in
      record {
        each = before.each;
        bits = before.bits;
        kept = record {
          ordered = (cycle-more circuit frame u.definitions states).ordered kept.ordered;
          ends = EndsAscend-push 0 u.ends (length u.definitions) (length then.nodes) kept.ends longer;
          outputs = words-append (length then.nodes) u.outputs (words_translated then.bits circuit.outputs)
              (words-more (length u.definitions) (length then.nodes) u.outputs longer kept.outputs)
              (cycle-words circuit frame u.definitions states circuit.outputs);
          frees = words-append (length then.nodes) u.frees (frees_at circuit.nodes then.bits ∷ [])
              (words-more (length u.definitions) (length then.nodes) u.frees longer kept.frees)
              (frees-below (length then.nodes) circuit.nodes then.bits (cycle-bits circuit frame u.definitions states), tt);
          outputs_each = omega (
            arith,
            rows,
            kept.outputs_each,
            before.each,
            length-append u.outputs (words_translated then.bits circuit.outputs),
            length-map circuit.outputs (map (translated then.bits)),
          );
          expected_each = omega (arith, rows, kept.expected_each, before.each, many, length-append u.expected expected);
          frees_each = omega (arith, ends, kept.frees_each, length-append u.frees (frees_at circuit.nodes then.bits ∷ []));
          bits_each = long-append (length u.bits) u.frees (frees_at circuit.nodes then.bits ∷ []) kept.bits_each
              (frees-long circuit.nodes then.bits as_many ∙ ap length (sym before.bits), tt);
        };
      }

-- as many entries as there are in a cycle
length-row : {X : Type 0} (xs : List X) (width from : ℕ) → from + width ≤ length xs → length (slice_range xs from (from + width)) ≡ width
length-row xs width from within =
    length-take-le (from + width - from) (drop from xs) (omega (arith, length-drop from xs)) ∙ omega arith

cycles-follow : (circuit : BitNet) (grouped : ℕ → Bool) (trace : Trace) → IsTraceOf (length circuit.outputs) trace
    → (n : ℕ) (u : Unrolling) (states : List (List Literal)) (t : ℕ) → t + n ≡ trace.cycles → Follows circuit u
    → AreStatesBelow (length u.definitions) states → Follows circuit (cycles_unrolled circuit grouped trace u states t n)
unfolding cycles_unrolled
cycles-follow circuit grouped trace fits zero u states t last before below = before
cycles-follow circuit grouped trace fits (suc n) u states t last before below =
    let frame : Frame = record { moment = length u.ends; samples = samples_in trace t; states = states; grouped = grouped } in
    let m = made_in circuit grouped trace u states t in
    let width = length circuit.outputs in
    let many : length (expected_in width trace t) ≡ width =
    length-row trace.expected.items width (t * width)
    (row-within trace.cycles width t (length trace.expected.items) (omega (arith, last)) fits.expected) in
    cycles-follow circuit grouped trace fits n (with_cycle circuit u (expected_in width trace t) m.nodes m.bits)
    (words_translated m.bits circuit.next) (t + 1) (omega (arith, last))
    (cycle-follows circuit frame u (expected_in width trace t) before below many)
    (cycle-states circuit frame u.definitions below circuit.next)

-- ---- all traces

constant-below : (n width value b : ℕ) → IsBelow n (get_or (constant_bits width value) b (Known false))
unfolding constant_bits
constant-below n zero value b = tt
constant-below n (suc width) value zero = tt
constant-below n (suc width) value (suc b) = constant-below n width _ b

starts-below : (n : ℕ) (start : List Bits) → AreStatesBelow n (map constant_word start)
starts-below n [] s b = tt
starts-below n (word ∷ start) zero b = constant-below n (width_of word) (value_of word) b
starts-below n (word ∷ start) (suc s) b = starts-below n start s b

trace-follows : (circuit : BitNet) (u : Unrolling) → Follows circuit u → Follows circuit (with_trace u)
trace-follows circuit u before = record {
  each = before.each;
  bits = before.bits;
  kept = record {
    ordered = before.kept.ordered;
    ends = before.kept.ends;
    outputs = before.kept.outputs;
    frees = before.kept.frees;
    outputs_each = before.kept.outputs_each;
    expected_each = before.kept.expected_each;
    frees_each = before.kept.frees_each;
    bits_each = before.kept.bits_each;
  };
}

pub traces-follow : (circuit : BitNet) (grouped : ℕ → Bool) (traces : List Trace) (u : Unrolling)
    → All (IsTraceOf (length circuit.outputs)) traces → Follows circuit u
    → Follows circuit (traces_unrolled circuit grouped u traces)
unfolding traces_unrolled
traces-follow circuit grouped [] u fit before = before
traces-follow circuit grouped (trace ∷ traces) u fit before =
    let next = cycles_unrolled circuit grouped trace (with_trace u) (map constant_word circuit.start) 0 trace.cycles in
    traces-follow circuit grouped traces next (λ k d below. fit (suc k) d (omega (arith, below)))
    (cycles-follow circuit grouped trace (fit 0 trace (omega arith)) trace.cycles (with_trace u) (map constant_word circuit.start) 0
    (omega arith) (trace-follows circuit u before) (starts-below (length u.definitions) circuit.start))

pub before-follows : (circuit : BitNet) (base : ℕ) → Follows circuit (unrolled_before circuit base)
before-follows circuit base = record {
  each = refl;
  bits = refl;
  kept = record {
    ordered = tt;
    ends = refl;
    outputs = tt;
    frees = tt;
    outputs_each = omega arith;
    expected_each = omega arith;
    frees_each = refl;
    bits_each = tt;
  };
}
