-- A run of a circuit reads no choices but those of its own free bits of freed places in the cycles of the trace.
use Rattle.std.proofs.Common.{◌≡◌, ℕ, zero, suc, ◌<◌, ◌≤◌, Bool, true, false, if◌then◌else◌, List, [], ◌∷◌, ◌++◌, Some, refl, sym, ◌∙◌, ap, arith}
use Rattle.std.specs.Prelude.{slice_get}
use Rattle.std.proofs.Math.Path.{fun_ext}
use Rattle.gate_base.specs.declared.literal.Literal.{Literal}
use Rattle.gate_base.specs.declared.node.Node.{Node}
use Rattle.gate_base.specs.declared.node.Node.TheVariants.{Input, State, And, Free}
use Rattle.gate_base.specs.Meaning.{Source, literal_value, node_value, values, bit_value}
use Rattle.design_core.specs.declared.trace.Trace.{Trace}
use Rattle.bit_circuit.specs.Circuits.{BitNet}
use Rattle.unroller.specs.Cycles.{held, free_bits}
use Rattle.form_laws.specs.Runs.{Chosen, given, state_before, value_in_cycle, CircuitMeets}
use Rattle.form_laws.proofs.Columns.{free}

-- two sources of the same inputs, states and freed places, which choose the same for each bit of these at a freed place
pub record AreAlike (e f : Source) (bits : ℕ → ℕ → Type 0) : Type 0 where
  pub inputs : (i b : ℕ) → e.inputs i b ≡ f.inputs i b
  pub states : (s b : ℕ) → e.states s b ≡ f.states s b
  pub frees : (place : ℕ) → e.frees place ≡ f.frees place
  pub chosen : (moment place bit : ℕ) → bits place bit → e.frees place ≡ true → e.chosen moment place bit ≡ f.chosen moment place bit

-- a bit of a place is free in the circuit
pub record IsRead (nodes : List Node) (place bit : ℕ) : Type 0 where
  pub column : ℕ
  pub there : slice_get (free_bits nodes) column ≡ Some (free place bit)

free-alike : (one other p q r : Bool) → one ≡ other → (one ≡ true → p ≡ q) → (if one then p else r) ≡ (if other then q else r)
free-alike true true p q r same is = is refl
free-alike true false p q r same is = cc
free-alike false true p q r same is = cc
free-alike false false p q r same is = refl

module _ (e f : Source) where
  node-alike : (known : List Bool) (node : Node) (rest : List Node) → AreAlike e f (IsRead (node ∷ rest))
      → node_value e known node ≡ node_value f known node
  unfolding node_value
  node-alike known (Input input bit) rest alike = alike.inputs input bit
  node-alike known (State state bit) rest alike = alike.states state bit
  node-alike known (And left right) rest alike = refl
  node-alike known (Free moment place bit computed) rest alike =
      free-alike (e.frees place) (f.frees place) (e.chosen moment place bit) (f.chosen moment place bit) (literal_value known computed)
      (alike.frees place) (alike.chosen moment place bit (record { column = 0; there = refl }))

  later-read : (node : Node) {rest : List Node} {place bit : ℕ} → IsRead rest place bit → IsRead (node ∷ rest) place bit
  later-read (Input i b) read = record { column = read.column; there = read.there }
  later-read (State s b) read = record { column = read.column; there = read.there }
  later-read (And l r) read = record { column = read.column; there = read.there }
  later-read (Free m p b c) read = record { column = suc read.column; there = read.there }

  rest-alike : (node : Node) (rest : List Node) → AreAlike e f (IsRead (node ∷ rest)) → AreAlike e f (IsRead rest)
  rest-alike node rest alike = record {
    inputs = alike.inputs;
    states = alike.states;
    frees = alike.frees;
    chosen = λ moment place bit read free. alike.chosen moment place bit (later-read node read) free;
  }

  values-alike : (nodes : List Node) (known : List Bool) → AreAlike e f (IsRead nodes) → values e known nodes ≡ values f known nodes
  unfolding values
  values-alike [] known alike = refl
  values-alike (node ∷ nodes) known alike =
      ap (λ b. values e (known ++ b ∷ []) nodes) (node-alike known node nodes alike)
      ∙ values-alike nodes (known ++ node_value f known node ∷ []) (rest-alike node nodes alike)

module _ (circuit : BitNet) (trace : Trace) (freed : ℕ → Bool) (one other : Chosen) where
  -- the two choose the same where a run reads
  abbrev pub ChooseAlike : Type 0
  ChooseAlike = (t place bit : ℕ) → t < trace.cycles → IsRead circuit.nodes place bit → freed place ≡ true
      → one t place bit ≡ other t place bit

  module _ (same : ChooseAlike) where
    cycle-alike : (t : ℕ) → t < trace.cycles → (state : ℕ → ℕ → Bool) (l : Literal)
        → bit_value (given trace freed one t state) circuit.nodes l ≡ bit_value (given trace freed other t state) circuit.nodes l
    unfolding bit_value
    cycle-alike t low state l =
        ap (λ known. literal_value known l)
        (values-alike (given trace freed one t state) (given trace freed other t state) circuit.nodes [] (record {
          inputs = λ i b. refl;
          states = λ s b. refl;
          frees = λ place. refl;
          chosen = λ moment place bit read free. same t place bit low read free;
        }))

    states-alike : (t : ℕ) → t ≤ trace.cycles → state_before circuit trace freed one t ≡ state_before circuit trace freed other t
    states-alike zero low = refl
    states-alike (suc t) low =
        fun_ext (λ s. fun_ext (λ b.
        ap (λ state. bit_value (given trace freed one t state) circuit.nodes (held circuit.next s b)) (states-alike t (omega (arith, low)))
        ∙ cycle-alike t (omega (arith, low)) (state_before circuit trace freed other t) (held circuit.next s b)))

    run-alike : (t : ℕ) → t < trace.cycles → (l : Literal)
        → value_in_cycle circuit trace freed one t l ≡ value_in_cycle circuit trace freed other t l
    run-alike t low l =
        ap (λ state. bit_value (given trace freed one t state) circuit.nodes l) (states-alike t (omega (arith, low)))
        ∙ cycle-alike t low (state_before circuit trace freed other t) l

    -- so they meet the same traces
    pub meets-alike : CircuitMeets circuit trace freed one → CircuitMeets circuit trace freed other
    meets-alike meets t low i b word checked l in_words in_expected in_word is =
        sym (run-alike t low l) ∙ meets t low i b word checked l in_words in_expected in_word is
