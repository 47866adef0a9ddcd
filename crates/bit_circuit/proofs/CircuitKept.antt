-- The circuit of a net is one.
use Rattle.std.proofs.Common.{◌≡◌, ℕ, zero, suc, ◌<◌, List, [], ◌∷◌, length, map, get_or, Some, refl, sym, ap, subst, arith, inl, inr}
use Rattle.std.specs.Prelude.{Bool, slice_get}
use Rattle.std.proofs.lemmas.List.{length-map}
use Rattle.std.proofs.lemmas.Option.{slice_get_within}
use Rattle.loc_base.proofs.ShelfLists.{slice_get-some}
use Rattle.loc_base.proofs.ShelfOptions.{Some-same}
use Rattle.loc_base.specs.declared.bits.Bits.{Bits}
use Rattle.loc_base.specs.Bits.{width_of}
use Rattle.gate_base.specs.declared.literal.Literal.{Literal}
use Rattle.gate_base.specs.declared.node.Node.{Node}
use Rattle.gate_base.specs.declared.node.Node.TheVariants as gate
use Rattle.gate_base.specs.Literals.{IsBelow}
use Rattle.gate_base.specs.Nodes.{counted}
use Rattle.gate_base.specs.Arena.{UnlessNoMemory}
use Rattle.gate_base.specs.declared.error.MakeErr.{MakeErr}
use Rattle.gate_base.specs.declared.error.MakeErr.TheVariants as make
use Rattle.bit_circuit.specs.declared.error.BlastErr.{BlastErr}
use Rattle.bit_circuit.specs.Limits.{blast_err, IsRefused}
use Rattle.gate_base.specs.Meaning.{Source, MeansAll, none, more}
use Rattle.word_net.specs.Fits.{widths_of}
use Rattle.word_net.specs.Values.{net_values}
use Rattle.word_net.specs.Nets.{Net, IsNet}
use Rattle.bit_circuit.specs.Circuits.{Expanded, expansion, expanded, words_at, circuit_of, AreThere, HasNext, HasFree, IsCircuit}
use Rattle.bit_circuit.specs.Meaning.{bits_of, IsOf, GivenNet}
use Rattle.bit_circuit.proofs.CircuitLaws.{ExpandedMeans, net-means, circuit-ordered}
use Rattle.bit_circuit.proofs.ExpandSteps.{nothing, nothing-given}
use Rattle.bit_circuit.proofs.Kept.{HasState, states-of, frees-of, apart-net}

-- ---- entries of images

image-at : {X Y : Type 0} (f : X → Y) (xs : List X) (i : ℕ) (x : X) → slice_get xs i ≡ Some x
    → slice_get (map f xs) i ≡ Some (f x)
image-at f [] i x is = absurd (omega (arith, slice_get_within [] i x is))
image-at f (y ∷ xs) zero x is = ap (λ z. Some (f z)) (Some-same is)
image-at f (y ∷ xs) (suc i) x is = image-at f xs i x is

record Image {X Y : Type 0} (f : X → Y) (xs : List X) (i : ℕ) (y : Y) : Type 0 where
  of : X
  there : slice_get xs i ≡ Some of
  is : f of ≡ y

image-of : {X Y : Type 0} (f : X → Y) (xs : List X) (i : ℕ) (y : Y) → slice_get (map f xs) i ≡ Some y → Image f xs i y
image-of f [] i y is = absurd (omega (arith, slice_get_within [] i y is))
image-of f (x ∷ xs) zero y is = record { of = x; there = refl; is = Some-same is }
image-of f (x ∷ xs) (suc i) y is = let r = image-of f xs i y is in record { of = r.of; there = r.there; is = r.is }

-- literals that mean bits are there
means-there : {e : Source} {nodes : List Node} {xs : List Literal} {bs : List Bool} → MeansAll e nodes xs bs
    → (b : ℕ) (x : Literal) → slice_get xs b ≡ Some x → IsBelow (length nodes) x
means-there none b x is = absurd (omega (arith, slice_get_within [] b x is))
means-there {nodes = nodes} (more m all) zero x is = subst (IsBelow (length nodes)) (Some-same is) m.within
means-there (more m all) (suc b) x is = means-there all b x is

module _ (net : Net) (is : IsNet net) where
  abbrev x : Expanded
  x = expanded [] [] net.nodes

  abbrev given : GivenNet
  given = record { net = net; source = nothing }

  means : ExpandedMeans (bits_of nothing) [] x (widths_of net.nodes) (net_values nothing net.nodes)
  means = net-means given is (nothing-given net.nodes)

  -- the width of a node, and its literals
  record AtNode (n : ℕ) : Type 0 where
    width : ℕ
    value : ℕ
    is_width : slice_get (widths_of net.nodes) n ≡ Some width
    literals : IsOf (bits_of nothing) x.nodes (get_or x.words n []) width value

  at-node : (n : ℕ) → n < length net.nodes → AtNode n
  at-node n within =
      let (w, there) =
      slice_get-some (widths_of net.nodes) n (omega (arith, within, length-map net.nodes (λ node. node.width))) in
      record {
        width = w;
        value = get_or (net_values nothing net.nodes) n 0;
        is_width = there;
        literals =
            means.are.is n w there;
      }

  words-there : (numbers : List ℕ) → ((i n : ℕ) → slice_get numbers i ≡ Some n → n < length net.nodes)
      → AreThere x.nodes (words_at x.words numbers)
  words-there numbers named i b xs l at_i at_b =
      let image = image-of (λ n. get_or x.words n []) numbers i xs at_i in
      let at = at-node image.of (named i image.of image.there) in
      means-there at.literals.is.means b l (subst (λ ys. slice_get ys b ≡ Some l) (sym image.is) at_b)

  has-next : (state b : ℕ) → HasState net.nodes state b → HasNext (circuit_of net) state b
  unfolding circuit_of
  has-next state b h =
      let fits = is.states h.at state h.node h.there h.is in
      let literals = means.are.is fits.next h.node.width fits.next_width in
      let start = image-of width_of net.start state h.node.width fits.start in
      record {
        next = get_or x.words fits.next [];
        is_next = image-at (λ n. get_or x.words n []) net.next state fits.next fits.is_next;
        in_next = omega (arith, h.within, literals.wide);
        start = start.of;
        is_start = start.there;
        in_start = omega (arith, h.within, start.is);
      }

  state-next : (i state b : ℕ) → slice_get x.nodes i ≡ Some (gate.State state b) → HasNext (circuit_of net) state b
  state-next i state b there = elim (states-of net.nodes [] [] i state b there) [
    | inl old ↦ absurd (omega (arith, slice_get_within [] i (gate.State state b) old))
    | inr found ↦ has-next state b found
  ]

  -- each free bit is one of a free node
  pub free-of : (i moment place b : ℕ) (computed : Literal)
      → slice_get (circuit_of net).nodes i ≡ Some (gate.Free moment place b computed)
      → HasFree net.nodes place b
  unfolding circuit_of
  free-of i moment place b computed there = elim (frees-of net.nodes [] [] i moment place b computed there) [
    | inl old ↦ absurd (omega (arith, slice_get_within [] i (gate.Free moment place b computed) old))
    | inr found ↦ found
  ]

  pub circuit-kept : IsCircuit (circuit_of net)
  unfolding circuit_of
  circuit-kept = record {
    nodes = circuit-ordered given is (nothing-given net.nodes);
    outputs = words-there net.outputs is.outputs;
    next = words-there net.next is.next;
    states = state-next;
    frees = apart-net net.nodes is.places;
  }

-- ---- the circuit that is put together

-- a refusal of the arena is one of the circuit
pub refused : (cause : MakeErr) (e : BlastErr) (limit count : ℕ) → e ≡ blast_err cause
    → UnlessNoMemory cause (limit < count) → IsRefused e (limit < count)
refused make.Limit e limit count is past = rw is past
refused make.NoMemory e limit count is past = rw is tt

-- the parts of the circuit, put together
pub put-together : (net : Net) (nodes : List Node) (words : List (List Literal)) {ns : List Node}
    {outputs next : List (List Literal)} {start : List Bits}
    → expansion nodes words ≡ expanded [] [] net.nodes
    → ns ≡ nodes → outputs ≡ words_at words net.outputs → next ≡ words_at words net.next → start ≡ net.start
    → record { nodes = ns; outputs = outputs; next = next; start = start } ≡ circuit_of net
unfolding circuit_of
put-together net nodes words is at_nodes at_outputs at_next at_start =
    rw (at_nodes, at_outputs, at_next, at_start)
    (ap (λ x. record {
      nodes = x.nodes;
      outputs = words_at x.words net.outputs;
      next = words_at x.words net.next;
      start =
          net.start;
    }) is)

pub counted-whole : (net : Net) → counted (expanded [] [] net.nodes).nodes ≡ counted (circuit_of net).nodes
unfolding circuit_of
counted-whole net = refl

pub ruleset whole = (refused, counted-whole)
