-- Steps of the loops over the bits of inputs, states and places.
use Rattle.std.proofs.Common.{◌≡◌, ℕ, suc, ◌+◌, ◌-◌, ◌≤◌, ◌<◌, false, List, [], ◌∷◌, ◌++◌, length, get_or, drop, refl, ap, arith}
use Rattle.gate_base.specs.declared.literal.Literal.{Literal}
use Rattle.gate_base.specs.declared.node.Node.{Node}
use Rattle.gate_base.specs.declared.node.Node.TheVariants.{Input, State}
use Rattle.std.proofs.lemmas.List.{drop_all}
use Rattle.gate_base.specs.declared.literal.Literal.TheVariants.{Known}
use Rattle.gate_base.specs.Nodes.{word, input_made, state_made, free_made, sources_in, counted, pushed}
use Rattle.gate_base.proofs.Counts.{sources_in-push, refused-more, counted-free}
use Rattle.gate_base.proofs.Chains.{drop-literal}
use Rattle.bit_circuit.specs.Sources.{inputs_made, states_made, frees_made}

pub inputs-more : (nodes : List Node) (bits : List Literal) (input b n : ℕ) → b < n
    → inputs_made nodes bits input b (n - b) ≡ inputs_made (input_made nodes input b).nodes (bits ++ (input_made nodes input b).bit ∷ []) input (b + 1) (n - (b + 1))
unfolding inputs_made
inputs-more nodes bits input b n less = ap (inputs_made nodes bits input b) count
  where
    count : n - b ≡ suc (n - (b + 1))
    count = omega (arith, less)

pub inputs-end : (nodes : List Node) (bits : List Literal) (input b n : ℕ) → n ≤ b → inputs_made nodes bits input b (n - b) ≡ word nodes bits
unfolding inputs_made
inputs-end nodes bits input b n past = ap (inputs_made nodes bits input b) count
  where
    count : n - b ≡ 0
    count = omega (arith, past)

pub input-sources : (nodes : List Node) (input b : ℕ) → sources_in (input_made nodes input b).nodes ≡ sources_in nodes + 1
unfolding input_made pushed
input-sources nodes input b = sources_in-push nodes (Input input b) refl

pub states-more : (nodes : List Node) (bits : List Literal) (state b n : ℕ) → b < n
    → states_made nodes bits state b (n - b) ≡ states_made (state_made nodes state b).nodes (bits ++ (state_made nodes state b).bit ∷ []) state (b + 1) (n - (b + 1))
unfolding states_made
states-more nodes bits state b n less = ap (states_made nodes bits state b) count
  where
    count : n - b ≡ suc (n - (b + 1))
    count = omega (arith, less)

pub states-end : (nodes : List Node) (bits : List Literal) (state b n : ℕ) → n ≤ b → states_made nodes bits state b (n - b) ≡ word nodes bits
unfolding states_made
states-end nodes bits state b n past = ap (states_made nodes bits state b) count
  where
    count : n - b ≡ 0
    count = omega (arith, past)

pub state-sources : (nodes : List Node) (state b : ℕ) → sources_in (state_made nodes state b).nodes ≡ sources_in nodes + 1
unfolding state_made pushed
state-sources nodes state b = sources_in-push nodes (State state b) refl

pub counted-frees : (nodes : List Node) (bits : List Literal) (place b : ℕ) (xs : List Literal)
    → counted nodes ≤ counted (frees_made nodes bits place b xs).nodes
unfolding frees_made
counted-frees nodes bits place b [] = omega arith
counted-frees nodes bits place b (x ∷ xs) =
    let m = free_made nodes 0 place b x in
    omega (arith, counted-free nodes 0 place b x, counted-frees m.nodes (bits ++ m.bit ∷ []) place (b + 1) xs)

pub frees-more : (nodes : List Node) (bits : List Literal) (place b : ℕ) (xs : List Literal) (i : ℕ) → i < length xs
    → frees_made nodes bits place b (drop i xs)
    ≡ frees_made (free_made nodes 0 place b (get_or xs i (Known false))).nodes (bits ++ (free_made nodes 0 place b (get_or xs i (Known false))).bit ∷ []) place (b + 1) (drop (i + 1) xs)
unfolding frees_made
frees-more nodes bits place b xs i within = ap (frees_made nodes bits place b) (drop-literal xs i within)

pub frees-end : (nodes : List Node) (bits : List Literal) (place b : ℕ) (xs : List Literal) (i : ℕ) → length xs ≤ i → frees_made nodes bits place b (drop i xs) ≡ word nodes bits
unfolding frees_made
frees-end nodes bits place b xs i end = ap (frees_made nodes bits place b) (drop_all i xs end)

pub counted-frees_more : (nodes : List Node) (bits : List Literal) (place b : ℕ) (xs : List Literal) (i : ℕ) → i < length xs
    → counted (free_made nodes 0 place b (get_or xs i (Known false))).nodes ≤ counted (frees_made nodes bits place b (drop i xs)).nodes
counted-frees_more nodes bits place b xs i within =
    let m = free_made nodes 0 place b (get_or xs i (Known false)) in
    rw (frees-more nodes bits place b xs i within) (counted-frees m.nodes (bits ++ m.bit ∷ []) place (b + 1) (drop (i + 1) xs))

pub ruleset frees = (frees-more, frees-end, counted-frees_more, refused-more)

pub ruleset inputs = (inputs-more, inputs-end, input-sources)

pub ruleset states = (states-more, states-end, state-sources)
