-- What the literals of a cycle mean, by one induction over the circuit's nodes.
use Rattle.std.proofs.Common.{◌≡◌, ℕ, zero, suc, Bool, true, false, if◌then◌else◌, List, [], ◌∷◌, ◌++◌, map, get_or, refl, sym, subst}
use Rattle.gate_base.specs.declared.literal.Literal.{Literal}
use Rattle.gate_base.specs.declared.literal.Literal.TheVariants.{Known, Of}
use Rattle.gate_base.specs.declared.node.Node.{Node}
use Rattle.gate_base.specs.declared.node.Node.TheVariants.{Input, State, And, Free}
use Rattle.gate_base.specs.Nodes.{Word, made, free_made}
use Rattle.gate_base.specs.Meaning.{Source, literal_value, node_value, values, bit_value, Means, Grown, Gives, MeansAll, none, more}
use Rattle.gate_base.proofs.Meaning.{known-means, opposite-means, keep, keep_all, grown-none, grown-then, and-means, free-means}
use Rattle.unroller.specs.Cycles.{Frame, sampled, held, translated, words_translated, node_unrolled, nodes_unrolled}
use Rattle.unroller.specs.Meaning.{cycle_source, CycleGiven, AreHeld, FreesGrouped, cycle_made, cycle_value}

-- an entry of literals that mean bits, false behind the last
entry-means : {e : Source} {nodes : List Node} {now : List Literal} {known : List Bool} → MeansAll e nodes now known
    → (n : ℕ)
    → Means e nodes (get_or now n (Known false)) (get_or known n false)
entry-means {e} {nodes} none n = known-means e nodes false
entry-means (more m all) zero = m
entry-means (more m all) (suc n) = entry-means all n

-- a literal of the circuit, translated
translated-means : {e : Source} {nodes : List Node} {now : List Literal} {known : List Bool}
    → MeansAll e nodes now known → (l : Literal)
    → Means e nodes (translated now l) (literal_value known l)
unfolding literal_value
translated-means {e} {nodes} all (Known value) = known-means e nodes value
translated-means all (Of n true) = opposite-means (entry-means all n)
translated-means all (Of n false) = entry-means all n

-- one more
push-means : {e : Source} {nodes : List Node} {now : List Literal} {known : List Bool} {l : Literal} {b : Bool}
    → MeansAll e nodes now known → Means e nodes l b
    → MeansAll e nodes (now ++ l ∷ []) (known ++ b ∷ [])
push-means none m = more m none
push-means (more m all) last = more m (push-means all last)

stays : {e : Source} {nodes : List Node} {l : Literal} {b : Bool} → Means e nodes l b → Gives e nodes (made nodes l) b
stays {e} {nodes} m = record { grown = grown-none nodes; means = m }

module _ (e : Source) (frame : Frame) (state : ℕ → ℕ → Bool) (frees : FreesGrouped e frame.grouped) where
  abbrev source : Source
  source = cycle_source e frame state

  free-in : {nodes : List Node} {l : Literal} {b : Bool} (place bit : ℕ) → Means e nodes l b → (grouped : Bool)
      → frame.grouped place ≡ grouped
      → Gives e nodes (if grouped then free_made nodes frame.moment place bit l else made nodes l)
      (if e.frees place then e.chosen frame.moment place bit else b)
  free-in place bit m true is = free-means frame.moment place bit m
  free-in place bit m false is = rw (frees place is) (stays m)

  node-means : {nodes : List Node} {now : List Literal} {known : List Bool} → MeansAll e nodes now known
      → AreHeld e nodes frame.states state
      → (node : Node) → Gives e nodes (node_unrolled frame nodes now node) (node_value source known node)
  unfolding node_unrolled node_value
  node-means {nodes} all held_as (Input input bit) = stays (known-means e nodes (sampled frame.samples input bit))
  node-means all held_as (State s bit) = stays (held_as s bit)
  node-means all held_as (And left right) = and-means (translated-means all left) (translated-means all right)
  node-means all held_as (Free moment place bit computed) =
      free-in place bit (translated-means all computed) (frame.grouped place) refl

  record CycleMeans (nodes : List Node) (w : Word) (known : List Bool) : Type 0 where
    grown : Grown nodes w.nodes
    means : MeansAll e w.nodes w.bits known

  nodes-mean : (rest : List Node) {nodes : List Node} {now : List Literal} {known : List Bool}
      → MeansAll e nodes now known → AreHeld e nodes frame.states state
      → CycleMeans nodes (nodes_unrolled frame nodes now rest) (values source known rest)
  unfolding nodes_unrolled values
  nodes-mean [] {nodes} all held_as = record { grown = grown-none nodes; means = all }
  nodes-mean (node ∷ rest) all held_as =
      let g = node-means all held_as node in
      let r = nodes-mean rest (push-means (keep_all g.grown all) g.means) (λ s b. keep g.grown (held_as s b)) in
      record { grown = grown-then g.grown r.grown; means = r.means }

module _ (of : CycleGiven) (held_as : AreHeld of.source of.definitions of.frame.states of.state)
    (frees : FreesGrouped of.source of.frame.grouped) where
  whole : CycleMeans of.source of.frame of.state frees of.definitions (cycle_made of)
      (values (cycle_source of.source of.frame of.state) [] of.circuit)
  whole = nodes-mean of.source of.frame of.state frees of.circuit none held_as

  pub cycle-grown : Grown of.definitions (cycle_made of).nodes
  cycle-grown = whole.grown

  pub cycle-literals : (l : Literal)
      → Means of.source (cycle_made of).nodes (translated (cycle_made of).bits l) (cycle_value of l)
  unfolding bit_value
  cycle-literals l = translated-means whole.means l

  pub cycle-next : (next : List (List Literal))
      → AreHeld of.source (cycle_made of).nodes (words_translated (cycle_made of).bits next)
      (λ s b. cycle_value of (held next s b))
  cycle-next next s b =
      subst (λ l. Means of.source (cycle_made of).nodes l (cycle_value of (held next s b))) (sym at)
      (cycle-literals (held next s b))
    where
      in-word : (now xs : List Literal) (b : ℕ)
          → get_or (map (translated now) xs) b (Known false) ≡ translated now (get_or xs b (Known false))
      in-word now [] b = refl
      in-word now (x ∷ xs) zero = refl
      in-word now (x ∷ xs) (suc b) = in-word now xs b

      in-words : (now : List Literal) (words : List (List Literal)) (s b : ℕ)
          → held (words_translated now words) s b ≡ translated now (held words s b)
      in-words now [] s b = refl
      in-words now (xs ∷ words) zero b = in-word now xs b
      in-words now (xs ∷ words) (suc s) b = in-words now words s b

      at : held (words_translated (cycle_made of).bits next) s b ≡ translated (cycle_made of).bits (held next s b)
      at = in-words (cycle_made of).bits next s b
