-- What the circuit of a net keeps: literals are of nodes that are there, bits of states have their next state and their
-- start, and a bit of a place is free in one node at most.
use Rattle.std.proofs.Common.{◌≡◌, ℕ, zero, suc, ◌+◌, ◌-◌, ◌≤◌, ◌<◌, List, [], ◌∷◌, ◌++◌, length, take, Some, refl, sym, ◌∙◌, ap, subst, arith, length-take, ◌⊎◌, inl, inr}
use Rattle.std.specs.Prelude.{slice_get}
use Rattle.std.proofs.lemmas.Option.{slice_get_within}
use Rattle.gate_base.specs.declared.literal.Literal.{Literal}
use Rattle.gate_base.specs.declared.node.Node.{Node}
use Rattle.gate_base.specs.declared.node.Node.TheVariants as gate
use Rattle.gate_base.specs.Nodes.{sources_in, frees_in, AddsAnds}
use Rattle.word_net.specs.declared.node.Operand.{Operand}
use Rattle.word_net.specs.declared.node.Operation.{Operation}
use Rattle.word_net.specs.declared.node.Operation.TheVariants.{Const, Input, State, Free, Unary, Binary, Choose, Join, Repeat, Resize, Slice, Pick, Is, Put, PutPick, Blend}
use Rattle.word_net.specs.declared.node.WordNode.{WordNode}
use Rattle.bit_circuit.specs.Nodes.{bits_at, literals_made}
use Rattle.bit_circuit.specs.Circuits.{expanded, HasFree}
use Rattle.bit_circuit.proofs.Added.{input_nodes, state_nodes, free_nodes, AddsFor, operation-adds}

-- ---- entries of two lists, one behind the other

entry-of : {X : Type 0} (xs ys : List X) (i : ℕ) (x : X) → slice_get (xs ++ ys) i ≡ Some x
    → (slice_get xs i ≡ Some x) ⊎ (length xs ≤ i × (slice_get ys (i - length xs) ≡ Some x))
entry-of [] ys i x is = inr (omega arith, subst (λ k. slice_get ys k ≡ Some x) (omega arith) is)
entry-of (y ∷ xs) ys zero x is = inl is
entry-of (y ∷ xs) ys (suc i) x is =
    elim (entry-of xs ys i x is)
    [ inl p ↦ inl p | inr (h, p) ↦ inr (omega (arith, h), subst (λ k. slice_get ys k ≡ Some x) (omega (arith, h)) p) ]

-- ---- bits of states and of places among new nodes

-- a bit of a state is counted among the sources
state-counted : (nodes : List Node) (i s b : ℕ) → slice_get nodes i ≡ Some (gate.State s b) → 1 ≤ sources_in nodes
unfolding sources_in
state-counted [] i s b is = absurd (omega (arith, slice_get_within [] i (gate.State s b) is))
state-counted (gate.Input n k ∷ nodes) i s b is = omega arith
state-counted (gate.State n k ∷ nodes) i s b is = omega arith
state-counted (gate.And x y ∷ nodes) zero s b is = cc
state-counted (gate.And x y ∷ nodes) (suc i) s b is = state-counted nodes i s b is
state-counted (gate.Free m p k c ∷ nodes) zero s b is = cc
state-counted (gate.Free m p k c ∷ nodes) (suc i) s b is = state-counted nodes i s b is

-- and one of a place among the free nodes
free-counted : (nodes : List Node) (i m p b : ℕ) (c : Literal) → slice_get nodes i ≡ Some (gate.Free m p b c)
    → 1 ≤ frees_in nodes
unfolding frees_in
free-counted [] i m p b c is = absurd (omega (arith, slice_get_within [] i (gate.Free m p b c) is))
free-counted (gate.Free n q k d ∷ nodes) i m p b c is = omega arith
free-counted (gate.Input n k ∷ nodes) zero m p b c is = cc
free-counted (gate.Input n k ∷ nodes) (suc i) m p b c is = free-counted nodes i m p b c is
free-counted (gate.State n k ∷ nodes) zero m p b c is = cc
free-counted (gate.State n k ∷ nodes) (suc i) m p b c is = free-counted nodes i m p b c is
free-counted (gate.And x y ∷ nodes) zero m p b c is = cc
free-counted (gate.And x y ∷ nodes) (suc i) m p b c is = free-counted nodes i m p b c is

inputs-no_state : (n input k i s b : ℕ) → slice_get (input_nodes input k n) i ≡ Some (gate.State s b) → ⊥
inputs-no_state zero input k i s b is = absurd (omega (arith, slice_get_within [] i (gate.State s b) is))
inputs-no_state (suc n) input k zero s b is = cc
inputs-no_state (suc n) input k (suc i) s b is = inputs-no_state n input (k + 1) i s b is

inputs-no_free : (n input k i m p b : ℕ) (c : Literal)
    → slice_get (input_nodes input k n) i ≡ Some (gate.Free m p b c) → ⊥
inputs-no_free zero input k i m p b c is = absurd (omega (arith, slice_get_within [] i (gate.Free m p b c) is))
inputs-no_free (suc n) input k zero m p b c is = cc
inputs-no_free (suc n) input k (suc i) m p b c is = inputs-no_free n input (k + 1) i m p b c is

states-no_free : (n state k i m p b : ℕ) (c : Literal)
    → slice_get (state_nodes state k n) i ≡ Some (gate.Free m p b c) → ⊥
states-no_free zero state k i m p b c is = absurd (omega (arith, slice_get_within [] i (gate.Free m p b c) is))
states-no_free (suc n) state k zero m p b c is = cc
states-no_free (suc n) state k (suc i) m p b c is = states-no_free n state (k + 1) i m p b c is

frees-no_state : (xs : List Literal) (place k i s b : ℕ) → slice_get (free_nodes place k xs) i ≡ Some (gate.State s b)
    → ⊥
frees-no_state [] place k i s b is = absurd (omega (arith, slice_get_within [] i (gate.State s b) is))
frees-no_state (x ∷ xs) place k zero s b is = cc
frees-no_state (x ∷ xs) place k (suc i) s b is = frees-no_state xs place (k + 1) i s b is

-- the bits of a state, from one on
record StateAt (state k n i s b : ℕ) : Type 0 where
  same : state ≡ s
  bit : b ≡ k + i
  within : i < n

states-at : (n state k i s b : ℕ) → slice_get (state_nodes state k n) i ≡ Some (gate.State s b)
    → StateAt state k n i s b
states-at zero state k i s b is = absurd (omega (arith, slice_get_within [] i (gate.State s b) is))
states-at (suc n) state k zero s b is = record { same = cc; bit = first cc; within = omega arith }
  where
    first : k ≡ b → b ≡ k + 0
    first e = omega (arith, e)
states-at (suc n) state k (suc i) s b is =
    let r = states-at n state (k + 1) i s b is in
    record { same = r.same; bit = omega (arith, r.bit); within = omega (arith, r.within) }

-- the bits of a place, from one on
record FreeAt (place k n i p b : ℕ) : Type 0 where
  same : place ≡ p
  bit : b ≡ k + i
  within : i < n

frees-at : (xs : List Literal) (place k i m p b : ℕ) (c : Literal)
    → slice_get (free_nodes place k xs) i ≡ Some (gate.Free m p b c)
    → FreeAt place k (length xs) i p b
frees-at [] place k i m p b c is = absurd (omega (arith, slice_get_within [] i (gate.Free m p b c) is))
frees-at (x ∷ xs) place k zero m p b c is = record { same = cc; bit = first cc; within = omega arith }
  where
    first : k ≡ b → b ≡ k + 0
    first e = omega (arith, e)
frees-at (x ∷ xs) place k (suc i) m p b c is =
    let r = frees-at xs place (k + 1) i m p b c is in
    record { same = r.same; bit = omega (arith, r.bit); within = omega (arith, r.within) }

-- ---- what an operation adds

-- a new bit of a state is one that the operation reads
record ReadsState (width : ℕ) (operation : Operation) (s b : ℕ) : Type 0 where
  is : operation ≡ State s
  within : b < width

-- a new free bit is one of the operation's place, and stands by its number behind what was there
record Frees (width : ℕ) (operation : Operation) (before : List Node) (i p b : ℕ) : Type 0 where
  computed : Operand
  is : operation ≡ Free p computed
  within : b < width
  at : i ≡ length before + b

module _ (before after : List Node) (i s b : ℕ) (is : slice_get after i ≡ Some (gate.State s b)) where
  abbrev New : ℕ → Operation → Type 0
  New width operation = (slice_get before i ≡ Some (gate.State s b)) ⊎ ReadsState width operation s b

  none-in : (width : ℕ) (operation : Operation) (more : List Node) → after ≡ before ++ more
      → (slice_get more (i - length before) ≡ Some (gate.State s b) → ⊥) → New width operation
  none-in width operation more grown none =
      elim (entry-of before more i (gate.State s b) (subst (λ l. slice_get l i ≡ Some (gate.State s b)) grown is)) [
        | inl old ↦ inl old
        | inr (high, new) ↦ absurd (none new)
      ]

  ands : (width : ℕ) (operation : Operation) → AddsAnds before after → New width operation
  ands width operation adds =
      none-in width operation adds.more adds.is
      (λ new. absurd (omega (arith, adds.no_sources, state-counted adds.more (i - length before) s b new)))

  state-added : (words : List (List Literal)) (width : ℕ) (operation : Operation)
      → AddsFor words width operation before after → New width operation
  state-added words width (Const value) adds = ands width (Const value) adds
  state-added words width (Input input) adds =
      none-in width (Input input) (input_nodes input 0 width) adds
      (inputs-no_state width input 0 (i - length before) s b)
  state-added words width (State state) adds =
      elim (entry-of before (state_nodes state 0 width) i (gate.State s b)
      (subst (λ l. slice_get l i ≡ Some (gate.State s b)) adds is)) [
        | inl old ↦ inl old
        | inr (high, new) ↦
            let r = states-at width state 0 (i - length before) s b new in
            inr (record { is = ap State r.same; within = omega (arith, r.bit, r.within) })
      ]
  state-added words width (Free place computed) adds =
      none-in width (Free place computed) (free_nodes place 0 (take width (bits_at words computed))) adds
      (frees-no_state (take width (bits_at words computed)) place 0 (i - length before) s b)
  state-added words width (Unary op arg) adds = ands width (Unary op arg) adds
  state-added words width (Binary op left right) adds = ands width (Binary op left right) adds
  state-added words width (Choose test one other) adds = ands width (Choose test one other) adds
  state-added words width (Join high low) adds = ands width (Join high low) adds
  state-added words width (Repeat times part) adds = ands width (Repeat times part) adds
  state-added words width (Resize arg) adds = ands width (Resize arg) adds
  state-added words width (Slice from_word from) adds = ands width (Slice from_word from) adds
  state-added words width (Pick from_word select) adds = ands width (Pick from_word select) adds
  state-added words width (Is index value) adds = ands width (Is index value) adds
  state-added words width (Put old from size value offset) adds = ands width (Put old from size value offset) adds
  state-added words width (PutPick old select value offset) adds = ands width (PutPick old select value offset) adds
  state-added words width (Blend mask one other) adds = ands width (Blend mask one other) adds

module _ (before after : List Node) (i m p b : ℕ) (c : Literal) (is : slice_get after i ≡ Some (gate.Free m p b c))
  where
    abbrev NewFree : ℕ → Operation → Type 0
    NewFree width operation = (slice_get before i ≡ Some (gate.Free m p b c)) ⊎ Frees width operation before i p b

    none-free : (width : ℕ) (operation : Operation) (more : List Node) → after ≡ before ++ more
        → (slice_get more (i - length before) ≡ Some (gate.Free m p b c) → ⊥) → NewFree width operation
    none-free width operation more grown none =
        elim (entry-of before more i (gate.Free m p b c)
        (subst (λ l. slice_get l i ≡ Some (gate.Free m p b c)) grown is)) [
          | inl old ↦ inl old
          | inr (high, new) ↦ absurd (none new)
        ]

    ands-free : (width : ℕ) (operation : Operation) → AddsAnds before after → NewFree width operation
    ands-free width operation adds =
        none-free width operation adds.more adds.is
        (λ new. absurd (omega (arith, adds.no_frees, free-counted adds.more (i - length before) m p b c new)))

    free-added : (words : List (List Literal)) (width : ℕ) (operation : Operation)
        → AddsFor words width operation before after → NewFree width operation
    free-added words width (Const value) adds = ands-free width (Const value) adds
    free-added words width (Input input) adds =
        none-free width (Input input) (input_nodes input 0 width) adds
        (inputs-no_free width input 0 (i - length before) m p b c)
    free-added words width (State state) adds =
        none-free width (State state) (state_nodes state 0 width) adds
        (states-no_free width state 0 (i - length before) m p b c)
    free-added words width (Free place computed) adds =
        let xs = take width (bits_at words computed) in
        elim (entry-of before (free_nodes place 0 xs) i (gate.Free m p b c)
        (subst (λ l. slice_get l i ≡ Some (gate.Free m p b c)) adds is)) [
          | inl old ↦ inl old
          | inr (high, new) ↦
              let r = frees-at xs place 0 (i - length before) m p b c new in
              inr (record {
                computed = computed;
                is = ap (λ q. Free q computed) r.same;
                within = omega (arith, r.bit, r.within, length-take width (bits_at words computed));
                at = omega (arith, r.bit, high);
              })
        ]
    free-added words width (Unary op arg) adds = ands-free width (Unary op arg) adds
    free-added words width (Binary op left right) adds = ands-free width (Binary op left right) adds
    free-added words width (Choose test one other) adds = ands-free width (Choose test one other) adds
    free-added words width (Join high low) adds = ands-free width (Join high low) adds
    free-added words width (Repeat times part) adds = ands-free width (Repeat times part) adds
    free-added words width (Resize arg) adds = ands-free width (Resize arg) adds
    free-added words width (Slice from_word from) adds = ands-free width (Slice from_word from) adds
    free-added words width (Pick from_word select) adds = ands-free width (Pick from_word select) adds
    free-added words width (Is index value) adds = ands-free width (Is index value) adds
    free-added words width (Put old from size value offset) adds = ands-free width (Put old from size value offset) adds
    free-added words width (PutPick old select value offset) adds =
        ands-free width (PutPick old select value offset) adds
    free-added words width (Blend mask one other) adds = ands-free width (Blend mask one other) adds

-- ---- the nodes of a net

-- a node of a net that reads a bit of a state
pub record HasState (net : List WordNode) (s b : ℕ) : Type 0 where
  pub at : ℕ
  pub node : WordNode
  pub there : slice_get net at ≡ Some node
  pub is : node.operation ≡ State s
  pub within : b < node.width

later-state : {node : WordNode} {rest : List WordNode} {s b : ℕ} → HasState rest s b → HasState (node ∷ rest) s b
later-state h = record { at = suc h.at; node = h.node; there = h.there; is = h.is; within = h.within }

pub states-of : (rest : List WordNode) (nodes : List Node) (words : List (List Literal)) (i s b : ℕ)
    → slice_get (expanded nodes words rest).nodes i ≡ Some (gate.State s b)
    → (slice_get nodes i ≡ Some (gate.State s b)) ⊎ HasState rest s b
unfolding expanded
states-of [] nodes words i s b is = inl is
states-of (node ∷ rest) nodes words i s b is =
    let m = literals_made nodes words node in
    elim (states-of rest m.nodes (words ++ m.bits ∷ []) i s b is) [
      | inl there ↦ elim
          (state-added nodes m.nodes i s b there words node.width node.operation
          (operation-adds nodes words node.width node.operation)) [
            | inl old ↦ inl old
            | inr new ↦ inr (record { at = 0; node = node; there = refl; is = new.is; within = new.within })
          ]
      | inr later ↦ inr (later-state later)
    ]

-- a free node of a net, of a place
record HasPlace (net : List WordNode) (p : ℕ) : Type 0 where
  at : ℕ
  node : WordNode
  there : slice_get net at ≡ Some node
  computed : Operand
  is : node.operation ≡ Free p computed

-- each place has one free node at most
abbrev pub Places : List WordNode → Type 0
Places net = (i j place : ℕ) (one other : WordNode) (a b : Operand) → slice_get net i ≡ Some one
    → slice_get net j ≡ Some other
    → one.operation ≡ Free place a → other.operation ≡ Free place b → i ≡ j

-- a bit of a place is free in one node at most
abbrev pub Apart : List Node → Type 0
Apart nodes = (i j m n p b : ℕ) (c d : Literal) → slice_get nodes i ≡ Some (gate.Free m p b c)
    → slice_get nodes j ≡ Some (gate.Free n p b d) → i ≡ j

-- and its place in no node that follows
abbrev Fresh : List Node → List WordNode → Type 0
Fresh nodes rest = (i m p b : ℕ) (c : Literal) → slice_get nodes i ≡ Some (gate.Free m p b c) → HasPlace rest p → ⊥

module _ (node : WordNode) (rest : List WordNode) (nodes : List Node) (words : List (List Literal))
    (apart : Apart nodes) (fresh : Fresh nodes (node ∷ rest)) (places : Places (node ∷ rest)) where
  abbrev after : List Node
  after = (literals_made nodes words node).nodes

  new-of : (i m p b : ℕ) (c : Literal) → slice_get after i ≡ Some (gate.Free m p b c)
      → (slice_get nodes i ≡ Some (gate.Free m p b c)) ⊎ Frees node.width node.operation nodes i p b
  new-of i m p b c is =
      free-added nodes after i m p b c is words node.width node.operation
      (operation-adds nodes words node.width node.operation)

  here : (i p b : ℕ) → Frees node.width node.operation nodes i p b → HasPlace (node ∷ rest) p
  here i p b f = record { at = 0; node = node; there = refl; computed = f.computed; is = f.is }

  apart-next : Apart after
  apart-next i j m n p b c d one other =
      elim (new-of i m p b c one) [
        | inl old ↦ elim (new-of j n p b d other) [
          | inl older ↦ apart i j m n p b c d old older
          | inr new ↦ absurd (fresh i m p b c old (here j p b new))
        ]
        | inr new ↦ elim (new-of j n p b d other) [
          | inl old ↦ absurd (fresh j n p b d old (here i p b new))
          | inr newer ↦ new.at ∙ sym newer.at
        ]
      ]

  fresh-next : Fresh after rest
  fresh-next i m p b c is later =
      elim (new-of i m p b c is) [
        | inl old ↦ fresh i m p b c old
            (record {
              at = suc later.at;
              node = later.node;
              there = later.there;
              computed = later.computed;
              is =
                  later.is;
            })
        | inr new ↦ absurd
            (omega (
              arith,
              places 0 (suc later.at) p node later.node new.computed later.computed refl later.there
                  new.is later.is,
            ))
      ]

  places-next : Places rest
  places-next i j place one other a b is_one is_other frees_one frees_other =
      omega (arith, places (suc i) (suc j) place one other a b is_one is_other frees_one frees_other)

apart-all : (rest : List WordNode) (nodes : List Node) (words : List (List Literal)) → Apart nodes → Fresh nodes rest
    → Places rest
    → Apart (expanded nodes words rest).nodes
unfolding expanded
apart-all [] nodes words apart fresh places = apart
apart-all (node ∷ rest) nodes words apart fresh places =
    let m = literals_made nodes words node in
    apart-all rest m.nodes (words ++ m.bits ∷ []) (apart-next node rest nodes words apart fresh places)
    (fresh-next node rest nodes words apart fresh places) (places-next node rest nodes words apart fresh places)

pub apart-net : (net : List WordNode) → Places net → Apart (expanded [] [] net).nodes
apart-net net places =
    apart-all net [] []
    (λ i j m n p b c d one other. absurd (omega (arith, slice_get_within [] i (gate.Free m p b c) one)))
    (λ i m p b c is later. absurd (omega (arith, slice_get_within [] i (gate.Free m p b c) is))) places

later-free : {node : WordNode} {rest : List WordNode} {p b : ℕ} → HasFree rest p b → HasFree (node ∷ rest) p b
later-free h =
    record { at = suc h.at; node = h.node; there = h.there; computed = h.computed; is = h.is; within = h.within }

pub frees-of : (rest : List WordNode) (nodes : List Node) (words : List (List Literal)) (i m p b : ℕ) (c : Literal)
    → slice_get (expanded nodes words rest).nodes i ≡ Some (gate.Free m p b c)
    → (slice_get nodes i ≡ Some (gate.Free m p b c)) ⊎ HasFree rest p b
unfolding expanded
frees-of [] nodes words i m p b c is = inl is
frees-of (node ∷ rest) nodes words i m p b c is =
    let made = literals_made nodes words node in
    elim (frees-of rest made.nodes (words ++ made.bits ∷ []) i m p b c is) [
      | inl there ↦ elim
          (free-added nodes made.nodes i m p b c there words node.width node.operation
          (operation-adds nodes words node.width node.operation)) [
            | inl old ↦ inl old
            | inr new ↦ inr
                (record { at = 0; node = node; there = refl; computed = new.computed; is = new.is; within = new.within })
          ]
      | inr later ↦ inr (later-free later)
    ]
