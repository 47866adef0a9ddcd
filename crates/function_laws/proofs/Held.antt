-- The literal that a form keeps for a bit of a place in a cycle is a definition of that bit, where the place is in a group.
use Rattle.std.proofs.Common.{◌≡◌, ◌⊎◌, inl, inr, ℕ, zero, suc, ◌+◌, ◌<◌, ◌≤◌, Bool, true, false, if◌then◌else◌, List, [], ◌∷◌, ◌++◌, length, map, get_or, Option, Some, None, refl, sym, ◌∙◌, ap, subst, arith, append_assoc, append-nil, length-append}
use Rattle.std.specs.Prelude.{slice_get}
use Rattle.std.proofs.lemmas.List.{get_or_append_left}
use Rattle.std.proofs.Math.Seq.{get_or-append_seam}
use Rattle.std.proofs.lemmas.Bool.{cases_lt}
use Rattle.std.proofs.lemmas.Option.{slice_get_within}
use Rattle.loc_base.proofs.ShelfOptions.{Some-same}
use Rattle.gate_base.specs.declared.literal.Literal.{Literal}
use Rattle.gate_base.specs.declared.literal.Literal.TheVariants.{Known, Of}
use Rattle.gate_base.specs.declared.node.Node.{Node}
use Rattle.gate_base.specs.declared.node.Node.TheVariants.{Input, State, And, Free}
use Rattle.gate_base.specs.Literals.{folded}
use Rattle.gate_base.specs.Nodes.{Word, made, pushed, made_unless, and_made, free_made}
use Rattle.design_core.specs.declared.trace.Checked.{Checked}
use Rattle.design_core.specs.declared.trace.Trace.{Trace}
use Rattle.bit_circuit.specs.Circuits.{BitNet}
use Rattle.unroller.specs.declared.free_bit.FreeBit.{FreeBit}
use Rattle.unroller.specs.Cycles.{Frame, translated, words_translated, node_unrolled, nodes_unrolled, free_bits, frees_at}
use Rattle.unroller.specs.Unrolls.{Unrolling, constant_word, samples_in, expected_in, with_cycle, with_trace, cycles_unrolled, traces_unrolled, unrolled_before}
use Rattle.form_laws.proofs.Frees.{bits-cycles}

-- ---- lists

pub slice_get-left : {X : Type 0} (xs ys : List X) (i : ℕ) → i < length xs → slice_get (xs ++ ys) i ≡ slice_get xs i
slice_get-left [] ys i less = absurd (omega (arith, less))
slice_get-left (x ∷ xs) ys zero less = refl
slice_get-left (x ∷ xs) ys (suc i) less = slice_get-left xs ys i (omega (arith, less))

pub slice_get-seam : {X : Type 0} (xs : List X) (y : X) (ys : List X) → slice_get (xs ++ y ∷ ys) (length xs) ≡ Some y
slice_get-seam [] y ys = refl
slice_get-seam (x ∷ xs) y ys = slice_get-seam xs y ys

-- ---- one node

-- a literal is that of a definition of a bit of a place
pub record IsDefined (nodes : List Node) (moment place bit : ℕ) (l : Literal) : Type 0 where
  pub number : ℕ
  pub computed : Literal
  pub there : slice_get nodes number ≡ Some (Free moment place bit computed)
  pub is : l ≡ Of number false

-- it stays one as definitions follow
defined-more : (nodes more : List Node) (moment place bit : ℕ) (l : Literal) → IsDefined nodes moment place bit l
    → IsDefined (nodes ++ more) moment place bit l
defined-more nodes more moment place bit l d = record {
  number = d.number;
  computed = d.computed;
  there = slice_get-left nodes more d.number (slice_get_within nodes d.number (Free moment place bit d.computed) d.there) ∙ d.there;
  is = d.is;
}

-- definitions behind some
abbrev Adds : List Node → List Node → Type 0
Adds nodes after = (more : List Node) × (after ≡ nodes ++ more)

unless-adds : (nodes : List Node) (node : Node) (o : Option Literal) → Adds nodes (made_unless nodes node o).nodes
unfolding made_unless pushed
unless-adds nodes node (Some l) = ([], sym (append-nil nodes))
unless-adds nodes node None = (node ∷ [], refl)

module _ (frame : Frame) (nodes : List Node) (now : List Literal) where
  free-adds : (place bit : ℕ) (f : Literal) (grouped : Bool)
      → Adds nodes (if grouped then free_made nodes frame.moment place bit f else made nodes f).nodes
  unfolding free_made pushed
  free-adds place bit f true = (Free frame.moment place bit f ∷ [], refl)
  free-adds place bit f false = ([], sym (append-nil nodes))

  node-adds : (node : Node) → Adds nodes (node_unrolled frame nodes now node).nodes
  unfolding node_unrolled and_made
  node-adds (Input input bit) = ([], sym (append-nil nodes))
  node-adds (State state bit) = ([], sym (append-nil nodes))
  node-adds (And left right) =
      unless-adds nodes (And (translated now left) (translated now right)) (folded (translated now left) (translated now right))
  node-adds (Free moment place bit computed) = free-adds place bit (translated now computed) (frame.grouped place)

  -- a bit of a place that is in a group is defined
  grouped-defined : (place bit : ℕ) (f : Literal) (grouped : Bool) → grouped ≡ true
      → let m = (if grouped then free_made nodes frame.moment place bit f else made nodes f) in IsDefined m.nodes frame.moment place bit m.bit
  unfolding free_made pushed
  grouped-defined place bit f true is =
      record { number = length nodes; computed = f; there = slice_get-seam nodes (Free frame.moment place bit f) []; is = refl }
  grouped-defined place bit f false is = cc

  free-defined : (moment place bit : ℕ) (computed : Literal) → frame.grouped place ≡ true
      → let m = node_unrolled frame nodes now (Free moment place bit computed) in IsDefined m.nodes frame.moment place bit m.bit
  unfolding node_unrolled
  free-defined moment place bit computed grouped = grouped-defined place bit (translated now computed) (frame.grouped place) grouped

-- ---- a cycle

abbrev free_of : ℕ → ℕ → FreeBit
free_of place bit = record { place = place; bit = bit }

-- the literals of bits of places in groups are of their definitions
abbrev AreDefined : Frame → List Node → List FreeBit → List Literal → Type 0
AreDefined frame nodes bits frees =
    (column place bit : ℕ) → slice_get bits column ≡ Some (free_of place bit) → frame.grouped place ≡ true
    → IsDefined nodes frame.moment place bit (get_or frees column (Known false))

-- what a cycle adds
record NodesHold (frame : Frame) (nodes : List Node) (now : List Literal) (rest : List Node) (w : Word) : Type 0 where
  more : List Node
  is_nodes : w.nodes ≡ nodes ++ more
  bits : List Literal
  is_bits : w.bits ≡ now ++ bits
  defined : AreDefined frame w.nodes (free_bits rest) (frees_at rest bits)

module _ (frame : Frame) where
  -- with one node more in front
  hold-defined : (nodes : List Node) (now : List Literal) (node : Node) (rest : List Node) (w : Word) (bits : List Literal)
      → (more : List Node) → w.nodes ≡ (node_unrolled frame nodes now node).nodes ++ more
      → AreDefined frame w.nodes (free_bits rest) (frees_at rest bits)
      → AreDefined frame w.nodes (free_bits (node ∷ rest)) (frees_at (node ∷ rest) ((node_unrolled frame nodes now node).bit ∷ bits))
  hold-defined nodes now (Input input b) rest w bits more is behind column place bit there grouped = behind column place bit there grouped
  hold-defined nodes now (State state b) rest w bits more is behind column place bit there grouped = behind column place bit there grouped
  hold-defined nodes now (And left right) rest w bits more is behind column place bit there grouped = behind column place bit there grouped
  hold-defined nodes now (Free m p b computed) rest w bits more is behind zero place bit there grouped =
      let made = node_unrolled frame nodes now (Free m p b computed) in
      let same : free_of p b ≡ free_of place bit = Some-same there in
      let one : p ≡ place = ap (λ (x : FreeBit). x.place) same in
      let two : b ≡ bit = ap (λ (x : FreeBit). x.bit) same in
      let own : IsDefined made.nodes frame.moment p b made.bit =
      free-defined frame nodes now m p b computed (ap frame.grouped one ∙ grouped) in
      subst (λ x. IsDefined w.nodes frame.moment place x made.bit) two
      (subst (λ x. IsDefined w.nodes frame.moment x b made.bit) one
      (subst (λ ns. IsDefined ns frame.moment p b made.bit) (sym is) (defined-more made.nodes more frame.moment p b made.bit own)))
  hold-defined nodes now (Free m p b computed) rest w bits more is behind (suc column) place bit there grouped =
      behind column place bit there grouped

  nodes-hold : (rest : List Node) (nodes : List Node) (now : List Literal)
      → NodesHold frame nodes now rest (nodes_unrolled frame nodes now rest)
  unfolding nodes_unrolled
  nodes-hold [] nodes now = record {
    more = [];
    is_nodes = sym (append-nil nodes);
    bits = [];
    is_bits = sym (append-nil now);
    defined = λ column place bit there grouped. absurd (none column place bit there);
  }
    where
      none : (column place bit : ℕ) → slice_get [] column ≡ Some (free_of place bit) → ⊥
      none column place bit there = cc
  nodes-hold (node ∷ rest) nodes now =
      let m = node_unrolled frame nodes now node in
      let w = nodes_unrolled frame m.nodes (now ++ m.bit ∷ []) rest in
      let r = nodes-hold rest m.nodes (now ++ m.bit ∷ []) in
      let (first, is) = node-adds frame nodes now node in
      record {
        more = first ++ r.more;
        is_nodes = r.is_nodes ∙ ap (λ ns. ns ++ r.more) is ∙ append_assoc nodes first r.more;
        bits = m.bit ∷ r.bits;
        is_bits = r.is_bits ∙ append_assoc now (m.bit ∷ []) r.bits;
        defined = hold-defined nodes now node rest w r.bits r.more r.is_nodes r.defined;
      }

-- ---- a form

-- in each cycle the literal of each bit of a place in a group is of the bit's definition
pub record Held (grouped : ℕ → Bool) (u : Unrolling) : Type 0 where
  pub rows : length u.frees ≡ length u.ends
  pub defined : (moment column place bit : ℕ) → moment < length u.frees → slice_get u.bits column ≡ Some (record { place = place; bit = bit })
      → grouped place ≡ true → IsDefined u.definitions moment place bit (get_or (get_or u.frees moment []) column (Known false))

module _ (circuit : BitNet) (grouped : ℕ → Bool) where
  module _ (frame : Frame) (u : Unrolling) (expected : List Checked) (bits : u.bits ≡ free_bits circuit.nodes)
      (at : frame.moment ≡ length u.ends) (groups : frame.grouped ≡ grouped) (held : Held grouped u) where
    abbrev w : Word
    w = nodes_unrolled frame u.definitions [] circuit.nodes

    abbrev row : List Literal
    row = frees_at circuit.nodes w.bits

    holds : NodesHold frame u.definitions [] circuit.nodes w
    holds = nodes-hold frame circuit.nodes u.definitions []

    defined-at : (moment column place bit : ℕ) → moment < length (u.frees ++ row ∷ []) → slice_get u.bits column ≡ Some (free_of place bit)
        → grouped place ≡ true → (moment < length u.frees) ⊎ (length u.frees ≤ moment)
        → IsDefined w.nodes moment place bit (get_or (get_or (u.frees ++ row ∷ []) moment []) column (Known false))
    defined-at moment column place bit within there is (inl old) =
        subst (λ r. IsDefined w.nodes moment place bit (get_or r column (Known false))) (sym (get_or_append_left u.frees (row ∷ []) [] moment old))
        (subst (λ ns. IsDefined ns moment place bit (get_or (get_or u.frees moment []) column (Known false))) (sym holds.is_nodes)
        (defined-more u.definitions holds.more moment place bit (get_or (get_or u.frees moment []) column (Known false))
        (held.defined moment column place bit old there is)))
    defined-at moment column place bit within there is (inr new) =
        let last : length u.frees ≡ moment = omega (arith, new, within, length-append u.frees (row ∷ [])) in
        let here : frame.moment ≡ moment = at ∙ sym held.rows ∙ last in
        let row_is : get_or (u.frees ++ row ∷ []) moment [] ≡ frees_at circuit.nodes holds.bits =
        ap (λ n. get_or (u.frees ++ row ∷ []) n []) (sym last) ∙ get_or-append_seam u.frees row [] [] ∙ ap (frees_at circuit.nodes) holds.is_bits in
        subst (λ r. IsDefined w.nodes moment place bit (get_or r column (Known false))) (sym row_is)
        (subst (λ n. IsDefined w.nodes n place bit (get_or (frees_at circuit.nodes holds.bits) column (Known false))) here
        (holds.defined column place bit (ap (λ bs. slice_get bs column) (sym bits) ∙ there) (ap (λ g. g place) groups ∙ is)))

    cycle-held : Held grouped (with_cycle circuit u expected w.nodes w.bits)
    cycle-held = record {
      rows = omega (arith, held.rows, length-append u.frees (row ∷ []), length-append u.ends (length w.nodes ∷ []));
      defined = λ moment column place bit within there is.
          defined-at moment column place bit within there is (cases_lt moment (length u.frees));
    }

  cycles-held : (trace : Trace) (n : ℕ) (u : Unrolling) (states : List (List Literal)) (t : ℕ) → u.bits ≡ free_bits circuit.nodes
      → Held grouped u → Held grouped (cycles_unrolled circuit grouped trace u states t n)
  unfolding cycles_unrolled
  cycles-held trace zero u states t bits held = held
  cycles-held trace (suc n) u states t bits held =
      let frame : Frame = record { moment = length u.ends; samples = samples_in trace t; states = states; grouped = grouped } in
      let m = nodes_unrolled frame u.definitions [] circuit.nodes in
      cycles-held trace n (with_cycle circuit u (expected_in (length circuit.outputs) trace t) m.nodes m.bits)
      (words_translated m.bits circuit.next) (t + 1) bits
      (cycle-held frame u (expected_in (length circuit.outputs) trace t) bits refl refl held)

  pub traces-held : (traces : List Trace) (u : Unrolling) → u.bits ≡ free_bits circuit.nodes → Held grouped u
      → Held grouped (traces_unrolled circuit grouped u traces)
  unfolding traces_unrolled
  traces-held [] u bits held = held
  traces-held (trace ∷ traces) u bits held =
      let start = map constant_word circuit.start in
      traces-held traces (cycles_unrolled circuit grouped trace (with_trace u) start 0 trace.cycles)
      (bits-cycles circuit grouped trace trace.cycles (with_trace u) start 0 ∙ bits)
      (cycles-held trace trace.cycles (with_trace u) start 0 bits (record { rows = held.rows; defined = held.defined }))

  pub before-held : (base : ℕ) → Held grouped (unrolled_before circuit base)
  before-held base = record { rows = refl; defined = λ moment column place bit within there is. absurd (omega (arith, within)) }
