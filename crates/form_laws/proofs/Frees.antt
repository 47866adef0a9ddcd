-- The definition of a bit of a place in a cycle is the literal that the form keeps for that bit and cycle.
use Rattle.std.proofs.Common.{◌≡◌, ℕ, zero, suc, ◌+◌, ◌-◌, ◌<◌, ◌≤◌, Bool, true, false, if◌then◌else◌, List, [], ◌∷◌, ◌++◌, length, map, get_or, Option, Some, None, refl, sym, ◌∙◌, ap, subst, arith, append_assoc, append-nil, length-append, ◌⊎◌, inl, inr}
use Rattle.std.specs.Prelude.{slice_get}
use Rattle.std.specs.Option.{is_some}
use Rattle.std.proofs.lemmas.List.{get_or_append_left}
use Rattle.std.proofs.Math.Seq.{get_or-append_seam}
use Rattle.std.proofs.lemmas.Bool.{cases_lt}
use Rattle.loc_base.proofs.ShelfOptions.{Some-same}
use Rattle.gate_base.specs.declared.literal.Literal.{Literal}
use Rattle.gate_base.specs.declared.literal.Literal.TheVariants.{Known, Of}
use Rattle.gate_base.specs.declared.node.Node.{Node}
use Rattle.gate_base.specs.declared.node.Node.TheVariants.{Input, State, And, Free}
use Rattle.gate_base.specs.Literals.{folded}
use Rattle.gate_base.specs.Nodes.{Made, Word, made, pushed, made_unless, and_made, free_made}
use Rattle.design_core.specs.declared.trace.Checked.{Checked}
use Rattle.design_core.specs.declared.trace.Trace.{Trace}
use Rattle.bit_circuit.specs.Circuits.{BitNet}
use Rattle.unroller.specs.declared.free_bit.FreeBit.{FreeBit}
use Rattle.unroller.specs.Cycles.{Frame, translated, words_translated, node_unrolled, nodes_unrolled, free_bit, free_bits, and_then, frees_at}
use Rattle.unroller.specs.Unrolls.{Unrolling, constant_word, samples_in, expected_in, with_cycle, with_trace, cycles_unrolled, traces_unrolled, unrolled_before}

-- ---- lists

slice_get-left : {X : Type 0} (xs ys : List X) (i : ℕ) → i < length xs → slice_get (xs ++ ys) i ≡ slice_get xs i
slice_get-left [] ys i less = absurd (omega (arith, less))
slice_get-left (x ∷ xs) ys zero less = refl
slice_get-left (x ∷ xs) ys (suc i) less = slice_get-left xs ys i (omega (arith, less))

slice_get-behind : {X : Type 0} (xs ys : List X) (i : ℕ) → slice_get (xs ++ ys) (length xs + i) ≡ slice_get ys i
slice_get-behind [] ys i = let none : 0 + i ≡ i = omega arith in ap (slice_get ys) none
slice_get-behind (x ∷ xs) ys i =
    let next : suc (length xs) + i ≡ suc (length xs + i) = omega arith in
    ap (slice_get (x ∷ (xs ++ ys))) next ∙ slice_get-behind xs ys i

-- ---- one node

-- the bit of the place stands among these bits, and its literal is the definition of that number
pub record IsOwn (bits : List FreeBit) (frees : List Literal) (place bit number : ℕ) : Type 0 where
  pub column : ℕ
  pub of_bit : slice_get bits column ≡ Some (record { place = place; bit = bit })
  pub is : get_or frees column (Known false) ≡ Of number false

abbrev free_of : ℕ → ℕ → FreeBit
free_of place bit = record { place = place; bit = bit }

-- what a node may add to the definitions: nothing, or one of which this holds
record Adds (P : Node → Type 0) (nodes : List Node) (m : Made) : Type 0 where
  added : Node
  is : m.nodes ≡ nodes ++ added ∷ []
  fits : P added

-- where it is a bit of a place, it is that of this bit in the cycle, and the literal of the node
abbrev FreeFits : Frame → List Node → Option FreeBit → Literal → Node → Type 0
FreeFits frame nodes own literal added =
    (moment place bit : ℕ) (computed : Literal) → added ≡ Free moment place bit computed
    → (moment ≡ frame.moment) × (own ≡ Some (record { place = place; bit = bit })) × (literal ≡ Of (length nodes) false)

abbrev Shape : Frame → List Node → Node → Made → Type 0
Shape frame nodes node m = (m.nodes ≡ nodes) ⊎ Adds (FreeFits frame nodes (free_bit node) m.bit) nodes m

and-shape : (frame : Frame) (nodes : List Node) (own : Option FreeBit) (x y : Literal) (o : Option Literal)
    → ((made_unless nodes (And x y) o).nodes ≡ nodes)
    ⊎ Adds (FreeFits frame nodes own (made_unless nodes (And x y) o).bit) nodes (made_unless nodes (And x y) o)
unfolding made_unless pushed
and-shape frame nodes own x y (Some literal) = inl refl
and-shape frame nodes own x y None = inr (record {
  added = And x y;
  is = refl;
  fits = λ moment place bit computed same. absurd (no_free moment place bit computed same);
})
  where
    no_free : (moment place bit : ℕ) (computed : Literal) → And x y ≡ Free moment place bit computed → ⊥
    no_free moment place bit computed same = cc

module _ (frame : Frame) (nodes : List Node) (now : List Literal) where
  free-shape : (moment place bit : ℕ) (computed f : Literal) (grouped : Bool)
      → Shape frame nodes (Free moment place bit computed)
      (if grouped then free_made nodes frame.moment place bit f else made nodes f)
  unfolding free_made pushed
  free-shape moment place bit computed f true = inr (record {
    added = Free frame.moment place bit f;
    is = refl;
    fits = λ m p b c same. same-free m p b c same;
  })
    where
      free-same : (p q b c : ℕ) → p ≡ q → b ≡ c → Some (free_of p b) ≡ Some (free_of q c)
      free-same p q b c same also = ap (λ x. Some (free_of x b)) same ∙ ap (λ x. Some (free_of q x)) also

      same-free : (m p b : ℕ) (c : Literal) → Free frame.moment place bit f ≡ Free m p b c
          → (m ≡ frame.moment) × (Some (free_of place bit) ≡ Some (free_of p b))
          × (Of (length nodes) false ≡ Of (length nodes) false)
      same-free m p b c same =
          let one : m ≡ frame.moment = cc in
          let two : place ≡ p = cc in
          let three : bit ≡ b = cc in
          (one, free-same place p bit b two three, refl)
  free-shape moment place bit computed f false = inl refl

  node-shape : (node : Node) → Shape frame nodes node (node_unrolled frame nodes now node)
  unfolding node_unrolled and_made
  node-shape (Input input bit) = inl refl
  node-shape (State state bit) = inl refl
  node-shape (And left right) =
      and-shape frame nodes None (translated now left) (translated now right) (folded (translated now left) (translated now right))
  node-shape (Free moment place bit computed) =
      free-shape moment place bit computed (translated now computed) (frame.grouped place)

-- ---- a cycle

-- each bit of a place among the definitions that were added is that of the cycle, and the literal that is kept for it
abbrev AreOwn : Frame → List FreeBit → List Literal → ℕ → List Node → Type 0
AreOwn frame bits frees first added =
    (i moment place bit : ℕ) (computed : Literal) → slice_get added i ≡ Some (Free moment place bit computed)
    → (moment ≡ frame.moment) × IsOwn bits frees place bit (first + i)

-- what a cycle adds
record NodesAdd (frame : Frame) (nodes : List Node) (now : List Literal) (rest : List Node) (w : Word) : Type 0 where
  bits : List Literal
  is_bits : w.bits ≡ now ++ bits
  added : List Node
  is_nodes : w.nodes ≡ nodes ++ added
  own : AreOwn frame (free_bits rest) (frees_at rest bits) (length nodes) added

-- one column more in front, where the node has one
own-behind : (o : Option FreeBit) (l : Literal) (bits : List FreeBit) (frees : List Literal) (place bit number : ℕ)
    → IsOwn bits frees place bit number → IsOwn (and_then o bits) (if is_some o then l ∷ frees else frees) place bit number
own-behind None l bits frees place bit number own = own
own-behind (Some first) l bits frees place bit number own = record { column = suc own.column; of_bit = own.of_bit; is = own.is }

own-first : (o : Option FreeBit) (l : Literal) (bits : List FreeBit) (frees : List Literal) (place bit number : ℕ)
    → o ≡ Some (record { place = place; bit = bit }) → l ≡ Of number false
    → IsOwn (and_then o bits) (if is_some o then l ∷ frees else frees) place bit number
own-first None l bits frees place bit number here is = cc
own-first (Some first) l bits frees place bit number here is = record { column = 0; of_bit = here; is = is }

module _ (frame : Frame) where
  nodes-add : (rest : List Node) (nodes : List Node) (now : List Literal)
      → NodesAdd frame nodes now rest (nodes_unrolled frame nodes now rest)
  unfolding nodes_unrolled
  nodes-add [] nodes now = record {
    bits = [];
    is_bits = sym (append-nil now);
    added = [];
    is_nodes = sym (append-nil nodes);
    own = λ i moment place bit computed there. absurd (nothing-there i (Free moment place bit computed) there);
  }
    where
      nothing-there : (i : ℕ) (node : Node) → slice_get [] i ≡ Some node → ⊥
      nothing-there i node there = cc
  nodes-add (node ∷ rest) nodes now =
      let m = node_unrolled frame nodes now node in
      let r = nodes-add rest m.nodes (now ++ m.bit ∷ []) in
      with-shape m (node-shape frame nodes now node) r
    where
      with-shape : (m : Made) → Shape frame nodes node m
          → NodesAdd frame m.nodes (now ++ m.bit ∷ []) rest (nodes_unrolled frame m.nodes (now ++ m.bit ∷ []) rest)
          → NodesAdd frame nodes now (node ∷ rest) (nodes_unrolled frame m.nodes (now ++ m.bit ∷ []) rest)
      with-shape m (inl same) r = record {
        bits = m.bit ∷ r.bits;
        is_bits = r.is_bits ∙ append_assoc now (m.bit ∷ []) r.bits;
        added = r.added;
        is_nodes = r.is_nodes ∙ ap (λ ns. ns ++ r.added) same;
        own = λ i moment place bit computed there.
            let (at, own) = r.own i moment place bit computed there in
            let number : length m.nodes + i ≡ length nodes + i = ap (λ ns. length ns + i) same in (
              at,
              own-behind (free_bit node) m.bit (free_bits rest) (frees_at rest r.bits) place bit (length nodes + i)
                  (subst (IsOwn (free_bits rest) (frees_at rest r.bits) place bit) number own),
            );
      }
      with-shape m (inr adds) r = record {
        bits = m.bit ∷ r.bits;
        is_bits = r.is_bits ∙ append_assoc now (m.bit ∷ []) r.bits;
        added = adds.added ∷ r.added;
        is_nodes = r.is_nodes ∙ ap (λ ns. ns ++ r.added) adds.is ∙ append_assoc nodes (adds.added ∷ []) r.added;
        own = own-at;
      }
        where
          longer : length m.nodes ≡ length nodes + 1
          longer = ap length adds.is ∙ length-append nodes (adds.added ∷ [])

          own-at : AreOwn frame (free_bits (node ∷ rest)) (frees_at (node ∷ rest) (m.bit ∷ r.bits)) (length nodes) (adds.added ∷ r.added)
          own-at zero moment place bit computed there =
              let (at, here, literal) = adds.fits moment place bit computed (Some-same there) in
              let number : length nodes ≡ length nodes + 0 = omega arith in (
                at,
                own-first (free_bit node) m.bit (free_bits rest) (frees_at rest r.bits) place bit (length nodes + 0) here
                    (literal ∙ ap (λ n. Of n false) number),
              )
          own-at (suc i) moment place bit computed there =
              let (at, own) = r.own i moment place bit computed there in
              let number : length m.nodes + i ≡ length nodes + suc i = omega (arith, longer) in (
                at,
                own-behind (free_bit node) m.bit (free_bits rest) (frees_at rest r.bits) place bit (length nodes + suc i)
                    (subst (IsOwn (free_bits rest) (frees_at rest r.bits) place bit) number own),
              )

-- ---- a form

-- each bit of a place among the definitions is the literal that is kept for it in its cycle
pub record Owned (u : Unrolling) : Type 0 where
  pub rows : length u.frees ≡ length u.ends
  pub own : (i moment place bit : ℕ) (computed : Literal) → slice_get u.definitions i ≡ Some (Free moment place bit computed)
      → (moment < length u.frees) × IsOwn u.bits (get_or u.frees moment []) place bit i

module _ (circuit : BitNet) (frame : Frame) (u : Unrolling) (expected : List Checked) (bits : u.bits ≡ free_bits circuit.nodes)
    (at : frame.moment ≡ length u.ends) (owned : Owned u) where
  abbrev w : Word
  w = nodes_unrolled frame u.definitions [] circuit.nodes

  abbrev row : List Literal
  row = frees_at circuit.nodes w.bits

  adds : NodesAdd frame u.definitions [] circuit.nodes w
  adds = nodes-add frame circuit.nodes u.definitions []

  own-at : (i moment place bit : ℕ) (computed : Literal) → slice_get w.nodes i ≡ Some (Free moment place bit computed)
      → (i < length u.definitions) ⊎ (length u.definitions ≤ i)
      → (moment < length (u.frees ++ row ∷ [])) × IsOwn u.bits (get_or (u.frees ++ row ∷ []) moment []) place bit i
  own-at i moment place bit computed there (inl old) =
      let before : slice_get u.definitions i ≡ Some (Free moment place bit computed) =
      sym (slice_get-left u.definitions adds.added i old) ∙ ap (λ ns. slice_get ns i) (sym adds.is_nodes) ∙ there in
      let (within, own) = owned.own i moment place bit computed before in (
        omega (arith, within, length-append u.frees (row ∷ [])),
        subst (λ r. IsOwn u.bits r place bit i) (sym (get_or_append_left u.frees (row ∷ []) [] moment within)) own,
      )
  own-at i moment place bit computed there (inr new) =
      let j = i - length u.definitions in
      let number : length u.definitions + j ≡ i = omega (arith, new) in
      let added : slice_get adds.added j ≡ Some (Free moment place bit computed) =
      sym (slice_get-behind u.definitions adds.added j)
      ∙ ap (λ n. slice_get (u.definitions ++ adds.added) n) number ∙ ap (λ ns. slice_get ns i) (sym adds.is_nodes) ∙ there in
      let (here, own) = adds.own j moment place bit computed added in
      let last : moment ≡ length u.frees = here ∙ at ∙ sym owned.rows in
      let row_is : get_or (u.frees ++ row ∷ []) moment [] ≡ frees_at circuit.nodes adds.bits =
      ap (λ n. get_or (u.frees ++ row ∷ []) n []) last ∙ get_or-append_seam u.frees row [] []
      ∙ ap (frees_at circuit.nodes) adds.is_bits in (
        omega (arith, last, length-append u.frees (row ∷ [])),
        subst (λ n. IsOwn u.bits (get_or (u.frees ++ row ∷ []) moment []) place bit n) number
            (subst (λ r. IsOwn u.bits r place bit (length u.definitions + j)) (sym row_is)
            (subst (λ bs. IsOwn bs (frees_at circuit.nodes adds.bits) place bit (length u.definitions + j)) (sym bits) own)),
      )

  cycle-owned : Owned (with_cycle circuit u expected w.nodes w.bits)
  cycle-owned = record {
    rows = omega (arith, owned.rows, length-append u.frees (row ∷ []), length-append u.ends (length w.nodes ∷ []));
    own = λ i moment place bit computed there. own-at i moment place bit computed there (cases_lt i (length u.definitions));
  }

module _ (circuit : BitNet) (grouped : ℕ → Bool) where
  cycles-owned : (trace : Trace) (n : ℕ) (u : Unrolling) (states : List (List Literal)) (t : ℕ) → u.bits ≡ free_bits circuit.nodes → Owned u
      → Owned (cycles_unrolled circuit grouped trace u states t n)
  unfolding cycles_unrolled
  cycles-owned trace zero u states t bits owned = owned
  cycles-owned trace (suc n) u states t bits owned =
      let frame : Frame = record { moment = length u.ends; samples = samples_in trace t; states = states; grouped = grouped } in
      let m = nodes_unrolled frame u.definitions [] circuit.nodes in
      cycles-owned trace n (with_cycle circuit u (expected_in (length circuit.outputs) trace t) m.nodes m.bits)
      (words_translated m.bits circuit.next) (t + 1) bits
      (cycle-owned circuit frame u (expected_in (length circuit.outputs) trace t) bits refl owned)

  pub bits-cycles : (trace : Trace) (n : ℕ) (u : Unrolling) (states : List (List Literal)) (t : ℕ)
      → (cycles_unrolled circuit grouped trace u states t n).bits ≡ u.bits
  unfolding cycles_unrolled
  bits-cycles trace zero u states t = refl
  bits-cycles trace (suc n) u states t =
      let frame : Frame = record { moment = length u.ends; samples = samples_in trace t; states = states; grouped = grouped } in
      let m = nodes_unrolled frame u.definitions [] circuit.nodes in
      bits-cycles trace n (with_cycle circuit u (expected_in (length circuit.outputs) trace t) m.nodes m.bits)
      (words_translated m.bits circuit.next) (t + 1)

  pub traces-owned : (traces : List Trace) (u : Unrolling) → u.bits ≡ free_bits circuit.nodes → Owned u
      → Owned (traces_unrolled circuit grouped u traces)
  unfolding traces_unrolled
  traces-owned [] u bits owned = owned
  traces-owned (trace ∷ traces) u bits owned =
      let start = map constant_word circuit.start in
      traces-owned traces (cycles_unrolled circuit grouped trace (with_trace u) start 0 trace.cycles)
      (bits-cycles trace trace.cycles (with_trace u) start 0 ∙ bits)
      (cycles-owned trace trace.cycles (with_trace u) start 0 bits (record { rows = owned.rows; own = owned.own }))

  pub bits-traces : (traces : List Trace) (u : Unrolling) → (traces_unrolled circuit grouped u traces).bits ≡ u.bits
  unfolding traces_unrolled
  bits-traces [] u = refl
  bits-traces (trace ∷ traces) u =
      let start = map constant_word circuit.start in
      bits-traces traces (cycles_unrolled circuit grouped trace (with_trace u) start 0 trace.cycles)
      ∙ bits-cycles trace trace.cycles (with_trace u) start 0

pub before-owned : (circuit : BitNet) (base : ℕ) → Owned (unrolled_before circuit base)
before-owned circuit base = record {
  rows = refl;
  own = λ i moment place bit computed there. absurd (nothing-there i (Free moment place bit computed) there);
}
  where
    nothing-there : (i : ℕ) (node : Node) → slice_get [] i ≡ Some node → ⊥
    nothing-there i node there = cc
