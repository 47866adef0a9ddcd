-- Steps of the loop over the nodes of a net: what is known once the first of them stand as literals.
use Rattle.std.proofs.Common.{◌≡◌, ℕ, ◌+◌, ◌^◌, ◌≤◌, ◌<◌, Bool, true, false, if◌then◌else◌, List, [], ◌∷◌, ◌++◌, length, map, take, drop, get_or, refl, sym, ◌∙◌, ap, subst, arith, length-append, inl, inr}
use Rattle.std.proofs.lemmas.Grind.{common_steps}
use Rattle.std.proofs.lemmas.Nat.{pow_pos}
use Rattle.std.proofs.lemmas.List.{drop_all, take_all, map-append, get_or_append_left, get_or_default}
use Rattle.std.proofs.lemmas.Bool.{cases_lt}
use Rattle.std.proofs.Math.Seq.{get_or-append_seam}
use Rattle.std.proofs.lemmas.Option.{slice_get_within}
use Rattle.loc_base.proofs.ShelfLists.{drop-at, map-take_at, slice_get-at}
use Rattle.gate_base.specs.declared.literal.Literal.{Literal}
use Rattle.gate_base.specs.declared.node.Node.{Node}
use Rattle.gate_base.specs.Nodes.{word, counted, sources_in}
use Rattle.gate_base.proofs.Counts.{counted-append, refused-more, sources_in-empty}
use Rattle.word_net.specs.declared.node.Operation.{Operation}
use Rattle.word_net.specs.declared.node.Operation.TheVariants.{Const, Input, State, Free, Unary, Binary, Choose, Join, Repeat, Resize, Slice, Pick, Is, Put, PutPick, Blend}
use Rattle.word_net.specs.declared.node.WordNode.{WordNode}
use Rattle.word_net.specs.Values.{Source as WordSource, operation_value}
use Rattle.word_net.specs.Fits.{NodeFits, AllFit}
use Rattle.word_net.specs.Nets.{Net, IsNet, is_source, source_bits}
use Rattle.bit_circuit.specs.Fields.{AreWords, AreNumbers}
use Rattle.bit_circuit.specs.Nodes.{literals_made}
use Rattle.bit_circuit.specs.Circuits.{expansion, expanded, words_at}
use Rattle.bit_circuit.specs.Meaning.{bits_of, IsOfWidth, AreOfWidth, AreOf, GivesOf}
use Rattle.bit_circuit.proofs.OperationLaws.{operation-means}
use Rattle.bit_circuit.proofs.CircuitLaws.{push-are, some-width, expanded-means}
use Rattle.bit_circuit.proofs.Added.{operation-sources}

-- inputs and states of 0, and no place freed
abbrev pub nothing : WordSource
nothing =
    record {
      inputs = λ input. 0;
      states = λ state. 0;
      choice =
          record { frees = λ place. false; chosen = λ place. 0 };
    }

below : (width : ℕ) → 0 < 2 ^ width
below width = pow_pos width

nothing-fits : (width : ℕ) (operation : Operation) → IsOfWidth nothing width operation
nothing-fits width (Const value) = tt
nothing-fits width (Input input) = below width
nothing-fits width (State state) = below width
nothing-fits width (Free place computed) = tt
nothing-fits width (Unary op arg) = tt
nothing-fits width (Binary op left right) = tt
nothing-fits width (Choose test one other) = tt
nothing-fits width (Join high low) = tt
nothing-fits width (Repeat times part) = tt
nothing-fits width (Resize arg) = tt
nothing-fits width (Slice from_word from) = tt
nothing-fits width (Pick from_word select) = tt
nothing-fits width (Is index value) = tt
nothing-fits width (Put old from size value offset) = tt
nothing-fits width (PutPick old select value offset) = tt
nothing-fits width (Blend mask one other) = tt

pub nothing-given : (nodes : List WordNode) → AreOfWidth nothing nodes
nothing-given [] = tt
nothing-given (node ∷ nodes) = (nothing-fits node.width node.operation, nothing-given nodes)

-- the first nodes of a net stand as literals, and the others fit behind them
pub record Reached (net : List WordNode) (i : ℕ) (nodes : List Node) (words : List (List Literal)) : Type 0 where
  pub known : List ℕ
  pub are : AreOf (bits_of nothing) nodes words (map length words) known
  pub many : length words ≡ i
  pub wide : AreWords words
  pub fits : AllFit (map length words) (drop i net)
  pub few : sources_in nodes + source_bits (drop i net) ≤ 2 ^ 31
  pub rest : expanded [] [] net ≡ expanded nodes words (drop i net)

pub reached-start : (net : Net) → IsNet net → Reached net.nodes 0 [] []
reached-start net is = record {
  known = [];
  are = record {
    as_many = refl;
    as_known = refl;
    some = λ i width there. absurd (omega (arith, slice_get_within [] i width there));
    is = λ i width there. absurd (omega (arith, slice_get_within [] i width there));
  };
  many = refl;
  wide = λ i within. absurd (omega (arith, within));
  fits = is.nodes;
  few = omega (arith, is.sources, sources_in-empty);
  rest = refl;
}

-- one more word of 1 to 128 bits
words-more : (words : List (List Literal)) (xs : List Literal) → AreWords words → 1 ≤ length xs → length xs ≤ 128
    → AreWords (words ++ xs ∷ [])
words-more words xs are some few i within = elim (cases_lt i (length words)) [
  | inl low ↦ rw (get_or_append_left words (xs ∷ []) [] i low) (are i low)
  | inr high ↦
      let last : i ≡ length words = omega (arith, within, high, length-append words (xs ∷ [])) in
      rw (ap (λ k. get_or (words ++ xs ∷ []) k []) last ∙ get_or-append_seam words xs [] []) (some, few)
]

source_bits-cons : (node : WordNode) (nodes : List WordNode)
    → source_bits (node ∷ nodes) ≡ (if is_source node.operation then node.width else 0) + source_bits nodes
unfolding source_bits
source_bits-cons node nodes = by_test (is_source node.operation)
  where
    by_test : (s : Bool)
        → (if s then node.width + source_bits nodes else source_bits nodes)
        ≡ (if s then node.width else 0) + source_bits nodes
    by_test true = refl
    by_test false = omega arith

module _ {net : List WordNode} {i : ℕ} {nodes : List Node} {words : List (List Literal)}
    (r : Reached net i nodes words) (node : WordNode) (within : i < length net) (at : node ≡ get_or net i node) where
  left : drop i net ≡ node ∷ drop (i + 1) net
  left = drop-at net i node within at

  all : AllFit (map length words) (node ∷ drop (i + 1) net)
  all = subst (AllFit (map length words)) left r.fits

  pub reached-fits : NodeFits (map length words) node
  reached-fits = all.0

  bits : sources_in nodes + ((if is_source node.operation then node.width else 0) + source_bits (drop (i + 1) net))
      ≤ 2 ^ 31
  bits = subst (λ k. sources_in nodes + k ≤ 2 ^ 31) (ap source_bits left ∙ source_bits-cons node (drop (i + 1) net))
      r.few

  pub reached-few : sources_in nodes + (if is_source node.operation then node.width else 0) ≤ 2 ^ 31
  reached-few = omega (arith, bits)

  gives : GivesOf (bits_of nothing) nodes (literals_made nodes words node) node.width
      (operation_value nothing r.known node.width node.operation)
  gives = operation-means nothing r.are node.width node.operation reached-fits.operation
      (nothing-fits node.width node.operation)

  -- what the node makes, one node further
  abbrev after : List Node
  after = (literals_made nodes words node).nodes

  abbrev more_words : List (List Literal)
  more_words = words ++ (literals_made nodes words node).bits ∷ []

  lengths : map length more_words ≡ map length words ++ node.width ∷ []
  lengths =
      map-append length words ((literals_made nodes words node).bits ∷ [])
      ∙ ap (λ n. map length words ++ n ∷ []) gives.is.wide

  few_bits : node.width ≤ 128
  few_bits = grind (arith, common_steps, reached-fits.width)

  some_bits : 1 ≤ node.width
  some_bits = some-width node.width reached-fits.width

  rest : expanded [] [] net ≡ expanded after more_words (drop (i + 1) net)
  unfolding expanded
  rest = r.rest ∙ ap (expanded nodes words) left

  next : Reached net (i + 1) after more_words
  next = record {
    known = r.known ++ operation_value nothing r.known node.width node.operation ∷ [];
    are = subst
        (λ ws. AreOf (bits_of nothing) after more_words ws
        (r.known ++ operation_value nothing r.known node.width node.operation ∷ [])) (sym lengths)
        (push-are node.width (operation_value nothing r.known node.width node.operation) r.are some_bits gives);
    many = omega (arith, r.many, length-append words ((literals_made nodes words node).bits ∷ []));
    wide = words-more words (literals_made nodes words node).bits r.wide
        (omega (arith, some_bits, gives.is.wide)) (omega (arith, few_bits, gives.is.wide));
    fits = subst (λ ws. AllFit ws (drop (i + 1) net)) (sym lengths) all.1;
    few = omega (arith, bits, operation-sources nodes words node.width node.operation);
    rest = rest;
  }

  -- the same, of the nodes and the literals that the code has
  pub reached-next : (ns : List Node) (xs : List Literal) → word ns xs ≡ literals_made nodes words node
      → Reached net (i + 1) ns (words ++ xs ∷ [])
  reached-next ns xs is =
      subst (λ w. Reached net (i + 1) w.nodes (words ++ w.bits ∷ [])) (sym is) next

  -- a refusal at this node is one of the whole net
  pub counted-reached : counted (literals_made nodes words node).nodes ≤ counted (expanded [] [] net).nodes
  counted-reached =
      let m = expanded-means (drop (i + 1) net) nothing next.are next.fits (nothing-given (drop (i + 1) net)) in
      rw (ap (λ x. counted x.nodes) rest ∙ ap counted m.grown.is) (omega (arith, counted-append after m.grown.more))

pub reached-end : (net : List WordNode) (i : ℕ) (nodes : List Node) (words : List (List Literal)) → length net ≤ i
    → Reached net i nodes words
    → expansion nodes words ≡ expanded [] [] net
unfolding expanded
reached-end net i nodes words end r = sym (r.rest ∙ ap (expanded nodes words) (drop_all i net end))

-- as many words as nodes
-- and none of them is without a bit
pub reached-wide : {net : List WordNode} {i : ℕ} {nodes : List Node} {words : List (List Literal)}
    → Reached net i nodes words → AreWords words
reached-wide r = r.wide

pub reached-many : {net : List WordNode} {i : ℕ} {nodes : List Node} {words : List (List Literal)}
    → Reached net i nodes words → length words ≡ i
reached-many r = r.many

pub ruleset steps = (
  reached-start,
  reached-fits,
  reached-few,
  reached-next,
  counted-reached,
  reached-end,
  reached-many,
  reached-wide,
  refused-more,
)

-- ---- the literals of some nodes

pub gather-more : (words : List (List Literal)) (numbers : List ℕ) (i : ℕ) → i < length numbers
    → words_at words (take (i + 1) numbers)
    ≡ words_at words (take i numbers) ++ get_or words (get_or numbers i 0) [] ∷ []
gather-more words numbers i within =
    map-take_at (λ n. get_or words n []) numbers i (get_or numbers i 0) within
    (get_or_default numbers i 0 (get_or numbers i 0) within)

pub gather-end : (words : List (List Literal)) (numbers : List ℕ) (i : ℕ) → length numbers ≤ i
    → words_at words (take i numbers) ≡ words_at words numbers
gather-end words numbers i end = ap (words_at words) (take_all i numbers end)

pub gather-there : (bound : ℕ) (numbers : List ℕ) (i : ℕ) → AreNumbers bound numbers → i < length numbers
    → get_or numbers i 0 < bound
gather-there bound numbers i are within =
    are i (get_or numbers i 0)
    (slice_get-at numbers i (get_or numbers i 0) within (get_or_default numbers i 0 (get_or numbers i 0) within))

pub ruleset gathers = (gather-more, gather-end, gather-there)
