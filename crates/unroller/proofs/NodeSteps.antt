-- Steps of the loop over the nodes of a cycle.
use Rattle.std.proofs.Common.{◌≡◌, ℕ, ◌+◌, ◌<◌, ◌≤◌, Bool, true, false, if◌then◌else◌, List, [], ◌∷◌, ◌++◌, length, get_or, take, drop, refl, sym, ◌∙◌, ap, arith, add-one, drop-cons, append-nil, length-append}
use Rattle.std.proofs.lemmas.List.{drop_all, length-take-le, take_all, take_more}
use Rattle.gate_base.specs.declared.literal.Literal.{Literal}
use Rattle.gate_base.specs.declared.node.Node.{Node}
use Rattle.gate_base.specs.declared.node.Node.TheVariants.{Input, State, And, Free}
use Rattle.gate_base.specs.Nodes.{word, made, counted, sources_in, free_made}
use Rattle.gate_base.proofs.Counts.{refused-more, counted-and, counted-free, and-adds, adds-sources, free-sources}
use Rattle.unroller.specs.Cycles.{Frame, translated, node_unrolled, nodes_unrolled, is_free, frees_at}
use Rattle.unroller.specs.Fields.{free_literal}

module _ (frame : Frame) (nodes : List Node) (now : List Literal) where
  counted-free_if : (grouped : Bool) (place bit : ℕ) (l : Literal)
      → counted nodes ≤ counted (if grouped then free_made nodes frame.moment place bit l else made nodes l).nodes
  counted-free_if true place bit l = counted-free nodes frame.moment place bit l
  counted-free_if false place bit l = omega arith

  sources-free_if : (grouped : Bool) (place bit : ℕ) (l : Literal)
      → sources_in (if grouped then free_made nodes frame.moment place bit l else made nodes l).nodes
      ≡ sources_in nodes
  sources-free_if true place bit l = free-sources nodes frame.moment place bit l
  sources-free_if false place bit l = refl

  -- no definition is taken away, and no source is made
  counted-node : (node : Node) → counted nodes ≤ counted (node_unrolled frame nodes now node).nodes
  unfolding node_unrolled
  counted-node (Input input bit) = omega arith
  counted-node (State state bit) = omega arith
  counted-node (And left right) = counted-and nodes (translated now left) (translated now right)
  counted-node (Free moment place bit computed) =
      counted-free_if (frame.grouped place) place bit (translated now computed)

  sources-node : (node : Node) → sources_in (node_unrolled frame nodes now node).nodes ≡ sources_in nodes
  unfolding node_unrolled
  sources-node (Input input bit) = refl
  sources-node (State state bit) = refl
  sources-node (And left right) = adds-sources (and-adds nodes (translated now left) (translated now right))
  sources-node (Free moment place bit computed) =
      sources-free_if (frame.grouped place) place bit (translated now computed)

pub counted-nodes : (frame : Frame) (rest : List Node) (nodes : List Node) (now : List Literal)
    → counted nodes ≤ counted (nodes_unrolled frame nodes now rest).nodes
unfolding nodes_unrolled
counted-nodes frame [] nodes now = omega arith
counted-nodes frame (node ∷ rest) nodes now =
    let m = node_unrolled frame nodes now node in
    omega (arith, counted-node frame nodes now node, counted-nodes frame rest m.nodes (now ++ m.bit ∷ []))

pub sources-nodes : (frame : Frame) (rest : List Node) (nodes : List Node) (now : List Literal)
    → sources_in (nodes_unrolled frame nodes now rest).nodes ≡ sources_in nodes
unfolding nodes_unrolled
sources-nodes frame [] nodes now = refl
sources-nodes frame (node ∷ rest) nodes now =
    let m = node_unrolled frame nodes now node in sources-nodes frame rest m.nodes (now ++ m.bit ∷ [])
    ∙ sources-node frame nodes now node

-- the nodes from a place on
pub drop-node : (all : List Node) (i : ℕ) → i < length all → drop i all ≡ get_or all i (Input 0 0) ∷ drop (i + 1) all
drop-node all i within = drop-cons all i (Input 0 0) within ∙ ap (λ n. get_or all i (Input 0 0) ∷ drop n all) (sym (add-one i))

module _ (frame : Frame) (nodes : List Node) (now : List Literal) (all : List Node) (i : ℕ) where
  pub nodes-more : i < length all
      → nodes_unrolled frame nodes now (drop i all)
      ≡ nodes_unrolled frame (node_unrolled frame nodes now (get_or all i (Input 0 0))).nodes
      (now ++ (node_unrolled frame nodes now (get_or all i (Input 0 0))).bit ∷ []) (drop (i + 1) all)
  unfolding nodes_unrolled
  nodes-more within = ap (nodes_unrolled frame nodes now) (drop-node all i within)

  pub nodes-end : length all ≤ i → nodes_unrolled frame nodes now (drop i all) ≡ word nodes now
  unfolding nodes_unrolled
  nodes-end end = ap (nodes_unrolled frame nodes now) (drop_all i all end)

  pub counted-nodes_more : i < length all
      → counted (node_unrolled frame nodes now (get_or all i (Input 0 0))).nodes
      ≤ counted (nodes_unrolled frame nodes now (drop i all)).nodes
  counted-nodes_more within =
      let m = node_unrolled frame nodes now (get_or all i (Input 0 0)) in
      rw (nodes-more within) (counted-nodes frame (drop (i + 1) all) m.nodes (now ++ m.bit ∷ []))

-- ---- the bits of places among them

frees-one : (is : Bool) (x : Literal) (all front back : List Literal) → all ≡ front ++ back
    → (if is then x ∷ all else all) ≡ (if is then x ∷ front else front) ++ back
frees-one true x all front back same = ap (λ ls. x ∷ ls) same
frees-one false x all front back same = same

frees-append : (a b : List Node) (xs ys : List Literal) → length a ≡ length xs → frees_at (a ++ b) (xs ++ ys) ≡ frees_at a xs ++ frees_at b ys
frees-append [] b [] ys same = refl
frees-append [] b (x ∷ xs) ys same = absurd (omega (arith, same))
frees-append (node ∷ a) b [] ys same = absurd (omega (arith, same))
frees-append (node ∷ a) b (x ∷ xs) ys same =
    frees-one (is_free node) x (frees_at (a ++ b) (xs ++ ys)) (frees_at a xs) (frees_at b ys)
    (frees-append a b xs ys (omega (arith, same)))

pub noted-none : (frees : List Literal) → frees ≡ frees ++ []
noted-none frees = sym (append-nil frees)

pub ruleset noted = (noted-none)

-- one more
pub frees-next : (all : List Node) (now frees : List Literal) (i : ℕ) (l : Literal) → i < length all → length now ≡ i
    → frees ≡ frees_at (take i all) now
    → frees ++ free_literal (get_or all i (Input 0 0)) l ≡ frees_at (take (i + 1) all) (now ++ l ∷ [])
frees-next all now frees i l within count before =
    ap (λ ls. ls ++ free_literal (get_or all i (Input 0 0)) l) before
    ∙ sym (frees-append (take i all) (get_or all i (Input 0 0) ∷ []) now (l ∷ []) (length-take-le i all (omega (arith, within)) ∙ sym count))
    ∙ ap (λ ns. frees_at ns (now ++ l ∷ [])) (sym (take_more all i (Input 0 0) within))

pub count-next : (now : List Literal) (l : Literal) (i : ℕ) → length now ≡ i → length (now ++ l ∷ []) ≡ i + 1
count-next now l i count = omega (arith, length-append now (l ∷ []), count)

pub frees-end : (all : List Node) (now : List Literal) (i : ℕ) → length all ≤ i → frees_at (take i all) now ≡ frees_at all now
frees-end all now i past = ap (λ ns. frees_at ns now) (take_all i all past)

pub ruleset nodes = (nodes-more, nodes-end, counted-nodes_more, refused-more, frees-next, count-next, frees-end)
