-- How many nodes there are of each kind.
use Rattle.std.proofs.Common.{◌≡◌, ℕ, ◌+◌, ◌≤◌, ◌<◌, true, false, if◌then◌else◌, List, [], ◌∷◌, ◌++◌, length, Option, Some, None, refl, sym, ◌∙◌, ap, append_assoc, append-nil, arith}
use Rattle.gate_base.specs.declared.literal.Literal.{Literal}
use Rattle.gate_base.specs.declared.node.Node.{Node}
use Rattle.gate_base.specs.declared.node.Node.TheVariants.{Input, State, And, Free}
use Rattle.gate_base.specs.declared.error.MakeErr.{MakeErr}
use Rattle.gate_base.specs.declared.error.MakeErr.TheVariants.{Limit, NoMemory}
use Rattle.gate_base.specs.Arena.{UnlessNoMemory}
use Rattle.gate_base.specs.Literals.{opposite, is_same, folded}
use Rattle.gate_base.specs.Nodes.{counted, sources_in, frees_in, is_counted, made, made_unless, pushed, and_made, or_made, xor_made, mux_made, and_all_made, or_all_made, xor_all_made, free_made, AddsAnds}

-- each node is of one of the two kinds
pub length-counted : (nodes : List Node) → length nodes ≡ counted nodes + sources_in nodes
unfolding counted sources_in
length-counted [] = refl
length-counted (Input input bit ∷ nodes) = omega (arith, length-counted nodes)
length-counted (State state bit ∷ nodes) = omega (arith, length-counted nodes)
length-counted (And left right ∷ nodes) = omega (arith, length-counted nodes)
length-counted (Free moment place bit computed ∷ nodes) = omega (arith, length-counted nodes)

-- the counts of two lists together
pub counted-append : (before after : List Node) → counted (before ++ after) ≡ counted before + counted after
unfolding counted
counted-append [] after = omega arith
counted-append (Input input bit ∷ before) after = counted-append before after
counted-append (State state bit ∷ before) after = counted-append before after
counted-append (And left right ∷ before) after = omega (arith, counted-append before after)
counted-append (Free moment place bit computed ∷ before) after = omega (arith, counted-append before after)

pub sources_in-append : (before after : List Node) → sources_in (before ++ after) ≡ sources_in before + sources_in after
unfolding sources_in
sources_in-append [] after = omega arith
sources_in-append (Input input bit ∷ before) after = omega (arith, sources_in-append before after)
sources_in-append (State state bit ∷ before) after = omega (arith, sources_in-append before after)
sources_in-append (And left right ∷ before) after = sources_in-append before after
sources_in-append (Free moment place bit computed ∷ before) after = sources_in-append before after

pub frees_in-append : (before after : List Node) → frees_in (before ++ after) ≡ frees_in before + frees_in after
unfolding frees_in
frees_in-append [] after = omega arith
frees_in-append (Input input bit ∷ before) after = frees_in-append before after
frees_in-append (State state bit ∷ before) after = frees_in-append before after
frees_in-append (And left right ∷ before) after = frees_in-append before after
frees_in-append (Free moment place bit computed ∷ before) after = omega (arith, frees_in-append before after)

counted-one : (node : Node) → is_counted node ≡ true → counted (node ∷ []) ≡ 1
unfolding counted
counted-one node is = rw is refl

counted-other : (node : Node) → is_counted node ≡ false → counted (node ∷ []) ≡ 0
unfolding counted
counted-other node is = rw is refl

sources_in-other : (node : Node) → is_counted node ≡ true → sources_in (node ∷ []) ≡ 0
unfolding sources_in
sources_in-other node is = rw is refl

sources_in-one : (node : Node) → is_counted node ≡ false → sources_in (node ∷ []) ≡ 1
unfolding sources_in
sources_in-one node is = rw is refl

-- one more node that the limit counts
pub counted-push : (nodes : List Node) (node : Node) → is_counted node ≡ true → counted (nodes ++ node ∷ []) ≡ counted nodes + 1
counted-push nodes node is = omega (arith, counted-append nodes (node ∷ []), counted-one node is)

pub sources_in-push_counted : (nodes : List Node) (node : Node) → is_counted node ≡ true → sources_in (nodes ++ node ∷ []) ≡ sources_in nodes
sources_in-push_counted nodes node is = omega (arith, sources_in-append nodes (node ∷ []), sources_in-other node is)

-- one more of the others
pub counted-push_source : (nodes : List Node) (node : Node) → is_counted node ≡ false → counted (nodes ++ node ∷ []) ≡ counted nodes
counted-push_source nodes node is = omega (arith, counted-append nodes (node ∷ []), counted-other node is)

pub sources_in-push : (nodes : List Node) (node : Node) → is_counted node ≡ false → sources_in (nodes ++ node ∷ []) ≡ sources_in nodes + 1
sources_in-push nodes node is = omega (arith, sources_in-append nodes (node ∷ []), sources_in-one node is)

pub counted-empty : counted [] ≡ 0
unfolding counted
counted-empty = refl

pub sources_in-empty : sources_in [] ≡ 0
unfolding sources_in
sources_in-empty = refl

frees_in-empty : frees_in [] ≡ 0
unfolding frees_in
frees_in-empty = refl

-- a refusal's cause, of fewer nodes
pub refused-more : (e : MakeErr) (limit m n : ℕ) → m ≤ n → UnlessNoMemory e (limit < m) → UnlessNoMemory e (limit < n)
refused-more Limit limit m n more cause = omega (arith, more, cause)
refused-more NoMemory limit m n more cause = tt

-- ---- what each operator adds

pub adds-none : (nodes : List Node) → AddsAnds nodes nodes
adds-none nodes = record { more = []; is = sym (append-nil nodes); no_sources = sources_in-empty; no_frees = frees_in-empty }

pub adds-then : {a b c : List Node} → AddsAnds a b → AddsAnds b c → AddsAnds a c
adds-then {a} {b} {c} first next = record {
  more = first.more ++ next.more;
  is = next.is ∙ ap (λ x. x ++ next.more) first.is ∙ append_assoc a first.more next.more;
  no_sources = omega (arith, sources_in-append first.more next.more, first.no_sources, next.no_sources);
  no_frees = omega (arith, frees_in-append first.more next.more, first.no_frees, next.no_frees);
}

-- none is taken away, and no source is added
pub adds-counted : {before after : List Node} → AddsAnds before after → counted before ≤ counted after
adds-counted {before} adds = rw adds.is (omega (arith, counted-append before adds.more))

pub adds-sources : {before after : List Node} → AddsAnds before after → sources_in after ≡ sources_in before
adds-sources {before} adds = rw adds.is (omega (arith, sources_in-append before adds.more, adds.no_sources))

and-alone : (x y : Literal) → frees_in (And x y ∷ []) ≡ 0
unfolding frees_in
and-alone x y = refl

pushed-adds : (nodes : List Node) (x y : Literal) → AddsAnds nodes (pushed nodes (And x y)).nodes
unfolding pushed
pushed-adds nodes x y = record { more = And x y ∷ []; is = refl; no_sources = sources_in-other (And x y) refl; no_frees = and-alone x y }

unless-adds : (nodes : List Node) (x y : Literal) (o : Option Literal) → AddsAnds nodes (made_unless nodes (And x y) o).nodes
unfolding made_unless
unless-adds nodes x y (Some l) = adds-none nodes
unless-adds nodes x y None = pushed-adds nodes x y

pub and-adds : (nodes : List Node) (x y : Literal) → AddsAnds nodes (and_made nodes x y).nodes
unfolding and_made
and-adds nodes x y = unless-adds nodes x y (folded x y)

pub or-adds : (nodes : List Node) (x y : Literal) → AddsAnds nodes (or_made nodes x y).nodes
unfolding or_made
or-adds nodes x y = and-adds nodes (opposite x) (opposite y)

pub xor-adds : (nodes : List Node) (x y : Literal) → AddsAnds nodes (xor_made nodes x y).nodes
unfolding xor_made
xor-adds nodes x y =
    let p = and_made nodes x (opposite y) in
    let q = and_made p.nodes (opposite x) y in
    adds-then (and-adds nodes x (opposite y)) (adds-then (and-adds p.nodes (opposite x) y) (or-adds q.nodes p.bit q.bit))

pub mux-adds : (nodes : List Node) (c a b : Literal) → AddsAnds nodes (mux_made nodes c a b).nodes
unfolding mux_made
mux-adds nodes c a b =
    let p = and_made nodes c a in
    let q = and_made p.nodes (opposite c) b in
    let r = or_made q.nodes p.bit q.bit in
    let adds = adds-then (and-adds nodes c a) (adds-then (and-adds p.nodes (opposite c) b) (or-adds q.nodes p.bit q.bit)) in
    elim (is_same a b) as (λ same. AddsAnds nodes (if same then made nodes a else r).nodes) [ true ↦ adds-none nodes | false ↦ adds ]

pub and_all-adds : (nodes : List Node) (x : Literal) (xs : List Literal) → AddsAnds nodes (and_all_made nodes x xs).nodes
unfolding and_all_made
and_all-adds nodes x [] = adds-none nodes
and_all-adds nodes x (y ∷ xs) = let m = and_made nodes x y in adds-then (and-adds nodes x y) (and_all-adds m.nodes m.bit xs)

pub or_all-adds : (nodes : List Node) (x : Literal) (xs : List Literal) → AddsAnds nodes (or_all_made nodes x xs).nodes
unfolding or_all_made
or_all-adds nodes x [] = adds-none nodes
or_all-adds nodes x (y ∷ xs) = let m = or_made nodes x y in adds-then (or-adds nodes x y) (or_all-adds m.nodes m.bit xs)

pub xor_all-adds : (nodes : List Node) (x : Literal) (xs : List Literal) → AddsAnds nodes (xor_all_made nodes x xs).nodes
unfolding xor_all_made
xor_all-adds nodes x [] = adds-none nodes
xor_all-adds nodes x (y ∷ xs) = let m = xor_made nodes x y in adds-then (xor-adds nodes x y) (xor_all-adds m.nodes m.bit xs)

-- ---- so no operator takes nodes away

pub counted-free : (nodes : List Node) (moment place bit : ℕ) (computed : Literal)
    → counted nodes ≤ counted (free_made nodes moment place bit computed).nodes
unfolding free_made pushed
counted-free nodes moment place bit computed = omega (arith, counted-push nodes (Free moment place bit computed) refl)

pub free-sources : (nodes : List Node) (moment place bit : ℕ) (computed : Literal)
    → sources_in (free_made nodes moment place bit computed).nodes ≡ sources_in nodes
unfolding free_made pushed
free-sources nodes moment place bit computed = sources_in-push_counted nodes (Free moment place bit computed) refl

pub counted-and : (nodes : List Node) (x y : Literal) → counted nodes ≤ counted (and_made nodes x y).nodes
counted-and nodes x y = adds-counted (and-adds nodes x y)

pub counted-or : (nodes : List Node) (x y : Literal) → counted nodes ≤ counted (or_made nodes x y).nodes
counted-or nodes x y = adds-counted (or-adds nodes x y)

pub counted-xor : (nodes : List Node) (x y : Literal) → counted nodes ≤ counted (xor_made nodes x y).nodes
counted-xor nodes x y = adds-counted (xor-adds nodes x y)

pub counted-mux : (nodes : List Node) (c a b : Literal) → counted nodes ≤ counted (mux_made nodes c a b).nodes
counted-mux nodes c a b = adds-counted (mux-adds nodes c a b)

pub counted-and_all : (nodes : List Node) (x : Literal) (xs : List Literal) → counted nodes ≤ counted (and_all_made nodes x xs).nodes
counted-and_all nodes x xs = adds-counted (and_all-adds nodes x xs)

pub counted-or_all : (nodes : List Node) (x : Literal) (xs : List Literal) → counted nodes ≤ counted (or_all_made nodes x xs).nodes
counted-or_all nodes x xs = adds-counted (or_all-adds nodes x xs)

pub counted-xor_all : (nodes : List Node) (x : Literal) (xs : List Literal) → counted nodes ≤ counted (xor_all_made nodes x xs).nodes
counted-xor_all nodes x xs = adds-counted (xor_all-adds nodes x xs)

pub ruleset operators = (refused-more, counted-free, counted-and, counted-or, counted-xor, counted-mux, counted-and_all, counted-or_all, counted-xor_all)

pub ruleset counts = (length-counted, counted-push, sources_in-push_counted, counted-push_source, sources_in-push, counted-empty, sources_in-empty)
