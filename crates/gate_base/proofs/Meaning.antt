-- What the operators mean: operands that mean bits give a literal that means the operator's bit. Only AND looks at nodes.
use Rattle.std.proofs.Common.{◌≡◌, ℕ, suc, ◌+◌, ◌<◌, ◌≤◌, Bool, true, false, not, ◌&&◌, ◌||◌, ◌==◌, if◌then◌else◌, List, [], ◌∷◌, ◌++◌, length, get_or, Option, Some, None, refl, sym, ◌∙◌, ap, ap₂, subst, arith, append_assoc, append-nil, length-append}
use Rattle.std.proofs.lemmas.List.{get_or_append_left}
use Rattle.std.proofs.Math.Seq.{get_or-append_seam}
use Rattle.loc_base.proofs.ShelfBools.{not-not, and-assoc, and-true, and-false, or-false, or-assoc, equal-true}
use Rattle.std.proofs.lemmas.Grind.{common_steps}
use Rattle.gate_base.specs.declared.literal.Literal.{Literal}
use Rattle.gate_base.specs.declared.literal.Literal.TheVariants.{Known, Of}
use Rattle.gate_base.specs.declared.node.Node.{Node}
use Rattle.gate_base.specs.declared.node.Node.TheVariants.{Input, State, And, Free}
use Rattle.gate_base.specs.Literals.{same_sign, opposite, is_same, folded, IsBelow, AreOfTwo}
use Rattle.gate_base.specs.Nodes.{made, pushed, made_unless, and_made, or_made, xor_made, mux_made, and_all_made, or_all_made, xor_all_made, input_made, state_made, free_made, NodeFits, AreOrderedFrom}
use Rattle.gate_base.specs.Meaning.{Source, literal_value, node_value, values, bit_value, Means, Grown, Gives, MeansAll, none, more, all_of, some_of, odd_of, differ}

-- ---- values

pub values-append : (e : Source) (known : List Bool) (before after : List Node) → values e known (before ++ after) ≡ values e (values e known before) after
unfolding values
values-append e known [] after = refl
values-append e known (node ∷ before) after = values-append e (known ++ node_value e known node ∷ []) before after

pub length-values : (e : Source) (known : List Bool) (nodes : List Node) → length (values e known nodes) ≡ length known + length nodes
unfolding values
length-values e known [] = omega arith
length-values e known (node ∷ nodes) =
    let b = node_value e known node in
    omega (arith, length-values e (known ++ b ∷ []) nodes, length-append known (b ∷ []))

length-values_first : (e : Source) (nodes : List Node) → length (values e [] nodes) ≡ length nodes
length-values_first e nodes = omega (arith, length-values e [] nodes)

-- the values that are known stay
values-at : (e : Source) (known : List Bool) (nodes : List Node) (i : ℕ) → i < length known → get_or (values e known nodes) i false ≡ get_or known i false
unfolding values
values-at e known [] i within = refl
values-at e known (node ∷ nodes) i within =
    let b = node_value e known node in
    values-at e (known ++ b ∷ []) nodes i (omega (arith, length-append known (b ∷ [])))
    ∙ get_or_append_left known (b ∷ []) false i within

literal_value-kept : (e : Source) (known : List Bool) (nodes : List Node) (l : Literal) → IsBelow (length known) l
    → literal_value (values e known nodes) l ≡ literal_value known l
unfolding literal_value
literal_value-kept e known nodes (Known value) within = refl
literal_value-kept e known nodes (Of node negated) within = rw (values-at e known nodes node within) refl

bit_value-kept : (e : Source) (before after : List Node) (l : Literal) → IsBelow (length before) l → bit_value e (before ++ after) l ≡ bit_value e before l
unfolding bit_value
bit_value-kept e before after l within =
    let known = values e [] before in
    let there : IsBelow (length known) l = rw (length-values_first e before) within in
    ap (λ v. literal_value v l) (values-append e [] before after) ∙ literal_value-kept e known after l there

-- ---- literals that are there

IsBelow-more : (i j : ℕ) (l : Literal) → i ≤ j → IsBelow i l → IsBelow j l
IsBelow-more i j (Known value) up below = tt
IsBelow-more i j (Of node negated) up below = omega (arith, up, below)

opposite-below : (i : ℕ) (l : Literal) → IsBelow i l → IsBelow i (opposite l)
unfolding opposite
opposite-below i (Known value) below = tt
opposite-below i (Of node negated) below = below

opposite-value : (known : List Bool) (l : Literal) → literal_value known (opposite l) ≡ not (literal_value known l)
unfolding opposite literal_value
opposite-value known (Known value) = refl
opposite-value known (Of node true) = sym (not-not (get_or known node false))
opposite-value known (Of node false) = refl

-- the opposite literal means the opposite
pub opposite-means : {e : Source} {nodes : List Node} {l : Literal} {b : Bool} → Means e nodes l b → Means e nodes (opposite l) (not b)
unfolding bit_value
opposite-means {e} {nodes} {l} {b} m = record {
  within = opposite-below (length nodes) l m.within;
  value = opposite-value (values e [] nodes) l ∙ ap not m.value;
}

-- a constant means itself
pub known-means : (e : Source) (nodes : List Node) (b : Bool) → Means e nodes (Known b) b
unfolding bit_value literal_value
known-means e nodes b = record { within = tt; value = refl }

-- a literal keeps its meaning as nodes are added
pub keep : {e : Source} {before after : List Node} {l : Literal} {b : Bool} → Grown before after → Means e before l b → Means e after l b
keep {e} {before} {after} {l} {b} grown m =
    rw grown.is record {
      within = IsBelow-more (length before) (length (before ++ grown.more)) l (omega (arith, length-append before grown.more)) m.within;
      value = bit_value-kept e before grown.more l m.within ∙ m.value;
    }

pub keep_all : {e : Source} {before after : List Node} {xs : List Literal} {bs : List Bool} → Grown before after → MeansAll e before xs bs → MeansAll e after xs bs
keep_all grown none = none
keep_all grown (more m ms) = more (keep grown m) (keep_all grown ms)

pub grown-none : (nodes : List Node) → Grown nodes nodes
grown-none nodes = record { more = []; is = sym (append-nil nodes); ordered = λ o. o }

pub grown-then : {a b c : List Node} → Grown a b → Grown b c → Grown a c
grown-then {a} {b} {c} first next = record {
  more = first.more ++ next.more;
  is = next.is ∙ ap (λ x. x ++ next.more) first.is ∙ append_assoc a first.more next.more;
  ordered = λ o. next.ordered (first.ordered o);
}

-- ---- a new node

AreOrderedFrom-push : (i j : ℕ) (nodes : List Node) (node : Node) → j ≡ i + length nodes → AreOrderedFrom i nodes → NodeFits j node → AreOrderedFrom i (nodes ++ node ∷ [])
AreOrderedFrom-push i j [] node at before fits = let same : j ≡ i = omega (arith, at) in (rw same at fits, tt)
AreOrderedFrom-push i j (first ∷ nodes) node at before fits =
    (before.0, AreOrderedFrom-push (suc i) j nodes node (omega (arith, at)) before.1 fits)

pub grown-pushed : (nodes : List Node) (node : Node) → NodeFits (length nodes) node → Grown nodes (pushed nodes node).nodes
unfolding pushed
grown-pushed nodes node fits = record {
  more = node ∷ [];
  is = refl;
  ordered = λ o. AreOrderedFrom-push 0 (length nodes) nodes node (omega arith) o fits;
}

pushed-value : (e : Source) (nodes : List Node) (node : Node) → bit_value e (pushed nodes node).nodes (pushed nodes node).bit ≡ node_value e (values e [] nodes) node
unfolding pushed bit_value literal_value values
pushed-value e nodes node =
    let known = values e [] nodes in let b = node_value e known node in
    ap (λ v. get_or v (length nodes) false) (values-append e [] nodes (node ∷ []))
    ∙ ap (λ n. get_or (known ++ b ∷ []) n false) (sym (length-values_first e nodes))
    ∙ get_or-append_seam known b [] false

-- a new node means its value over the nodes that are there
pub pushed-gives : (e : Source) (nodes : List Node) (node : Node) (b : Bool) → NodeFits (length nodes) node
    → node_value e (values e [] nodes) node ≡ b → Gives e nodes (pushed nodes node) b
unfolding pushed
pushed-gives e nodes node b fits value = record {
  grown = grown-pushed nodes node fits;
  means = record {
    within = omega (arith, length-append nodes (node ∷ []));
    value = pushed-value e nodes node ∙ value;
  };
}

-- ---- AND

-- what is asked of an AND that needs no node: it is there, and has the value; where there is none, a node may be made
FoldsTo : List Bool → ℕ → Literal → Literal → Option Literal → Type 0
FoldsTo known i x y (Some l) = IsBelow i l × (literal_value known l ≡ (literal_value known x && literal_value known y))
FoldsTo known i x y None = AreOfTwo x y

if-by : {A : Type 0} (P : A → Type 0) (b : Bool) (x y : A) → (b ≡ true → P x) → (b ≡ false → P y) → P (if b then x else y)
if-by P true x y yes_case no_case = yes_case refl
if-by P false x y yes_case no_case = no_case refl

and-same : (b : Bool) → b ≡ (b && b)
and-same true = refl
and-same false = refl

and-not : (b : Bool) → false ≡ (b && not b)
and-not true = refl
and-not false = refl

not-and : (b : Bool) → false ≡ (not b && b)
not-and true = refl
not-and false = refl

differ-nodes : (n m : ℕ) → (n == m) ≡ false → n ≡ m → ⊥
differ-nodes n m apart same = grind (arith, common_steps)

same-node : (known : List Bool) (i n : ℕ) (s t : Bool) → n < i
    → FoldsTo known i (Of n s) (Of n t) (Some (if same_sign s t then Of n s else Known false))
unfolding FoldsTo literal_value
same-node known i n true true below = (below, and-same (not (get_or known n false)))
same-node known i n true false below = (tt, not-and (get_or known n false))
same-node known i n false true below = (tt, and-not (get_or known n false))
same-node known i n false false below = (below, and-same (get_or known n false))

folded-to : (known : List Bool) (i : ℕ) (x y : Literal) → IsBelow i x → IsBelow i y → FoldsTo known i x y (folded x y)
unfolding folded FoldsTo literal_value
folded-to known i (Known true) y x_below y_below = (y_below, refl)
folded-to known i (Known false) y x_below y_below = (tt, refl)
folded-to known i (Of n s) (Known true) x_below y_below = (x_below, sym (and-true (literal_value known (Of n s))))
folded-to known i (Of n s) (Known false) x_below y_below = (tt, sym (and-false (literal_value known (Of n s))))
folded-to known i (Of n s) (Of m t) x_below y_below =
    if-by (FoldsTo known i (Of n s) (Of m t)) (n == m) (Some (if same_sign s t then Of n s else Known false)) None
    (λ same. subst (λ k. FoldsTo known i (Of n s) (Of k t) (Some (if same_sign s t then Of n s else Known false))) (equal-true n m same) (same-node known i n s t x_below))
    (λ apart. λ same. differ-nodes n m apart same)

and-value : (e : Source) (nodes : List Node) (x y : Literal) (a b : Bool) → bit_value e nodes x ≡ a → bit_value e nodes y ≡ b
    → node_value e (values e [] nodes) (And x y) ≡ (a && b)
unfolding node_value bit_value
and-value e nodes x y a b x_is y_is = ap₂ (λ u v. u && v) x_is y_is

made-unless-gives : {e : Source} {nodes : List Node} {x y : Literal} {a b : Bool} (o : Option Literal)
    → Means e nodes x a → Means e nodes y b → FoldsTo (values e [] nodes) (length nodes) x y o → Gives e nodes (made_unless nodes (And x y) o) (a && b)
unfolding made_unless FoldsTo bit_value
made-unless-gives {e} {nodes} (Some l) mx my folds = record {
  grown = grown-none nodes;
  means = record { within = folds.0; value = folds.1 ∙ ap₂ (λ u v. u && v) mx.value my.value };
}
made-unless-gives {e} {nodes} {x} {y} {a} {b} None mx my folds =
    pushed-gives e nodes (And x y) (a && b) (mx.within, my.within, folds) (and-value e nodes x y a b mx.value my.value)

pub and-means : {e : Source} {nodes : List Node} {x y : Literal} {a b : Bool}
    → Means e nodes x a → Means e nodes y b → Gives e nodes (and_made nodes x y) (a && b)
unfolding and_made
and-means {e} {nodes} {x} {y} mx my =
    made-unless-gives (folded x y) mx my (folded-to (values e [] nodes) (length nodes) x y mx.within my.within)

-- ---- operators over AND

means-as : {e : Source} {nodes : List Node} {l : Literal} {a b : Bool} → a ≡ b → Means e nodes l a → Means e nodes l b
means-as is m = record { within = m.within; value = m.value ∙ is }

not-nor : (a b : Bool) → not (not a && not b) ≡ (a || b)
not-nor true b = refl
not-nor false true = refl
not-nor false false = refl

or-alone : (a b : Bool) → ((a && not b) || (not a && b)) ≡ differ a b
or-alone true true = refl
or-alone true false = refl
or-alone false true = refl
or-alone false false = refl

or-arms : (c a b : Bool) → ((c && a) || (not c && b)) ≡ (if c then a else b)
or-arms true a b = or-false a
or-arms false a b = refl

if-same : (c a : Bool) → a ≡ (if c then a else a)
if-same true a = refl
if-same false a = refl

pub or-means : {e : Source} {nodes : List Node} {x y : Literal} {a b : Bool}
    → Means e nodes x a → Means e nodes y b → Gives e nodes (or_made nodes x y) (a || b)
unfolding or_made
or-means {a = a} {b = b} mx my =
    let neither = and-means (opposite-means mx) (opposite-means my) in
    record { grown = neither.grown; means = means-as (not-nor a b) (opposite-means neither.means) }

pub xor-means : {e : Source} {nodes : List Node} {x y : Literal} {a b : Bool}
    → Means e nodes x a → Means e nodes y b → Gives e nodes (xor_made nodes x y) (differ a b)
unfolding xor_made
xor-means {a = a} {b = b} mx my =
    let p = and-means mx (opposite-means my) in
    let q = and-means (opposite-means (keep p.grown mx)) (keep p.grown my) in
    let r = or-means (keep q.grown p.means) q.means in
    record { grown = grown-then p.grown (grown-then q.grown r.grown); means = means-as (or-alone a b) r.means }

same_sign-true : (s t : Bool) → same_sign s t ≡ true → s ≡ t
same_sign-true true true same = refl
same_sign-true true false same = cc
same_sign-true false true same = cc
same_sign-true false false same = refl

and-parts : (a b : Bool) → (a && b) ≡ true → (a ≡ true) × (b ≡ true)
and-parts true b both = (refl, both)
and-parts false b both = cc

is_same-true : (x y : Literal) → is_same x y ≡ true → x ≡ y
unfolding is_same
is_same-true (Known a) (Known b) same = ap Known (same_sign-true a b same)
is_same-true (Known a) (Of m t) same = cc
is_same-true (Of n s) (Known b) same = cc
is_same-true (Of n s) (Of m t) same =
    let both = and-parts (n == m) (same_sign s t) same in ap₂ Of (equal-true n m both.0) (same_sign-true s t both.1)

mux-same : {e : Source} {nodes : List Node} {x y : Literal} (c a b : Bool) → x ≡ y → Means e nodes x a → Means e nodes y b → Means e nodes x (if c then a else b)
mux-same {e} {nodes} {x} {y} c a b same mx my =
    let one : a ≡ b = sym mx.value ∙ ap (bit_value e nodes) same ∙ my.value in
    means-as (if-same c a ∙ ap (λ z. if c then a else z) one) mx

pub mux-means : {e : Source} {nodes : List Node} {condition x y : Literal} {c a b : Bool}
    → Means e nodes condition c → Means e nodes x a → Means e nodes y b → Gives e nodes (mux_made nodes condition x y) (if c then a else b)
unfolding mux_made
mux-means {e} {nodes} {condition} {x} {y} {c} {a} {b} mc mx my =
    let p = and-means mc mx in
    let q = and-means (opposite-means (keep p.grown mc)) (keep p.grown my) in
    let r = or-means (keep q.grown p.means) q.means in
    if-by (λ m. Gives e nodes m (if c then a else b)) (is_same x y) (made nodes x) _
    (λ same. record { grown = grown-none nodes; means = mux-same c a b (is_same-true x y same) mx my })
    (λ other. record { grown = grown-then p.grown (grown-then q.grown r.grown); means = means-as (or-arms c a b) r.means })

-- ---- chains

differ-assoc : (a b c : Bool) → differ (differ a b) c ≡ differ a (differ b c)
differ-assoc true true c = sym (not-not c)
differ-assoc true false c = refl
differ-assoc false b c = refl

differ-false : (a : Bool) → differ a false ≡ a
differ-false true = refl
differ-false false = refl

pub and_all-means : {e : Source} (xs : List Literal) {nodes : List Node} {x : Literal} {b : Bool} {bs : List Bool}
    → Means e nodes x b → MeansAll e nodes xs bs → Gives e nodes (and_all_made nodes x xs) (b && all_of bs)
unfolding and_all_made
and_all-means [] {nodes = nodes} {b = b} mx none = record { grown = grown-none nodes; means = means-as (sym (and-true b)) mx }
and_all-means (y ∷ xs) {b = b} mx (more {b = c} {bs = bs} my ms) =
    let m = and-means mx my in
    let r = and_all-means xs m.means (keep_all m.grown ms) in
    record { grown = grown-then m.grown r.grown; means = means-as (and-assoc b c (all_of bs)) r.means }

pub or_all-means : {e : Source} (xs : List Literal) {nodes : List Node} {x : Literal} {b : Bool} {bs : List Bool}
    → Means e nodes x b → MeansAll e nodes xs bs → Gives e nodes (or_all_made nodes x xs) (b || some_of bs)
unfolding or_all_made
or_all-means [] {nodes = nodes} {b = b} mx none = record { grown = grown-none nodes; means = means-as (sym (or-false b)) mx }
or_all-means (y ∷ xs) {b = b} mx (more {b = c} {bs = bs} my ms) =
    let m = or-means mx my in
    let r = or_all-means xs m.means (keep_all m.grown ms) in
    record { grown = grown-then m.grown r.grown; means = means-as (or-assoc b c (some_of bs)) r.means }

pub xor_all-means : {e : Source} (xs : List Literal) {nodes : List Node} {x : Literal} {b : Bool} {bs : List Bool}
    → Means e nodes x b → MeansAll e nodes xs bs → Gives e nodes (xor_all_made nodes x xs) (differ b (odd_of bs))
unfolding xor_all_made
xor_all-means [] {nodes = nodes} {b = b} mx none = record { grown = grown-none nodes; means = means-as (sym (differ-false b)) mx }
xor_all-means (y ∷ xs) {b = b} mx (more {b = c} {bs = bs} my ms) =
    let m = xor-means mx my in
    let r = xor_all-means xs m.means (keep_all m.grown ms) in
    record { grown = grown-then m.grown r.grown; means = means-as (differ-assoc b c (odd_of bs)) r.means }

-- ---- bits of inputs, states and places

pub input-means : (e : Source) (nodes : List Node) (input bit : ℕ) → Gives e nodes (input_made nodes input bit) (e.inputs input bit)
unfolding input_made node_value
input-means e nodes input bit = pushed-gives e nodes (Input input bit) (e.inputs input bit) tt refl

pub state-means : (e : Source) (nodes : List Node) (state bit : ℕ) → Gives e nodes (state_made nodes state bit) (e.states state bit)
unfolding state_made node_value
state-means e nodes state bit = pushed-gives e nodes (State state bit) (e.states state bit) tt refl

pub free-means : {e : Source} {nodes : List Node} (moment place bit : ℕ) {computed : Literal} {b : Bool} → Means e nodes computed b
    → Gives e nodes (free_made nodes moment place bit computed) (if e.frees place then e.chosen moment place bit else b)
unfolding free_made node_value bit_value
free-means {e} {nodes} moment place bit {computed} {b} m =
    pushed-gives e nodes (Free moment place bit computed) _ m.within (ap (λ v. if e.frees place then e.chosen moment place bit else v) m.value)

-- ---- for the laws

pub chain-and : {e : Source} {nodes : List Node} {xs : List Literal} {bs : List Bool} → MeansAll e nodes xs bs → Gives e nodes (and_all_made nodes (Known true) xs) (all_of bs)
chain-and {e} {nodes} {xs} ms = and_all-means xs (known-means e nodes true) ms

pub chain-or : {e : Source} {nodes : List Node} {xs : List Literal} {bs : List Bool} → MeansAll e nodes xs bs → Gives e nodes (or_all_made nodes (Known false) xs) (some_of bs)
chain-or {e} {nodes} {xs} ms = or_all-means xs (known-means e nodes false) ms

pub chain-xor : {e : Source} {nodes : List Node} {xs : List Literal} {bs : List Bool} → MeansAll e nodes xs bs → Gives e nodes (xor_all_made nodes (Known false) xs) (odd_of bs)
chain-xor {e} {nodes} {xs} ms = xor_all-means xs (known-means e nodes false) ms

pub ruleset chains_mean = (chain-and, chain-or, chain-xor)
