-- What the operators mean, bit by bit: words that mean bits give the operator's bits.
use Rattle.std.proofs.Common.{◌≡◌, ℕ, zero, suc, Bool, true, false, not, ◌&&◌, ◌||◌, if◌then◌else◌, List, [], ◌∷◌, ◌++◌, map, replicate, refl, sym, ◌∙◌, ap, subst, append_assoc, append-nil}
use Rattle.loc_base.proofs.ShelfBools.{and-assoc}
use Rattle.gate_base.specs.declared.literal.Literal.{Literal}
use Rattle.gate_base.specs.declared.node.Node.{Node}
use Rattle.gate_base.specs.Literals.{opposite}
use Rattle.gate_base.specs.Nodes.{Word, word}
use Rattle.gate_base.specs.Meaning.{Source, Means, Grown, Gives, MeansAll, none, more, GivesAll, differ}
use Rattle.gate_base.proofs.Meaning.{opposite-means, known-means, keep, keep_all, grown-none, grown-then, and-means, or-means, xor-means, mux-means}
use Rattle.bit_words.specs.declared.bitwise.Bitwise.{Bitwise}
use Rattle.bit_words.specs.declared.bitwise.Bitwise.TheVariants as bitwise
use Rattle.bit_words.specs.Bits.{have_more, turned}
use Rattle.bit_words.specs.Bitwise.{bit_made, bitwise_made, bit_of, bits_of}
use Rattle.bit_words.specs.Choose.{choice_made, chosen_bits}
use Rattle.bit_words.specs.Equal.{equal_made, same_bits}
use Rattle.bit_words.specs.Add.{Column, carry_made, carry_if, column_made, sum_made, carry_of, sum_bits, last_carry, zeros}
use Rattle.bit_words.specs.Less.{carries_made, with_top, less_made, topped}

-- ---- words

pub means-as : {e : Source} {nodes : List Node} {l : Literal} {a b : Bool} → a ≡ b → Means e nodes l a → Means e nodes l b
means-as is m = record { within = m.within; value = m.value ∙ is }

pub all-as : {e : Source} {nodes : List Node} {xs : List Literal} {p q : List Bool} → p ≡ q → MeansAll e nodes xs p → MeansAll e nodes xs q
all-as {e} {nodes} {xs} is ms = subst (λ bs. MeansAll e nodes xs bs) is ms

-- words one behind the other
pub MeansAll-append : {e : Source} {nodes : List Node} {xs ys : List Literal} {ks bs : List Bool}
    → MeansAll e nodes xs ks → MeansAll e nodes ys bs → MeansAll e nodes (xs ++ ys) (ks ++ bs)
MeansAll-append none mys = mys
MeansAll-append (more m ms) mys = more m (MeansAll-append ms mys)

pub MeansAll-push : {e : Source} {nodes : List Node} {xs : List Literal} {bs : List Bool} {l : Literal} {b : Bool}
    → MeansAll e nodes xs bs → Means e nodes l b → MeansAll e nodes (xs ++ l ∷ []) (bs ++ b ∷ [])
MeansAll-push ms m = MeansAll-append ms (more m none)

pub opposites-mean : {e : Source} {nodes : List Node} {xs : List Literal} {bs : List Bool} → MeansAll e nodes xs bs → MeansAll e nodes (map opposite xs) (map not bs)
opposites-mean none = none
opposites-mean (more m ms) = more (opposite-means m) (opposites-mean ms)

pub zeros-mean : (e : Source) (nodes : List Node) (width : ℕ) → MeansAll e nodes (zeros width) (replicate width false)
zeros-mean e nodes zero = none
zeros-mean e nodes (suc width) = more (known-means e nodes false) (zeros-mean e nodes width)

-- a word to which nothing is added
pub ends : {e : Source} {nodes : List Node} {xs : List Literal} {bs : List Bool} → MeansAll e nodes xs bs → GivesAll e nodes (word nodes xs) (bs ++ [])
ends {nodes = nodes} {bs = bs} ms = record { grown = grown-none nodes; means = all-as (sym (append-nil bs)) ms }

-- one more bit, and then the rest
pub one_more : {e : Source} {nodes more_nodes : List Node} {w : Word} (done : List Bool) (b : Bool) (rest : List Bool)
    → Grown nodes more_nodes → GivesAll e more_nodes w ((done ++ b ∷ []) ++ rest) → GivesAll e nodes w (done ++ b ∷ rest)
one_more done b rest grown gives = record {
  grown = grown-then grown gives.grown;
  means = all-as (append_assoc done (b ∷ []) rest) gives.means;
}

-- ---- bit by bit

pub bit-means : (operator : Bitwise) {e : Source} {nodes : List Node} {x y : Literal} {a b : Bool}
    → Means e nodes x a → Means e nodes y b → Gives e nodes (bit_made operator nodes x y) (bit_of operator a b)
unfolding bit_made
bit-means bitwise.And mx my = and-means mx my
bit-means bitwise.Or mx my = or-means mx my
bit-means bitwise.Xor mx my = xor-means mx my
bit-means bitwise.Xnor mx my = let m = xor-means mx my in record { grown = m.grown; means = opposite-means m.means }

pub bitwise-means : (operator : Bitwise) (xs ys : List Literal) {e : Source} {nodes : List Node} {bits : List Literal} {done ks bs : List Bool}
    → MeansAll e nodes bits done → MeansAll e nodes xs ks → MeansAll e nodes ys bs
    → GivesAll e nodes (bitwise_made operator nodes bits xs ys) (done ++ bits_of operator ks bs)
unfolding bitwise_made
bitwise-means operator [] ys so_far none mys = ends so_far
bitwise-means operator (x ∷ xs) [] so_far (more mx mxs) none = ends so_far
bitwise-means operator (x ∷ xs) (y ∷ ys) {done = done} so_far (more {b = a} {bs = ks} mx mxs) (more {b = b} {bs = bs} my mys) =
    let m = bit-means operator mx my in
    one_more done (bit_of operator a b) (bits_of operator ks bs) m.grown (bitwise-means operator xs ys (MeansAll-push (keep_all m.grown so_far) m.means) (keep_all m.grown mxs) (keep_all m.grown mys))

pub choice-means : (xs ys : List Literal) {e : Source} {nodes : List Node} {bits : List Literal} {condition : Literal} {c : Bool} {done ks bs : List Bool}
    → MeansAll e nodes bits done → Means e nodes condition c → MeansAll e nodes xs ks → MeansAll e nodes ys bs
    → GivesAll e nodes (choice_made nodes bits condition xs ys) (done ++ chosen_bits c ks bs)
unfolding choice_made
choice-means [] ys so_far mc none mys = ends so_far
choice-means (x ∷ xs) [] so_far mc (more mx mxs) none = ends so_far
choice-means (x ∷ xs) (y ∷ ys) {c = c} {done = done} so_far mc (more {b = a} {bs = ks} mx mxs) (more {b = b} {bs = bs} my mys) =
    let m = mux-means mc mx my in
    one_more done (if c then a else b) (chosen_bits c ks bs) m.grown (choice-means xs ys (MeansAll-push (keep_all m.grown so_far) m.means) (keep m.grown mc) (keep_all m.grown mxs) (keep_all m.grown mys))

and-true : (a : Bool) → a ≡ (a && true)
and-true true = refl
and-true false = refl

pub equal-means : (xs ys : List Literal) {e : Source} {nodes : List Node} {so_far : Literal} {a : Bool} {ks bs : List Bool}
    → Means e nodes so_far a → MeansAll e nodes xs ks → MeansAll e nodes ys bs → Gives e nodes (equal_made nodes so_far xs ys) (a && same_bits ks bs)
unfolding equal_made
equal-means [] ys {nodes = nodes} {a = a} ma none mys = record { grown = grown-none nodes; means = means-as (and-true a) ma }
equal-means (x ∷ xs) [] {nodes = nodes} {a = a} ma (more mx mxs) none = record { grown = grown-none nodes; means = means-as (and-true a) ma }
equal-means (x ∷ xs) (y ∷ ys) {a = a} ma (more {b = c} {bs = cs} mx mxs) (more {b = d} {bs = ds} my mys) =
    let p = xor-means mx my in
    let q = and-means (keep p.grown ma) (opposite-means p.means) in
    let grown = grown-then p.grown q.grown in
    let r = equal-means xs ys q.means (keep_all grown mxs) (keep_all grown mys) in
    record { grown = grown-then grown r.grown; means = means-as (and-assoc a (not (differ c d)) (same_bits cs ds)) r.means }

-- ---- sums

pub carry-means : {e : Source} {nodes : List Node} {x y carry one : Literal} {a b k o : Bool}
    → Means e nodes x a → Means e nodes y b → Means e nodes carry k → Means e nodes one o
    → Gives e nodes (carry_made nodes x y carry one) ((a && b) || (k && o))
unfolding carry_made
carry-means mx my mk mo =
    let p = and-means mx my in
    let q = and-means (keep p.grown mk) (keep p.grown mo) in
    let r = or-means (keep q.grown p.means) q.means in
    record { grown = grown-then p.grown (grown-then q.grown r.grown); means = r.means }

carry_if-means : (follows : Bool) {e : Source} {nodes : List Node} {x y carry one : Literal} {a b k o : Bool}
    → Means e nodes x a → Means e nodes y b → Means e nodes carry k → Means e nodes one o
    → Gives e nodes (carry_if follows nodes x y carry one) (if follows then (a && b) || (k && o) else k)
unfolding carry_if
carry_if-means true mx my mk mo = carry-means mx my mk mo
carry_if-means false {nodes = nodes} mx my mk mo = record { grown = grown-none nodes; means = mk }

-- what a column gives: the bit of the sum behind those that are there, and a carry, which is the next one where a column follows
record GivesColumn (e : Source) (nodes : List Node) (m : Column) (done : List Bool) (sum k : Bool) : Type 0 where
  grown : Grown nodes m.nodes
  bits : MeansAll e m.nodes m.bits (done ++ sum ∷ [])
  carry : Means e m.nodes m.carry k

column-means : (follows : Bool) {e : Source} {nodes : List Node} {bits : List Literal} {x y carry : Literal} {done : List Bool} {a b k : Bool}
    → MeansAll e nodes bits done → Means e nodes x a → Means e nodes y b → Means e nodes carry k
    → GivesColumn e nodes (column_made nodes bits follows x y carry) done (differ (differ a b) k) (if follows then carry_of a b k else k)
unfolding column_made
column-means follows so_far mx my mk =
    let one = xor-means mx my in
    let sum = xor-means one.means (keep one.grown mk) in
    let grown = grown-then one.grown sum.grown in
    let next = carry_if-means follows (keep grown mx) (keep grown my) (keep grown mk) (keep sum.grown one.means) in
    record {
      grown = grown-then grown next.grown;
      bits = MeansAll-push (keep_all (grown-then grown next.grown) so_far) (keep next.grown sum.means);
      carry = next.means;
    }

-- no bit of the sum comes of a carry that isn't made
carry-read : (xs ys : List Literal) {e : Source} {nodes : List Node} {ks bs : List Bool} (k next : Bool) → MeansAll e nodes xs ks → MeansAll e nodes ys bs
    → sum_bits ks bs (if have_more xs ys then next else k) ≡ sum_bits ks bs next
carry-read [] ys k next none mys = refl
carry-read (x ∷ xs) [] k next (more mx mxs) none = refl
carry-read (x ∷ xs) (y ∷ ys) k next (more mx mxs) (more my mys) = refl

pub sum-means : (xs ys : List Literal) {e : Source} {nodes : List Node} {bits : List Literal} {carry : Literal} {done ks bs : List Bool} {k : Bool}
    → MeansAll e nodes bits done → MeansAll e nodes xs ks → MeansAll e nodes ys bs → Means e nodes carry k
    → GivesAll e nodes (sum_made nodes bits xs ys carry) (done ++ sum_bits ks bs k)
unfolding sum_made
sum-means [] ys so_far none mys mk = ends so_far
sum-means (x ∷ xs) [] so_far (more mx mxs) none mk = ends so_far
sum-means (x ∷ xs) (y ∷ ys) {done = done} {k = k} so_far (more {b = a} {bs = ks} mx mxs) (more {b = b} {bs = bs} my mys) mk =
    let m = column-means (have_more xs ys) so_far mx my mk in
    let sum = differ (differ a b) k in
    let r = sum-means xs ys m.bits (keep_all m.grown mxs) (keep_all m.grown mys) m.carry in
    let s = one_more done sum (sum_bits ks bs (if have_more xs ys then carry_of a b k else k)) m.grown r in
    record { grown = s.grown; means = all-as (ap (λ rest. done ++ sum ∷ rest) (carry-read xs ys k (carry_of a b k) mxs mys)) s.means }

-- ---- comparisons

carries-means : (xs ys : List Literal) {e : Source} {nodes : List Node} {carry : Literal} {ks bs : List Bool} {k : Bool}
    → Means e nodes carry k → MeansAll e nodes xs ks → MeansAll e nodes ys bs → Gives e nodes (carries_made nodes carry xs ys) (last_carry ks bs k)
unfolding carries_made
carries-means [] ys {nodes = nodes} mk none mys = record { grown = grown-none nodes; means = mk }
carries-means (x ∷ xs) [] {nodes = nodes} mk (more mx mxs) none = record { grown = grown-none nodes; means = mk }
carries-means (x ∷ xs) (y ∷ ys) mk (more mx mxs) (more my mys) =
    let one = xor-means mx my in
    let next = carry-means (keep one.grown mx) (keep one.grown my) (keep one.grown mk) one.means in
    let grown = grown-then one.grown next.grown in
    let r = carries-means xs ys next.means (keep_all grown mxs) (keep_all grown mys) in
    record { grown = grown-then grown r.grown; means = r.means }

pub turned-means : (negated : Bool) {e : Source} {nodes : List Node} {l : Literal} {b : Bool} → Means e nodes l b → Means e nodes (turned negated l) (differ negated b)
turned-means true m = opposite-means m
turned-means false m = m

with_top-means : (signed : Bool) (xs : List Literal) {e : Source} {nodes : List Node} {bs : List Bool} → MeansAll e nodes xs bs → MeansAll e nodes (with_top signed xs) (topped signed bs)
with_top-means signed [] none = none
with_top-means signed (x ∷ []) (more m none) = more (turned-means signed m) none
with_top-means signed (x ∷ y ∷ ys) (more m (more n ms)) = more m (with_top-means signed (y ∷ ys) (more n ms))

pub less-means : (signed : Bool) (xs ys : List Literal) {e : Source} {nodes : List Node} {ks bs : List Bool} → MeansAll e nodes xs ks → MeansAll e nodes ys bs
    → Gives e nodes (less_made signed nodes xs ys) (not (last_carry (topped signed ks) (map not (topped signed bs)) true))
unfolding less_made
less-means signed xs ys {e} {nodes} mxs mys =
    let m = carries-means (with_top signed xs) (map opposite (with_top signed ys)) (known-means e nodes true) (with_top-means signed xs mxs) (opposites-mean (with_top-means signed ys mys)) in
    record { grown = m.grown; means = opposite-means m.means }
