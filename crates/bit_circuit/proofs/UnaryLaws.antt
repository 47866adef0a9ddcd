-- What unary operators on words mean.
use Rattle.std.proofs.Common.{◌≡◌, ℕ, suc, ◌+◌, ◌-◌, ◌*◌, ◌/◌, ◌%◌, ◌^◌, ◌==◌, ◌<◌, Bool, true, false, not, ◌&&◌, ◌||◌, List, [], ◌∷◌, length, map, refl, sym, ◌∙◌, ap, ap₂, arith, zero-add, count_ones}
use Rattle.std.specs.Prelude.{IsTrue}
use Rattle.std.proofs.lemmas.Grind.{common_steps}
use Rattle.std.proofs.lemmas.List.{length-map, length-replicate}
use Rattle.std.proofs.lemmas.Nat.{ones-le}
use lib.Count.{ones_step}
use Rattle.gate_base.specs.declared.literal.Literal.{Literal}
use Rattle.gate_base.specs.declared.literal.Literal.TheVariants.{Known}
use Rattle.gate_base.specs.declared.node.Node.{Node}
use Rattle.gate_base.specs.Literals.{opposite}
use Rattle.gate_base.specs.Nodes.{Made, Word, word, and_all_made, or_all_made}
use Rattle.gate_base.specs.Meaning.{Source, Means, Gives, none, more, all_of, some_of, odd_of, differ}
use Rattle.gate_base.proofs.Meaning.{opposite-means, grown-none, chain-and, chain-or, chain-xor}
use Rattle.design_core.specs.declared.expression.UnaryOp.{UnaryOp}
use Rattle.design_core.specs.declared.expression.UnaryOp.TheVariants as unary_op
use Rattle.design_core.specs.Operator.{is_true, all_ones, unary}
use Rattle.design_core.specs.WellFormed.{unary_fits}
use Rattle.bit_words.specs.Bits.{one_if, number_of, IsWord}
use Rattle.bit_words.specs.Add.{minus_made, zeros}
use Rattle.bit_words.proofs.Meaning.{means-as}
use Rattle.bit_words.proofs.Numbers.{double, number_of-below}
use Rattle.bit_words.proofs.WordLaws.{MeansAll-length, opposite-word, minus-law}
use Rattle.bit_circuit.specs.Nodes.{one_bit, one_opposite, unary_made}
use Rattle.bit_circuit.specs.Meaning.{IsOf, GivesOf}
use Rattle.bit_circuit.proofs.Lengths.{length-sum}

-- ---- words of one bit

one-number : (b : Bool) → one_if b + 2 * 0 ≡ one_if b
one-number true = refl
one-number false = refl

pub one-of : {e : Source} {nodes : List Node} {l : Literal} {b : Bool} → Means e nodes l b → IsOf e nodes (l ∷ []) 1 (one_if b)
one-of {b = b} m = record { wide = refl; is = record { bits = b ∷ []; means = more m none; number = one-number b } }

pub one-gives : {e : Source} {nodes : List Node} {m : Made} {b c : Bool} → b ≡ c → Gives e nodes m b → GivesOf e nodes (one_bit m) 1 (one_if c)
one-gives is g = record { grown = g.grown; is = one-of (means-as is g.means) }

pub opposite-gives : {e : Source} {nodes : List Node} {m : Made} {b c : Bool} → b ≡ c → Gives e nodes m b → GivesOf e nodes (one_opposite m) 1 (one_if (not c))
opposite-gives is g = record { grown = g.grown; is = one-of (opposite-means (means-as is g.means)) }

-- ---- chains

some-true : (b : Bool) (n : ℕ) → (b || not (n == 0)) ≡ not (one_if b + 2 * n == 0)
some-true true n = grind (arith, common_steps)
some-true false n = grind (arith, common_steps)

pub some-number : (bs : List Bool) → some_of bs ≡ is_true (number_of bs)
some-number [] = refl
some-number (b ∷ bs) = ap (λ c. b || c) (some-number bs) ∙ some-true b (number_of bs)

all-true : (b : Bool) (n p q : ℕ) → n < p → q ≡ 2 * p → (b && (n == p - 1)) ≡ (one_if b + 2 * n == q - 1)
all-true true n p q below is = grind (arith, common_steps)
all-true false n p q below is = grind (arith, common_steps)

all-number : (bs : List Bool) → all_of bs ≡ (number_of bs == 2 ^ length bs - 1)
all-number [] = refl
all-number (b ∷ bs) =
    ap (λ c. b && c) (all-number bs) ∙ all-true b (number_of bs) (2 ^ length bs) (2 ^ suc (length bs)) (number_of-below bs) (double (length bs))

truth : {e : Source} {nodes : List Node} {xs : List Literal} {a : ℕ} → IsWord e nodes xs a → Gives e nodes (or_all_made nodes (Known false) xs) (is_true a)
truth x = let g = chain-or x.means in record { grown = g.grown; means = means-as (some-number x.bits ∙ ap is_true x.number) g.means }

pub truth-means : {e : Source} {nodes : List Node} {xs : List Literal} {a : ℕ} → IsWord e nodes xs a → Gives e nodes (or_all_made nodes (Known false) xs) (is_true a)
truth-means x = truth x

all-means : {e : Source} {nodes : List Node} {xs : List Literal} {width a : ℕ} → IsOf e nodes xs width a → Gives e nodes (and_all_made nodes (Known true) xs) (a == all_ones width)
all-means {width = width} {a = a} x =
    let g = chain-and x.is.means in
    record {
      grown = g.grown;
      means = means-as (all-number x.is.bits ∙ ap₂ (λ n w. n == 2 ^ w - 1) x.is.number (MeansAll-length x.is.means ∙ x.wide)) g.means;
    }

-- the lowest bit, and the ones above it
ones-more : (b : Bool) (n : ℕ) → count_ones (one_if b + 2 * n) ≡ one_if b + count_ones n
ones-more b n = ones_step (one_if b + 2 * n) ∙ ap₂ (λ x y. x + count_ones y) (low b n) (high b n)
  where
    low : (b : Bool) (n : ℕ) → (one_if b + 2 * n) % 2 ≡ one_if b
    low true n = omega arith
    low false n = omega arith

    high : (b : Bool) (n : ℕ) → (one_if b + 2 * n) / 2 ≡ n
    high true n = omega arith
    high false n = omega arith

-- the number of ones is odd where an odd number of bits is true
ones-number : (bs : List Bool) → one_if (odd_of bs) ≡ count_ones (number_of bs) % 2
ones-number [] = omega (arith, ones-le 0 0 (omega arith))
ones-number (b ∷ bs) = odd-step b (odd_of bs) (count_ones (number_of bs)) (ones-number bs) ∙ ap (λ n. n % 2) (sym (ones-more b (number_of bs)))
  where
    odd-step : (b c : Bool) (n : ℕ) → one_if c ≡ n % 2 → one_if (differ b c) ≡ (one_if b + n) % 2
    odd-step true true n is = omega (arith, is)
    odd-step true false n is = omega (arith, is)
    odd-step false true n is = omega (arith, is)
    odd-step false false n is = omega (arith, is)

odd-number : {e : Source} {nodes : List Node} {xs : List Literal} {a : ℕ} (x : IsWord e nodes xs a) → one_if (odd_of x.bits) ≡ count_ones a % 2
odd-number x = ones-number x.bits ∙ ap (λ n. count_ones n % 2) x.number

opposite-number : (b : Bool) (n : ℕ) → one_if b ≡ n → one_if (not b) ≡ 1 - n
opposite-number true n is = omega (arith, is)
opposite-number false n is = omega (arith, is)

even-number : {e : Source} {nodes : List Node} {xs : List Literal} {a : ℕ} (x : IsWord e nodes xs a) → one_if (not (odd_of x.bits)) ≡ 1 - count_ones a % 2
even-number {a = a} x = opposite-number (odd_of x.bits) (count_ones a % 2) (odd-number x)

pub as-value : {e : Source} {nodes : List Node} {w : Word} {width m n : ℕ} → m ≡ n → GivesOf e nodes w width m → GivesOf e nodes w width n
as-value is g = record { grown = g.grown; is = record { wide = g.is.wide; is = record { bits = g.is.is.bits; means = g.is.is.means; number = g.is.is.number ∙ is } } }

-- ---- operators

equal-width : (m n : ℕ) → IsTrue (m == n) → m ≡ n
equal-width m n is = grind (arith, common_steps)

minus-gives : {e : Source} {nodes : List Node} {xs : List Literal} {width a : ℕ} → IsOf e nodes xs width a → GivesOf e nodes (minus_made nodes [] xs) width ((2 ^ width - a) % 2 ^ width)
minus-gives {e} {nodes} {xs} {width} {a} x =
    let g = minus-law x.is in
    let zero_wide = length-replicate (length xs) (Known false) in
    record {
      grown = g.grown;
      is = record {
        wide = length-sum nodes [] (zeros (length xs)) (map opposite xs) (Known true) (omega (arith, zero_wide, length-map xs opposite)) ∙ zero-add (length (zeros (length xs))) ∙ zero_wide ∙ x.wide;
        is = record { bits = g.is.bits; means = g.is.means; number = g.is.number ∙ ap (λ w. (2 ^ w - a) % 2 ^ w) x.wide };
      };
    }

not-number : (c p b : ℕ) → c + 1 ≡ p - b → c ≡ (p - 1) - b
not-number c p b is = omega (arith, is)

not-gives : {e : Source} {nodes : List Node} {xs : List Literal} {width a : ℕ} → IsOf e nodes xs width a → GivesOf e nodes (word nodes (map opposite xs)) width (all_ones width - a)
not-gives {nodes = nodes} {xs = xs} {width = width} {a = a} x =
    let o = opposite-word x.is in
    record {
      grown = grown-none nodes;
      is = record {
        wide = length-map xs opposite ∙ x.wide;
        is = record {
          bits = o.1.bits;
          means = o.1.means;
          number = o.1.number ∙ not-number o.0 (2 ^ length xs) a o.2 ∙ ap (λ w. (2 ^ w - 1) - a) x.wide;
        };
      };
    }

pub as-width : {e : Source} {nodes : List Node} {w : Word} {m n value : ℕ} → m ≡ n → GivesOf e nodes w m value → GivesOf e nodes w n value
as-width is g = record { grown = g.grown; is = record { wide = g.is.wide ∙ is; is = g.is.is } }

pub unary-means : (op : UnaryOp) {e : Source} {nodes : List Node} {xs : List Literal} {width arg a : ℕ} → IsTrue (unary_fits op width arg) → IsOf e nodes xs arg a
    → GivesOf e nodes (unary_made op nodes xs) width (unary op arg a)
unfolding unary_made
unary-means unary_op.Plus {nodes = nodes} {width = width} {arg = arg} fits x =
    as-width (sym (equal-width width arg fits)) record { grown = grown-none nodes; is = x }
unary-means unary_op.Minus {width = width} {arg = arg} fits x = as-width (sym (equal-width width arg fits)) (minus-gives x)
unary-means unary_op.LogicalNot {width = width} fits x = as-width (sym (equal-width width 1 fits)) (opposite-gives refl (truth x.is))
unary-means unary_op.Not {width = width} {arg = arg} fits x = as-width (sym (equal-width width arg fits)) (not-gives x)
unary-means unary_op.ReduceAnd {width = width} fits x = as-width (sym (equal-width width 1 fits)) (one-gives refl (all-means x))
unary-means unary_op.ReduceNand {width = width} fits x = as-width (sym (equal-width width 1 fits)) (opposite-gives refl (all-means x))
unary-means unary_op.ReduceOr {width = width} fits x = as-width (sym (equal-width width 1 fits)) (one-gives refl (truth x.is))
unary-means unary_op.ReduceNor {width = width} fits x = as-width (sym (equal-width width 1 fits)) (opposite-gives refl (truth x.is))
unary-means unary_op.ReduceXor {width = width} fits x = as-width (sym (equal-width width 1 fits)) (as-value (odd-number x.is) (one-gives refl (chain-xor x.is.means)))
unary-means unary_op.ReduceXnor {width = width} fits x = as-width (sym (equal-width width 1 fits)) (as-value (even-number x.is) (opposite-gives refl (chain-xor x.is.means)))
