-- What words mean that make no nodes.
use Rattle.std.proofs.Common.{◌≡◌, ℕ, zero, suc, ◌+◌, ◌-◌, ◌*◌, ◌/◌, ◌%◌, ◌^◌, ◌==◌, ◌≤◌, ◌<◌, Bool, true, false, ◌&&◌, if◌then◌else◌, leb, ltb, List, [], ◌∷◌, ◌++◌, length, take, drop, replicate, refl, sym, ◌∙◌, ap, ap₂, arith, add-zero, zero-add, length-append, inl, inr}
use Rattle.std.proofs.lemmas.Grind.{common_steps}
use Rattle.std.proofs.lemmas.List.{length-replicate}
use Rattle.std.proofs.lemmas.Bool.{cases_lt}
use Rattle.std.proofs.lemmas.Nat.{pow-add}
use Rattle.std.proofs.lemmas.Nat.Bits.{bit_at_lowest}
use Rattle.loc_base.proofs.BitLaws.{bit_at-shr}
use Rattle.design_core.proofs.NumberLaws.{number-bit}
use Rattle.gate_base.specs.declared.literal.Literal.{Literal}
use Rattle.gate_base.specs.declared.node.Node.{Node}
use Rattle.gate_base.specs.Nodes.{word}
use Rattle.gate_base.specs.Meaning.{Source, Means, MeansAll, none, more}
use Rattle.gate_base.proofs.Meaning.{known-means, grown-none}
use Rattle.design_core.specs.Valuation.{bit, number}
use Rattle.design_core.specs.Operator.{repeated, resized}
use Rattle.bit_words.specs.Bits.{one_if, number_of}
use Rattle.bit_words.proofs.Meaning.{means-as, MeansAll-append, all-as}
use Rattle.bit_words.proofs.Numbers.{double, number_of-zeros}
use Rattle.bit_words.proofs.PartNumbers.{number_of-append}
use Rattle.bit_words.proofs.WordLaws.{MeansAll-length}
use Rattle.bit_words.proofs.ProductLaws.{MeansAll-take}
use Rattle.word_net.specs.Selects.{put_bits}
use Rattle.bit_circuit.specs.Wires.{constant_bits, resized_bits, repeated_bits, part_of, replaced_bits, blended_bits, sign_bit}
use Rattle.bit_circuit.specs.Meaning.{IsOf, GivesOf}
use Rattle.bit_circuit.proofs.Bits.{bits_from, length-bits, bits-same, bits-take, bits-drop, bits-append, word-bits, bits-word}
use Rattle.bit_circuit.proofs.BinaryLaws.{sign-means}

-- nothing is made
pub wires : {e : Source} {nodes : List Node} {xs : List Literal} {width value : ℕ} → IsOf e nodes xs width value → GivesOf e nodes (word nodes xs) width value
wires {nodes = nodes} x = record { grown = grown-none nodes; is = x }

-- literals that mean the bits that a function gives
pub of-bits : {e : Source} {nodes : List Node} {xs : List Literal} (f : ℕ → Bool) (n : ℕ) → MeansAll e nodes xs (bits_from f 0 n) → IsOf e nodes xs n (number n f)
of-bits f n ms = record { wide = sym (MeansAll-length ms) ∙ length-bits f 0 n; is = bits-word f n ms }

pub bits-of : {e : Source} {nodes : List Node} {xs : List Literal} {width v : ℕ} → IsOf e nodes xs width v → MeansAll e nodes xs (bits_from (bit v) 0 width)
bits-of {v = v} x = all-as (ap (bits_from (bit v) 0) x.wide) (word-bits x.is)

-- ---- constants

lowest : (v m : ℕ) → v / 2 ≡ m → one_if (v % 2 == 1) + 2 * m ≡ v
lowest v m is = by_parity (v % 2 == 1) v m is refl
  where
    by_parity : (b : Bool) (v m : ℕ) → v / 2 ≡ m → (v % 2 == 1) ≡ b → one_if b + 2 * m ≡ v
    by_parity true v m is odd = grind (arith, common_steps)
    by_parity false v m is odd = grind (arith, common_steps)

half : (v p q : ℕ) → q ≡ 2 * p → v < q → v / 2 < p
half v p q is below = omega (arith, is, below)

pub constant-of : (e : Source) (nodes : List Node) (width v : ℕ) → v < 2 ^ width → IsOf e nodes (constant_bits width v) width v
unfolding constant_bits
constant-of e nodes zero v below = record { wide = refl; is = record { bits = []; means = none; number = omega (arith, below) } }
constant-of e nodes (suc width) v below =
    let rest = constant-of e nodes width (v / 2) (half v (2 ^ width) (2 ^ suc width) (double width) below) in
    record {
      wide = ap suc rest.wide;
      is = record {
        bits = (v % 2 == 1) ∷ rest.is.bits;
        means = more (known-means e nodes (v % 2 == 1)) rest.is.means;
        number = lowest v (number_of rest.is.bits) (sym rest.is.number);
      };
    }

-- ---- words one above another

pub join-of : {e : Source} {nodes : List Node} {low high : List Literal} {m n a b : ℕ} → IsOf e nodes high m a → IsOf e nodes low n b
    → IsOf e nodes (low ++ high) (m + n) (a * 2 ^ n + b)
join-of {low = low} {high = high} {m = m} {n = n} {a = a} {b = b} h l = record {
  wide = omega (arith, length-append low high, l.wide, h.wide);
  is = record {
    bits = l.is.bits ++ h.is.bits;
    means = MeansAll-append l.is.means h.is.means;
    number = number_of-append l.is.bits h.is.bits
        ∙ ap₂ (λ x y. x + 2 ^ length l.is.bits * y) l.is.number h.is.number
        ∙ ap (λ w. b + 2 ^ w * a) (MeansAll-length l.is.means ∙ l.wide)
        ∙ above b (2 ^ n) a;
  };
}
  where
    above : (b p a : ℕ) → b + p * a ≡ a * p + b
    above b p a = omega arith

pub repeat-of : (times : ℕ) {e : Source} {nodes : List Node} {xs : List Literal} {width a : ℕ} → IsOf e nodes xs width a
    → IsOf e nodes (repeated_bits times xs) (times * width) (repeated times width a)
unfolding repeated_bits repeated
repeat-of zero {width = width} x = record { wide = sym (none_of width); is = record { bits = []; means = none; number = refl } }
  where
    none_of : (n : ℕ) → 0 * n ≡ 0
    none_of n = omega arith
repeat-of (suc times) {width = width} x =
    let j = join-of (repeat-of times x) x in record { wide = j.wide ∙ one_more times width; is = j.is }
  where
    one_more : (t w : ℕ) → t * w + w ≡ suc t * w
    one_more t w = omega arith

-- ---- parts

MeansAll-drop : (n : ℕ) {e : Source} {nodes : List Node} {xs : List Literal} {bs : List Bool} → MeansAll e nodes xs bs → MeansAll e nodes (drop n xs) (drop n bs)
MeansAll-drop zero ms = ms
MeansAll-drop (suc n) none = none
MeansAll-drop (suc n) (more m ms) = MeansAll-drop n ms

-- bits of a word from a position on
pub part-bits : {e : Source} {nodes : List Node} {xs : List Literal} {width v : ℕ} (from size : ℕ) → from + size ≤ width → IsOf e nodes xs width v
    → MeansAll e nodes (part_of from size xs) (bits_from (bit v) from size)
part-bits {width = width} {v = v} from size within x =
    all-as
    (ap (take size) (bits-drop (bit v) from 0 width (omega (arith, within)) ∙ ap (λ b. bits_from (bit v) b (width - from)) (zero-add from))
    ∙ bits-take (bit v) size from (width - from) (omega (arith, within)))
    (MeansAll-take size (MeansAll-drop from (bits-of x)))

pub rest-bits : {e : Source} {nodes : List Node} {xs : List Literal} {width v : ℕ} (from : ℕ) → from ≤ width → IsOf e nodes xs width v
    → MeansAll e nodes (drop from xs) (bits_from (bit v) from (width - from))
rest-bits {width = width} {v = v} from within x =
    all-as (bits-drop (bit v) from 0 width within ∙ ap (λ b. bits_from (bit v) b (width - from)) (zero-add from)) (MeansAll-drop from (bits-of x))

pub low-bits : {e : Source} {nodes : List Node} {xs : List Literal} {width v : ℕ} (size : ℕ) → size ≤ width → IsOf e nodes xs width v
    → MeansAll e nodes (take size xs) (bits_from (bit v) 0 size)
low-bits {width = width} {v = v} size within x = all-as (bits-take (bit v) size 0 width within) (MeansAll-take size (bits-of x))

pub slice-of : {e : Source} {nodes : List Node} {xs : List Literal} {width v : ℕ} (from size : ℕ) → from + size ≤ width → IsOf e nodes xs width v
    → IsOf e nodes (part_of from size xs) size (number size (λ b. bit v (from + b)))
slice-of {v = v} from size within x =
    of-bits (λ b. bit v (from + b)) size
    (all-as (bits-same (bit v) (λ b. bit v (from + b)) from 0 size (λ i in_size. ap (λ k. bit v (from + k)) (sym (zero-add i)))) (part-bits from size within x))

-- ---- blends

chosen : (c d : Bool) {e : Source} {nodes : List Node} {x y : Literal} {p q : Bool} → c ≡ d → Means e nodes x p → Means e nodes y q
    → Means e nodes (if c then x else y) (if d then p else q)
chosen true d {p = p} {q = q} is mx my = means-as (ap (λ z. if z then p else q) is) mx
chosen false d {p = p} {q = q} is mx my = means-as (ap (λ z. if z then p else q) is) my

blend-bits : (xs ys : List Literal) {e : Source} {nodes : List Node} (v w m b n mask : ℕ) → ((i : ℕ) → bit m (b + i) ≡ bit mask i)
    → MeansAll e nodes xs (bits_from (bit v) b n) → MeansAll e nodes ys (bits_from (bit w) b n)
    → MeansAll e nodes (blended_bits mask xs ys) (bits_from (λ i. if bit m i then bit v i else bit w i) b n)
unfolding blended_bits bits_from
blend-bits [] ys v w m b zero mask is none mys = none
blend-bits [] ys v w m b (suc n) mask is mxs mys = elim mxs [ ]
blend-bits (x ∷ xs) [] v w m b zero mask is mxs mys = elim mxs [ ]
blend-bits (x ∷ xs) [] v w m b (suc n) mask is mxs mys = elim mys [ ]
blend-bits (x ∷ xs) (y ∷ ys) v w m b zero mask is mxs mys = elim mxs [ ]
blend-bits (x ∷ xs) (y ∷ ys) v w m b (suc n) mask is (more mx mxs) (more my mys) =
    more (chosen (mask % 2 == 1) (bit m b) (ap (λ n. n == 1) (sym (bit_at_lowest mask)) ∙ sym (is 0) ∙ ap (bit m) (add-zero b)) mx my)
    (blend-bits xs ys v w m (b + 1) n (mask / 2) (λ i. ap (bit m) (next i) ∙ is (suc i) ∙ ap (bit mask) (after i) ∙ ap (λ n. n == 1) (sym (bit_at-shr mask 1 i))) mxs mys)
  where
    next : (i : ℕ) → b + 1 + i ≡ b + suc i
    next i = omega arith

    after : (i : ℕ) → suc i ≡ 1 + i
    after i = omega arith

pub blend-of : {e : Source} {nodes : List Node} {xs ys : List Literal} {width v w : ℕ} (mask : ℕ) → IsOf e nodes xs width v → IsOf e nodes ys width w
    → IsOf e nodes (blended_bits mask xs ys) width (number width (λ b. if bit mask b then bit v b else bit w b))
blend-of {xs = xs} {ys = ys} {width = width} {v = v} {w = w} mask x y =
    of-bits (λ b. if bit mask b then bit v b else bit w b) width
    (blend-bits xs ys v w mask 0 width mask (λ i. ap (bit mask) (zero-add i)) (bits-of x) (bits-of y))

-- ---- words cut or extended

fills-mean : (n : ℕ) {e : Source} {nodes : List Node} {l : Literal} {b : Bool} → Means e nodes l b → MeansAll e nodes (replicate n l) (replicate n b)
fills-mean zero m = none
fills-mean (suc n) m = more m (fills-mean n m)

ones : (n : ℕ) → number_of (replicate n true) + 1 ≡ 2 ^ n
ones zero = refl
ones (suc n) = omega (arith, ones n, double n)

wider-number : (f : Bool) (a from to added : ℕ) → to ≡ from + added → a + 2 ^ from * number_of (replicate added f) ≡ (if f then a + (2 ^ to - 2 ^ from) else a)
wider-number true a from to added is = top (2 ^ from) (2 ^ added) (2 ^ to) (number_of (replicate added true)) (ap (λ n. 2 ^ n) is ∙ pow-add 2 from added) (ones added)
  where
    top : (p q r n : ℕ) → r ≡ p * q → n + 1 ≡ q → a + p * n ≡ a + (r - p)
    top p q r n r_is q_is = last (r_is ∙ ap (λ x. p * x) (sym q_is) ∙ spread p n)
      where
        spread : (p n : ℕ) → p * (n + 1) ≡ p * n + p
        spread p n = omega arith

        last : r ≡ p * n + p → a + p * n ≡ a + (r - p)
        last is = omega (arith, is)
wider-number false a from to added is = nothing (2 ^ from) (number_of (replicate added false)) (number_of-zeros added)
  where
    nothing : (p n : ℕ) → n ≡ 0 → a + p * n ≡ a
    nothing p n is = ap (λ m. a + p * m) is ∙ omega arith

wider-of : {e : Source} {nodes : List Node} {xs : List Literal} {from a : ℕ} {fill : Literal} {f : Bool} (to : ℕ) → from ≤ to → IsOf e nodes xs from a → Means e nodes fill f
    → IsOf e nodes (xs ++ replicate (to - length xs) fill) to (if f then a + (2 ^ to - 2 ^ from) else a)
wider-of {xs = xs} {from = from} {a = a} {fill = fill} {f = f} to within x m =
    let more_bits = to - length xs in
    record {
      wide = omega (arith, length-append xs (replicate more_bits fill), length-replicate more_bits fill, x.wide, within);
      is = record {
        bits = x.is.bits ++ replicate more_bits f;
        means = MeansAll-append x.is.means (fills-mean more_bits m);
        number = number_of-append x.is.bits (replicate more_bits f)
            ∙ ap₂ (λ n w. n + 2 ^ w * number_of (replicate more_bits f)) x.is.number (MeansAll-length x.is.means ∙ x.wide)
            ∙ wider-number f a from to more_bits (rest (length xs) x.wide);
      };
    }
  where
    rest : (n : ℕ) → n ≡ from → to ≡ from + (to - n)
    rest n is = omega (arith, is, within)

cut-of : {e : Source} {nodes : List Node} {xs : List Literal} {from a : ℕ} (to : ℕ) → to ≤ from → IsOf e nodes xs from a → IsOf e nodes (take to xs) to (a % 2 ^ to)
cut-of {a = a} to within x =
    let l = of-bits (bit a) to (low-bits to within x) in
    record { wide = l.wide; is = record { bits = l.is.bits; means = l.is.means; number = l.is.number ∙ number-bit to a } }

is-within : (m n : ℕ) → m ≤ n → leb m n ≡ true
is-within m n within = grind (arith, common_steps)

is-beyond : (m n : ℕ) → n < m → leb m n ≡ false
is-beyond m n beyond = grind (arith, common_steps)

pub resize-of : (signed : Bool) (to : ℕ) {e : Source} {nodes : List Node} {xs : List Literal} {from a : ℕ} → 1 ≤ from → IsOf e nodes xs from a
    → IsOf e nodes (resized_bits to (sign_bit signed xs) xs) to (resized to signed from a)
resize-of signed to {xs = xs} {from = from} some x =
    elim (cases_lt to from) [
      | inl less ↦ rw (is-beyond (length xs) to (omega (arith, less, x.wide))) (rw (is-beyond from to less) (cut-of to (omega (arith, less)) x))
      | inr wide ↦ rw (is-within (length xs) to (omega (arith, wide, x.wide))) (rw (is-within from to wide) (wider-of to wide x (sign-means signed x some)))
    ]

-- ---- words stored at a fixed position

before_part : (from size p : ℕ) → p < from → (leb from p && ltb p (from + size)) ≡ false
before_part from size p before = grind (arith, common_steps)

in_part : (from size i : ℕ) → i < size → (leb from (from + i) && ltb (from + i) (from + size)) ≡ true
in_part from size i within = grind (arith, common_steps)

past_part : (from size p : ℕ) → from + size ≤ p → (leb from p && ltb p (from + size)) ≡ false
past_part from size p past = grind (arith, common_steps)

put-bits : {e : Source} {nodes : List Node} {xs part : List Literal} {width v : ℕ} (from size : ℕ) (bits : ℕ → Bool) → from + size ≤ width → IsOf e nodes xs width v
    → MeansAll e nodes part (bits_from bits 0 size)
    → MeansAll e nodes (replaced_bits from part xs) (bits_from (put_bits (bit v) from size bits) 0 width)
put-bits {xs = xs} {part = part} {width = width} {v = v} from size bits within x mpart =
    let f = put_bits (bit v) from size bits in
    let rest = width - (from + size) in
    let after = from + length part in
    let long : length part ≡ size = sym (MeansAll-length mpart) ∙ length-bits bits 0 size in
    let below = bits-same (bit v) f 0 0 from (λ i less. ap (λ c. if c then bits (0 + i - from) else bit v (0 + i)) (sym (before_part from size (0 + i) (first i less)))) in
    let inside = bits-same bits f 0 from size (λ i less. ap bits (zero-add i ∙ back i) ∙ ap (λ c. if c then bits (from + i - from) else bit v (from + i)) (sym (in_part from size i less))) in
    let above = bits-same (bit v) f (from + size) (from + size) rest (λ i less. ap (λ c. if c then bits (from + size + i - from) else bit v (from + size + i)) (sym (past_part from size (from + size + i) (more_of i)))) in
    all-as
    (ap₂ (λ ks bs. ks ++ bs) below (ap₂ (λ ks bs. ks ++ bs) inside (ap₂ (bits_from (bit v)) (ap (λ n. from + n) long) (ap (λ n. width - (from + n)) long) ∙ above))
    ∙ ap (λ bs. bits_from f 0 from ++ bs) (sym (bits-append f size from rest))
    ∙ ap (λ c. bits_from f 0 from ++ bits_from f c (size + rest)) (sym (zero-add from))
    ∙ sym (bits-append f from 0 (size + rest))
    ∙ ap (bits_from f 0) (whole within))
    (MeansAll-append (low-bits from (omega (arith, within)) x) (MeansAll-append mpart (rest-bits after (omega (arith, within, long)) x)))
  where
    first : (i : ℕ) → i < from → 0 + i < from
    first i less = omega (arith, less)

    back : (i : ℕ) → i ≡ from + i - from
    back i = omega arith

    more_of : (i : ℕ) → from + size ≤ from + size + i
    more_of i = omega arith

    whole : from + size ≤ width → from + (size + (width - (from + size))) ≡ width
    whole within = omega (arith, within)

pub put-of : {e : Source} {nodes : List Node} {xs ys : List Literal} {width v long w : ℕ} (from size offset : ℕ) → from + size ≤ width → offset + size ≤ long
    → IsOf e nodes xs width v → IsOf e nodes ys long w
    → IsOf e nodes (replaced_bits from (part_of offset size ys) xs) width (number width (put_bits (bit v) from size (λ b. bit w (offset + b))))
put-of {width = width} {v = v} {w = w} from size offset within inside x y =
    of-bits (put_bits (bit v) from size (λ b. bit w (offset + b))) width
    (put-bits from size (λ b. bit w (offset + b)) within x
    (all-as (bits-same (bit w) (λ b. bit w (offset + b)) offset 0 size (λ i in_size. ap (λ k. bit w (offset + k)) (sym (zero-add i)))) (part-bits offset size inside y)))
