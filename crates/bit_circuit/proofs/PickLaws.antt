-- What reads and stores of words by a variable index mean.
use Rattle.std.proofs.Common.{◌≡◌, ℕ, zero, suc, ◌+◌, ◌-◌, ◌^◌, ◌≤◌, ◌<◌, Bool, false, List, [], ◌∷◌, ◌++◌, length, map, drop, Some, refl, sym, ◌∙◌, ap, ap₂, subst, arith, add-zero, zero-add}
use Rattle.std.specs.Prelude.{ℤ, slice_get}
use Rattle.std.specs.Option.{option_and_then}
use Rattle.gate_base.specs.declared.literal.Literal.{Literal}
use Rattle.gate_base.specs.declared.node.Node.{Node}
use Rattle.gate_base.specs.Meaning.{Source, MeansAll, GivesAll, Grown, none, more}
use Rattle.gate_base.proofs.Meaning.{known-means, keep_all}
use Rattle.design_core.specs.Valuation.{bit, number, place_within, bit_or_zero}
use Rattle.bit_words.specs.Bits.{integer_of, number_of}
use Rattle.bit_words.specs.Index.{picked, NamesFit}
use Rattle.bit_words.proofs.Meaning.{means-as, all-as, MeansAll-push, ends, one_more}
use Rattle.bit_words.proofs.Numbers.{number_of-below}
use Rattle.bit_words.proofs.WordLaws.{MeansAll-length}
use Rattle.bit_words.proofs.ProductLaws.{keep_word}
use Rattle.bit_words.proofs.IndexLaws.{pick-means, put-means}
use Rattle.word_net.specs.declared.node.Select.{Select}
use Rattle.word_net.specs.Selects.{Range, picked_bit, put_picked}
use Rattle.bit_circuit.specs.Indexes.{name_at, names_from, picks_made, puts_made}
use Rattle.bit_circuit.specs.Meaning.{IsOf, GivesOf}
use Rattle.bit_circuit.proofs.Bits.{bits_from, bits-same}
use Rattle.bit_circuit.proofs.WireLaws.{bits-of, rest-bits}
use Rattle.bit_circuit.proofs.SourceLaws.{all-gives}
use Rattle.bit_circuit.proofs.IndexLaws.{away, picked-is, names-fit, put-is, put-names-fit}

-- a word's number is one of its width
pub of-below : {e : Source} {nodes : List Node} {xs : List Literal} {width v : ℕ} → IsOf e nodes xs width v → v < 2 ^ width
of-below {width = width} {v = v} x =
    subst (λ n. n < 2 ^ width) x.is.number (subst (λ w. number_of x.is.bits < 2 ^ w) (MeansAll-length x.is.means ∙ x.wide) (number_of-below x.is.bits))

pub keep-of : {e : Source} {before after : List Node} {xs : List Literal} {width v : ℕ} → Grown before after → IsOf e before xs width v → IsOf e after xs width v
keep-of grown x = record { wide = x.wide; is = keep_word grown x.is }

-- ---- reads

picks-mean : (offsets : List ℤ) (select : Select) (f : ℕ → Bool) (width : ℕ) {e : Source} {nodes : List Node} {bits index xs : List Literal} {done : List Bool} {v : ℕ}
    → 1 ≤ select.index.width → IsOf e nodes index select.index.width v → MeansAll e nodes xs (bits_from f 0 width) → length xs ≡ width → MeansAll e nodes bits done
    → GivesAll e nodes (picks_made nodes bits index xs select offsets) (done ++ map (λ k. bit_or_zero f (place_within width (away select v k))) offsets)
unfolding picks_made
picks-mean [] select f width some i mxs wide so_far = ends so_far
picks-mean (k ∷ offsets) select f width {e} {nodes} {index = index} {xs = xs} {done = done} {v = v} some i mxs wide so_far =
    let h : ℤ → Bool = λ k. bit_or_zero f (place_within width (away select v k)) in
    let names = names_from select k 0 (length xs) in
    let fit = subst (λ w. NamesFit w names) (sym i.wide) (names-fit select k (length xs) 0 some) in
    let m = pick-means xs names (known-means e nodes false) i.is mxs fit in
    let is = ap (λ n. picked v false (bits_from f 0 width) (names_from select k 0 n)) wide ∙ picked-is select v k f width some (of-below i) in
    one_more done (h k) (map h offsets) m.grown
    (picks-mean offsets select f width some (keep-of m.grown i) (keep_all m.grown mxs) wide (MeansAll-push (keep_all m.grown so_far) (means-as is m.means)))

map-bits : (h : ℤ → Bool) (F : ℕ → Bool) (offsets : List ℤ) (b : ℕ) → ((i : ℕ) (k : ℤ) → slice_get offsets i ≡ Some k → F (b + i) ≡ h k)
    → map h offsets ≡ bits_from F b (length offsets)
unfolding bits_from
map-bits h F [] b same = refl
map-bits h F (k ∷ offsets) b same =
    ap₂ (λ x xs. x ∷ xs) (sym (ap F (sym (add-zero b)) ∙ same 0 k refl))
    (map-bits h F offsets (b + 1) (λ i k is. ap F (next i) ∙ same (suc i) k is))
  where
    next : (i : ℕ) → b + 1 + i ≡ b + suc i
    next i = omega arith

pub pick-gives : (select : Select) {e : Source} {nodes : List Node} {index xs : List Literal} {width v w : ℕ}
    → 1 ≤ select.index.width → IsOf e nodes index select.index.width v → IsOf e nodes xs width w
    → GivesOf e nodes (picks_made nodes [] index xs select select.offsets) (length select.offsets)
    (number (length select.offsets) (picked_bit (record { width = width; left = select.left; right = select.right }) (bit w) (integer_of select.index.signed select.index.width v) select.offsets))
pick-gives select {width = width} {v = v} {w = w} some i x =
    let range : Range = record { width = width; left = select.left; right = select.right } in
    let h : ℤ → Bool = λ k. bit_or_zero (bit w) (place_within width (away select v k)) in
    let F : ℕ → Bool = picked_bit range (bit w) (integer_of select.index.signed select.index.width v) select.offsets in
    let g = picks-mean select.offsets select (bit w) width some i (bits-of x) x.wide none in
    all-gives F (length select.offsets) record {
      grown = g.grown;
      means = all-as (map-bits h F select.offsets 0 (λ i k is. ap F (zero-add i)
          ∙ ap (λ o. bit_or_zero (bit w) (option_and_then (λ k. place_within width (away select v k)) o)) is)) g.means;
    }

-- ---- stores

puts-mean : (xs : List Literal) (select : Select) (f g : ℕ → Bool) (width p count n : ℕ) {e : Source} {nodes : List Node} {bits index ys : List Literal} {done : List Bool} {v : ℕ}
    → 1 ≤ select.index.width → length select.offsets ≤ n → p + count ≤ width → IsOf e nodes index select.index.width v
    → MeansAll e nodes ys (bits_from g 0 n) → MeansAll e nodes bits done → MeansAll e nodes xs (bits_from f p count)
    → GivesAll e nodes (puts_made nodes bits index ys select p xs)
    (done ++ bits_from (put_picked (record { width = width; left = select.left; right = select.right }) f (integer_of select.index.signed select.index.width v) 0 select.offsets g) p count)
unfolding puts_made bits_from
puts-mean [] select f g width p zero n some long within i mys so_far none = ends so_far
puts-mean [] select f g width p (suc count) n some long within i mys so_far mxs = elim mxs [ ]
puts-mean (x ∷ xs) select f g width p zero n some long within i mys so_far mxs = elim mxs [ ]
puts-mean (x ∷ xs) select f g width p (suc count) n {e} {nodes} {index = index} {ys = ys} {done = done} {v = v} some long within i mys so_far (more mx mxs) =
    let F : ℕ → Bool = put_picked (record { width = width; left = select.left; right = select.right }) f (integer_of select.index.signed select.index.width v) 0 select.offsets g in
    let names = map (name_at select p) select.offsets in
    let fit = subst (λ w. NamesFit w names) (sym i.wide) (put-names-fit select p select.offsets some) in
    let m = put-means ys names mx i.is mys fit in
    let is = put-is select v width g p select.offsets f 0 n (f p) some (of-below i) (omega (arith, within)) long refl in
    one_more done (F p) (bits_from F (p + 1) count) m.grown
    (puts-mean xs select f g width (p + 1) count n some long (omega (arith, within)) (keep-of m.grown i) (keep_all m.grown mys)
    (MeansAll-push (keep_all m.grown so_far) (means-as is m.means)) (keep_all m.grown mxs))

pub put-gives : (select : Select) (offset : ℕ) {e : Source} {nodes : List Node} {index xs ys : List Literal} {width long v a w : ℕ}
    → 1 ≤ select.index.width → offset + length select.offsets ≤ long → IsOf e nodes index select.index.width v → IsOf e nodes xs width a → IsOf e nodes ys long w
    → GivesOf e nodes (puts_made nodes [] index (drop offset ys) select 0 xs) width
    (number width (put_picked (record { width = width; left = select.left; right = select.right }) (bit a) (integer_of select.index.signed select.index.width v) 0 select.offsets (λ b. bit w (offset + b))))
put-gives select offset {width = width} {long = long} {v = v} {a = a} {w = w} some within i x y =
    let g : ℕ → Bool = λ b. bit w (offset + b) in
    let rest = long - offset in
    let value = all-as (bits-same (bit w) g offset 0 rest (λ i less. ap (λ k. bit w (offset + k)) (sym (zero-add i)))) (rest-bits offset (omega (arith, within)) y) in
    all-gives (put_picked (record { width = width; left = select.left; right = select.right }) (bit a) (integer_of select.index.signed select.index.width v) 0 select.offsets g) width
    (puts-mean _ select (bit a) g width 0 width rest some (omega (arith, within)) (omega arith) i value none (bits-of x))
