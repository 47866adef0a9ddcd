-- What a product means: the product of the numbers, as far as the width reaches.
use Rattle.std.proofs.Common.{◌≡◌, ℕ, zero, suc, ◌+◌, ◌-◌, ◌*◌, ◌/◌, ◌%◌, ◌^◌, ◌≤◌, ◌<◌, Bool, true, false, ◌&&◌, List, [], ◌∷◌, ◌++◌, length, map, replicate, take, refl, sym, ◌∙◌, ap, ap₂, subst, add_comm, zero-add, add-zero, add-one, length-append, length-take-le, arith}
use Rattle.std.proofs.lemmas.List.{length-map, length-replicate}
use Rattle.std.proofs.lemmas.Nat.{pow-add}
use Rattle.std.proofs.Math.Nat.{add-mul-mod_self_right, mod-eq_of_lt, div-add-mod', add-mod-mod}
use Rattle.gate_base.specs.declared.literal.Literal.{Literal}
use Rattle.gate_base.specs.declared.literal.Literal.TheVariants.{Known}
use Rattle.gate_base.specs.declared.node.Node.{Node}
use Rattle.gate_base.specs.Meaning.{Source, Means, Grown, MeansAll, none, more, GivesAll}
use Rattle.gate_base.proofs.Meaning.{known-means, keep, keep_all, grown-none, grown-then, and-means}
use Rattle.bit_words.specs.Bits.{one_if, number_of, IsWord, GivesWord}
use Rattle.bit_words.specs.Add.{sum_bits, zeros}
use Rattle.bit_words.specs.Multiply.{row_made, row_added, rows_added, product_made}
use Rattle.bit_words.proofs.Meaning.{MeansAll-push, ends, one_more, zeros-mean, sum-means}
use Rattle.bit_words.proofs.Numbers.{number_of-below, sum-mod, length-sum_bits, double}
use Rattle.bit_words.proofs.PartNumbers.{number_of-zeros_below, number_of-take}
use Rattle.bit_words.proofs.WordLaws.{MeansAll-length, zeros-word}

-- the lowest literals of a word
pub MeansAll-take : (n : ℕ) {e : Source} {nodes : List Node} {xs : List Literal} {bs : List Bool} → MeansAll e nodes xs bs → MeansAll e nodes (take n xs) (take n bs)
MeansAll-take zero ms = none
MeansAll-take (suc n) none = none
MeansAll-take (suc n) (more m ms) = more m (MeansAll-take n ms)

pub keep_word : {e : Source} {before after : List Node} {xs : List Literal} {a : ℕ} → Grown before after → IsWord e before xs a → IsWord e after xs a
keep_word grown x = record { bits = x.bits; means = keep_all grown x.means; number = x.number }

row-means : (xs : List Literal) {e : Source} {nodes : List Node} {bits : List Literal} {b : Literal} {done bs : List Bool} {k : Bool}
    → MeansAll e nodes bits done → MeansAll e nodes xs bs → Means e nodes b k → GivesAll e nodes (row_made nodes bits xs b) (done ++ map (λ x. x && k) bs)
unfolding row_made
row-means [] so_far none mb = ends so_far
row-means (x ∷ xs) {done = done} {k = k} so_far (more {b = a} {bs = bs} mx mxs) mb =
    let m = and-means mx mb in
    one_more done (a && k) (map (λ x. x && k) bs) m.grown (row-means xs (MeansAll-push (keep_all m.grown so_far) m.means) (keep_all m.grown mxs) (keep m.grown mb))

number_of-and : (bs : List Bool) (k : Bool) → number_of (map (λ x. x && k) bs) ≡ number_of bs * one_if k
number_of-and [] true = refl
number_of-and [] false = refl
number_of-and (true ∷ bs) true = omega (arith, number_of-and bs true)
number_of-and (false ∷ bs) true = omega (arith, number_of-and bs true)
number_of-and (true ∷ bs) false = omega (arith, number_of-and bs false)
number_of-and (false ∷ bs) false = omega (arith, number_of-and bs false)

-- what is moved past the width counts nothing
moved-low : (n a k p h M : ℕ) → h * p ≡ M → (n + (a % h * k) * p) % M ≡ (n + a * p * k) % M
moved-low n a k p h M is =
    sym (ap (λ x. x % M) (split (a / h) (a % h) (div-add-mod' a h)) ∙ add-mul-mod_self_right (n + (a % h * k) * p) (a / h * k) M)
  where
    spread : (n q r h p k : ℕ) → n + (q * h + r) * p * k ≡ (n + (r * k) * p) + (q * k) * (h * p)
    spread n q r h p k = omega arith

    split : (q r : ℕ) → q * h + r ≡ a → n + a * p * k ≡ (n + (r * k) * p) + (q * k) * M
    split q r whole =
        ap (λ x. n + x * p * k) (sym whole) ∙ spread n q r h p k ∙ ap (λ x. (n + (r * k) * p) + (q * k) * x) is

next-rows : (n a p k B M P : ℕ) → P ≡ 2 * p → ((n + a * p * k) % M + a * P * B) % M ≡ (n + a * p * (k + 2 * B)) % M
next-rows n a p k B M P twice =
    ap (λ x. x % M) (add_comm ((n + a * p * k) % M) (a * P * B)) ∙ add-mod-mod (a * P * B) (n + a * p * k) M
    ∙ ap (λ x. x % M) (ap (λ x. a * x * B + (n + a * p * k)) twice ∙ gather n a p k B)
  where
    gather : (n a p k B : ℕ) → a * (2 * p) * B + (n + a * p * k) ≡ n + a * p * (k + 2 * B)
    gather n a p k B = omega arith

module _ {e : Source} (xs : List Literal) {a : ℕ} where
  row_added-law : {nodes : List Node} {so_far : List Literal} {n : ℕ} {b : Literal} {k : Bool} (place : ℕ)
      → IsWord e nodes xs a → IsWord e nodes so_far n → Means e nodes b k → length so_far ≡ length xs → place ≤ length xs
      → GivesWord e nodes (row_added nodes so_far xs place b) ((n + a * 2 ^ place * one_if k) % 2 ^ length xs) × (length (row_added nodes so_far xs place b).bits ≡ length xs)
  unfolding row_added
  row_added-law {nodes} {so_far} {n} {b} {k} place x s mb width within =
      let low = length xs - place in
      let wx : length x.bits ≡ length xs = MeansAll-length x.means in
      let ws : length s.bits ≡ length xs = MeansAll-length s.means ∙ width in
      let inside : low ≤ length x.bits = omega arith in
      let part = map (λ y. y && k) (take low x.bits) in
      let row = row-means (take low xs) (zeros-mean e nodes place) (MeansAll-take low x.means) mb in
      let long : length (replicate place false ++ part) ≡ length xs =
      length-append (replicate place false) part ∙ ap₂ (λ p q. p + q) (length-replicate place false) (length-map (take low x.bits) (λ y. y && k) ∙ length-take-le low x.bits inside) ∙ back place (length xs) within in
      let same : length s.bits ≡ length (replicate place false ++ part) = ws ∙ sym long in
      let sum = sum-means so_far (row_made nodes (zeros place) (take low xs) b).bits none (keep_all row.grown s.means) row.means (known-means e _ false) in
      let number : number_of (sum_bits s.bits (replicate place false ++ part) false) ≡ (n + a * 2 ^ place * one_if k) % 2 ^ length xs =
      sum-mod s.bits (replicate place false ++ part) false same
      ∙ ap₂ (λ p q. (p + q + 0) % 2 ^ length s.bits) s.number (number_of-zeros_below place part ∙ ap (λ m. m * 2 ^ place) (number_of-and (take low x.bits) k ∙ ap (λ m. m * one_if k) (number_of-take low x.bits inside ∙ ap (λ m. m % 2 ^ low) x.number)))
      ∙ ap₂ (λ m w. m % 2 ^ w) (add-zero (n + (a % 2 ^ low * one_if k) * 2 ^ place)) ws
      ∙ moved-low n a (one_if k) (2 ^ place) (2 ^ low) (2 ^ length xs) (sym (pow-add 2 low place) ∙ ap (λ m. 2 ^ m) (forth place (length xs) within)) in (
        record { grown = grown-then row.grown sum.grown; is = record { bits = sum_bits s.bits (replicate place false ++ part) false; means = sum.means; number = number } },
        sym (MeansAll-length sum.means) ∙ length-sum_bits s.bits (replicate place false ++ part) false same ∙ ws,
      )
    where
      back : (p w : ℕ) → p ≤ w → p + (w - p) ≡ w
      back p w inside = omega arith

      forth : (p w : ℕ) → p ≤ w → (w - p) + p ≡ w
      forth p w inside = omega arith

  rows-law : (ys : List Literal) (place : ℕ) {nodes : List Node} {so_far : List Literal} {n : ℕ} {bs : List Bool}
      → IsWord e nodes xs a → IsWord e nodes so_far n → MeansAll e nodes ys bs → length so_far ≡ length xs → place + length ys ≡ length xs
      → GivesWord e nodes (rows_added nodes so_far xs place ys) ((n + a * 2 ^ place * number_of bs) % 2 ^ length xs)
  unfolding rows_added
  rows-law [] place {nodes} {so_far} {n} x s none width within =
      let below : n < 2 ^ length xs = subst (λ m. m < 2 ^ length xs) s.number (subst (λ w. number_of s.bits < 2 ^ w) (MeansAll-length s.means ∙ width) (number_of-below s.bits)) in
      record {
        grown = grown-none nodes;
        is = record {
          bits = s.bits;
          means = s.means;
          number = s.number ∙ sym (ap (λ m. m % 2 ^ length xs) (nothing n (a * 2 ^ place)) ∙ mod-eq_of_lt below);
        };
      }
    where
      nothing : (n q : ℕ) → n + q * 0 ≡ n
      nothing n q = omega arith
  rows-law (y ∷ ys) place {n = n} x s (more {b = k} {bs = bs} my mys) width within =
      let r = row_added-law place x s my width (omega (arith, within)) in
      let rest = rows-law ys (place + 1) (keep_word r.0.grown x) r.0.is (keep_all r.0.grown mys) r.1 (omega (arith, within)) in
      record {
        grown = grown-then r.0.grown rest.grown;
        is = record {
          bits = rest.is.bits;
          means = rest.is.means;
          number = rest.is.number ∙ next-rows n a (2 ^ place) (one_if k) (number_of bs) (2 ^ length xs) (2 ^ (place + 1)) (ap (λ m. 2 ^ m) (add-one place) ∙ double place);
        };
      }

-- a product is that of the numbers, as far as the width reaches
pub product-law : {e : Source} {nodes : List Node} {xs ys : List Literal} {a b : ℕ} → IsWord e nodes xs a → IsWord e nodes ys b → length xs ≡ length ys
    → GivesWord e nodes (product_made nodes xs ys) (a * b % 2 ^ length xs)
product-law {e} {nodes} {xs} {ys} {a} {b} x y same =
    let g = rows-law xs ys 0 x (zeros-word e nodes (length xs)) y.means (length-replicate (length xs) (Known false)) (zero-add (length ys) ∙ sym same) in
    record {
      grown = g.grown;
      is = record {
        bits = g.is.bits;
        means = g.is.means;
        number = g.is.number ∙ ap (λ m. m % 2 ^ length xs) (first a (number_of y.bits) ∙ ap (λ m. a * m) y.number);
      };
    }
  where
    first : (a n : ℕ) → 0 + a * 2 ^ 0 * n ≡ a * n
    first a n = omega arith
