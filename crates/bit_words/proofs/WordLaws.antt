-- What the operators mean, word by word: the whole numbers of the standard.
use Rattle.std.proofs.Common.{◌≡◌, ℕ, suc, ◌+◌, ◌-◌, ◌%◌, ◌^◌, ◌≤◌, Bool, true, false, not, ◌==◌, if◌then◌else◌, List, [], length, map, replicate, refl, sym, ◌∙◌, ap, ap₂, add_assoc, zero-add, arith}
use Rattle.std.specs.Prelude.{int_lt}
use Rattle.std.proofs.lemmas.List.{length-map, length-replicate}
use Rattle.gate_base.specs.declared.literal.Literal.{Literal}
use Rattle.gate_base.specs.declared.literal.Literal.TheVariants.{Known}
use Rattle.gate_base.specs.declared.node.Node.{Node}
use Rattle.gate_base.specs.Literals.{opposite}
use Rattle.gate_base.specs.Nodes.{Word}
use Rattle.gate_base.specs.Meaning.{Source, Means, Gives, MeansAll, none, more}
use Rattle.gate_base.proofs.Meaning.{known-means}
use Rattle.bit_words.specs.declared.bitwise.Bitwise.{Bitwise}
use Rattle.bit_words.specs.Bits.{one_if, number_of, integer_of, IsWord, GivesWord}
use Rattle.bit_words.specs.Bitwise.{bitwise_made, bits_of, bitwise_number}
use Rattle.bit_words.specs.Choose.{choice_made, chosen_bits}
use Rattle.bit_words.specs.Equal.{equal_made}
use Rattle.bit_words.specs.Add.{sum_made, difference_made, minus_made, sum_bits, zeros}
use Rattle.bit_words.specs.Less.{less_made}
use Rattle.bit_words.proofs.Meaning.{means-as, opposites-mean, zeros-mean, bitwise-means, choice-means, equal-means, sum-means, less-means}
use Rattle.bit_words.proofs.Numbers.{number_of-not, number_of-zeros, sum-mod, same-number, chosen-number, bitwise-number, less-number}

-- a word has as many bits as literals
pub MeansAll-length : {e : Source} {nodes : List Node} {xs : List Literal} {bs : List Bool} → MeansAll e nodes xs bs → length bs ≡ length xs
MeansAll-length none = refl
MeansAll-length (more m ms) = ap suc (MeansAll-length ms)

module _ {e : Source} {nodes : List Node} {xs ys : List Literal} {a b : ℕ} (x : IsWord e nodes xs a) (y : IsWord e nodes ys b) (same : length xs ≡ length ys) where
  same_length : length x.bits ≡ length y.bits
  same_length = MeansAll-length x.means ∙ same ∙ sym (MeansAll-length y.means)

  pub sum-law : {carry : Literal} {k : Bool} → Means e nodes carry k
      → GivesWord e nodes (sum_made nodes [] xs ys carry) ((a + b + one_if k) % 2 ^ length xs)
  sum-law {k = k} m =
      let g = sum-means xs ys none x.means y.means m in
      record {
        grown = g.grown;
        is = record {
          bits = sum_bits x.bits y.bits k;
          means = g.means;
          number = sum-mod x.bits y.bits k same_length
              ∙ ap₂ (λ p q. (p + q + one_if k) % 2 ^ length x.bits) x.number y.number
              ∙ ap (λ n. (a + b + one_if k) % 2 ^ n) (MeansAll-length x.means);
        };
      }

  pub choice-law : {condition : Literal} {c : Bool} → Means e nodes condition c
      → GivesWord e nodes (choice_made nodes [] condition xs ys) (if c then a else b)
  choice-law {c = c} m =
      let g = choice-means xs ys none m x.means y.means in
      record {
        grown = g.grown;
        is = record {
          bits = chosen_bits c x.bits y.bits;
          means = g.means;
          number = chosen-number c x.bits y.bits same_length ∙ ap₂ (λ p q. if c then p else q) x.number y.number;
        };
      }

  pub bitwise-law : (operator : Bitwise) → GivesWord e nodes (bitwise_made operator nodes [] xs ys) (bitwise_number operator (length xs) a b)
  bitwise-law operator =
      let g = bitwise-means operator xs ys none x.means y.means in
      record {
        grown = g.grown;
        is = record {
          bits = bits_of operator x.bits y.bits;
          means = g.means;
          number = bitwise-number operator x.bits y.bits same_length
              ∙ ap₂ (bitwise_number operator (length x.bits)) x.number y.number
              ∙ ap (λ n. bitwise_number operator n a b) (MeansAll-length x.means);
        };
      }

  pub equal-law : Gives e nodes (equal_made nodes (Known true) xs ys) (a == b)
  equal-law =
      let g = equal-means xs ys (known-means e nodes true) x.means y.means in
      record { grown = g.grown; means = means-as (same-number x.bits y.bits same_length ∙ ap₂ (λ p q. p == q) x.number y.number) g.means }

  pub less-law : (signed : Bool) → 1 ≤ length xs
      → Gives e nodes (less_made signed nodes xs ys) (int_lt (integer_of signed (length xs) a) (integer_of signed (length xs) b))
  less-law signed some =
      let g = less-means signed xs ys x.means y.means in
      let is = MeansAll-length x.means in
      record {
        grown = g.grown;
        means = means-as
            (less-number signed x.bits y.bits same_length (omega (arith, some, is))
            ∙ ap₂ (λ p q. int_lt (integer_of signed (length x.bits) p) (integer_of signed (length x.bits) q)) x.number y.number
            ∙ ap (λ n. int_lt (integer_of signed n a) (integer_of signed n b)) is)
            g.means;
      }

opposite-number : (m n p q : ℕ) → m + n + 1 ≡ p → n ≡ q → m + 1 ≡ p - q
opposite-number m n p q is same = omega arith

-- the opposite bits of a word, and 1, are what the number lacks to the power of the width
pub opposite-word : {e : Source} {nodes : List Node} {ys : List Literal} {b : ℕ} → IsWord e nodes ys b
    → (c : ℕ) × IsWord e nodes (map opposite ys) c × (c + 1 ≡ 2 ^ length ys - b)
opposite-word {b = b} y = (
  number_of (map not y.bits),
  record { bits = map not y.bits; means = opposites-mean y.means; number = refl },
  opposite-number (number_of (map not y.bits)) (number_of y.bits) (2 ^ length y.bits) b (number_of-not y.bits) y.number
      ∙ ap (λ n. 2 ^ n - b) (MeansAll-length y.means),
)

gives-as : {e : Source} {nodes : List Node} {w : Word} {p q : ℕ} → p ≡ q → GivesWord e nodes w p → GivesWord e nodes w q
gives-as equal g = record { grown = g.grown; is = record { bits = g.is.bits; means = g.is.means; number = g.is.number ∙ equal } }

pub difference-law : {e : Source} {nodes : List Node} {xs ys : List Literal} {a b : ℕ} → IsWord e nodes xs a → IsWord e nodes ys b → length xs ≡ length ys
    → GivesWord e nodes (difference_made nodes [] xs ys) ((a + (2 ^ length xs - b)) % 2 ^ length xs)
difference-law {e} {nodes} {xs} {ys} {a} {b} x y same =
    let o = opposite-word y in
    let g = sum-law x o.1 (same ∙ sym (length-map ys opposite)) (known-means e nodes true) in
    gives-as (ap (λ n. n % 2 ^ length xs) (add_assoc a o.0 1 ∙ ap (λ n. a + n) (o.2 ∙ ap (λ n. 2 ^ n - b) (sym same)))) g

pub zeros-word : (e : Source) (nodes : List Node) (width : ℕ) → IsWord e nodes (zeros width) 0
zeros-word e nodes width = record { bits = replicate width false; means = zeros-mean e nodes width; number = number_of-zeros width }

pub minus-law : {e : Source} {nodes : List Node} {xs : List Literal} {a : ℕ} → IsWord e nodes xs a
    → GivesWord e nodes (minus_made nodes [] xs) ((2 ^ length xs - a) % 2 ^ length xs)
minus-law {e} {nodes} {xs} {a} x =
    let width = length-replicate (length xs) (Known false) in
    gives-as (ap (λ n. (0 + (2 ^ n - a)) % 2 ^ n) width ∙ ap (λ n. n % 2 ^ length xs) (zero-add (2 ^ length xs - a)))
    (difference-law (zeros-word e nodes (length xs)) x width)
