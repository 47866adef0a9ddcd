-- What reads and stores by a variable index mean.
use Rattle.std.proofs.Common.{◌≡◌, ℕ, suc, ◌+◌, ◌*◌, ◌/◌, ◌%◌, ◌^◌, ◌<◌, ◌==◌, Bool, true, false, not, ◌&&◌, List, [], ◌∷◌, length, Option, Some, None, refl, ◌∙◌, ap, arith}
use Rattle.std.proofs.lemmas.Grind.{common_steps}
use Rattle.loc_base.proofs.ShelfBools.{and-assoc}
use Rattle.gate_base.specs.declared.literal.Literal.{Literal}
use Rattle.gate_base.specs.declared.node.Node.{Node}
use Rattle.gate_base.specs.Meaning.{Source, Means, Gives, MeansAll, none, more, differ}
use Rattle.gate_base.proofs.Meaning.{known-means, keep, keep_all, grown-none, grown-then, and-means, or-means, mux-means}
use Rattle.bit_words.specs.Bits.{one_if, number_of, IsWord}
use Rattle.bit_words.specs.Index.{number_made, match_made, pick_made, put_made, is_named, picked, put, NameFits, NamesFit}
use Rattle.bit_words.proofs.Meaning.{means-as, turned-means}
use Rattle.bit_words.proofs.Numbers.{double}
use Rattle.bit_words.proofs.WordLaws.{MeansAll-length}
use Rattle.bit_words.proofs.ProductLaws.{keep_word}

none-left : (a : Bool) (n : ℕ) → n < 1 → a ≡ (a && (0 == n))
none-left true n low = grind (arith, common_steps)
none-left false n low = refl

-- the lowest bit and the others
one-true : (n m : ℕ) → (not (n % 2 == 0) && (m == n / 2)) ≡ (1 + 2 * m == n)
one-true n m = grind (arith, common_steps)

one-false : (n m : ℕ) → ((n % 2 == 0) && (m == n / 2)) ≡ (0 + 2 * m == n)
one-false n m = grind (arith, common_steps)

differ-true : (a : Bool) → differ a true ≡ not a
differ-true true = refl
differ-true false = refl

differ-false : (a : Bool) → differ a false ≡ a
differ-false true = refl
differ-false false = refl

one-more : (b : Bool) (n m : ℕ) → (differ (n % 2 == 0) b && (m == n / 2)) ≡ (one_if b + 2 * m == n)
one-more true n m = ap (λ x. x && (m == n / 2)) (differ-true (n % 2 == 0)) ∙ one-true n m
one-more false n m = ap (λ x. x && (m == n / 2)) (differ-false (n % 2 == 0)) ∙ one-false n m

number-means : {e : Source} (xs : List Literal) (n : ℕ) {nodes : List Node} {so_far : Literal} {a : Bool} {bs : List Bool}
    → Means e nodes so_far a → MeansAll e nodes xs bs → n < 2 ^ length bs → Gives e nodes (number_made nodes so_far xs n) (a && (number_of bs == n))
unfolding number_made
number-means [] n {nodes = nodes} {a = a} ma none low = record { grown = grown-none nodes; means = means-as (none-left a n low) ma }
number-means (x ∷ xs) n {a = a} ma (more {b = b} {bs = bs} m ms) low =
    let q = and-means ma (turned-means (n % 2 == 0) m) in
    let r = number-means xs (n / 2) q.means (keep_all q.grown ms) (half n (2 ^ length bs) (2 ^ suc (length bs)) (double (length bs)) low) in
    record {
      grown = grown-then q.grown r.grown;
      means = means-as (and-assoc a (differ (n % 2 == 0) b) (number_of bs == n / 2) ∙ ap (λ c. a && c) (one-more b n (number_of bs))) r.means;
    }
  where
    half : (n p q : ℕ) → q ≡ 2 * p → n < q → n / 2 < p
    half n p q is low = omega arith

-- whether an index is the number that names a bit
pub match-means : {e : Source} {nodes : List Node} {index : List Literal} {v : ℕ} (name : Option ℕ) → IsWord e nodes index v → NameFits (length index) name
    → Gives e nodes (match_made nodes index name) (is_named v name)
unfolding match_made
match-means {e} {nodes} None x fits = record { grown = grown-none nodes; means = known-means e nodes false }
match-means {e} {nodes} {index} (Some n) x fits =
    let wide : n < 2 ^ length x.bits = rw (MeansAll-length x.means) fits in
    let g = number-means index n (known-means e nodes true) x.means wide in
    record { grown = g.grown; means = means-as (ap (λ m. m == n) x.number) g.means }

pub pick-means : {e : Source} (xs : List Literal) (names : List (Option ℕ)) {nodes : List Node} {so_far : Literal} {index : List Literal} {a : Bool} {v : ℕ} {bs : List Bool}
    → Means e nodes so_far a → IsWord e nodes index v → MeansAll e nodes xs bs → NamesFit (length index) names
    → Gives e nodes (pick_made nodes so_far index xs names) (picked v a bs names)
unfolding pick_made
pick-means [] names {nodes = nodes} ma x none fit = record { grown = grown-none nodes; means = ma }
pick-means (y ∷ xs) [] {nodes = nodes} ma x (more m ms) fit = record { grown = grown-none nodes; means = ma }
pick-means (y ∷ xs) (name ∷ names) ma x (more m ms) fit =
    let q = match-means name x fit.0 in
    let p = and-means (keep q.grown m) q.means in
    let until = grown-then q.grown p.grown in
    let o = or-means (keep until ma) p.means in
    let grown = grown-then until o.grown in
    let r = pick-means xs names o.means (keep_word grown x) (keep_all grown ms) fit.1 in
    record { grown = grown-then grown r.grown; means = r.means }

pub put-means : {e : Source} (xs : List Literal) (names : List (Option ℕ)) {nodes : List Node} {so_far : Literal} {index : List Literal} {a : Bool} {v : ℕ} {bs : List Bool}
    → Means e nodes so_far a → IsWord e nodes index v → MeansAll e nodes xs bs → NamesFit (length index) names
    → Gives e nodes (put_made nodes so_far index xs names) (put v a bs names)
unfolding put_made
put-means [] names {nodes = nodes} ma x none fit = record { grown = grown-none nodes; means = ma }
put-means (y ∷ xs) [] {nodes = nodes} ma x (more m ms) fit = record { grown = grown-none nodes; means = ma }
put-means (y ∷ xs) (name ∷ names) ma x (more m ms) fit =
    let q = match-means name x fit.0 in
    let o = mux-means q.means (keep q.grown m) (keep q.grown ma) in
    let grown = grown-then q.grown o.grown in
    let r = put-means xs names o.means (keep_word grown x) (keep_all grown ms) fit.1 in
    record { grown = grown-then grown r.grown; means = r.means }
