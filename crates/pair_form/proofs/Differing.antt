-- XOR of each two literals of two words: the definitions grow by ANDs, and some of the new literals is true where the words differ.
use Rattle.std.proofs.Common.{◌≡◌, ℕ, ◌≤◌, Bool, true, false, ◌||◌, List, [], ◌∷◌, ◌++◌, length, map, refl, sym, ◌∙◌, ap, ap₂, arith, length-append}
use Rattle.std.proofs.lemmas.Bool.{or_parts}
use Rattle.loc_base.proofs.ShelfBools.{or-false}
use Rattle.gate_base.specs.declared.literal.Literal.{Literal}
use Rattle.gate_base.specs.declared.literal.Literal.TheVariants.{Known, Of}
use Rattle.gate_base.specs.declared.node.Node.{Node}
use Rattle.gate_base.specs.Literals.{IsBelow}
use Rattle.gate_base.specs.Nodes.{xor_made, AddsAnds}
use Rattle.gate_base.specs.Meaning.{Source, Means, Grown, Gives, bit_value, differ}
use Rattle.gate_base.proofs.Counts.{adds-none, adds-then, xor-adds}
use Rattle.gate_base.proofs.Meaning.{keep, grown-none, grown-then, xor-means}
use Rattle.unroller.specs.Reads.{IsWordBelow}
use Rattle.form_laws.specs.Models.{literal_in}
use Rattle.form_laws.proofs.ClauseValues.{some_true}
use Rattle.form_laws.proofs.Definitions.{HasValues, literal-in}
use Rattle.pair_form.specs.Pairs.{differ_made}
use Rattle.pair_form.proofs.Settled.{some-append}

-- ---- literals below a number

pub below-more : (n k : ℕ) (l : Literal) → n ≤ k → IsBelow n l → IsBelow k l
below-more n k (Known value) more below = tt
below-more n k (Of node negated) more below = omega (arith, more, below)

pub word-more : (n k : ℕ) (xs : List Literal) → n ≤ k → IsWordBelow n xs → IsWordBelow k xs
word-more n k [] more below = tt
word-more n k (x ∷ xs) more below = (below-more n k x more below.0, word-more n k xs more below.1)

pub grown-length : {before after : List Node} → Grown before after → length before ≤ length after
grown-length {before} {after} grown = omega (arith, ap length grown.is, length-append before grown.more)

-- a literal of definitions means its value
mean : (e : Source) (nodes : List Node) (l : Literal) → IsBelow (length nodes) l → Means e nodes l (bit_value e nodes l)
mean e nodes l below = record { within = below; value = refl }

xor-gives : (e : Source) (nodes : List Node) (x y : Literal) → IsBelow (length nodes) x → IsBelow (length nodes) y
    → Gives e nodes (xor_made nodes x y) (differ (bit_value e nodes x) (bit_value e nodes y))
xor-gives e nodes x y x_below y_below = xor-means (mean e nodes x x_below) (mean e nodes y y_below)

-- ---- what is made

pub differ-grown : (e : Source) (nodes : List Node) (made xs ys : List Literal) → IsWordBelow (length nodes) xs → IsWordBelow (length nodes) ys
    → Grown nodes (differ_made nodes made xs ys).nodes
unfolding differ_made
differ-grown e nodes made [] ys xs_below ys_below = grown-none nodes
differ-grown e nodes made (x ∷ xs) [] xs_below ys_below = grown-none nodes
differ-grown e nodes made (x ∷ xs) (y ∷ ys) xs_below ys_below =
    let m = xor_made nodes x y in
    let grown = (xor-gives e nodes x y xs_below.0 ys_below.0).grown in
    grown-then grown
    (differ-grown e m.nodes (made ++ m.bit ∷ []) xs ys
    (word-more (length nodes) (length m.nodes) xs (grown-length grown) xs_below.1)
    (word-more (length nodes) (length m.nodes) ys (grown-length grown) ys_below.1))

pub differ-adds : (nodes : List Node) (made xs ys : List Literal) → AddsAnds nodes (differ_made nodes made xs ys).nodes
unfolding differ_made
differ-adds nodes made [] ys = adds-none nodes
differ-adds nodes made (x ∷ xs) [] = adds-none nodes
differ-adds nodes made (x ∷ xs) (y ∷ ys) =
    let m = xor_made nodes x y in adds-then (xor-adds nodes x y) (differ-adds m.nodes (made ++ m.bit ∷ []) xs ys)

-- ---- what it means

-- whether two words differ in a bit that both have
abbrev pub words_differ : List Bool → List Bool → Bool
words_differ [] ws = false
words_differ (v ∷ vs) [] = false
words_differ (v ∷ vs) (w ∷ ws) = differ v w || words_differ vs ws

same-bit : (v w : Bool) → differ v w ≡ false → v ≡ w
same-bit true true none = refl
same-bit true false none = cc
same-bit false true none = cc
same-bit false false none = refl

differ-itself : (v : Bool) → differ v v ≡ false
differ-itself true = refl
differ-itself false = refl

pub differ-none : (vs ws : List Bool) → length vs ≡ length ws → words_differ vs ws ≡ false → vs ≡ ws
differ-none [] [] long none = refl
differ-none [] (w ∷ ws) long none = absurd (omega (arith, long))
differ-none (v ∷ vs) [] long none = absurd (omega (arith, long))
differ-none (v ∷ vs) (w ∷ ws) long none =
    let both = or_parts (differ v w) (words_differ vs ws) none in
    ap₂ (λ x xs. x ∷ xs) (same-bit v w both.0) (differ-none vs ws (omega (arith, long)) both.1)

itself : (vs : List Bool) → words_differ vs vs ≡ false
itself [] = refl
itself (v ∷ vs) = ap₂ (λ p q. p || q) (differ-itself v) (itself vs)

pub differ-same : (vs ws : List Bool) → vs ≡ ws → words_differ vs ws ≡ false
differ-same vs ws same = ap (words_differ vs) (sym same) ∙ itself vs

-- the value of a literal of definitions, behind which more have theirs
value-before : (a : ℕ → Bool) (base : ℕ) (e : Source) (nodes final : List Node) (l : Literal) (b : Bool) → Grown nodes final → HasValues a base e final
    → Means e nodes l b → literal_in a base l ≡ b
unfolding bit_value
value-before a base e nodes final l b grown has means =
    let kept : Means e final l b = keep grown means in
    literal-in a base e final has l kept.within ∙ kept.value

spread : (made bit rest : Bool) → ((made || (bit || false)) || rest) ≡ (made || (bit || rest))
spread true bit rest = refl
spread false true rest = refl
spread false false rest = refl

-- some of the new literals is true where the words differ
pub differ-value : (a : ℕ → Bool) (base : ℕ) (e : Source) (nodes : List Node) (made xs ys : List Literal) → IsWordBelow (length nodes) xs
    → IsWordBelow (length nodes) ys → HasValues a base e (differ_made nodes made xs ys).nodes
    → some_true a base (differ_made nodes made xs ys).bits
    ≡ (some_true a base made || words_differ (map (literal_in a base) xs) (map (literal_in a base) ys))
unfolding differ_made
differ-value a base e nodes made [] ys xs_below ys_below has = sym (or-false (some_true a base made))
differ-value a base e nodes made (x ∷ xs) [] xs_below ys_below has = sym (or-false (some_true a base made))
differ-value a base e nodes made (x ∷ xs) (y ∷ ys) xs_below ys_below has =
    let m = xor_made nodes x y in
    let gives = xor-gives e nodes x y xs_below.0 ys_below.0 in
    let xs_now = word-more (length nodes) (length m.nodes) xs (grown-length gives.grown) xs_below.1 in
    let ys_now = word-more (length nodes) (length m.nodes) ys (grown-length gives.grown) ys_below.1 in
    let final = differ_made m.nodes (made ++ m.bit ∷ []) xs ys in
    let later : Grown m.nodes final.nodes = differ-grown e m.nodes (made ++ m.bit ∷ []) xs ys xs_now ys_now in
    let whole : Grown nodes final.nodes = grown-then gives.grown later in
    let rest = words_differ (map (literal_in a base) xs) (map (literal_in a base) ys) in
    let bit : literal_in a base m.bit ≡ differ (literal_in a base x) (literal_in a base y) =
    value-before a base e m.nodes final.nodes m.bit (differ (bit_value e nodes x) (bit_value e nodes y)) later has gives.means
    ∙ sym (ap₂ (λ p q. differ p q)
    (value-before a base e nodes final.nodes x (bit_value e nodes x) whole has (mean e nodes x xs_below.0))
    (value-before a base e nodes final.nodes y (bit_value e nodes y) whole has (mean e nodes y ys_below.0))) in
    differ-value a base e m.nodes (made ++ m.bit ∷ []) xs ys xs_now ys_now has
    ∙ ap (λ b. b || rest) (some-append a base made (m.bit ∷ []))
    ∙ spread (some_true a base made) (literal_in a base m.bit) rest
    ∙ ap (λ b. some_true a base made || (b || rest)) bit
