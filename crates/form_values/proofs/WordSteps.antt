-- Steps of the loops over the columns of a place and the places of a cycle.
use Rattle.std.proofs.Common.{◌≡◌, ℕ, ◌+◌, ◌^◌, ◌<◌, ◌≤◌, Bool, true, false, if◌then◌else◌, List, [], ◌∷◌, ◌++◌, length, map, get_or, take, refl, sym, ◌∙◌, ap, arith, append_assoc}
use Rattle.std.proofs.lemmas.List.{take_all, take_more}
use Rattle.loc_base.specs.declared.bits.Bits.{Bits}
use Rattle.design_core.specs.Valuation.{number}
use Rattle.design_core.proofs.NumberLaws.{number-one_more, number-below, number-zero, power_fits}
use Rattle.unroller.specs.Unrolls.{Unrolling}
use Rattle.unroller.specs.Reads.{IsUnrolled}
use Rattle.unroller.proofs.ReadSteps.{as-long, free-below}

-- ---- bits

-- a column is one of each cycle's
pub column-in : (u : Unrolling) → IsUnrolled u → (row column : ℕ) → row < length u.ends → column < length u.bits
    → column < length (get_or u.frees row [])
column-in u kept row column in_ends within =
    omega (arith, as-long (length u.bits) u.frees row kept.kept.bits_each (omega (arith, in_ends, kept.kept.frees_each)), within)

pub ruleset bits = (column-in, free-below)

-- ---- words

pub word-one : (n : ℕ) (f : ℕ → Bool) → f n ≡ true → number n f + 2 ^ n ≡ number (n + 1) f
word-one n f is = sym (number-one_more n f ∙ ap (λ b. number n f + (if b then 2 ^ n else 0)) is)

pub word-zero : (n : ℕ) (f : ℕ → Bool) → f n ≡ false → number n f ≡ number (n + 1) f
word-zero n f is = sym (number-one_more n f ∙ ap (λ b. number n f + (if b then 2 ^ n else 0)) is ∙ omega arith)

pub ruleset words = (word-one, word-zero, number-below, number-zero, power_fits)

-- ---- rows

map-last : {X : Type 0} (f : X → ℕ) (xs : List X) (x : X) → map f (xs ++ x ∷ []) ≡ map f xs ++ f x ∷ []
map-last f [] x = refl
map-last f (y ∷ xs) x = ap (λ ns. f y ∷ ns) (map-last f xs x)

pub rows-more : (f : List ℕ → ℕ) (before : List ℕ) (columns : List (List ℕ)) (i : ℕ) (d : List ℕ) → i < length columns
    → (before ++ map f (take i columns)) ++ f (get_or columns i d) ∷ [] ≡ before ++ map f (take (i + 1) columns)
rows-more f before columns i d within =
    append_assoc before (map f (take i columns)) (f (get_or columns i d) ∷ [])
    ∙ ap (λ ns. before ++ ns) (sym (ap (map f) (take_more columns i d within) ∙ map-last f (take i columns) (get_or columns i d)))

pub rows-end : (f : List ℕ → ℕ) (before : List ℕ) (columns : List (List ℕ)) (i : ℕ) → length columns ≤ i
    → before ++ map f (take i columns) ≡ before ++ map f columns
rows-end f before columns i past = ap (λ cs. before ++ map f cs) (take_all i columns past)

pub map-push : (f : Bits → ℕ) (rows : List Bits) (word : Bits) → map f (rows ++ word ∷ []) ≡ map f rows ++ f word ∷ []
map-push f rows word = map-last f rows word

pub ruleset rows = (rows-more, rows-end, map-push)
