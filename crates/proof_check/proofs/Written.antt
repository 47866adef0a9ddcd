-- Text that is written piece by piece.
use Rattle.std.proofs.Common.{◌≡◌, ℕ, ◌+◌, ◌<◌, ◌≤◌, List, ◌∷◌, ◌++◌, length, get_or, map, take, ap, sym, ◌∙◌}
use Rattle.std.specs.Prelude.{decimal}
use Rattle.std.proofs.lemmas.List.{take_more, take_all, map_push, flat_map_more}
use Rattle.clause_base.specs.declared.literal.Lit.{Lit}
use Rattle.proof_check.specs.Text.{literal_text, spaced}

-- one more word
words_more : {A : Type 0} (f : A → List ℕ) (text : List ℕ) (xs : List A) (i : ℕ) (d : A) → i < length xs → (text ++ spaced (map f (take i xs))) ++ 32 ∷ f (get_or xs i d) ≡ text ++ spaced (map f (take (i + 1) xs))
words_more f text xs i d within =
    flat_map_more (λ (word : List ℕ). 32 ∷ word) text (map f (take i xs)) (f (get_or xs i d))
    ∙ ap (λ (ws : List (List ℕ)). text ++ spaced ws) (sym (map_push f (take i xs) (get_or xs i d)) ∙ ap (map f) (sym (take_more xs i d within)))

words_all : {A : Type 0} (f : A → List ℕ) (text : List ℕ) (xs : List A) (i : ℕ) → length xs ≤ i → text ++ spaced (map f (take i xs)) ≡ text ++ spaced (map f xs)
words_all f text xs i past = ap (λ ys. text ++ spaced (map f ys)) (take_all i xs past)

pub literals_more : (text now next : List ℕ) (ls : List Lit) (i : ℕ) (d : Lit) → i < length ls → now ≡ text ++ spaced (map literal_text (take i ls)) → next ≡ now ++ 32 ∷ literal_text (get_or ls i d) → next ≡ text ++ spaced (map literal_text (take (i + 1) ls))
literals_more text now next ls i d within before e = e ∙ ap (λ (t : List ℕ). t ++ 32 ∷ literal_text (get_or ls i d)) before ∙ words_more literal_text text ls i d within

pub literals_all : (text now : List ℕ) (ls : List Lit) (i : ℕ) → length ls ≤ i → now ≡ text ++ spaced (map literal_text (take i ls)) → now ≡ text ++ spaced (map literal_text ls)
literals_all text now ls i past e = e ∙ words_all literal_text text ls i past

pub numbers_more : (text now next : List ℕ) (ns : List ℕ) (i : ℕ) → i < length ns → now ≡ text ++ spaced (map decimal (take i ns)) → next ≡ now ++ 32 ∷ decimal (get_or ns i 0) → next ≡ text ++ spaced (map decimal (take (i + 1) ns))
numbers_more text now next ns i within before e = e ∙ ap (λ (t : List ℕ). t ++ 32 ∷ decimal (get_or ns i 0)) before ∙ words_more decimal text ns i 0 within

pub numbers_all : (text now : List ℕ) (ns : List ℕ) (i : ℕ) → length ns ≤ i → now ≡ text ++ spaced (map decimal (take i ns)) → now ≡ text ++ spaced (map decimal ns)
numbers_all text now ns i past e = e ∙ words_all decimal text ns i past
