-- The digits of a number, from its lowest one.
use Rattle.std.proofs.Common.{ℕ, zero, suc, ◌-◌, ◌/◌, ◌%◌, ◌≡◌, ◌≢◌, List, [], ◌∷◌, ◌++◌, ap, refl, ◌∙◌, arith}
use Rattle.std.proofs.lemmas.List.{append_assoc}
use Rattle.printed_text.specs.Numerals.{hex, hex_digit}

append-none : {X : Type 0} (xs : List X) → xs ≡ xs ++ []
append-none [] = refl
append-none (x ∷ xs) = ap (λ zs. x ∷ zs) (append-none xs)

hex-none : (count number : ℕ) → count ≡ 0 → [] ≡ hex count number
unfolding hex
hex-none zero number none = refl
hex-none (suc count) number none = absurd (omega (arith, none))

hex-more : (count number : ℕ) → count ≢ 0 → hex (count - 1) (number / 16) ++ hex_digit (number % 16) ∷ [] ≡ hex count number
unfolding hex
hex-more zero number some = absurd (some refl)
hex-more (suc count) number some = ap (λ n. hex n (number / 16) ++ hex_digit (number % 16) ∷ []) less
  where
    less : suc count - 1 ≡ count
    less = omega arith

-- no digit, and one more
pub none-pushed : (text : List ℕ) (count number : ℕ) → count ≡ 0 → text ≡ text ++ hex count number
none-pushed text count number none = append-none text ∙ ap (λ t. text ++ t) (hex-none count number none)

pub digit-pushed : (old now new : List ℕ) (count number : ℕ) → count ≢ 0 → now ≡ old ++ hex (count - 1) (number / 16)
    → new ≡ now ++ hex_digit (number % 16) ∷ [] → new ≡ old ++ hex count number
digit-pushed old now new count number some before is =
    is ∙ ap (λ t. t ++ hex_digit (number % 16) ∷ []) before ∙ append_assoc old (hex (count - 1) (number / 16)) (hex_digit (number % 16) ∷ [])
    ∙ ap (λ t. old ++ t) (hex-more count number some)
