-- The digits of a value, from the most significant on.
use Rattle.std.proofs.Common.{◌≡◌, ℕ, zero, suc, ◌+◌, ◌-◌, ◌/◌, ◌%◌, ◌^◌, ◌<◌, ◌≤◌, List, [], ◌∷◌, ◌++◌, refl, sym, ◌∙◌, ap, arith, append_assoc}
use Rattle.std.proofs.lemmas.List.{append-nil}
use Rattle.std.proofs.lemmas.Nat.{shr-shr}
use Rattle.vcd_words.specs.Levels.{digit_of, digits_of}

pub digits_step : (width value mask : ℕ) → digits_of (suc width) value mask ≡ digits_of width (value / 2) (mask / 2) ++ digit_of (value % 2) (mask % 2) ∷ []
unfolding digits_of
digits_step width value mask = refl

pub digits_none : (value mask : ℕ) → digits_of 0 value mask ≡ []
unfolding digits_of
digits_none value mask = refl

halved : (n width : ℕ) → n / 2 / 2 ^ width ≡ n / 2 ^ suc width
halved n width = shr-shr n 1 width ∙ ap (λ k. n / 2 ^ k) (omega arith)

-- the most significant digit
pub digits_first : (width value mask : ℕ) → digits_of (suc width) value mask ≡ digit_of (value / 2 ^ width % 2) (mask / 2 ^ width % 2) ∷ digits_of width value mask
digits_first zero value mask =
    digits_step zero value mask ∙ ap (λ l. l ++ digit_of (value % 2) (mask % 2) ∷ []) (digits_none (value / 2) (mask / 2))
    ∙ ap (λ n. digit_of (n % 2) (mask % 2) ∷ []) v ∙ ap (λ n. digit_of (value / 2 ^ 0 % 2) (n % 2) ∷ []) m
    ∙ ap (λ l. digit_of (value / 2 ^ 0 % 2) (mask / 2 ^ 0 % 2) ∷ l) (sym (digits_none value mask))
  where
    v : value ≡ value / 2 ^ 0
    v = omega arith

    m : mask ≡ mask / 2 ^ 0
    m = omega arith
digits_first (suc width) value mask =
    digits_step (suc width) value mask
    ∙ ap (λ l. l ++ digit_of (value % 2) (mask % 2) ∷ []) (digits_first width (value / 2) (mask / 2))
    ∙ ap (λ n. digit_of (n % 2) (mask / 2 / 2 ^ width % 2) ∷ (digits_of width (value / 2) (mask / 2) ++ digit_of (value % 2) (mask % 2) ∷ [])) (halved value width)
    ∙ ap (λ n. digit_of (value / 2 ^ suc width % 2) (n % 2) ∷ (digits_of width (value / 2) (mask / 2) ++ digit_of (value % 2) (mask % 2) ∷ [])) (halved mask width)
    ∙ ap (λ l. digit_of (value / 2 ^ suc width % 2) (mask / 2 ^ suc width % 2) ∷ l) (sym (digits_step width value mask))

-- one digit more is written
pub digits_go : (done width value mask : ℕ) (text : List ℕ) → done < width
    → text ++ digits_of (width - done) value mask
    ≡ (text ++ digit_of (value / 2 ^ (width - 1 - done) % 2) (mask / 2 ^ (width - 1 - done) % 2) ∷ []) ++ digits_of (width - (done + 1)) value mask
digits_go done width value mask text within =
    let left : width - done ≡ suc (width - 1 - done) = omega arith in
    let less : width - 1 - done ≡ width - (done + 1) = omega arith in
    ap (λ n. text ++ digits_of n value mask) left ∙ ap (λ l. text ++ l) (digits_first (width - 1 - done) value mask)
    ∙ ap (λ n. text ++ digit_of (value / 2 ^ (width - 1 - done) % 2) (mask / 2 ^ (width - 1 - done) % 2) ∷ digits_of n value mask) less
    ∙ sym (append_assoc text (digit_of (value / 2 ^ (width - 1 - done) % 2) (mask / 2 ^ (width - 1 - done) % 2) ∷ []) (digits_of (width - (done + 1)) value mask))

-- all are written
pub digits_end : (done width value mask : ℕ) (text : List ℕ) → width ≤ done → text ++ digits_of (width - done) value mask ≡ text
digits_end done width value mask text all =
    let none : width - done ≡ 0 = omega arith in
    ap (λ n. text ++ digits_of n value mask) none ∙ ap (λ l. text ++ l) (digits_none value mask) ∙ append-nil text

pub ruleset digit_steps = (digits_go, digits_end)
