-- Steps of the loops over words that make no nodes.
use Rattle.std.proofs.Common.{◌≡◌, ℕ, suc, ◌+◌, ◌-◌, ◌/◌, ◌%◌, ◌==◌, ◌≤◌, ◌<◌, false, if◌then◌else◌, List, [], ◌∷◌, ◌++◌, length, get_or, drop, replicate, sym, ◌∙◌, ap, ap₂, arith, append_assoc, append-nil}
use Rattle.std.proofs.lemmas.List.{drop_all}
use Rattle.gate_base.specs.declared.literal.Literal.{Literal}
use Rattle.gate_base.specs.declared.literal.Literal.TheVariants.{Known}
use Rattle.gate_base.proofs.Chains.{drop-literal}
use Rattle.bit_circuit.specs.Wires.{blended_bits, constant_bits, repeated_bits}

pub constant-more : (bits : List Literal) (n b rest : ℕ) → b < n
    → bits ++ constant_bits (n - b) rest ≡ (bits ++ Known (rest % 2 == 1) ∷ []) ++ constant_bits (n - (b + 1)) (rest / 2)
unfolding constant_bits
constant-more bits n b rest less =
    ap (λ k. bits ++ constant_bits k rest) count ∙ sym (append_assoc bits (Known (rest % 2 == 1) ∷ []) (constant_bits (n - (b + 1)) (rest / 2)))
  where
    count : n - b ≡ suc (n - (b + 1))
    count = omega (arith, less)

pub constant-end : (bits : List Literal) (n b rest : ℕ) → n ≤ b → bits ++ constant_bits (n - b) rest ≡ bits
unfolding constant_bits
constant-end bits n b rest past = ap (λ k. bits ++ constant_bits k rest) count ∙ append-nil bits
  where
    count : n - b ≡ 0
    count = omega (arith, past)

pub blend-more : (bits xs ys : List Literal) (rest i : ℕ) → i < length xs → i < length ys
    → bits ++ blended_bits rest (drop i xs) (drop i ys)
    ≡ (bits ++ (if rest % 2 == 1 then get_or xs i (Known false) else get_or ys i (Known false)) ∷ []) ++ blended_bits (rest / 2) (drop (i + 1) xs) (drop (i + 1) ys)
unfolding blended_bits
blend-more bits xs ys rest i in_xs in_ys =
    ap₂ (λ p q. bits ++ blended_bits rest p q) (drop-literal xs i in_xs) (drop-literal ys i in_ys)
    ∙ sym (append_assoc bits ((if rest % 2 == 1 then get_or xs i (Known false) else get_or ys i (Known false)) ∷ []) (blended_bits (rest / 2) (drop (i + 1) xs) (drop (i + 1) ys)))

pub blend-end : (bits xs ys : List Literal) (rest i : ℕ) → length xs ≤ i → bits ++ blended_bits rest (drop i xs) (drop i ys) ≡ bits
unfolding blended_bits
blend-end bits xs ys rest i past = ap (λ p. bits ++ blended_bits rest p (drop i ys)) (drop_all i xs past) ∙ append-nil bits

pub ruleset constants = (constant-more, constant-end)

pub ruleset blends = (blend-more, blend-end)

pub repeat-more : (bits part : List Literal) (n t : ℕ) → t < n
    → bits ++ repeated_bits (n - t) part ≡ (bits ++ part) ++ repeated_bits (n - (t + 1)) part
unfolding repeated_bits
repeat-more bits part n t less =
    ap (λ k. bits ++ repeated_bits k part) count ∙ sym (append_assoc bits part (repeated_bits (n - (t + 1)) part))
  where
    count : n - t ≡ suc (n - (t + 1))
    count = omega (arith, less)

pub repeat-end : (bits part : List Literal) (n t : ℕ) → n ≤ t → bits ++ repeated_bits (n - t) part ≡ bits
unfolding repeated_bits
repeat-end bits part n t past = ap (λ k. bits ++ repeated_bits k part) count ∙ append-nil bits
  where
    count : n - t ≡ 0
    count = omega (arith, past)

pub replace-parts : (bits low part high : List Literal) → ((bits ++ low) ++ part) ++ high ≡ bits ++ (low ++ (part ++ high))
replace-parts bits low part high =
    append_assoc (bits ++ low) part high ∙ append_assoc bits low (part ++ high)

pub ruleset repeats = (repeat-more, repeat-end)

pub ruleset replaces = (replace-parts)

pub fill-more : (bits : List Literal) (l : Literal) (n t : ℕ) → t < n → bits ++ replicate (n - t) l ≡ (bits ++ l ∷ []) ++ replicate (n - (t + 1)) l
fill-more bits l n t less = ap (λ k. bits ++ replicate k l) count ∙ sym (append_assoc bits (l ∷ []) (replicate (n - (t + 1)) l))
  where
    count : n - t ≡ suc (n - (t + 1))
    count = omega (arith, less)

pub fill-end : (bits : List Literal) (l : Literal) (n t : ℕ) → n ≤ t → bits ++ replicate (n - t) l ≡ bits
fill-end bits l n t past = ap (λ k. bits ++ replicate k l) count ∙ append-nil bits
  where
    count : n - t ≡ 0
    count = omega (arith, past)

pub wider-parts : (bits xs ys : List Literal) → (bits ++ xs) ++ ys ≡ bits ++ (xs ++ ys)
wider-parts bits xs ys = append_assoc bits xs ys

pub ruleset fills = (fill-more, fill-end)

pub ruleset resizes = (wider-parts)
