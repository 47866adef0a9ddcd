-- The text of outputs.
use Rattle.std.proofs.Common.{ℕ, ◌≡◌, List, [], ◌∷◌, ◌++◌, map, ap, sym, refl, ◌∙◌}
use Rattle.std.specs.Prelude.{codes, decimal}
use Rattle.std.specs.List.{flat_map}
use Rattle.std.proofs.lemmas.List.{append_assoc}
use Rattle.std.proofs.Math.Nat.{mod-eq_of_lt}
use Rattle.loc_base.specs.declared.bits.Bits.{Bits}
use Rattle.loc_base.specs.Bits.{bit_of, value_of, value_of-range, width_of}
use Rattle.design_core.specs.declared.signal.Signal.{Signal}
use Rattle.design_core.specs.Valuation.{Valuation, bit, number, width_at}
use Rattle.design_core.proofs.NumberLaws.{number-bit, number-same}
use Rattle.printed_text.specs.Numerals.{newline, value_text}
use Rattle.sim_lines.specs.Lines.{line_text, name_at, shown, shown_text, values}

-- the value of a word that has the bits of a signal
value-shown : (signals : List Signal) (V : Valuation) (s : ℕ) (word : Bits) → width_of word ≡ width_at signals s → ((b : ℕ) → bit_of word b ≡ V s b)
    → value_text (width_of word) (value_of word) ≡ value_text (width_at signals s) (number (width_at signals s) (V s))
value-shown signals V s word width bits =
    ap (value_text (width_of word)) (sym value) ∙ ap (λ w. value_text w (number w (V s))) width
  where
    value : number (width_of word) (V s) ≡ value_of word
    value = number-same (width_of word) (V s) (bit (value_of word)) (λ b low. sym (bits b)) ∙ number-bit (width_of word) (value_of word) ∙ mod-eq_of_lt (value_of-range word)

-- outputs one by one
outputs-shown : (signals : List Signal) (V : Valuation) (outputs : List ℕ)
    → flat_map (λ s. shown_text (shown signals V s)) outputs ≡ flat_map shown_text (map (shown signals V) outputs)
outputs-shown signals V [] = refl
outputs-shown signals V (s ∷ outputs) = ap (λ t. shown_text (shown signals V s) ++ t) (outputs-shown signals V outputs)

joined : (o a b c e : List ℕ) → o ++ a ++ b ++ c ++ e ≡ o ++ (a ++ b ++ c ++ e)
joined o a b c e =
    sym (sym (append_assoc o (a ++ b ++ c) e) ∙ ap (λ t. t ++ e) (sym (append_assoc o (a ++ b) c)) ∙ ap (λ t. t ++ c ++ e) (sym (append_assoc o a b)))

-- an output, piece by piece
pub output-pushed : (signals : List Signal) (V : Valuation) (s : ℕ) (word : Bits) (old one two three new : List ℕ) → one ≡ old ++ codes " " → two ≡ one ++ name_at signals s
    → three ≡ two ++ codes "=" → new ≡ three ++ value_text (width_of word) (value_of word) → width_of word ≡ width_at signals s → ((b : ℕ) → bit_of word b ≡ V s b)
    → new ≡ old ++ shown_text (shown signals V s)
output-pushed signals V s word old one two three new a b c e width bits =
    e ∙ ap (λ t. t ++ value_text (width_of word) (value_of word)) (c ∙ ap (λ t. t ++ codes "=") (b ∙ ap (λ t. t ++ name_at signals s) a))
    ∙ joined old (codes " ") (name_at signals s) (codes "=") (value_text (width_of word) (value_of word))
    ∙ ap (λ t. old ++ (codes " " ++ name_at signals s ++ codes "=" ++ t)) (value-shown signals V s word width bits)

-- the line of a cycle, piece by piece
pub cycle-pushed : (signals : List Signal) (V : Valuation) (outputs : List ℕ) (trace cycle : ℕ) (old one two three four new : List ℕ) → one ≡ old ++ decimal trace
    → two ≡ one ++ codes " " → three ≡ two ++ decimal cycle → four ≡ three ++ flat_map (λ s. shown_text (shown signals V s)) outputs → new ≡ four ++ newline
    → new ≡ old ++ line_text (values trace cycle (map (shown signals V) outputs))
cycle-pushed signals V outputs trace cycle old one two three four new a b c e f =
    f ∙ ap (λ t. t ++ newline) (e ∙ ap (λ t. t ++ flat_map (λ s. shown_text (shown signals V s)) outputs) (c ∙ ap (λ t. t ++ decimal cycle) (b ∙ ap (λ t. t ++ codes " ") a)))
    ∙ ap (λ t. old ++ decimal trace ++ codes " " ++ decimal cycle ++ t ++ newline) (outputs-shown signals V outputs)
    ∙ ap (λ t. t ++ newline) (joined old (decimal trace) (codes " ") (decimal cycle) (flat_map shown_text (map (shown signals V) outputs)))
    ∙ append_assoc old (decimal trace ++ codes " " ++ decimal cycle ++ flat_map shown_text (map (shown signals V) outputs)) newline
