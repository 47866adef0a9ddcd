-- The outputs of a cycle, one more.
use Rattle.std.proofs.Common.{◌≡◌, ℕ, ◌+◌, ◌-◌, ◌^◌, List, [], ◌∷◌, ◌++◌, map, take, ap, sym, ◌∙◌, append_assoc}
use Rattle.std.proofs.Math.Nat.{mod-eq_of_lt}
use Rattle.std.proofs.lemmas.List.{map-append}
use Rattle.loc_base.specs.declared.bits.Bits.{Bits}
use Rattle.loc_base.specs.Bits.{bit_of, value_of, value_of-range, width_of}
use Rattle.design_core.specs.declared.design.Design.{Design}
use Rattle.design_core.specs.declared.trace.Checked.{Checked}
use Rattle.design_core.specs.Valuation.{Valuation, bit, number, width_at}
use Rattle.design_core.proofs.NumberLaws.{number-bit, number-same}
use Rattle.vcd_waves.specs.Lines.{Shown, expected}
use Rattle.set_waves.specs.Making.{all_known}
use Rattle.set_waves.specs.Scenes.{given}

-- a word that has the bits of an output
pub given-known : (d : Design) (V : Valuation) (output : ℕ) (word : Bits) → width_of word ≡ width_at d.signals.items output
    → ((b : ℕ) → bit_of word b ≡ V output b) → all_known word ≡ given d V output
given-known d V output word width bits =
    ap (λ n. shown (width_of word) n) (sym value) ∙ ap (λ w. shown w (number w (V output))) width
  where
    shown : ℕ → ℕ → Shown
    shown w n = record { width = w; value = n; mask = 2 ^ w - 1 }

    value : number (width_of word) (V output) ≡ value_of word
    value = number-same (width_of word) (V output) (bit (value_of word)) (λ b low. sym (bits b))
        ∙ number-bit (width_of word) (value_of word) ∙ mod-eq_of_lt (value_of-range word)

-- one output more
pub output-next : (d : Design) (V : Valuation) (old now : List Checked) (outputs : List ℕ) (i output : ℕ) (entry : Checked)
    → map expected now ≡ map expected old ++ map (given d V) (take i outputs) → expected entry ≡ given d V output
    → take (i + 1) outputs ≡ take i outputs ++ output ∷ []
    → map expected (now ++ entry ∷ []) ≡ map expected old ++ map (given d V) (take (i + 1) outputs)
output-next d V old now outputs i output entry before is more =
    map-append expected now (entry ∷ [])
    ∙ ap (λ xs. xs ++ expected entry ∷ []) before
    ∙ ap (λ x. (map expected old ++ map (given d V) (take i outputs)) ++ x ∷ []) is
    ∙ append_assoc (map expected old) (map (given d V) (take i outputs)) (given d V output ∷ [])
    ∙ ap (λ xs. map expected old ++ xs) (sym (ap (map (given d V)) more ∙ map-append (given d V) (take i outputs) (output ∷ [])))
