-- A signal's word, as it is shown.
use Rattle.std.proofs.Common.{◌≡◌, ℕ, true, false, List, [], ◌∷◌, ◌++◌, length, map, append_assoc, ap, sym, ◌∙◌, refl, Some, None, Option, option_map, arith}
use Rattle.std.specs.Prelude.{◌==◌, Err, Ok, OnOk, Result, codes, slice_get}
use Rattle.std.specs.List.{flat_map}
use Rattle.std.proofs.lemmas.List.Folds.{flat_map-map}
use Rattle.std.specs.Option.{option_map_or}
use Rattle.std.proofs.lemmas.Bool.{eqb-true}
use Rattle.std.proofs.lemmas.Option.{slice_get-map}
use Rattle.loc_base.specs.declared.bits.Bits.{Bits}
use Rattle.loc_base.specs.Bits.{width_of, value_of}
use Rattle.printed_text.specs.Numerals.{hex, value_text}
use Rattle.design_core.specs.declared.signal.Signal.{Signal}
use Rattle.design_core.specs.declared.design.Design.{Design}
use Rattle.design_core.specs.Valuation.{number, width_at}
use Rattle.design_core.specs.Words.{AreWordsOf, valuation_of}
use Rattle.plain_values.proofs.EvaluateWords.{number-word, word-width}
use Rattle.change_lines.specs.Lines.{Shown, operands_text, shown, shown_text}

-- the text of a signal's value in words
abbrev pub shown_word : Design → List Bits → ℕ → List ℕ
shown_word d words s = value_text (shown d (valuation_of words) s).width (shown d (valuation_of words) s).value

pub shown-some : (d : Design) (words : List Bits) (s : ℕ) (word : Bits) → AreWordsOf d.signals.items words → slice_get words s ≡ Some word
    → shown_word d words s ≡ value_text (width_of word) (value_of word)
shown-some d words s word are is =
    let width : width_of word ≡ width_at d.signals.items s = word-width d.signals.items words s word are is in
    ap (λ w. value_text w (number w (valuation_of words s))) (sym width) ∙ ap (value_text (width_of word)) (number-word words s word is)

none-width : (o : Option Signal) → None ≡ option_map (λ x. x.width) o → option_map_or (λ (x : Signal). x.width) o 0 ≡ 0
none-width None e = refl
none-width (Some x) e = cc

-- a number that is none's has no digits
pub shown-none : (d : Design) (words : List Bits) (s : ℕ) → AreWordsOf d.signals.items words → slice_get words s ≡ None → shown_word d words s ≡ []
unfolding hex
shown-none d words s are is =
    let none : width_at d.signals.items s ≡ 0 =
    none-width (slice_get d.signals.items s)
    (sym (ap (option_map width_of) is) ∙ sym (slice_get-map width_of words s) ∙ ap (λ ws. slice_get ws s) are.widths
    ∙ slice_get-map (λ x. x.width) d.signals.items s) in
    ap (λ w. value_text w (number w (valuation_of words s))) none

-- ---- results
pub on-ok : {T E : Type 0} (r : Result T E) (P Q : Type 0) → (P → Q) → OnOk r P → OnOk r Q
on-ok (Ok x) P Q f holds = f holds
on-ok (Err e) P Q f holds = tt

-- ---- operands
pub operands-none : (f : ℕ → Shown) (signals : List ℕ) → (length signals == 0) ≡ true → operands_text (map f signals) ≡ []
operands-none f [] none = refl
operands-none f (s ∷ signals) none = absurd (omega (arith, eqb-true (length (s ∷ signals)) 0 none))

pub operands-some : (f : ℕ → Shown) (signals : List ℕ) → (length signals == 0) ≡ false
    → operands_text (map f signals) ≡ codes ";" ++ flat_map (λ s. shown_text (f s)) signals
operands-some f [] some = absurd (cc)
operands-some f (s ∷ signals) some = ap (λ t. codes ";" ++ t) (flat_map-map shown_text f (s ∷ signals))

pub ruleset operand_texts = (operands-none, operands-some)

-- ---- a line
pub line-whole : (start one two three four five place cycle words operands end : List ℕ) → start ≡ [] → one ≡ start ++ place → two ≡ one ++ cycle
    → three ≡ two ++ words → four ≡ three ++ operands → five ≡ four ++ end → five ≡ place ++ cycle ++ words ++ operands ++ end
line-whole start one two three four five place cycle words operands end none first second third fourth fifth =
    fifth
    ∙ ap (λ t. t ++ end)
    (fourth ∙ ap (λ t. t ++ operands) (third ∙ ap (λ t. t ++ words) (second ∙ ap (λ t. t ++ cycle) (first ∙ ap (λ t. t ++ place) none))))
    ∙ simp append_assoc
