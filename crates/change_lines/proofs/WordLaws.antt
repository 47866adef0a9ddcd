-- The words of the signals in a cycle, as a simulator gives them.
use Rattle.std.proofs.Common.{◌≡◌, ◌<◌, ◌≤◌, ◌+◌, ◌^◌, ℕ, zero, suc, Bool, true, false, ◌&&◌, List, [], ◌∷◌, ◌++◌, length, map, take, ap, sym, subst, ◌∙◌, refl, arith, ◌⊎◌, inl, inr, Some, None}
use Rattle.std.specs.Prelude.{◌==◌, if◌then◌else◌, nat_lt, slice_get}
use Rattle.std.specs.Option.{option_map_or}
use Rattle.std.proofs.Math.Path.{fun_ext}
use Rattle.std.proofs.lemmas.Bool.{cases_Bool, eqb-true, le-ltb, ltb-false, ltb-true}
use Rattle.std.proofs.lemmas.List.{map-append}
use Rattle.std.proofs.lemmas.Option.{get_or_from_slice_get, slice_get_past}
use Rattle.std.proofs.lemmas.Nat.{pow_pos}
use Rattle.loc_base.specs.declared.bits.Bits.{Bits}
use Rattle.loc_base.specs.Bits.{bit_of, value_of, value_of-range, width_of}
use Rattle.loc_base.proofs.ShelfLists.{slice_get-some, take-at}
use Rattle.design_core.specs.declared.signal.Signal.{Signal}
use Rattle.design_core.specs.declared.design.Design.{Design}
use Rattle.design_core.specs.declared.values.Values.{Values}
use Rattle.design_core.specs.After.{Choice}
use Rattle.design_core.specs.Explained.{IsRow, is_one_of, number_for, place_width, row_of}
use Rattle.design_core.specs.Run.{choice_at}
use Rattle.design_core.specs.Valuation.{Valuation, width_at}
use Rattle.design_core.specs.Words.{valuation_of}
use Rattle.cycle_sim.specs.declared.sim.Sim.{Sim}
use Rattle.cycle_sim.specs.Replaying.{choices_from}
use Rattle.cycle_sim.specs.Simulator.{IsSim, held_by}

-- one word more
pub words-more : (words : List Bits) (word : Bits) (V : Valuation) (n : ℕ) → length words ≡ n
    → ((s b : ℕ) → s < n → valuation_of words s b ≡ V s b) → ((b : ℕ) → bit_of word b ≡ V n b)
    → (s b : ℕ) → s < n + 1 → valuation_of (words ++ word ∷ []) s b ≡ V s b
words-more [] word V zero many before last zero b low = last b
words-more [] word V zero many before last (suc s) b low = absurd (omega (arith, low))
words-more [] word V (suc n) many before last s b low = absurd (omega (arith, many))
words-more (w ∷ words) word V zero many before last s b low = absurd (omega (arith, many))
words-more (w ∷ words) word V (suc n) many before last zero b low = before 0 b (omega arith)
words-more (w ∷ words) word V (suc n) many before last (suc s) b low =
    words-more words word (λ s. V (suc s)) n (omega (arith, many)) (λ s b below. before (suc s) b (omega (arith, below))) last s b (omega (arith, low))

pub widths-more : (signals : List Signal) (words new : List Bits) (word : Bits) (i : ℕ) → i < length signals → width_of word ≡ width_at signals i
    → new ≡ words ++ word ∷ [] → map width_of words ≡ map (λ s. s.width) (take i signals) → map width_of new ≡ map (λ s. s.width) (take (i + 1) signals)
widths-more signals words new word i low width is before =
    let (x, at) = slice_get-some signals i low in
    let own : width_of word ≡ x.width = width ∙ ap (λ o. option_map_or (λ (s : Signal). s.width) o 0) at in
    ap (map width_of) is ∙ map-append width_of words (word ∷ [])
    ∙ ap (λ ls. ls ++ width_of word ∷ []) before
    ∙ ap (λ w. map (λ (s : Signal). s.width) (take i signals) ++ w ∷ []) own
    ∙ sym (map-append (λ (s : Signal). s.width) (take i signals) (x ∷ []))
    ∙ ap (map (λ (s : Signal). s.width)) (sym (take-at signals i x low (sym (get_or_from_slice_get signals i x x at))))

-- beyond the signals a simulator's values are 0
pub sim-past : (sim : Sim) → IsSim sim → (s b : ℕ) → length (held_by sim).design.signals.items ≤ s → (held_by sim).values s b ≡ false
sim-past sim is s b past =
    ap (λ t. t && valuation_of sim.machine.cells.items s b)
    (le-ltb s (length sim.machine.compiled.code.design.now.signals.items)
    (omega (arith, past, ap (λ (d : Design). length d.signals.items) is.holding.compiled.design)))

-- so all words are all values
pub words-all : (words : List Bits) (V : Valuation) → ((s b : ℕ) → s < length words → valuation_of words s b ≡ V s b)
    → ((s b : ℕ) → length words ≤ s → V s b ≡ false) → valuation_of words ≡ V
words-all words V inside past = fun_ext (λ s. fun_ext (λ b. at s b (cases_Bool (nat_lt s (length words)))))
  where
    at : (s b : ℕ) → (nat_lt s (length words) ≡ true) ⊎ (nat_lt s (length words) ≡ false) → valuation_of words s b ≡ V s b
    at s b (inl low) = inside s b (ltb-true s (length words) low)
    at s b (inr high) =
        let far : length words ≤ s = ltb-false s (length words) high in
        ap (λ o. option_map_or (λ w. bit_of w b) o false) (slice_get_past words s far) ∙ sym (past s b far)

-- ---- the word that a row gives for a place has the place's width
pub number_for-below : (d : Design) (places : List ℕ) (row : List Bits) (p : ℕ) → map width_of row ≡ map (place_width d) places
    → number_for places (map value_of row) p < 2 ^ place_width d p
number_for-below d [] row p are = pow_pos (place_width d p)
number_for-below d (q ∷ places) [] p are = absurd (cc)
number_for-below d (q ∷ places) (word ∷ row) p are =
    let own : width_of word ≡ place_width d q = cc in
    let rest : map width_of row ≡ map (place_width d) places = cc in
    at own (number_for-below d places row p rest) (q == p) refl
  where
    at : width_of word ≡ place_width d q → number_for places (map value_of row) p < 2 ^ place_width d p → (t : Bool) → (q == p) ≡ t
        → (if t then value_of word else number_for places (map value_of row) p) < 2 ^ place_width d p
    at own later true same =
        let wide : width_of word ≡ place_width d p = own ∙ ap (place_width d) (eqb-true q p same) in
        let low : value_of word < 2 ^ width_of word = value_of-range word in
        omega (arith, low, ap (λ w. 2 ^ w) wide)
    at own later false other = later

-- so what places take by a row has their widths
pub taken-all : (d : Design) (values : Values) (first t : ℕ) (A : Choice)
    → A ≡ choice_at (is_one_of values.places.items) (choices_from values first) t
    → IsRow d values.places.items (row_of values.places.items values.rows.items (first + t))
    → (p : ℕ) → A.chosen p < 2 ^ place_width d p
taken-all d values first t A is row p =
    subst (λ (B : Choice). B.chosen p < 2 ^ place_width d p) (sym is)
    (number_for-below d values.places.items (row_of values.places.items values.rows.items (first + t)) p row)
