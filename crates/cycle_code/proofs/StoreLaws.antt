-- What a left side leaves in the words of the signals, which stand before the code's own.
use Rattle.std.proofs.Common.{◌≡◌, ℕ, List, ◌++◌, length, map, take, drop, get_or, sym, subst, ◌∙◌, ap}
use Rattle.std.specs.Prelude.{Bool, slice_get, Some}
use Rattle.std.specs.Option.{option_map_or}
use Rattle.std.proofs.lemmas.List.{map-append, take-append-drop, drop-map}
use Rattle.std.proofs.lemmas.Option.{slice_get_within}
use Rattle.loc_base.specs.declared.bits.Bits.{Bits}
use Rattle.loc_base.specs.Bits.{width_of}
use Rattle.loc_base.proofs.ShelfLists.{slice_get-at}
use Rattle.loc_base.proofs.ShelfOptions.{Some-same}
use Rattle.design_core.specs.declared.signal.Signal.{Signal}
use Rattle.design_core.specs.declared.statement.Part.{Part}
use Rattle.design_core.specs.Valuation.{bit}
use Rattle.design_core.specs.After.{after_set}
use Rattle.design_core.specs.Words.{valuation_of, AreWordsOf}
use Rattle.plain_values.proofs.EvaluateStore.{updates}
use Rattle.plain_values.proofs.EvaluateWords.{words-length}
use Rattle.cycle_code.specs.Program.{Program, signals_of, count_of}
use Rattle.cycle_code.specs.Cells.{with_updates, updates_in}
use Rattle.cycle_code.specs.Effects.{with_assigned}
use Rattle.cycle_code.specs.Fitting.{IsSound}
use Rattle.cycle_code.proofs.CellLaws.{updates-same}
use Rattle.cycle_code.proofs.WordCells.{words-later, updates-words, valuation-replaced, image-at}

-- an element that is read at a place, and its image
pub element-image : {X Y : Type 0} (f : X → Y) (xs : List X) (i : ℕ) (y : Y) (x : X) → slice_get (map f xs) i ≡ Some y
    → x ≡ get_or xs i x → f x ≡ y
element-image f xs i y x is at =
    let found = image-at f xs i y is in
    ap f (Some-same (sym (slice_get-at xs i x (slice_get_within xs i found.0 found.1) at) ∙ found.1)) ∙ found.2

-- the words of later updates
pub later-words : (p : Program) (cells rest later : List Bits) (signals : List Signal) → IsSound p
    → map width_of cells ≡ p.widths → signals ≡ signals_of p
    → rest ≡ drop (length signals) cells → later ≡ take (length signals) rest → AreWordsOf signals later
later-words p cells rest later signals sound same is behind front =
    let piece : later ≡ take (count_of p) (drop (count_of p) cells) =
    front ∙ ap (take (length signals)) behind ∙ ap (λ x. take (length x) (drop (length x) cells)) is in
    subst (λ x. AreWordsOf x later) (sym is) (subst (AreWordsOf (signals_of p)) (sym piece) (words-later p cells sound same))

-- three pieces of a list
pieces : (count : ℕ) (whole first second third : List ℕ) → first ≡ take count whole → second ≡ take count (drop count whole)
    → third ≡ drop count (drop count whole) → first ++ (second ++ third) ≡ whole
pieces count whole first second third one two three =
    ap (λ xs. xs ++ (second ++ third)) one
    ∙ ap (λ xs. take count whole ++ (xs ++ third)) two
    ∙ ap (λ xs. take count whole ++ (take count (drop count whole) ++ xs)) three
    ∙ ap (λ xs. take count whole ++ xs) (take-append-drop count (drop count whole))
    ∙ take-append-drop count whole

-- the widths stay
pub store-widths : (p : Program) (cells now later rest : List Bits) (signals : List Signal) → IsSound p
    → map width_of cells ≡ p.widths → signals ≡ signals_of p
    → AreWordsOf signals now → AreWordsOf signals later → rest ≡ drop (count_of p) (drop (count_of p) cells)
    → map width_of (now ++ (later ++ rest)) ≡ p.widths
store-widths p cells now later rest signals sound same is now_words later_words end =
    let count = count_of p in
    let size = ap (map (λ (s : Signal). s.width)) is in
    map-append width_of now (later ++ rest)
    ∙ ap (λ xs. map width_of now ++ xs) (map-append width_of later rest)
    ∙ pieces count p.widths (map width_of now) (map width_of later) (map width_of rest)
    (now_words.widths ∙ size ∙ sym sound.now)
    (later_words.widths ∙ size ∙ sym sound.later)
    (ap (map width_of) end
    ∙ sym (drop-map width_of count (drop count cells))
    ∙ ap (drop count) (sym (drop-map width_of count cells) ∙ ap (drop count) same))

-- and the valuation is the one after the assignment
pub store-value : (p : Program) (cells now later now' later' rest : List Bits) (signals : List Signal) (target value : ℕ)
    (parts parts' : List Part) (is_later : Bool)
    → signals ≡ signals_of p → now ≡ take (count_of p) cells → later ≡ take (count_of p) (drop (count_of p) cells)
    → rest ≡ drop (count_of p) (drop (count_of p) cells) → AreWordsOf signals now' → AreWordsOf signals later' → parts' ≡ parts
    → slice_get p.targets target ≡ Some parts
    → updates (valuation_of now') (valuation_of later') ≡ after_set signals parts' (bit value) is_later
    (updates (valuation_of now) (valuation_of later))
    → valuation_of (now' ++ (later' ++ rest))
    ≡ option_map_or (λ ps. with_assigned p ps value is_later (valuation_of cells)) (slice_get p.targets target) (valuation_of cells)
store-value p cells now later now' later' rest signals target value parts parts' is_later is front middle end now_words
    later_words same found after =
    let count = count_of p in
    let V = valuation_of cells in
    let left : updates (valuation_of now') (valuation_of later') ≡ after_set (signals_of p) parts (bit value) is_later
    (updates_in count V) =
    after
    ∙ ap (λ x. after_set x parts' (bit value) is_later (updates (valuation_of now) (valuation_of later))) is
    ∙ ap (λ x. after_set (signals_of p) x (bit value) is_later (updates (valuation_of now) (valuation_of later))) same
    ∙ ap (after_set (signals_of p) parts (bit value) is_later)
    (updates-same (ap valuation_of front) (ap valuation_of middle) ∙ updates-words count cells) in
    ap (λ xs. valuation_of (now' ++ (later' ++ xs))) end
    ∙ valuation-replaced count cells now' later' (words-length signals now' now_words ∙ ap length is)
    (words-length signals later' later_words ∙ ap length is)
    ∙ ap (λ m. with_updates count m V) left
    ∙ ap (λ o. option_map_or (λ ps. with_assigned p ps value is_later V) o V) (sym found)
