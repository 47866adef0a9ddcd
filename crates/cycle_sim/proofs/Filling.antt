-- Words that are pushed one after another, one for each signal.
use Rattle.std.proofs.Common.{ℕ, zero, suc, ◌+◌, ◌≡◌, ◌<◌, ◌≤◌, true, false, List, [], ◌∷◌, ◌++◌, length, get_or, set, take, map, refl, ap, sym, ◌∙◌, arith, ◌⊎◌, inl, inr, Some}
use Rattle.std.specs.Prelude.{slice_get, ◌==◌, ◌&&◌}
use Rattle.std.specs.List.{list_all}
use Rattle.std.specs.Option.{option_map_or}
use Rattle.std.proofs.Math.Seq.{take-length}
use Rattle.std.proofs.lemmas.List.{map-append}
use Rattle.std.proofs.lemmas.Bool.{cases_lt, and_parts, eqb-true}
use Rattle.std.proofs.lemmas.Option.{slice_get_past}
use Rattle.loc_base.specs.declared.bits.Bits.{Bits}
use Rattle.loc_base.specs.Bits.{bit_of, width_of}
use Rattle.design_core.specs.declared.signal.Signal.{Signal}
use Rattle.design_core.specs.Valuation.{Valuation}
use Rattle.design_core.specs.Words.{valuation_of, AreWordsOf}
use Rattle.design_core.specs.Valuation.{distance_of}
use Rattle.design_core.specs.WellFormed.{is_width, spans, signal_fits}
use Rattle.plain_sim.proofs.EvaluateSweep.{valuation-past, Swept, swept-next, swept-all}
use Rattle.plain_sim.proofs.EvaluateSamples.{get_or-default}
use Rattle.plain_values.proofs.EvaluateWords.{slice_get_at, word-width, words-length}
use Rattle.cycle_code.proofs.GrowthLaws.{last-stands}
use Rattle.cycle_sim.specs.Holding.{starts}
use Rattle.cycle_sim.proofs.Collecting.{passes-at}
use Rattle.cycle_sim.proofs.Running.{slice_get-before}

-- the words of the first k signals have the bits of F
pub record Filled (F : Valuation) (signals : List Signal) (words : List Bits) (k : ℕ) : Type 0 where
  pub widths : map width_of words ≡ map (λ s. s.width) (take k signals)
  pub many : length words ≡ k
  pub bits : (s b : ℕ) → s < k → valuation_of words s b ≡ F s b

pub filled-none : (F : Valuation) (signals : List Signal) → Filled F signals [] 0
filled-none F signals = record { widths = refl; many = refl; bits = λ s b low. absurd (omega (arith, low)) }

take-more : {X : Type 0} (xs : List X) (k : ℕ) (x : X) → slice_get xs k ≡ Some x → take (k + 1) xs ≡ take k xs ++ x ∷ []
take-more [] k x e = cc
take-more (y ∷ xs) zero x e = cc
take-more (y ∷ xs) (suc k) x e = ap (λ n. take n (y ∷ xs)) (one-more k) ∙ ap (λ ys. y ∷ ys) (take-more xs k x e)
  where
    one-more : (k : ℕ) → suc k + 1 ≡ suc (k + 1)
    one-more k = omega arith

pub filled-next : (F : Valuation) (signals : List Signal) (words : List Bits) (k : ℕ) (signal : Signal) (word : Bits)
    → slice_get signals k ≡ Some signal
    → Filled F signals words k → width_of word ≡ signal.width → ((b : ℕ) → bit_of word b ≡ F k b)
    → Filled F signals (words ++ word ∷ []) (k + 1)
filled-next F signals words k signal word at before width bits =
    record {
      widths =
          map-append width_of words (word ∷ [])
          ∙ ap (λ ws. ws ++ width_of word ∷ []) before.widths
          ∙ ap (λ w. map (λ (s : Signal). s.width) (take k signals) ++ w ∷ []) width
          ∙ sym (map-append (λ (s : Signal). s.width) (take k signals) (signal ∷ []))
          ∙ sym (ap (map (λ (s : Signal). s.width)) (take-more signals k signal at));
      many = longer words word ∙ ap (λ n. n + 1) before.many;
      bits = λ s b low. by_place s b low (cases_lt s k);
    }
  where
    longer : (ws : List Bits) (w : Bits) → length (ws ++ w ∷ []) ≡ length ws + 1
    longer [] w = refl
    longer (x ∷ ws) w = omega (arith, longer ws w)

    by_place : (s b : ℕ) → s < k + 1 → (s < k) ⊎ (k ≤ s) → valuation_of (words ++ word ∷ []) s b ≡ F s b
    by_place s b low (inl earlier) =
        ap (λ o. option_map_or (λ w. bit_of w b) o false)
        (slice_get-before words (word ∷ []) s (omega (arith, earlier, before.many))) ∙ before.bits s b earlier
    by_place s b low (inr last) =
        let here : s ≡ k = omega (arith, low, last) in
        let own : length words ≡ s = omega (arith, here, before.many) in
        ap (λ o. option_map_or (λ w. bit_of w b) o false) (sym (ap (slice_get (words ++ word ∷ [])) own) ∙ last-stands words word)
        ∙ bits b ∙ sym (ap (λ n. F n b) here)

pub filled-words : (F : Valuation) (signals : List Signal) (words : List Bits) (k : ℕ) → k ≡ length signals
    → Filled F signals words k → AreWordsOf signals words
filled-words F signals words k all h =
    record {
      widths = h.widths ∙ ap (λ n. map (λ (s : Signal). s.width) (take n signals)) all
          ∙ ap (map (λ (s : Signal). s.width)) (take-length signals);
    }

pub filled-bits : (F : Valuation) (signals : List Signal) (words : List Bits) (k : ℕ) → k ≡ length signals → Filled F signals words k
    → ((s b : ℕ) → length signals ≤ s → F s b ≡ false) → (s b : ℕ) → valuation_of words s b ≡ F s b
filled-bits F signals words k all h past s b = at (cases_lt s k)
  where
    at : (s < k) ⊎ (k ≤ s) → valuation_of words s b ≡ F s b
    at (inl low) = h.bits s b low
    at (inr high) = valuation-past words s b (omega (arith, high, h.many)) ∙ sym (past s b (omega (arith, high, all)))

-- ---- words that are put at the start values
pub start-width : (signals : List Signal) (k : ℕ) (signal : Signal) → list_all signal_fits signals ≡ true
    → slice_get signals k ≡ Some signal → width_of signal.start ≡ signal.width
start-width signals k signal fits at =
    eqb-true (width_of signal.start) signal.width
    (and_parts (is_width signal.width && spans signal.width (distance_of signal.left signal.right signal.left))
    (width_of signal.start == signal.width) (passes-at signal_fits signals k signal fits at)).1

pub restart-next : (signals : List Signal) (old words : List Bits) (k : ℕ) (signal : Signal)
    → list_all signal_fits signals ≡ true → AreWordsOf signals old
    → Swept (starts signals) old words k → k < length words → slice_get signals k ≡ Some signal
    → Swept (starts signals) old (set words k signal.start) (k + 1)
restart-next signals old words k signal fits fit before within at =
    swept-next (starts signals) old words k word signal.start before within again
    (start-width signals k signal fits at ∙ sym
    (word-width signals words k word (record { widths = before.widths ∙ fit.widths })
    (slice_get_at words k word within again) ∙ ap (λ o. option_map_or (λ (s : Signal). s.width) o 0) at))
    (λ b. sym (ap (λ o. option_map_or (λ (s : Signal). bit_of s.start b) o false) at))
  where
    word : Bits
    word = get_or words k signal.start

    again : word ≡ get_or words k word
    again = get_or-default words k signal.start word within

pub restart-all : (signals : List Signal) (old words : List Bits) (k : ℕ) → AreWordsOf signals old
    → Swept (starts signals) old words k → length words ≤ k → valuation_of words ≡ starts signals
restart-all signals old words k fit h past =
    swept-all (starts signals) old words k h past
    (λ s b beyond. ap (λ o. option_map_or (λ (x : Signal). bit_of x.start b) o false)
    (slice_get_past signals s (omega (arith, beyond, words-length signals words (record { widths = h.widths ∙ fit.widths })))))
