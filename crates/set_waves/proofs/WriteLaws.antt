-- Writes of one thing after another, each with its number.
use Rattle.std.proofs.Common.{◌≡◌, ℕ, zero, suc, ◌+◌, ◌<◌, ◌≤◌, List, [], ◌∷◌, ◌++◌, length, take, drop, Option, Some, refl, ap, sym, subst, ◌∙◌, arith, append_assoc}
use Rattle.std.specs.Prelude.{slice_get, Err}
use Rattle.std.proofs.Math.Seq.{take-suc}
use Rattle.std.proofs.lemmas.List.{append-nil, take-append-drop, take_all}
use Rattle.std.proofs.lemmas.Option.{get_or_from_slice_get, slice_get_within}
use Rattle.vcd_waves.proofs.ListSteps.{drop-got}
use Rattle.design_core.specs.declared.trace.Trace.{Trace}
use Rattle.design_core.specs.declared.values.Values.{Values}
use Rattle.design_core.specs.declared.values.SetWithValues.{SetWithValues}
use Rattle.design_core.specs.Valuation.{Valuation}
use Rattle.set_waves.specs.Names.{wave_name}
use Rattle.set_waves.specs.Scenes.{wave_text}
use Rattle.set_waves.specs.Waved.{Runs, Waved}
use Rattle.set_waves.specs.Writes.{scene_of, set_writes, text_writes, waves_writes}
use Rattle.write_order.specs.declared.write.WriteErr.{WriteErr}
use Rattle.write_order.specs.declared.write.WriteErr.TheVariants.{Failed, NoMemory}
use Rattle.write_order.specs.Writes.{AreDone, Leaves, Outputs, Write, on_shelf}
use Rattle.write_order.proofs.Carried.{begun-within, done-then, leaves-then, stops-within}

abbrev Texts : Type 0
Texts = List ℕ → Option (List ℕ)

-- where the first of some writes weren't carried out, more of them were due
pub fails-within : (first next : List Write) (o : Outputs) (e : WriteErr) → Leaves {X = Unit {0}} first o (Err e)
    → Leaves {X = Unit {0}} (first ++ next) o (Err e)
fails-within first next o Failed stop = stops-within first next o stop
fails-within first next o NoMemory begun = begun-within first next o begun

length-take : {X : Type 0} (i : ℕ) (xs : List X) → i ≤ length xs → length (take i xs) ≡ i
length-take zero xs less = refl
length-take (suc i) [] less = absurd (omega (arith, less))
length-take (suc i) (x ∷ xs) less = ap suc (length-take i xs (omega (arith, less)))

-- the writes of things from a number on
pub record AreWrites {X : Type 0} (F : ℕ → List X → List Write) (G : ℕ → X → List Write) : Type 0 where
  pub none : (j : ℕ) → F j [] ≡ []
  pub more : (j : ℕ) (x : X) (xs : List X) → F j (x ∷ xs) ≡ G j x ++ F (j + 1) xs

module _ {X : Type 0} (F : ℕ → List X → List Write) (G : ℕ → X → List Write) (are : AreWrites F G) where
  split : (j : ℕ) (one next : List X) → F j (one ++ next) ≡ F j one ++ F (j + length one) next
  split j [] next = ap (λ k. F k next) (same j) ∙ ap (λ (ws : List Write). ws ++ F (j + 0) next) (sym (are.none j))
    where
      same : (k : ℕ) → k ≡ k + 0
      same k = omega arith
  split j (x ∷ one) next =
      are.more j x (one ++ next)
      ∙ ap (λ (ws : List Write). G j x ++ ws) (split (j + 1) one next ∙ ap (λ k. F (j + 1) one ++ F k next) (along j (length one)))
      ∙ sym (append_assoc (G j x) (F (j + 1) one) (F (j + suc (length one)) next))
      ∙ ap (λ (ws : List Write). ws ++ F (j + suc (length one)) next) (sym (are.more j x one))
    where
      along : (a b : ℕ) → a + 1 + b ≡ a + suc b
      along a b = omega arith

  module _ (xs : List X) (i : ℕ) (x : X) (at : slice_get xs i ≡ Some x) where
    within : i < length xs
    within = slice_get_within xs i x at

    many : 0 + length (take i xs) ≡ i
    many = omega (arith, length-take i xs (omega (arith, within)))

    one-more : F 0 (take (i + 1) xs) ≡ F 0 (take i xs) ++ G i x
    one-more =
        ap (λ n. F 0 (take n xs)) (next i)
        ∙ ap (F 0) (take-suc xs i x within ∙ ap (λ (y : X). take i xs ++ y ∷ []) (get_or_from_slice_get xs i x x at))
        ∙ split 0 (take i xs) (x ∷ [])
        ∙ ap (λ (ws : List Write). F 0 (take i xs) ++ ws)
        (ap (λ n. F n (x ∷ [])) many ∙ are.more i x [] ∙ ap (λ (ws : List Write). G i x ++ ws) (are.none (i + 1)) ∙ append-nil (G i x))
      where
        next : (k : ℕ) → k + 1 ≡ suc k
        next k = omega arith

    whole : F 0 xs ≡ (F 0 (take i xs) ++ G i x) ++ F (i + 1) (drop (i + 1) xs)
    whole =
        ap (F 0) (sym (take-append-drop i xs) ∙ ap (λ (ys : List X). take i xs ++ ys) (drop-got xs i x at))
        ∙ split 0 (take i xs) (x ∷ drop (i + 1) xs)
        ∙ ap (λ (ws : List Write). F 0 (take i xs) ++ ws) (ap (λ n. F n (x ∷ drop (i + 1) xs)) many ∙ are.more i x (drop (i + 1) xs))
        ∙ sym (append_assoc (F 0 (take i xs)) (G i x) (F (i + 1) (drop (i + 1) xs)))

    module _ (was mid is : Texts) (printed : List ℕ) (before : AreDone (F 0 (take i xs)) (on_shelf was mid printed)) where
      pub next-done : AreDone (G i x) (on_shelf mid is printed) → AreDone (F 0 (take (i + 1) xs)) (on_shelf was is printed)
      next-done done =
          subst (λ (ws : List Write). AreDone ws (on_shelf was is printed)) (sym one-more)
          (done-then (F 0 (take i xs)) (G i x) was mid is printed printed printed before done)

      pub next-fails : (e : WriteErr) → Leaves {X = Unit {0}} (G i x) (on_shelf mid is printed) (Err e)
          → Leaves {X = Unit {0}} (F 0 xs) (on_shelf was is printed) (Err e)
      next-fails e left =
          subst (λ (ws : List Write). Leaves {X = Unit {0}} ws (on_shelf was is printed) (Err e)) (sym whole)
          (fails-within (F 0 (take i xs) ++ G i x) (F (i + 1) (drop (i + 1) xs)) (on_shelf was is printed) e
          (leaves-then {X = Unit {0}} (F 0 (take i xs)) (G i x) was mid is printed printed printed (Err e) before left))

  pub none-done : (xs : List X) (was : Texts) (printed : List ℕ) → AreDone (F 0 (take 0 xs)) (on_shelf was was printed)
  none-done xs was printed =
      subst (λ (ws : List Write). AreDone ws (on_shelf was was printed)) (sym (are.none 0))
      (record { texts = λ name. refl; printed = sym (append-nil printed) })

  pub all-done : (xs : List X) (i : ℕ) (o : Outputs) → length xs ≤ i → AreDone (F 0 (take i xs)) o → AreDone (F 0 xs) o
  all-done xs i o past done = subst (λ (ys : List X). AreDone (F 0 ys) o) (take_all i xs past) done

-- ---- the waves
-- those of a set, and the wave of one trace
pub set-are : (w : Waved) (prefix : List ℕ) (number : ℕ) (values : Values) (runs : ℕ → List Valuation)
    → AreWrites (set_writes w prefix number values runs)
    (λ j trace. text_writes (wave_name prefix number (j + 1)) (wave_text (scene_of w values j trace) (runs j)))
set-are w prefix number values runs = record { none = λ j. refl; more = λ j trace traces. refl }

-- those of all sets, and those of one
pub sets-are : (w : Waved) (prefix : List ℕ) (runs : Runs)
    → AreWrites (waves_writes w prefix runs) (λ s set. set_writes w prefix (s + 1) set.values (runs s) 0 w.traces)
sets-are w prefix runs = record { none = λ s. refl; more = λ s set sets. refl }

-- there is none where there is no set or no trace
pub none-due : (w : Waved) (prefix : List ℕ) (runs : Runs) (s : ℕ) (sets : List SetWithValues)
    → ¬ ((0 < length sets) × (0 < length w.traces)) → waves_writes w prefix runs s sets ≡ []
none-due w prefix runs s [] none = refl
none-due w prefix runs s (set ∷ sets) none = nothing w.traces refl s (set ∷ sets)
  where
    nothing : (traces : List Trace) → w.traces ≡ traces → (n : ℕ) (all : List SetWithValues) → waves_writes w prefix runs n all ≡ []
    nothing traces e n [] = refl
    nothing [] e n (one ∷ all) =
        ap (λ (ts : List Trace). set_writes w prefix (n + 1) one.values (runs n) 0 ts ++ waves_writes w prefix runs (n + 1) all) e
        ∙ nothing [] e (n + 1) all
    nothing (trace ∷ traces) e n (one ∷ all) =
        absurd (none (omega arith, subst (λ (ts : List Trace). 0 < length ts) (sym e) (omega arith)))

-- and else there are some
pub some-due : (w : Waved) (prefix : List ℕ) (runs : Runs) (sets : List SetWithValues) → 0 < length sets → 0 < length w.traces
    → 0 < length (waves_writes w prefix runs 0 sets)
some-due w prefix runs [] few many = absurd (omega (arith, few))
some-due w prefix runs (set ∷ sets) few many = some w.traces refl many
  where
    some : (traces : List Trace) → w.traces ≡ traces → 0 < length traces → 0 < length (waves_writes w prefix runs 0 (set ∷ sets))
    some [] e many = absurd (omega (arith, many))
    some (trace ∷ traces) e many =
        subst (λ (ts : List Trace). 0 < length (set_writes w prefix (0 + 1) set.values (runs 0) 0 ts ++ waves_writes w prefix runs (0 + 1) sets))
        (sym e) (omega arith)
