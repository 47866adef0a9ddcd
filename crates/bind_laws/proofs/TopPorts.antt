-- The inputs and outputs of a design are the top's ports, each once; the inputs of one bit are roots.
use Rattle.std.proofs.Common.{◌≡◌, ◌≢◌, ℕ, zero, suc, ◌≤◌, Bool, true, false, List, [], ◌∷◌, Option, refl, sym, ◌∙◌, ap, subst, arith}
use Rattle.std.specs.Prelude.{⊤, ◌&&◌, ◌||◌, ◌==◌, if◌then◌else◌, not, All, AllPairs}
use Rattle.std.specs.List.{list_all, list_any}
use Rattle.std.proofs.lemmas.Bool.{and_parts, and_from, eqb-true, eq-eqb}
use Rattle.std.proofs.lemmas.List.Kept.{AllPairs-cons}
use Rattle.design_core.specs.declared.signal.Signal.{Signal}
use Rattle.design_core.specs.WellFormed.{is_signal, input_fits}
use Rattle.v_binding.specs.Connections.{Socket}
use Rattle.v_binding.specs.Bound.{Root}
use Rattle.v_binding.specs.Binding.{is_the_clock, top_roots, inputs_of, outputs_of}
use Rattle.bind_laws.specs.Every.{Every}
use Rattle.bind_laws.specs.Scopes.{SocketFits}
use Rattle.bind_laws.specs.Whole.{Whole, RootFits}
use Rattle.bind_laws.proofs.Ports.{socket-there, socket-width}
use Rattle.bind_laws.proofs.PortNumbers.{CountUp, IsInput}

-- ---- numbers that are apart
-- numbers of which each is below all later ones, from a number on
abbrev pub Ascend : ℕ → List ℕ → Type 0
Ascend n [] = ⊤
Ascend n (x ∷ xs) = (n ≤ x) × Ascend (suc x) xs

ascend-lower : (m n : ℕ) (xs : List ℕ) → m ≤ n → Ascend n xs → Ascend m xs
ascend-lower m n [] less up = tt
ascend-lower m n (x ∷ xs) less up = (omega (arith, less, up.0), up.1)

above : (n : ℕ) (xs : List ℕ) → Ascend (suc n) xs → All (λ other. n ≢ other) xs
above n [] up k d below = absurd (omega (arith, below))
above n (x ∷ xs) up zero d below = λ same. omega (arith, up.0, same)
above n (x ∷ xs) up (suc k) d below = above n xs (ascend-lower (suc n) (suc x) xs (omega (arith, up.0)) up.1) k d (omega (arith, below))

no-pairs : AllPairs (λ (one other : ℕ). one ≢ other) []
no-pairs i j d before below = absurd (omega (arith, below))

pub ascend-apart : (n : ℕ) (xs : List ℕ) → Ascend n xs → AllPairs (λ one other. one ≢ other) xs
ascend-apart n [] up = no-pairs
ascend-apart n (x ∷ xs) up = AllPairs-cons (λ one other. one ≢ other) x xs (above x xs up.1) (ascend-apart (suc x) xs up.1)

-- ---- inputs and outputs
abbrev one_more : Bool → ℕ → List ℕ → List ℕ
one_more takes n xs = if takes then n ∷ xs else xs

taken-ascends : (takes : Bool) (p : ℕ) (n : ℕ) (xs : List ℕ) → p ≡ n → Ascend (suc n) xs
    → Ascend n (one_more takes p xs)
taken-ascends true p n xs same up = (omega (arith, same), subst (λ m. Ascend (suc m) xs) (sym same) up)
taken-ascends false p n xs same up = ascend-lower n (suc n) xs (omega arith) up

pub inputs-ascend : (clock : Option ℕ) (ps : List Socket) (n : ℕ) → CountUp ps n → Ascend n (inputs_of clock ps)
inputs-ascend clock [] n count = tt
inputs-ascend clock (p ∷ ps) n count =
    taken-ascends (p.input && not (is_the_clock clock p.signal)) p.signal n (inputs_of clock ps) count.0 (inputs-ascend clock ps (suc n) count.1)

pub outputs-ascend : (ps : List Socket) (n : ℕ) → CountUp ps n → Ascend n (outputs_of ps)
outputs-ascend [] n count = tt
outputs-ascend (p ∷ ps) n count = by p.input (outputs-ascend ps (suc n) count.1)
  where
    by : (input : Bool) → Ascend (suc n) (outputs_of ps)
        → Ascend n (if input then outputs_of ps else p.signal ∷ outputs_of ps)
    by true later = ascend-lower n (suc n) (outputs_of ps) (omega arith) later
    by false later = (omega (arith, count.0), subst (λ m. Ascend (suc m) (outputs_of ps)) (sym count.0) later)

pub inputs-fit : (signals : List Signal) (clock : Option ℕ) (ps : List Socket) → Every (IsInput signals) ps
    → list_all (input_fits signals) (inputs_of clock ps) ≡ true
inputs-fit signals clock [] are = refl
inputs-fit signals clock (p ∷ ps) are = by (p.input && not (is_the_clock clock p.signal)) refl (inputs-fit signals clock ps are.1)
  where
    by : (takes : Bool) → (p.input && not (is_the_clock clock p.signal)) ≡ takes
        → list_all (input_fits signals) (inputs_of clock ps) ≡ true
        → list_all (input_fits signals) (if takes then p.signal ∷ inputs_of clock ps else inputs_of clock ps) ≡ true
    by true is later = and_from _ _ (are.0 (and_parts p.input (not (is_the_clock clock p.signal)) is).0) later
    by false is later = later

pub outputs-fit : (signals : List Signal) (ps : List Socket) → Every (SocketFits signals) ps
    → list_all (is_signal signals) (outputs_of ps) ≡ true
outputs-fit signals [] fit = refl
outputs-fit signals (p ∷ ps) fit = by p.input (outputs-fit signals ps fit.1)
  where
    by : (input : Bool) → list_all (is_signal signals) (outputs_of ps) ≡ true
        → list_all (is_signal signals) (if input then outputs_of ps else p.signal ∷ outputs_of ps) ≡ true
    by true later = later
    by false later = and_from _ _ (socket-there signals p fit.0) later

-- ---- roots
is-among : (x : ℕ) (xs : List ℕ) → list_any (λ i. i == x) (x ∷ xs) ≡ true
is-among x xs = ap (λ b. b || list_any (λ i. i == x) xs) (eq-eqb x x refl)

-- an input that isn't the clock is among the inputs of its list
taken : (clock : Option ℕ) (p : Socket) (ps : List Socket) → p.input ≡ true → is_the_clock clock p.signal ≡ false
    → list_any (λ i. i == p.signal) (inputs_of clock (p ∷ ps)) ≡ true
taken clock p ps input other =
    let takes : (p.input && not (is_the_clock clock p.signal)) ≡ true = and_from _ _ input (ap not other) in
    ap (λ b. list_any (λ i. i == p.signal) (if b then p.signal ∷ inputs_of clock ps else inputs_of clock ps)) takes ∙ is-among p.signal (inputs_of clock ps)

behind : (x : ℕ) (takes : Bool) (n : ℕ) (xs : List ℕ) → list_any (λ i. i == x) xs ≡ true
    → list_any (λ i. i == x) (if takes then n ∷ xs else xs) ≡ true
behind x false n xs later = later
behind x true n xs later = or (n == x) later
  where
    or : (b : Bool) → list_any (λ i. i == x) xs ≡ true → (b || list_any (λ i. i == x) xs) ≡ true
    or true later = refl
    or false later = later

roots-of : (w : Whole) (ps : List Socket) → Every (SocketFits w.signals) ps
    → ((x : ℕ) → list_any (λ i. i == x) (inputs_of w.clock ps) ≡ true → list_any (λ i. i == x) w.inputs ≡ true)
    → Every (λ (r : Root). RootFits w r.input) (top_roots ps)
roots-of w [] fit within = tt
roots-of w (p ∷ ps) fit within =
    by (p.input && p.width == 1) refl
    (roots-of w ps fit.1 (λ x later. within x (behind x (p.input && not (is_the_clock w.clock p.signal)) p.signal (inputs_of w.clock ps) later)))
  where
    by : (root : Bool) → (p.input && p.width == 1) ≡ root → Every (λ (r : Root). RootFits w r.input) (top_roots ps)
        → Every (λ (r : Root). RootFits w r.input)
        (if root then record { signal = p.signal; input = p.signal } ∷ top_roots ps else top_roots ps)
    by false is later = later
    by true is later =
        let f = and_parts p.input (p.width == 1) is in (
          record {
            of_width = socket-width w.signals p fit.0 ∙ eqb-true p.width 1 f.1;
            given = λ other. within p.signal (taken w.clock p ps f.0 other);
          },
          later,
        )

pub roots-fit : (w : Whole) (ps : List Socket) → w.inputs ≡ inputs_of w.clock ps → Every (SocketFits w.signals) ps
    → Every (λ (r : Root). RootFits w r.input) (top_roots ps)
roots-fit w ps same fit = roots-of w ps fit (λ x here. subst (λ xs. list_any (λ i. i == x) xs ≡ true) (sym same) here)
