-- Start values change nothing else of the signals, and each has its signal's width.
use Rattle.std.proofs.Common.{◌≡◌, ℕ, zero, suc, ◌+◌, Bool, true, false, List, [], ◌∷◌, length, Some, refl, sym, ◌∙◌, ap, subst, arith, map}
use Rattle.std.specs.Prelude.{⊤, ◌==◌, if◌then◌else◌, slice_get}
use Rattle.std.specs.Option.{option_map_or}
use Rattle.std.specs.List.{list_all}
use Rattle.std.proofs.lemmas.Bool.{and_parts, and_from, eqb-true, eq-eqb}
use Rattle.loc_base.proofs.ShelfOptions.{Some-same}
use Rattle.loc_base.specs.Bits.{width_of}
use Rattle.loc_base.specs.declared.bits.Bits.{Bits}
use Rattle.design_core.specs.declared.signal.Signal.{Signal}
use Rattle.design_core.specs.Valuation.{width_at}
use Rattle.design_core.specs.WellFormed.{signal_fits}
use Rattle.v_binding.specs.Steps.{through}
use Rattle.v_binding.specs.Signals.{Numbered}
use Rattle.v_binding.specs.Starts.{Start, with_start, started_from, started, all_started}
use Rattle.bind_laws.specs.Every.{Every}
use Rattle.bind_laws.proofs.Numbers.{SameSignal, AreSame}
use Rattle.bind_laws.proofs.Declared.{NumberedFits}

-- ---- signals that differ in their start values alone
pub record Alike (s t : Signal) : Type 0 where
  pub of_width : t.width ≡ s.width
  pub of_left : t.left ≡ s.left
  pub of_right : t.right ≡ s.right
  pub kind : t.kind ≡ s.kind

abbrev pub AllAlike : List Signal → List Signal → Type 0
AllAlike [] [] = ⊤
AllAlike (s ∷ ss) (t ∷ ts) = Alike s t × AllAlike ss ts
AllAlike _ _ = ⊥

alike-itself : (s : Signal) → Alike s s
alike-itself s = record { of_width = refl; of_left = refl; of_right = refl; kind = refl }

all-alike : (ss : List Signal) → AllAlike ss ss
all-alike [] = tt
all-alike (s ∷ ss) = (alike-itself s, all-alike ss)

alike-on : (ss ts us : List Signal) → AllAlike ss ts → AllAlike ts us → AllAlike ss us
alike-on [] [] [] one other = tt
alike-on [] [] (u ∷ us) one other = other
alike-on [] (t ∷ ts) us one other = absurd one
alike-on (s ∷ ss) [] us one other = absurd one
alike-on (s ∷ ss) (t ∷ ts) [] one other = absurd other
alike-on (s ∷ ss) (t ∷ ts) (u ∷ us) one other = (
  record {
    of_width = other.0.of_width ∙ one.0.of_width;
    of_left = other.0.of_left ∙ one.0.of_left;
    of_right = other.0.of_right ∙ one.0.of_right;
    kind = other.0.kind ∙ one.0.kind;
  },
  alike-on ss ts us one.1 other.1,
)

started-alike : (number : ℕ) (x : Start) (ss : List Signal) → AllAlike ss (started_from number x ss)
started-alike number x [] = tt
started-alike number x (s ∷ ss) = (by (number == x.signal), started-alike (number + 1) x ss)
  where
    by : (at : Bool) → Alike s (if at then with_start s x.value else s)
    by true = record { of_width = refl; of_left = refl; of_right = refl; kind = refl }
    by false = alike-itself s

through-alike : (xs : List Start) (ss : List Signal) → AllAlike ss (through started xs ss)
through-alike [] ss = all-alike ss
through-alike (x ∷ xs) ss = alike-on ss (started x ss) (through started xs (started x ss)) (started-alike 0 x ss) (through-alike xs (started x ss))

-- widths stay
width-alike : (ss ts : List Signal) → AllAlike ss ts → (k : ℕ) → width_at ts k ≡ width_at ss k
width-alike [] [] alike k = refl
width-alike [] (t ∷ ts) alike k = absurd alike
width-alike (s ∷ ss) [] alike k = absurd alike
width-alike (s ∷ ss) (t ∷ ts) alike zero = alike.0.of_width
width-alike (s ∷ ss) (t ∷ ts) alike (suc k) = width-alike ss ts alike.1 k

signal-alike : (ns : List Numbered) (ts : List Signal) → AllAlike (map (λ n. n.signal) ns) ts → (k : ℕ) (n : Numbered)
    → slice_get ns k ≡ Some n → SameSignal n (slice_get ts k)
signal-alike [] ts alike k n at = cc
signal-alike (m ∷ ms) [] alike k n at = absurd alike
signal-alike (m ∷ ms) (t ∷ ts) alike zero n at =
    let here : m ≡ n = Some-same at in
    subst (λ (x : Numbered). SameSignal x (Some t)) here
    (record { signal = t; is = refl; of = record { of_width = alike.0.of_width; of_left = alike.0.of_left; of_right = alike.0.of_right }; kind = alike.0.kind })
signal-alike (m ∷ ms) (t ∷ ts) alike (suc k) n at = signal-alike ms ts alike.1 k n at

pub started-same : (starts : List Start) (ns : List Numbered) → AreSame ns (all_started starts ns)
started-same starts ns = signal-alike ns (all_started starts ns) (through-alike starts (map (λ n. n.signal) ns))

length-alike : (ss ts : List Signal) → AllAlike ss ts → length ts ≡ length ss
length-alike [] [] alike = refl
length-alike [] (t ∷ ts) alike = absurd alike
length-alike (s ∷ ss) [] alike = absurd alike
length-alike (s ∷ ss) (t ∷ ts) alike = omega (arith, length-alike ss ts alike.1)

numbers-length : (ns : List Numbered) → length (map (λ n. n.signal) ns) ≡ length ns
numbers-length [] = refl
numbers-length (n ∷ ns) = omega (arith, numbers-length ns)

pub started-length : (starts : List Start) (ns : List Numbered) → length (all_started starts ns) ≡ length ns
started-length starts ns = length-alike (map (λ n. n.signal) ns) (all_started starts ns) (through-alike starts (map (λ n. n.signal) ns)) ∙ numbers-length ns

-- ---- that they fit
start-fits : (s : Signal) (value : Bits) → signal_fits s ≡ true → width_of value ≡ s.width
    → signal_fits (with_start s value) ≡ true
start-fits s value fits same = and_from _ _ (and_parts _ _ fits).0 (eq-eqb (width_of value) s.width same)

started-fits : (number : ℕ) (x : Start) (ss : List Signal) → list_all signal_fits ss ≡ true
    → ((k : ℕ) (s : Signal) → slice_get ss k ≡ Some s → number + k ≡ x.signal → width_of x.value ≡ s.width)
    → list_all signal_fits (started_from number x ss) ≡ true
started-fits number x [] fits wide = refl
started-fits number x (s ∷ ss) fits wide =
    let f = and_parts _ _ fits in
    and_from _ _ (by (number == x.signal) refl f.0) (started-fits (number + 1) x ss f.1 (λ k t at is. wide (suc k) t at (omega (arith, is))))
  where
    by : (here : Bool) → (number == x.signal) ≡ here → signal_fits s ≡ true
        → signal_fits (if here then with_start s x.value else s) ≡ true
    by true is first = start-fits s x.value first (wide 0 s refl (omega (arith, eqb-true number x.signal is)))
    by false is first = first

found-width : (ss : List Signal) (k : ℕ) (s : Signal) → slice_get ss k ≡ Some s → s.width ≡ width_at ss k
found-width ss k s at = sym (ap (λ o. option_map_or (λ (t : Signal). t.width) o 0) at)

one-fits : (x : Start) (ss : List Signal) → list_all signal_fits ss ≡ true → width_of x.value ≡ width_at ss x.signal
    → list_all signal_fits (started x ss) ≡ true
one-fits x ss fits wide = started-fits 0 x ss fits (λ k s at is.
    let here : k ≡ x.signal = omega (arith, is) in
    wide ∙ sym (ap (width_at ss) here) ∙ sym (found-width ss k s at))

through-fits : (xs : List Start) (ss : List Signal) → list_all signal_fits ss ≡ true
    → Every (λ (x : Start). width_of x.value ≡ width_at ss x.signal) xs
    → list_all signal_fits (through started xs ss) ≡ true
through-fits [] ss fits wide = fits
through-fits (x ∷ xs) ss fits wide =
    through-fits xs (started x ss) (one-fits x ss fits wide.0) (moved xs wide.1)
  where
    moved : (ys : List Start) → Every (λ (y : Start). width_of y.value ≡ width_at ss y.signal) ys
        → Every (λ (y : Start). width_of y.value ≡ width_at (started x ss) y.signal) ys
    moved [] all = tt
    moved (y ∷ ys) all = (all.0 ∙ sym (width-alike ss (started x ss) (started-alike 0 x ss) y.signal), moved ys all.1)

numbered-fit : (ns : List Numbered) → Every NumberedFits ns → list_all signal_fits (map (λ n. n.signal) ns) ≡ true
numbered-fit [] all = refl
numbered-fit (n ∷ ns) all = and_from _ _ all.0 (numbered-fit ns all.1)

pub all_started-fit : (starts : List Start) (ns : List Numbered) → Every NumberedFits ns
    → Every (λ (x : Start). width_of x.value ≡ width_at (all_started starts ns) x.signal) starts
    → list_all signal_fits (all_started starts ns) ≡ true
all_started-fit starts ns all wide =
    through-fits starts (map (λ n. n.signal) ns) (numbered-fit ns all) (moved starts wide)
  where
    moved : (ys : List Start) → Every (λ (y : Start). width_of y.value ≡ width_at (all_started starts ns) y.signal) ys
        → Every (λ (y : Start). width_of y.value ≡ width_at (map (λ n. n.signal) ns) y.signal) ys
    moved [] all = tt
    moved (y ∷ ys) all =
        (all.0 ∙ width-alike (map (λ n. n.signal) ns) (all_started starts ns) (through-alike starts (map (λ n. n.signal) ns)) y.signal, moved ys all.1)
