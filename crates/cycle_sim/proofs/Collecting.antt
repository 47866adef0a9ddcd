-- Masks that are collected one after another.
use Rattle.std.proofs.Common.{ℕ, zero, suc, ◌+◌, ◌^◌, ◌≡◌, ◌<◌, ◌≤◌, Bool, true, false, ◌&&◌, ◌||◌, List, [], ◌∷◌, ◌++◌, length, drop, refl, ap, sym, subst, ◌∙◌, arith, ◌⊎◌, inl, inr, Some}
use Rattle.std.specs.Prelude.{◌==◌, nat_le, nat_lt, slice_get, option_map}
use Rattle.std.specs.List.{list_any, list_all}
use Rattle.std.specs.Option.{option_map_or}
use Rattle.std.proofs.lemmas.List.{drop_all}
use Rattle.std.proofs.lemmas.Option.{slice_get-map}
use Rattle.std.proofs.lemmas.Bool.Decides.{nat_tests}
use Rattle.std.proofs.lemmas.Bool.{and_parts, eqb-true, leb-true, ltb-true, cases_lt, cases_Bool}
use Rattle.loc_base.specs.declared.bits.Bits.{Bits}
use Rattle.loc_base.specs.Bits.{width_of, bit_of, value_of, value_of-range}
use Rattle.design_core.specs.declared.signal.Signal.{Signal}
use Rattle.design_core.specs.declared.statement.Part.{Part}
use Rattle.design_core.specs.declared.statement.Part.TheVariants.{Whole, Slice, Pick, Word}
use Rattle.design_core.specs.Valuation.{width_at, number, bit, distance_of}
use Rattle.design_core.specs.Pick.{may_pick}
use Rattle.design_core.specs.WellFormed.{is_width, spans, signal_fits, part_fits}
use Rattle.design_core.proofs.ReadsWithin.{slice-below, may_pick-below}
use Rattle.design_core.specs.Drives.{is_among, part_drives}
use Rattle.plain_sim.proofs.EvaluateSteps.{drop-some, slice-at}
use Rattle.plain_sim.proofs.EvaluateSweep.{bit-number}
use Rattle.plain_values.proofs.EvaluateWrite.{bit-high}
use Rattle.plain_sim.proofs.EvaluateSamples.{width-signal}
use Rattle.cycle_sim.specs.declared.mask.Mask.{Mask}
use Rattle.cycle_sim.specs.Masks.{in_mask, covers, AreMasksOf, widths_of}
use Rattle.cycle_sim.specs.Collected.{Adds, first_named, count_named}

or_false : (x : Bool) → (x || false) ≡ x
or_false true = refl
or_false false = refl

or_assoc : (x y z : Bool) → ((x || y) || z) ≡ (x || (y || z))
or_assoc true y z = refl
or_assoc false y z = refl

pub adds-none : (signals : List Signal) (row : List Mask) (test : ℕ → ℕ → Bool) → ((s b : ℕ) → test s b ≡ false) → Adds signals row row test
adds-none signals row test none =
    record { widths = λ w. w; same = λ s b. sym (ap (λ x. covers row s b || x) (none s b) ∙ or_false (covers row s b)) }

pub adds-then : (signals : List Signal) (a b c : List Mask) (one other : ℕ → ℕ → Bool) → Adds signals a b one → Adds signals b c other
    → Adds signals a c (λ s p. one s p || other s p)
adds-then signals a b c one other first second =
    record {
      widths = λ w. second.widths (first.widths w);
      same = λ s p. second.same s p ∙ ap (λ x. x || other s p) (first.same s p) ∙ or_assoc (covers a s p) (one s p) (other s p);
    }

pub adds-as : (signals : List Signal) (a b : List Mask) (one other : ℕ → ℕ → Bool) → ((s p : ℕ) → one s p ≡ other s p)
    → Adds signals a b one → Adds signals a b other
adds-as signals a b one other same added =
    record { widths = added.widths; same = λ s p. added.same s p ∙ ap (λ x. covers a s p || x) (same s p) }

-- ---- a loop over a list
pub record AddsSoFar {X : Type 0} (signals : List Signal) (old new : List Mask) (test : ℕ → ℕ → X → Bool) (xs : List X)
    (i : ℕ) : Type 0 where
  pub widths : AreMasksOf (widths_of signals) old → AreMasksOf (widths_of signals) new
  pub same : (s b : ℕ) → (covers new s b || list_any (test s b) (drop i xs)) ≡ (covers old s b || list_any (test s b) xs)

pub adds-begin : {X : Type 0} (signals : List Signal) (row : List Mask) (test : ℕ → ℕ → X → Bool) (xs : List X)
    → AddsSoFar signals row row test xs 0
adds-begin signals row test xs = record { widths = λ w. w; same = λ s b. refl }

pub adds-next : {X : Type 0} (signals : List Signal) (old new last : List Mask) (test : ℕ → ℕ → X → Bool) (xs : List X)
    (i : ℕ) (x : X) → slice_get xs i ≡ Some x
    → AddsSoFar signals old new test xs i → Adds signals new last (λ s b. test s b x) → AddsSoFar signals old last test xs (i + 1)
adds-next signals old new last test xs i x at before added =
    record {
      widths = λ w. added.widths (before.widths w);
      same = λ s b.
          ap (λ y. y || list_any (test s b) (drop (i + 1) xs)) (added.same s b)
          ∙ or_assoc (covers new s b) (test s b x) (list_any (test s b) (drop (i + 1) xs))
          ∙ sym (ap (λ ys. covers new s b || list_any (test s b) ys) (drop-some xs i x at))
          ∙ before.same s b;
    }

pub adds-end : {X : Type 0} (signals : List Signal) (old new : List Mask) (test : ℕ → ℕ → X → Bool) (xs : List X) (i : ℕ) → length xs ≤ i
    → AddsSoFar signals old new test xs i → Adds signals old new (λ s b. list_any (test s b) xs)
adds-end signals old new test xs i past all =
    record {
      widths = all.widths;
      same = λ s b.
          sym (or_false (covers new s b)) ∙ sym (ap (λ ys. covers new s b || list_any (test s b) ys) (drop_all i xs past)) ∙ all.same s b;
    }

-- ---- one more mask
covers-append : (xs ys : List Mask) (s b : ℕ) → covers (xs ++ ys) s b ≡ (covers xs s b || covers ys s b)
covers-append [] ys s b = refl
covers-append (m ∷ xs) ys s b =
    ap (λ x. in_mask m s b || x) (covers-append xs ys s b) ∙ sym (or_assoc (in_mask m s b) (covers xs s b) (covers ys s b))

pub slice_get-append : {X : Type 0} (xs : List X) (y x : X) (i : ℕ) → slice_get (xs ++ y ∷ []) i ≡ Some x
    → (slice_get xs i ≡ Some x) ⊎ (y ≡ x)
slice_get-append [] y x zero e = inr cc
slice_get-append [] y x (suc i) e = cc
slice_get-append (z ∷ xs) y x zero e = inl e
slice_get-append (z ∷ xs) y x (suc i) e = slice_get-append xs y x i e

widths-push : (signals : List Signal) (row : List Mask) (m : Mask) → slice_get (widths_of signals) m.signal ≡ Some (width_of m.bits)
    → AreMasksOf (widths_of signals) row → AreMasksOf (widths_of signals) (row ++ m ∷ [])
widths-push signals row m fits w =
    record {
      each = λ i other at. elim (slice_get-append row m other i at) [
        | inl before ↦ w.each i other before
        | inr same ↦ subst (λ (x : Mask). slice_get (widths_of signals) x.signal ≡ Some (width_of x.bits)) same fits
      ];
    }

pub mask-added : (signals : List Signal) (row : List Mask) (m : Mask) (test : ℕ → ℕ → Bool)
    → slice_get (widths_of signals) m.signal ≡ Some (width_of m.bits)
    → ((s b : ℕ) → in_mask m s b ≡ test s b) → Adds signals row (row ++ m ∷ []) test
mask-added signals row m test fits same =
    record {
      widths = widths-push signals row m fits;
      same = λ s b. covers-append row (m ∷ []) s b ∙ ap (λ x. covers row s b || x) (or_false (in_mask m s b) ∙ same s b);
    }

-- ---- the signals that a part names, from the first on
pub record NamedSoFar (signals : List Signal) (old new : List Mask) (part : Part) (k : ℕ) : Type 0 where
  pub widths : AreMasksOf (widths_of signals) old → AreMasksOf (widths_of signals) new
  pub same : (s b : ℕ) → covers new s b ≡ (covers old s b || (is_among (first_named part) k s && part_drives signals s b part))

among_none : (first s : ℕ) → is_among first 0 s ≡ false
among_none first s = at (nat_le first s) (nat_lt s (first + 0)) refl refl
  where
    at : (x y : Bool) → nat_le first s ≡ x → nat_lt s (first + 0) ≡ y → (x && y) ≡ false
    at false y p q = refl
    at true false p q = refl
    at true true p q = absurd (omega (arith, leb-true first s p, ltb-true s (first + 0) q))

pub named-begin : (signals : List Signal) (row : List Mask) (part : Part) → NamedSoFar signals row row part 0
named-begin signals row part =
    record {
      widths = λ w. w;
      same = λ s b. sym (ap (λ x. covers row s b || (x && part_drives signals s b part)) (among_none (first_named part) s)
          ∙ or_false (covers row s b));
    }

among_more : (first k s : ℕ) → (is_among first k s || (first + k == s)) ≡ is_among first (k + 1) s
among_more first k s = grind (arith, nat_tests)

spread : (a x y d : Bool) → ((a || (x && d)) || (y && d)) ≡ (a || ((x || y) && d))
spread true x y d = refl
spread false true true true = refl
spread false true true false = refl
spread false true false true = refl
spread false true false false = refl
spread false false y d = refl

pub named-next : (signals : List Signal) (old new last : List Mask) (part : Part) (k : ℕ) → NamedSoFar signals old new part k
    → Adds signals new last (λ s b. first_named part + k == s && part_drives signals s b part) → NamedSoFar signals old last part (k + 1)
named-next signals old new last part k before added =
    record {
      widths = λ w. added.widths (before.widths w);
      same = λ s b.
          added.same s b ∙ ap (λ x. x || (first_named part + k == s && part_drives signals s b part)) (before.same s b)
          ∙ spread (covers old s b) (is_among (first_named part) k s) (first_named part + k == s) (part_drives signals s b part)
          ∙ ap (λ x. covers old s b || (x && part_drives signals s b part)) (among_more (first_named part) k s);
    }

one-among : (s first : ℕ) → (s == first) ≡ true → is_among first 1 s ≡ true
one-among s first e = grind (arith, nat_tests)

drives-among : (signals : List Signal) (s b : ℕ) (part : Part) → part_drives signals s b part ≡ true
    → is_among (first_named part) (count_named part) s ≡ true
drives-among signals s b (Whole signal) h = one-among s signal (and_parts (s == signal) (nat_lt b (width_at signals signal)) h).0
drives-among signals s b (Slice signal from width) h = one-among s signal (and_parts (s == signal) (is_among from width b) h).0
drives-among signals s b (Pick signal index offsets) h = one-among s signal (and_parts (s == signal) _ h).0
drives-among signals s b (Word first count low index from width) h =
    (and_parts (is_among first count s) (nat_lt b (width_at signals s)) h).0

pub named-end : (signals : List Signal) (old new : List Mask) (part : Part) (k : ℕ) → k ≡ count_named part
    → NamedSoFar signals old new part k
    → Adds signals old new (λ s b. part_drives signals s b part)
named-end signals old new part k all h =
    record {
      widths = h.widths;
      same = λ s b. h.same s b ∙ ap (λ n. covers old s b || (is_among (first_named part) n s && part_drives signals s b part)) all
          ∙ ap (λ x. covers old s b || x) (at s b (cases_Bool (part_drives signals s b part)));
    }
  where
    at : (s b : ℕ) → (part_drives signals s b part ≡ true) ⊎ (part_drives signals s b part ≡ false)
        → (is_among (first_named part) (count_named part) s && part_drives signals s b part) ≡ part_drives signals s b part
    at s b (inl drives) = ap (λ x. x && part_drives signals s b part) (drives-among signals s b part drives)
    at s b (inr none) = ap (λ x. is_among (first_named part) (count_named part) s && x) none
        ∙ and_false (is_among (first_named part) (count_named part) s) ∙ sym none
      where
        and_false : (x : Bool) → (x && false) ≡ false
        and_false true = refl
        and_false false = refl

-- an element of a list all of which pass
pub passes-at : {X : Type 0} (test : X → Bool) (xs : List X) (i : ℕ) (x : X) → list_all test xs ≡ true
    → slice_get xs i ≡ Some x → test x ≡ true
passes-at test [] i x all at = cc
passes-at test (y ∷ xs) zero x all at = ap test (sym (first at)) ∙ (and_parts (test y) (list_all test xs) all).0
  where
    first : Some y ≡ Some x → y ≡ x
    first e = cc
passes-at test (y ∷ xs) (suc i) x all at = passes-at test xs i x (and_parts (test y) (list_all test xs) all).1 at

-- a bit that a part drives is one of its signal
pub drives-below : (signals : List Signal) (s b : ℕ) (p : Part) → part_fits signals p ≡ true
    → part_drives signals s b p ≡ true → b < width_at signals s
drives-below signals s b (Whole signal) fits h =
    let both = and_parts (s == signal) (nat_lt b (width_at signals signal)) h in
    subst (λ n. b < width_at signals n) (sym (eqb-true s signal both.0)) (ltb-true b (width_at signals signal) both.1)
drives-below signals s b (Slice signal from width) fits h =
    let both = and_parts (s == signal) (is_among from width b) h in
    subst (λ n. b < width_at signals n) (sym (eqb-true s signal both.0)) (slice-below signals signal from width b fits both.1)
drives-below signals s b (Pick signal index offsets) fits h =
    let both = and_parts (s == signal) (may_pick signals signal index.width index.signed index.node offsets b) h in
    subst (λ n. b < width_at signals n) (sym (eqb-true s signal both.0))
    (may_pick-below signals signal index.width index.signed index.node offsets b both.1)
drives-below signals s b (Word first count low index from width) fits h =
    ltb-true b (width_at signals s) (and_parts (is_among first count s) (nat_lt b (width_at signals s)) h).1

-- a signal that fits has 1 to 128 bits
pub signal-width : (signals : List Signal) (s : ℕ) (signal : Signal) → list_all signal_fits signals ≡ true
    → slice_get signals s ≡ Some signal → (1 ≤ signal.width) × (signal.width ≤ 128)
signal-width signals s signal fits at =
    let all = and_parts (is_width signal.width && spans signal.width (distance_of signal.left signal.right signal.left))
    (width_of signal.start == signal.width) (passes-at signal_fits signals s signal fits at) in
    let width = and_parts (is_width signal.width) (spans signal.width (distance_of signal.left signal.right signal.left)) all.0 in
    let both = and_parts (nat_le 1 signal.width) (nat_le signal.width 128) width.0 in
    (leb-true 1 signal.width both.0, leb-true signal.width 128 both.1)

-- the bits of a word that a part drives are those of the part
pub word-drives : (signals : List Signal) (s : ℕ) (part : Part) (bits : Bits) → part_fits signals part ≡ true
    → width_of bits ≡ width_at signals s
    → value_of bits ≡ number (width_at signals s) (λ b. part_drives signals s b part) → (b : ℕ)
    → bit_of bits b ≡ part_drives signals s b part
word-drives signals s part bits fits width value b = at (cases_lt b (width_at signals s))
  where
    at : (b < width_at signals s) ⊎ (width_at signals s ≤ b) → bit_of bits b ≡ part_drives signals s b part
    at (inl low) = ap (λ n. bit n b) value ∙ bit-number (width_at signals s) (λ b. part_drives signals s b part) b low
    at (inr high) = bit-high (value_of bits) (width_at signals s) b
        (subst (λ w. value_of bits < 2 ^ w) width (value_of-range bits)) high ∙ sym (none (cases_Bool (part_drives signals s b part)))
      where
        none : (part_drives signals s b part ≡ true) ⊎ (part_drives signals s b part ≡ false) → part_drives signals s b part ≡ false
        none (inr off) = off
        none (inl drives) = absurd (omega (arith, high, drives-below signals s b part fits drives))

-- the mask of one signal
pub signal-added : (signals : List Signal) (row : List Mask) (s : ℕ) (part : Part) (bits : Bits)
    → part_fits signals part ≡ true → s < length signals
    → width_of bits ≡ width_at signals s → value_of bits ≡ number (width_at signals s) (λ b. part_drives signals s b part)
    → Adds signals row (row ++ record { signal = s; bits = bits } ∷ []) (λ t b. s == t && part_drives signals t b part)
signal-added signals row s part bits fits within width value =
    mask-added signals row (record { signal = s; bits = bits }) (λ t b. s == t && part_drives signals t b part)
    (let (signal, at) = slice-at signals s within in
    slice_get-map (λ (x : Signal). x.width) signals s ∙ ap (option_map (λ (x : Signal). x.width)) at
    ∙ ap Some (sym (width ∙ ap (λ o. option_map_or (λ (x : Signal). x.width) o 0) at)))
    (λ t b. by_signal t b (s == t) refl)
  where
    by_signal : (t b : ℕ) (x : Bool) → (s == t) ≡ x → (s == t && bit_of bits b) ≡ (s == t && part_drives signals t b part)
    by_signal t b true e =
        ap (λ y. s == t && y) (word-drives signals s part bits fits width value b)
        ∙ ap (λ n. s == t && part_drives signals n b part) (eqb-true s t e)
    by_signal t b false e = ap (λ y. y && bit_of bits b) e ∙ sym (ap (λ y. y && part_drives signals t b part) e)

-- a part that fits names no signal that there isn't
pub signal-missing : (signals : List Signal) (row : List Mask) (s : ℕ) (part : Part) → part_fits signals part ≡ true → length signals ≤ s
    → Adds signals row row (λ t b. s == t && part_drives signals t b part)
signal-missing signals row s part fits past = adds-none signals row (λ t b. s == t && part_drives signals t b part)
    (λ t b. at t b (s == t) refl (cases_Bool (part_drives signals t b part)))
  where
    at : (t b : ℕ) (x : Bool) → (s == t) ≡ x → (part_drives signals t b part ≡ true) ⊎ (part_drives signals t b part ≡ false)
        → (s == t && part_drives signals t b part) ≡ false
    at t b false e d = ap (λ y. y && part_drives signals t b part) e
    at t b true e (inr off) = ap (λ y. y && part_drives signals t b part) e ∙ off
    at t b true e (inl drives) =
        let same : s ≡ t = eqb-true s t e in
        let low : b < width_at signals t = drives-below signals t b part fits drives in
        absurd (omega (arith, past, same, width-signal signals t (omega (arith, low))))
