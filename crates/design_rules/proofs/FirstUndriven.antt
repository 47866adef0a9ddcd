-- The first net with a bit that is used and has no driver, from the masks of the bits that are used and driven.
use Rattle.std.proofs.Common.{ℕ, zero, suc, ◌≡◌, ◌<◌, ◌+◌, List, [], ◌∷◌, length, get_or, Bool, true, false, refl, sym, ◌∙◌, ap, ap₂, arith, Some, None, ◌⊎◌, inl, inr}
use Rattle.std.specs.Prelude.{◌==◌, ◌&&◌, ◌||◌, not, nat_lt, Option, slice_get, count_by, IfNone, IfSome}
use Rattle.std.specs.Option.{option_map_or}
use Rattle.std.specs.List.{list_any}
use Rattle.std.proofs.lemmas.Bool.{false≢true, and_parts, or_cases, ltb-true}
use Rattle.std.proofs.lemmas.Bool.Decides.{nat_tests}
use Rattle.loc_base.proofs.ShelfBools.{or-false, or-true, and-true, count-true, count-false}
use Rattle.loc_base.proofs.ShelfLists.{list_any-found, list_all-member}
use Rattle.design_core.specs.declared.signal.Signal.{Signal}
use Rattle.design_core.specs.declared.design.Design.{Design}
use Rattle.design_core.specs.Valuation.{width_at}
use Rattle.design_core.specs.Drives.{driver_drives, block_drives, is_among}
use Rattle.design_core.specs.Mentions.{driver_mentions, block_mentions}
use Rattle.design_core.specs.Given.{CanRun}
use Rattle.design_core.specs.WellFormed.{driver_fits, clocked_fits}
use Rattle.design_bits.specs.Masks.{exceeds, has}
use Rattle.design_bits.proofs.DrivesWithin.{width-within}
use Rattle.design_bits.proofs.ShareLaws.{exceeds-found, exceeds-bit}
use Rattle.design_rules.specs.DrivenReads.{IsUndriven}
use Rattle.design_rules.specs.Entries.{driven_times, is_mentioned, is_output_bit, is_net_kind}
use Rattle.design_rules.specs.First.{IsFirst}
use Rattle.design_rules.specs.Used.{some_drives, AreDriven, output_has, is_used, AreUsed, lacks, lacks_at}
use Rattle.design_rules.proofs.OneDriverLaws.{count_by-cons}
use Rattle.design_rules.proofs.MentionsWithin.{driver-reads-below, block-reads-below}

-- none of a list is counted exactly where none passes
none-counted : {X : Type 0} (test : X → Bool) (xs : List X) → list_any test xs ≡ false → count_by test xs ≡ 0
none-counted test [] none = refl
none-counted test (x ∷ xs) none = at (test x) refl (list_any test xs) refl (none-counted test xs)
  where
    at : (b : Bool) → test x ≡ b → (r : Bool) → list_any test xs ≡ r → (list_any test xs ≡ false → count_by test xs ≡ 0) → count_by test (x ∷ xs) ≡ 0
    at true is r rest more = absurd (false≢true (sym none ∙ ap (λ v. v || list_any test xs) is))
    at false is true rest more = absurd (false≢true (sym none ∙ ap (λ v. test x || v) rest ∙ or-true (test x)))
    at false is false rest more =
        let first = count-false (test x) is in
        let others = more rest in omega (arith, first, others, count_by-cons test x xs)

none-passes : {X : Type 0} (test : X → Bool) (xs : List X) → count_by test xs ≡ 0 → list_any test xs ≡ false
none-passes test [] none = refl
none-passes test (x ∷ xs) none = at (test x) refl (none-passes test xs)
  where
    at : (b : Bool) → test x ≡ b → (count_by test xs ≡ 0 → list_any test xs ≡ false) → list_any test (x ∷ xs) ≡ false
    at true is more = absurd (omega (arith, none, count_by-cons test x xs, count-true (test x) is))
    at false is more =
        let rest : count_by test xs ≡ 0 = omega (arith, none, count_by-cons test x xs) in
        ap (λ v. v || list_any test xs) is ∙ more rest

or-none : (a b : Bool) → (a || b) ≡ false → (a ≡ false) × (b ≡ false)
or-none true b h = absurd (false≢true (sym h))
or-none false b h = (refl, h)

not-driven : (d : Design) (s b : ℕ) → some_drives d s b ≡ false → driven_times d s b ≡ 0
not-driven d s b none =
    let both = or-none (list_any (driver_drives d.signals.items s b) d.drivers.items) (list_any (block_drives d.signals.items s b) d.clocked.items) none in
    ap₂ (λ m n. m + n) (none-counted (driver_drives d.signals.items s b) d.drivers.items both.0) (none-counted (block_drives d.signals.items s b) d.clocked.items both.1)

none-drives : (d : Design) (s b : ℕ) → driven_times d s b ≡ 0 → some_drives d s b ≡ false
none-drives d s b none =
    let one : count_by (driver_drives d.signals.items s b) d.drivers.items ≡ 0 = omega (arith, none) in
    let other : count_by (block_drives d.signals.items s b) d.clocked.items ≡ 0 = omega (arith, none) in
    ap₂ (λ x y. x || y) (none-passes (driver_drives d.signals.items s b) d.drivers.items one) (none-passes (block_drives d.signals.items s b) d.clocked.items other)

-- a bit that is used is one of a signal
mentioned-below : (d : Design) (s b : ℕ) → CanRun d → is_mentioned d s b ≡ true → b < width_at d.signals.items s
mentioned-below d s b well read = at (or_cases (list_any (driver_mentions d.signals.items s b) d.drivers.items) (list_any (block_mentions d.signals.items s b) d.clocked.items) read)
  where
    at : (list_any (driver_mentions d.signals.items s b) d.drivers.items ≡ true) ⊎ (list_any (block_mentions d.signals.items s b) d.clocked.items ≡ true) → b < width_at d.signals.items s
    at (inl one) =
        let found = list_any-found (driver_mentions d.signals.items s b) d.drivers.items one in
        driver-reads-below d.signals.items d.places.items s b found.0 (list_all-member (driver_fits d.signals.items d.places.items) d.drivers.items found.0 well.drivers found.1) found.2
    at (inr other) =
        let found = list_any-found (block_mentions d.signals.items s b) d.clocked.items other in
        block-reads-below d s b found.0 (list_all-member (clocked_fits d) d.clocked.items found.0 well.clocked found.1) found.2

-- an output's bits, by the range of one signal
one-among : (output s : ℕ) → is_among output 1 s ≡ (output == s)
one-among output s = grind (arith, nat_tests)

pub outputs-same : (d : Design) (s b : ℕ) (outputs : List ℕ) → list_any (output_has d s b) outputs ≡ (list_any (λ output. output == s) outputs && nat_lt b (width_at d.signals.items s))
outputs-same d s b [] = refl
outputs-same d s b (x ∷ xs) =
    ap₂ (λ v w. (v && nat_lt b (width_at d.signals.items s)) || w) (one-among x s) (outputs-same d s b xs)
    ∙ spread (x == s) (list_any (λ output. output == s) xs) (nat_lt b (width_at d.signals.items s))
  where
    spread : (p q w : Bool) → ((p && w) || (q && w)) ≡ ((p || q) && w)
    spread true true true = refl
    spread true true false = refl
    spread true false w = or-false w
    spread false q w = refl

pub used-below : (d : Design) (s b : ℕ) → CanRun d → (is_mentioned d s b || is_output_bit d s b) ≡ true → b < width_at d.signals.items s
used-below d s b well used = at (or_cases (is_mentioned d s b) (is_output_bit d s b) used)
  where
    at : (is_mentioned d s b ≡ true) ⊎ (is_output_bit d s b ≡ true) → b < width_at d.signals.items s
    at (inl read) = mentioned-below d s b well read
    at (inr output) = ltb-true b (width_at d.signals.items s) (and_parts (list_any (λ output. output == s) d.outputs.items) (nat_lt b (width_at d.signals.items s)) output).1

-- what is used without a driver, in both words
used-named : (d : Design) (driven : List ℕ) (s b : ℕ) → has driven s b ≡ false → is_used d driven s b ≡ (is_mentioned d s b || is_output_bit d s b)
used-named d driven s b none =
    ap₂ (λ o h. o || (is_mentioned d s b && not h)) (outputs-same d s b d.outputs.items) none
    ∙ ap (λ v. is_output_bit d s b || v) (and-true (is_mentioned d s b)) ∙ turned (is_output_bit d s b) (is_mentioned d s b)
  where
    turned : (x y : Bool) → (x || y) ≡ (y || x)
    turned true y = sym (or-true y)
    turned false y = sym (or-false y)

is-lacking : (d : Design) (driven used : List ℕ) (s : ℕ) → AreDriven d driven → AreUsed d driven used → lacks_at d.signals.items used driven s ≡ true → IsUndriven d s
is-lacking d driven used s are has_used here = at (slice_get d.signals.items s) refl here
  where
    at : (o : Option Signal) → slice_get d.signals.items s ≡ o → option_map_or (λ signal. lacks signal.kind (get_or used s 0) (get_or driven s 0)) o false ≡ true → IsUndriven d s
    at None is h = absurd (false≢true h)
    at (Some signal) is h =
        let both = and_parts (is_net_kind signal.kind) (exceeds (get_or used s 0) (get_or driven s 0)) h in
        let b = exceeds-found (get_or used s 0) (get_or driven s 0) both.1 in
        let within : s < length d.signals.items = get-within d.signals.items s signal is in
        record {
          position = b.0;
          net = ap (λ o. option_map_or (λ x. is_net_kind x.kind) o false) is ∙ both.0;
          used = sym (used-named d driven s b.0 b.3) ∙ sym (has_used.bits s b.0 within b.1) ∙ b.2;
          none = not-driven d s b.0 (sym (are.bits s b.0 within b.1) ∙ b.3);
        }
      where
        get-within : (xs : List Signal) (k : ℕ) (x : Signal) → slice_get xs k ≡ Some x → k < length xs
        get-within [] k x is = absurd cc
        get-within (y ∷ ys) zero x is = omega arith
        get-within (y ∷ ys) (suc k) x is = let rest = get-within ys k x is in omega (arith, rest)

not-lacking : (d : Design) (driven used : List ℕ) (s : ℕ) → CanRun d → AreDriven d driven → AreUsed d driven used → lacks_at d.signals.items used driven s ≡ false → IsUndriven d s → ⊥
not-lacking d driven used s well are has_used none u =
    let inside = width-within d.signals.items s u.position well.signals (used-below d s u.position well u.used) in
    let free : has driven s u.position ≡ false = are.bits s u.position inside.0 inside.1 ∙ none-drives d s u.position u.none in
    let taken : has used s u.position ≡ true = has_used.bits s u.position inside.0 inside.1 ∙ used-named d driven s u.position free ∙ u.used in
    false≢true (sym none ∙ net (slice_get d.signals.items s) u.net (exceeds-bit (get_or used s 0) (get_or driven s 0) u.position inside.1 taken free))
  where
    net : (o : Option Signal) → option_map_or (λ x. is_net_kind x.kind) o false ≡ true → exceeds (get_or used s 0) (get_or driven s 0) ≡ true
        → option_map_or (λ signal. lacks signal.kind (get_or used s 0) (get_or driven s 0)) o false ≡ true
    net None is more = absurd (false≢true is)
    net (Some signal) is more = ap₂ (λ x y. x && y) is more

pub first-undriven : (d : Design) (driven used : List ℕ) (found : Option ℕ) → CanRun d → AreDriven d driven → AreUsed d driven used
    → IfNone found ((k : ℕ) → lacks_at d.signals.items used driven k ≡ false) → IfSome found (λ s. lacks_at d.signals.items used driven s ≡ true)
    → IfSome found (λ s. (k : ℕ) → k < s → lacks_at d.signals.items used driven k ≡ false) → IsFirst (IsUndriven d) found
first-undriven d driven used None well are has_used none some first = λ k u. not-lacking d driven used k well are has_used (none k) u
first-undriven d driven used (Some s) well are has_used none some first = (is-lacking d driven used s are has_used some, λ k below u. not-lacking d driven used k well are has_used (first k below) u)
