-- The masks of a design, made one after another.
use Rattle.std.proofs.Common.{ℕ, zero, suc, ◌+◌, ◌-◌, ◌^◌, ◌≡◌, ◌<◌, ◌≤◌, Bool, true, false, not, ◌&&◌, ◌||◌, List, [], ◌∷◌, ◌++◌, length, drop, map, refl, ap, sym, subst, ◌∙◌, arith, ◌⊎◌, inl, inr, Some, None}
use Rattle.std.specs.Prelude.{◌==◌, nat_lt, slice_get, slice_index_or, if◌then◌else◌, option_map, IsTrue}
use Rattle.std.specs.Option.{option_map_or}
use Rattle.std.specs.List.{list_any}
use Rattle.std.proofs.lemmas.List.{drop_all}
use Rattle.std.proofs.lemmas.Bool.{cases_lt, cases_Bool, or_parts, and_parts, eqb-true, lt-ltb, le-ltb, eq-eqb}
use Rattle.std.proofs.lemmas.Nat.Bits.{bit_at_ones}
use Rattle.std.proofs.lemmas.Bool.Decides.{nat_tests}
use Rattle.std.proofs.lemmas.Option.{slice_get_within, slice_get-map}
use Rattle.loc_base.specs.declared.bits.Bits.{Bits}
use Rattle.loc_base.specs.Bits.{width_of, value_of, bit_of}
use Rattle.loc_base.proofs.ShelfOptions.{Some-same}
use Rattle.design_core.specs.declared.signal.Signal.{Signal}
use Rattle.design_core.specs.declared.driver.Driver.{Driver}
use Rattle.design_core.specs.declared.driver.Clocked.{Clocked}
use Rattle.design_core.specs.declared.design.Design.{Design}
use Rattle.design_core.specs.Valuation.{Valuation, bit, width_at}
use Rattle.design_core.specs.Constant.{zeros}
use Rattle.design_core.specs.Words.{valuation_of, AreWordsOf}
use Rattle.design_core.specs.Drives.{is_listed, some_set, driver_drives, is_driven, block_drives, block_assigns_later, is_register_bit}
use Rattle.design_core.specs.declared.driver.Reset.{Reset}
use Rattle.design_core.specs.WellFormed.{statement_fits, is_reset_values, reset_fits, clocked_fits}
use Rattle.cycle_sim.specs.Collected.{Adds, set_drives}
use Rattle.cycle_sim.proofs.DrivesBelow.{block-below}
use Rattle.plain_sim.specs.EvaluateCycle.{blended}
use Rattle.plain_sim.proofs.EvaluateSteps.{drop-some}
use Rattle.plain_sim.proofs.EvaluateSweep.{bit-zero, valuation-past}
use Rattle.design_core.proofs.NumberLaws.{number-below}
use Rattle.plain_values.proofs.EvaluateWrite.{bit-high}
use Rattle.cycle_sim.proofs.Collecting.{slice_get-append, adds-then, adds-as}
use Rattle.cycle_sim.specs.declared.mask.Mask.{Mask}
use Rattle.cycle_sim.specs.declared.block.BlockMasks.{BlockMasks}
use Rattle.cycle_sim.specs.Masks.{in_mask, covers, AreMasksOf, AreMasksFor, AreDriverMasks, AreBlockMasks, AreClockedMasks, is_own, assigns_now, widths_of}
use Rattle.cycle_sim.specs.Planned.{Pushed, ListedSoFar, Keeps, block_assigns}

-- ---- rows
row-before : {X : Type 0} (rows : List (List X)) (row : List X) (j : ℕ) → j < length rows
    → slice_index_or (rows ++ row ∷ []) j [] ≡ slice_index_or rows j []
row-before [] row j h = absurd (omega (arith, h))
row-before (r ∷ rows) row zero h = refl
row-before (r ∷ rows) row (suc j) h = row-before rows row j (omega (arith, h))

row-here : {X : Type 0} (rows : List (List X)) (row : List X) → slice_index_or (rows ++ row ∷ []) (length rows) [] ≡ row
row-here [] row = refl
row-here (r ∷ rows) row = row-here rows row

row-many : {X : Type 0} (rows : List X) (row : X) → length (rows ++ row ∷ []) ≡ length rows + 1
row-many [] row = refl
row-many (r ∷ rows) row = omega (arith, row-many rows row)

-- the rows of the drivers before i
pub record RowsSoFar (d : Design) (rows : List (List Mask)) (i : ℕ) : Type 0 where
  pub many : length rows ≡ i
  pub each : (j : ℕ) (driver : Driver) → j < i → slice_get d.drivers.items j ≡ Some driver
      → AreMasksFor d.signals.items (slice_index_or rows j []) (λ s b. driver_drives d.signals.items s b driver)

pub rows-begin : (d : Design) → RowsSoFar d [] 0
rows-begin d = record { many = refl; each = λ j driver low at. absurd (omega (arith, low)) }

pub rows-next : (d : Design) (rows : List (List Mask)) (i : ℕ) (row : List Mask) (driver : Driver)
    → slice_get d.drivers.items i ≡ Some driver → RowsSoFar d rows i
    → AreMasksFor d.signals.items row (λ s b. driver_drives d.signals.items s b driver) → RowsSoFar d (rows ++ row ∷ []) (i + 1)
rows-next d rows i row driver at before masks =
    record {
      many = row-many rows row ∙ ap (λ n. n + 1) before.many;
      each = λ j other low there. by_place j other low there (cases_lt j i);
    }
  where
    by_place : (j : ℕ) (other : Driver) → j < i + 1 → slice_get d.drivers.items j ≡ Some other → (j < i) ⊎ (i ≤ j)
        → AreMasksFor d.signals.items (slice_index_or (rows ++ row ∷ []) j []) (λ s b. driver_drives d.signals.items s b other)
    by_place j other low there (inl earlier) =
        subst (λ (r : List Mask). AreMasksFor d.signals.items r (λ s b. driver_drives d.signals.items s b other))
        (sym (row-before rows row j (omega (arith, earlier, before.many))))
        (before.each j other earlier there)
    by_place j other low there (inr last) =
        let here : j ≡ i = omega (arith, low, last) in
        let same : driver ≡ other = Some-same (sym at ∙ ap (slice_get d.drivers.items) (sym here) ∙ there) in
        let own : slice_index_or (rows ++ row ∷ []) j [] ≡ row =
        ap (λ n. slice_index_or (rows ++ row ∷ []) n []) (here ∙ sym before.many) ∙ row-here rows row in
        subst (λ (x : Driver). AreMasksFor d.signals.items (slice_index_or (rows ++ row ∷ []) j [])
        (λ s b. driver_drives d.signals.items s b x)) same
        (subst (λ (r : List Mask). AreMasksFor d.signals.items r (λ s b. driver_drives d.signals.items s b driver)) (sym own) masks)

pub rows-end : (d : Design) (rows : List (List Mask)) (i : ℕ) → i ≡ length d.drivers.items → RowsSoFar d rows i → AreDriverMasks d rows
rows-end d rows i all h =
    record {
      many = h.many ∙ all;
      each = λ j driver at. h.each j driver
          (omega (arith, all, slice_get_within d.drivers.items j driver at)) at;
    }

-- the rows of the clocked blocks before i
pub record BlocksSoFar (d : Design) (rows : BlockMasks) (i : ℕ) : Type 0 where
  pub own_many : length rows.own ≡ i
  pub at_once_many : length rows.at_once ≡ i
  pub now_many : length rows.now ≡ i
  pub each : (j : ℕ) (block : Clocked) → j < i → slice_get d.clocked.items j ≡ Some block
      → AreBlockMasks d block (slice_index_or rows.own j []) (slice_index_or rows.at_once j []) (slice_index_or rows.now j [])

pub blocks-begin : (d : Design) (rows : BlockMasks) → rows.own ≡ [] → rows.at_once ≡ [] → rows.now ≡ [] → BlocksSoFar d rows 0
blocks-begin d rows a b c =
    record {
      own_many = ap length a;
      at_once_many = ap length b;
      now_many = ap length c;
      each = λ j block low at. absurd
          (omega (arith, low));
    }

last-row : (rows : List (List Mask)) (row : List Mask) (new : List (List Mask)) (j i : ℕ) → new ≡ rows ++ row ∷ []
    → length rows ≡ i → j ≡ i → slice_index_or new j [] ≡ row
last-row rows row new j i is many here =
    ap (λ (rs : List (List Mask)). slice_index_or rs j []) is ∙ ap (λ n. slice_index_or (rows ++ row ∷ []) n [])
    (here ∙ sym many) ∙ row-here rows row

old-row : (rows : List (List Mask)) (row : List Mask) (new : List (List Mask)) (j i : ℕ) → new ≡ rows ++ row ∷ []
    → length rows ≡ i → j < i → slice_index_or new j [] ≡ slice_index_or rows j []
old-row rows row new j i is many low =
    ap (λ (rs : List (List Mask)). slice_index_or rs j []) is ∙ row-before rows row j (omega (arith, low, many))

pub blocks-next : (d : Design) (rows new : BlockMasks) (i : ℕ) (block : Clocked) → slice_get d.clocked.items i ≡ Some block
    → BlocksSoFar d rows i → Pushed d block rows new → BlocksSoFar d new (i + 1)
blocks-next d rows new i block at before p =
    record {
      own_many = ap length p.own_last ∙ row-many rows.own p.own ∙ ap (λ n. n + 1) before.own_many;
      at_once_many = ap length p.at_once_last ∙ row-many rows.at_once p.at_once ∙ ap (λ n. n + 1) before.at_once_many;
      now_many = ap length p.now_last ∙ row-many rows.now p.now ∙ ap (λ n. n + 1) before.now_many;
      each = λ j other low there. by_place j other low there (cases_lt j i);
    }
  where
    by_rows : (b : Clocked) (o o' a a' n n' : List Mask) → o ≡ o' → a ≡ a' → n ≡ n' → AreBlockMasks d b o' a' n' → AreBlockMasks d b o a n
    by_rows b o o' a a' n n' p q r h = rw (p, q, r) h

    by_place : (j : ℕ) (other : Clocked) → j < i + 1 → slice_get d.clocked.items j ≡ Some other → (j < i) ⊎ (i ≤ j)
        → AreBlockMasks d other (slice_index_or new.own j []) (slice_index_or new.at_once j []) (slice_index_or new.now j [])
    by_place j other low there (inl earlier) =
        by_rows other (slice_index_or new.own j []) (slice_index_or rows.own j []) (slice_index_or new.at_once j [])
        (slice_index_or rows.at_once j []) (slice_index_or new.now j []) (slice_index_or rows.now j [])
        (old-row rows.own p.own new.own j i p.own_last before.own_many earlier)
        (old-row rows.at_once p.at_once new.at_once j i p.at_once_last before.at_once_many earlier)
        (old-row rows.now p.now new.now j i p.now_last before.now_many earlier)
        (before.each j other earlier there)
    by_place j other low there (inr last) =
        let here : j ≡ i = omega (arith, low, last) in
        let same : block ≡ other = Some-same (sym at ∙ ap (slice_get d.clocked.items) (sym here) ∙ there) in
        subst (λ (x : Clocked). AreBlockMasks d x (slice_index_or new.own j []) (slice_index_or new.at_once j [])
        (slice_index_or new.now j [])) same
        (by_rows block (slice_index_or new.own j []) p.own (slice_index_or new.at_once j []) p.at_once (slice_index_or new.now j []) p.now
        (last-row rows.own p.own new.own j i p.own_last before.own_many here)
        (last-row rows.at_once p.at_once new.at_once j i p.at_once_last before.at_once_many here)
        (last-row rows.now p.now new.now j i p.now_last before.now_many here)
        p.masks)

pub blocks-end : (d : Design) (rows : BlockMasks) (i : ℕ) → i ≡ length d.clocked.items → BlocksSoFar d rows i
    → AreClockedMasks d rows.own rows.at_once rows.now
blocks-end d rows i all h =
    record {
      own_many = h.own_many ∙ all;
      at_once_many = h.at_once_many ∙ all;
      now_many = h.now_many ∙ all;
      each = λ j block at. h.each j block (omega (arith, all, slice_get_within d.clocked.items j block at)) at;
    }

-- ---- the bits that drivers drive, put at 0
cleared-or : (t x r : Bool) → ((if t then false else x) && not r) ≡ (x && not (t || r))
cleared-or true true true = refl
cleared-or true true false = refl
cleared-or true false r = refl
cleared-or false x r = refl

and_true : (x : Bool) → (x && true) ≡ x
and_true true = refl
and_true false = refl

abbrev pub ClearedSoFar : Design → Valuation → Valuation → ℕ → Type 0
ClearedSoFar d old V i =
    (s b : ℕ) → (V s b && not (list_any (driver_drives d.signals.items s b) (drop i d.drivers.items))) ≡ (old s b && not (is_driven d s b))

pub cleared-next : (d : Design) (old V W : Valuation) (i : ℕ) (row : List Mask) (driver : Driver)
    → slice_get d.drivers.items i ≡ Some driver → ClearedSoFar d old V i
    → AreMasksFor d.signals.items row (λ s b. driver_drives d.signals.items s b driver) → W ≡ blended (covers row) zeros V
    → ClearedSoFar d old W (i + 1)
cleared-next d old V W i row driver at before masks is s b =
    ap (λ (X : Valuation). X s b && not (list_any (driver_drives d.signals.items s b) (drop (i + 1) d.drivers.items))) is
    ∙ ap (λ t. (if t then false else V s b) && not
    (list_any (driver_drives d.signals.items s b) (drop (i + 1) d.drivers.items))) (masks.same s b)
    ∙ cleared-or (driver_drives d.signals.items s b driver) (V s b)
    (list_any (driver_drives d.signals.items s b) (drop (i + 1) d.drivers.items))
    ∙ sym (ap (λ ds. V s b && not (list_any (driver_drives d.signals.items s b) ds)) (drop-some d.drivers.items i driver at))
    ∙ before s b

pub cleared-end : (d : Design) (old V : Valuation) (i : ℕ) → length d.drivers.items ≤ i → ClearedSoFar d old V i → (s b : ℕ)
    → V s b ≡ (old s b && not (is_driven d s b))
cleared-end d old V i past h s b =
    sym (and_true (V s b))
    ∙ sym (ap (λ ds. V s b && not (list_any (driver_drives d.signals.items s b) ds)) (drop_all i d.drivers.items past))
    ∙ h s b

-- ---- masks that are kept or made narrower
narrow : (own m rest p : Bool) → ((own || (m && p)) || (rest && p)) ≡ (own || ((m || rest) && p))
narrow true m rest p = refl
narrow false true true true = refl
narrow false true true false = refl
narrow false true false true = refl
narrow false true false false = refl
narrow false false rest p = refl

-- the masks made of those before k have their bits that pass a test
abbrev pub NarrowedSoFar : (ℕ → ℕ → Bool) → List Mask → List Mask → ℕ → Type 0
NarrowedSoFar test masks new k = (s b : ℕ) → (covers new s b || (covers (drop k masks) s b && test s b)) ≡ (covers masks s b && test s b)

pub covers-push : (xs : List Mask) (m : Mask) (s b : ℕ) → covers (xs ++ m ∷ []) s b ≡ (covers xs s b || in_mask m s b)
covers-push [] m s b = or_false (in_mask m s b)
  where
    or_false : (x : Bool) → (x || false) ≡ x
    or_false true = refl
    or_false false = refl
covers-push (x ∷ xs) m s b = ap (λ y. in_mask x s b || y) (covers-push xs m s b) ∙ or_assoc (in_mask x s b) (covers xs s b) (in_mask m s b)
  where
    or_assoc : (x y z : Bool) → (x || (y || z)) ≡ ((x || y) || z)
    or_assoc true y z = refl
    or_assoc false y z = refl

pub narrowed-next : (test : ℕ → ℕ → Bool) (masks new last : List Mask) (k : ℕ) (m : Mask) → slice_get masks k ≡ Some m
    → NarrowedSoFar test masks new k
    → ((s b : ℕ) → covers last s b ≡ (covers new s b || (in_mask m s b && test s b))) → NarrowedSoFar test masks last (k + 1)
narrowed-next test masks new last k m at before is s b =
    ap (λ x. x || (covers (drop (k + 1) masks) s b && test s b)) (is s b)
    ∙ narrow (covers new s b) (in_mask m s b) (covers (drop (k + 1) masks) s b) (test s b)
    ∙ sym (ap (λ ms. covers new s b || (covers ms s b && test s b)) (drop-some masks k m at))
    ∙ before s b

pub narrowed-end : (test : ℕ → ℕ → Bool) (masks new : List Mask) (k : ℕ) → length masks ≤ k → NarrowedSoFar test masks new k
    → (s b : ℕ) → covers new s b ≡ (covers masks s b && test s b)
narrowed-end test masks new k past h s b =
    sym (or_false (covers new s b)) ∙ sym (ap (λ ms. covers new s b || (covers ms s b && test s b)) (drop_all k masks past)) ∙ h s b
  where
    or_false : (x : Bool) → (x || false) ≡ x
    or_false true = refl
    or_false false = refl

differ : (k s : ℕ) → k < s → (k == s) ≡ false
differ k s h = grind (arith, nat_tests)

differ-below : (k s : ℕ) → s < k → (k == s) ≡ false
differ-below k s h = grind (arith, nat_tests)

pub widths-add : (widths : List ℕ) (row : List Mask) (m : Mask) → slice_get widths m.signal ≡ Some (width_of m.bits)
    → AreMasksOf widths row → AreMasksOf widths (row ++ m ∷ [])
widths-add widths row m fits w =
    record {
      each = λ i other at. elim (slice_get-append row m other i at) [
        | inl before ↦ w.each i other before
        | inr same ↦ subst (λ (x : Mask). slice_get widths x.signal ≡ Some (width_of x.bits)) same fits
      ];
    }

-- ---- words of ones
pub ones-bit : (w b : ℕ) → bit (2 ^ w - 1 - 0) b ≡ nat_lt b w
ones-bit w b = ap (λ n. bit n b) (minus_zero (2 ^ w - 1)) ∙ at (cases_lt b w)
  where
    minus_zero : (n : ℕ) → n - 0 ≡ n
    minus_zero n = omega arith

    positive : (w : ℕ) → 1 ≤ 2 ^ w
    positive w = omega (arith, number-below w (λ b. false))

    at : (b < w) ⊎ (w ≤ b) → bit (2 ^ w - 1) b ≡ nat_lt b w
    at (inl low) = ap (λ n. n == 1) (bit_at_ones w b low) ∙ sym (lt-ltb b w low)
    at (inr high) = bit-high (2 ^ w - 1) w b (omega (arith, positive w)) high ∙ sym (le-ltb b w high)

-- ---- the masks of words
pub listed-begin : (words : List Bits) → ListedSoFar words [] 0
listed-begin words =
    record { widths = record { each = λ i m at. absurd (none at) }; done = λ s b low. absurd (omega (arith, low)); rest = λ s b high. refl }
  where
    none : {m : Mask} → None ≡ Some m → ⊥
    none e = cc

pub listed-more : (words : List Bits) (masks : List Mask) (k : ℕ) (bits : Bits) → slice_get words k ≡ Some bits → ListedSoFar words masks k
    → ListedSoFar words (masks ++ record { signal = k; bits = bits } ∷ []) (k + 1)
listed-more words masks k bits at before =
    record {
      widths = widths-add (map width_of words) masks m (slice_get-map width_of words k ∙ ap (λ o. option_map width_of o) at) before.widths;
      done = λ s b low. covers-push masks m s b ∙ by_place s b low (cases_lt s k);
      rest = λ s b high. covers-push masks m s b ∙ ap (λ x. x || in_mask m s b) (before.rest s b (omega (arith, high)))
          ∙ not_own s b (omega (arith, high));
    }
  where
    m : Mask
    m = record { signal = k; bits = bits }

    or_none : (x : Bool) → (x || false) ≡ x
    or_none true = refl
    or_none false = refl

    not_own : (s b : ℕ) → k < s → in_mask m s b ≡ false
    not_own s b h = ap (λ t. t && bit_of bits b) (differ k s h)

    by_place : (s b : ℕ) → s < k + 1 → (s < k) ⊎ (k ≤ s) → (covers masks s b || in_mask m s b) ≡ valuation_of words s b
    by_place s b low (inl earlier) = ap (λ t. covers masks s b || (t && bit_of bits b)) (differ-below k s earlier)
        ∙ or_none (covers masks s b) ∙ before.done s b earlier
    by_place s b low (inr last) =
        let here : k ≡ s = omega (arith, low, last) in
        ap (λ x. x || in_mask m s b) (before.rest s b last)
        ∙ ap (λ t. t && bit_of bits b) (eq-eqb k s here)
        ∙ sym (ap (λ n. valuation_of words n b) (sym here) ∙ ap (λ o. option_map_or (λ w. bit_of w b) o false) at)

-- a word of 0 needs no mask
pub listed-none : (words : List Bits) (masks : List Mask) (k : ℕ) (bits : Bits) → slice_get words k ≡ Some bits
    → value_of bits ≡ 0 → ListedSoFar words masks k
    → ListedSoFar words masks (k + 1)
listed-none words masks k bits at none before =
    record {
      widths = before.widths;
      done = λ s b low. by_place s b low (cases_lt s k);
      rest = λ s b high. before.rest s b (omega (arith, high));
    }
  where
    by_place : (s b : ℕ) → s < k + 1 → (s < k) ⊎ (k ≤ s) → covers masks s b ≡ valuation_of words s b
    by_place s b low (inl earlier) = before.done s b earlier
    by_place s b low (inr last) =
        let here : k ≡ s = omega (arith, low, last) in
        before.rest s b last
        ∙ sym (ap (λ n. valuation_of words n b) (sym here) ∙ ap (λ o. option_map_or (λ w. bit_of w b) o false) at ∙ ap
        (λ n. bit n b) none ∙ bit-zero b)

pub listed-end : (words : List Bits) (masks : List Mask) (k : ℕ) → length words ≤ k → ListedSoFar words masks k → (s b : ℕ)
    → covers masks s b ≡ valuation_of words s b
listed-end words masks k past h s b = at (cases_lt s k)
  where
    at : (s < k) ⊎ (k ≤ s) → covers masks s b ≡ valuation_of words s b
    at (inl low) = h.done s b low
    at (inr high) = h.rest s b high ∙ sym (valuation-past words s b (omega (arith, past, high)))

-- ---- the masks of signals that a block does not assign by `<=`
pub kept-mask : (block : Clocked) (old : List Mask) (m : Mask) → block_assigns_later m.signal block ≡ false
    → Keeps block m old (old ++ m ∷ [])
kept-mask block old m none =
    record {
      widths = λ widths fits w. widths-add widths old m fits w;
      same = λ s b. covers-push old m s b ∙ ap (λ x. covers old s b || x) (at s b (m.signal == s) refl);
    }
  where
    at : (s b : ℕ) (t : Bool) → (m.signal == s) ≡ t → in_mask m s b ≡ (in_mask m s b && not (block_assigns_later s block))
    at s b false e = ap (λ t. t && bit_of m.bits b) e ∙ sym (ap (λ t. (t && bit_of m.bits b) && not (block_assigns_later s block)) e)
    at s b true e =
        sym (ap (λ x. in_mask m s b && not x) (ap (λ n. block_assigns_later n block) (sym (eqb-true m.signal s e)) ∙ none)
        ∙ and_true (in_mask m s b))

pub dropped-mask : (block : Clocked) (old : List Mask) (m : Mask) → block_assigns_later m.signal block ≡ true → Keeps block m old old
dropped-mask block old m later =
    record {
      widths = λ widths fits w. w;
      same = λ s b. sym
          (ap (λ x. covers old s b || x) (at s b (m.signal == s) refl) ∙ or_false (covers old s b));
    }
  where
    or_false : (x : Bool) → (x || false) ≡ x
    or_false true = refl
    or_false false = refl

    and_false : (x : Bool) → (x && false) ≡ false
    and_false true = refl
    and_false false = refl

    at : (s b : ℕ) (t : Bool) → (m.signal == s) ≡ t → (in_mask m s b && not (block_assigns_later s block)) ≡ false
    at s b false e = ap (λ t. (t && bit_of m.bits b) && not (block_assigns_later s block)) e
    at s b true e =
        ap (λ x. in_mask m s b && not x) (ap (λ n. block_assigns_later n block) (sym (eqb-true m.signal s e)) ∙ later)
        ∙ and_false (in_mask m s b)

-- ---- the masks of all that is collected
pub adds-all : (signals : List Signal) (new : List Mask) (test : ℕ → ℕ → Bool) → Adds signals [] new test → AreMasksFor signals new test
adds-all signals new test added = record { widths = added.widths (record { each = λ i m at. absurd (none at) }); same = added.same }
  where
    none : {m : Mask} → None ≡ Some m → ⊥
    none e = cc

-- the masks of a block with a reset
pub reset-adds : (d : Design) (block : Clocked) (r : Reset) (only : Bool) (a b : List Mask) → block.reset ≡ Some r
    → clocked_fits d block ≡ true
    → (IsTrue (statement_fits d.signals.items d.places.items block.body)
    → Adds d.signals.items [] a (λ s p. some_set (set_drives d.signals.items only s p) block.body))
    → (IsTrue (statement_fits d.signals.items d.places.items r.values)
    → Adds d.signals.items a b (λ s p. some_set (set_drives d.signals.items only s p) r.values))
    → AreMasksFor d.signals.items b (block_assigns d.signals.items only block)
reset-adds d block r only a b is fits body values =
    let fit = and_parts (statement_fits d.signals.items d.places.items block.body) (option_map_or (reset_fits d) block.reset true) fits in
    let own = and_parts (is_listed d r.signal && (width_at d.signals.items r.signal == 1) && is_reset_values r.values)
    (statement_fits d.signals.items d.places.items r.values)
    (sym (ap (λ o. option_map_or (reset_fits d) o true) is) ∙ fit.1) in
    adds-all d.signals.items b (block_assigns d.signals.items only block)
    (adds-as d.signals.items [] b (λ s p. some_set (set_drives d.signals.items only s p) block.body
    || some_set (set_drives d.signals.items only s p) r.values) (block_assigns d.signals.items only block)
    (λ s p. ap (λ o. some_set (set_drives d.signals.items only s p) block.body
    || option_map_or (λ (r : Reset). some_set (set_drives d.signals.items only s p) r.values) o false) (sym is))
    (adds-then d.signals.items [] a b (λ s p. some_set (set_drives d.signals.items only s p) block.body)
    (λ s p. some_set (set_drives d.signals.items only s p) r.values) (body fit.0) (values own.1)))

-- the masks of a clocked block
pub pushed-masks : (d : Design) (block : Clocked) (registers : List Bits) (all own once current : List Mask)
    → AreWordsOf d.signals.items registers → clocked_fits d block ≡ true
    → ((s b : ℕ) → valuation_of registers s b ≡ (is_register_bit d s b && nat_lt b (width_at d.signals.items s)))
    → AreMasksFor d.signals.items all (block_assigns d.signals.items false block) → AreMasksOf (map width_of registers) own
    → ((s b : ℕ) → covers own s b ≡ (covers all s b && valuation_of registers s b))
    → AreMasksFor d.signals.items once (block_assigns d.signals.items true block)
    → ((widths : List ℕ) → AreMasksOf widths own → AreMasksOf widths current)
    → ((s b : ℕ) → covers current s b ≡ (covers own s b && not (block_assigns_later s block)))
    → AreBlockMasks d block own once current
pushed-masks d block registers all own once current words fits bits all_masks own_widths own_bits once_masks current_widths current_bits =
    record {
      own = record { widths = widths; same = own_same };
      now = record {
        widths = current_widths (widths_of d.signals.items) widths;
        same = λ s b. current_bits s b
            ∙ ap (λ x. x && not (block_assigns_later s block)) (own_same s b);
      };
      at_once_widths = once_masks.widths;
      at_once = λ s b none.
          let both = or_parts (assigns_now d.signals.items s b block.body)
          (option_map_or (λ r. assigns_now d.signals.items s b r.values) block.reset false) (sym (once_masks.same s b) ∙ none) in
          record { body = both.0; reset = both.1 };
    }
  where
    widths : AreMasksOf (widths_of d.signals.items) own
    widths = subst (λ ws. AreMasksOf ws own) words.widths own_widths

    own_same : (s b : ℕ) → covers own s b ≡ is_own d block s b
    own_same s b =
        own_bits s b ∙ ap (λ x. x && valuation_of registers s b) (all_masks.same s b)
        ∙ ap (λ x. block_drives d.signals.items s b block && x) (bits s b)
        ∙ at (cases_Bool (block_drives d.signals.items s b block))
      where
        swap : (x z : Bool) → z ≡ true → (true && (x && z)) ≡ (x && true)
        swap true true e = refl
        swap true false e = cc
        swap false z e = refl

        and_none : (x : Bool) → (x && false) ≡ false
        and_none true = refl
        and_none false = refl

        at : (block_drives d.signals.items s b block ≡ true) ⊎ (block_drives d.signals.items s b block ≡ false)
            → (block_drives d.signals.items s b block && (is_register_bit d s b && nat_lt b (width_at d.signals.items s)))
            ≡ (is_register_bit d s b && block_drives d.signals.items s b block)
        at (inl on) =
            ap (λ x. x && (is_register_bit d s b && nat_lt b (width_at d.signals.items s))) on
            ∙ swap (is_register_bit d s b) (nat_lt b (width_at d.signals.items s))
            (lt-ltb b (width_at d.signals.items s) (block-below d block s b fits on))
            ∙ sym (ap (λ x. is_register_bit d s b && x) on)
        at (inr off) =
            ap (λ x. x && (is_register_bit d s b && nat_lt b (width_at d.signals.items s))) off
            ∙ sym (ap (λ x. is_register_bit d s b && x) off ∙ and_none (is_register_bit d s b))
