-- Rows with the drivers of each signal's bits.
use Rattle.std.proofs.Common.{ℕ, zero, suc, ◌≡◌, ◌≢◌, ◌<◌, ◌≤◌, ◌+◌, ◌^◌, List, [], ◌∷◌, ◌++◌, length, get_or, take, length-take-le, Bool, true, false, refl, sym, subst, ◌∙◌, ap, ap₂, arith, Some, None, ◌⊎◌, inl, inr}
use Rattle.std.specs.Prelude.{◌==◌, ◌&&◌, ◌||◌, not, slice_get, slice_index_or, bit_and, Contains}
use Rattle.std.specs.Option.{option_map_or}
use Rattle.std.specs.List.{list_any, list_all}
use Rattle.std.proofs.Math.ListN.{set}
use Rattle.std.proofs.lemmas.Bool.{false≢true, cases_eq, cases_order, and_parts, eq-eqb}
use Rattle.std.proofs.lemmas.List.{take_all}
use Rattle.std.proofs.lemmas.List.Folds.{list_any-append}
use Rattle.loc_base.proofs.ShelfBools.{equal-true, equal-false, or-false, or-assoc, and-false, not-true, not-false}
use Rattle.loc_base.proofs.ShelfLists.{take-at, list_any-found, list_any-member, Contains-place, Contains-at}
use Rattle.design_core.specs.declared.signal.Signal.{Signal}
use Rattle.design_core.specs.declared.driver.Driver.{Driver}
use Rattle.design_core.specs.Valuation.{bit}
use Rattle.design_core.specs.Drives.{driver_drives}
use Rattle.design_bits.specs.Masks.{has, share_bit}
use Rattle.design_bits.proofs.Masks.{bit-zero}
use Rattle.design_bits.proofs.ShareLaws.{share-found, share-bit}
use Rattle.design_order.specs.declared.sources.DrivenBits.{DrivenBits}
use Rattle.design_order.specs.Sources.{row_at, entry_has, row_has, AddsSource, drives_at, AreSources, entry_meets, signal_meets, Meets, IsRow}

-- ---- a row with one entry more
at_same : (rows : List (List DrivenBits)) (i : ℕ) (x : List DrivenBits) → i < length rows → row_at (set rows i x) i ≡ x
at_same [] i x below = absurd (omega (arith, below))
at_same (y ∷ ys) zero x below = refl
at_same (y ∷ ys) (suc i) x below = at_same ys i x (omega (arith, below))

at_other : (rows : List (List DrivenBits)) (i k : ℕ) (x : List DrivenBits) → (k ≡ i → ⊥) → row_at (set rows i x) k ≡ row_at rows k
at_other [] i k x apart = refl
at_other (y ∷ ys) zero zero x apart = absurd (apart refl)
at_other (y ∷ ys) zero (suc k) x apart = refl
at_other (y ∷ ys) (suc i) zero x apart = refl
at_other (y ∷ ys) (suc i) (suc k) x apart = at_other ys i k x (λ same. apart (ap suc same))

set-length : (rows : List (List DrivenBits)) (i : ℕ) (x : List DrivenBits) → length (set rows i x) ≡ length rows
set-length [] i x = refl
set-length (y ∷ ys) zero x = refl
set-length (y ∷ ys) (suc i) x = ap suc (set-length ys i x)

gathered : (o d t m : Bool) → ((o || (d && t)) || (d && m)) ≡ (o || (d && (t || m)))
gathered true d t m = refl
gathered false true t m = refl
gathered false false t m = refl

pub source-step : (old mid : List (List DrivenBits)) (driver signal mask : ℕ) (row : List DrivenBits) (entry : DrivenBits) (t u : ℕ → ℕ → Bool) → AddsSource old mid driver t → signal < length mid
    → row ≡ row_at mid signal → entry.driver ≡ driver → entry.mask ≡ mask → ((s b : ℕ) → b < 128 → (t s b || (signal == s && bit mask b)) ≡ u s b)
    → AddsSource old (set mid signal (row ++ entry ∷ [])) driver u
source-step old mid driver signal mask row entry t u so below same own bits is =
    record { long = set-length mid signal (row ++ entry ∷ []) ∙ so.long; bits = λ s b j within inside. at s b j within inside (cases_eq s signal) }
  where
    at : (s b j : ℕ) → s < length old → b < 128 → (s ≡ signal) ⊎ (s ≡ signal → ⊥)
        → row_has (set mid signal (row ++ entry ∷ [])) s b j ≡ (row_has old s b j || (driver == j && u s b))
    at s b j within inside (inl here) =
        ap (λ k. row_has (set mid signal (row ++ entry ∷ [])) k b j) here
        ∙ ap (list_any (entry_has j b)) (at_same mid signal (row ++ entry ∷ []) below)
        ∙ list_any-append (entry_has j b) row (entry ∷ [])
        ∙ ap₂ (λ x y. x || y) (ap (list_any (entry_has j b)) (same ∙ ap (row_at mid) (sym here))) (or-false (entry_has j b entry))
        ∙ ap₂ (λ x y. x || y) (so.bits s b j within inside) (ap₂ (λ d m. d == j && bit m b) own bits)
        ∙ gathered (row_has old s b j) (driver == j) (t s b) (bit mask b)
        ∙ ap (λ x. row_has old s b j || (driver == j && (t s b || (x && bit mask b)))) (sym (eq-eqb signal s (sym here)))
        ∙ ap (λ x. row_has old s b j || (driver == j && x)) (is s b inside)
    at s b j within inside (inr apart) =
        ap (list_any (entry_has j b)) (at_other mid signal s (row ++ entry ∷ []) apart)
        ∙ so.bits s b j within inside
        ∙ ap (λ x. row_has old s b j || (driver == j && x))
        (sym (or-false (t s b)) ∙ ap (λ x. t s b || (x && bit mask b)) (sym (equal-false signal s (λ e. apart (sym e)))) ∙ is s b inside)

-- all signals of which a set has bits were gone through
pub source-done : (old new : List (List DrivenBits)) (driver : ℕ) (own xs : List ℕ) (i : ℕ) → length xs ≤ i → ((s : ℕ) → get_or own s 0 ≢ 0 → Contains xs s)
    → AddsSource old new driver (λ s b. list_any (λ t. t == s) (take i xs) && has own s b) → AddsSource old new driver (λ s b. has own s b)
source-done old new driver own xs i past all so =
    record { long = so.long; bits = λ s b j within inside. so.bits s b j within inside ∙ ap (λ x. row_has old s b j || (driver == j && x)) (at s b (has own s b) refl) }
  where
    at : (s b : ℕ) (v : Bool) → has own s b ≡ v → (list_any (λ t. t == s) (take i xs) && has own s b) ≡ has own s b
    at s b true is =
        ap (λ x. x && has own s b)
        (ap (list_any (λ t. t == s)) (take_all i xs past)
        ∙ list_any-member (λ t. t == s) xs s (all s (λ none. false≢true (sym (ap (λ n. bit n b) none ∙ bit-zero b) ∙ is))) (eq-eqb s s refl))
    at s b false is = ap (λ x. list_any (λ t. t == s) (take i xs) && x) is ∙ and-false (list_any (λ t. t == s) (take i xs)) ∙ sym is

pub source-none : (rows : List (List DrivenBits)) (driver : ℕ) (t : ℕ → ℕ → Bool) → ((s b : ℕ) → t s b ≡ false) → AddsSource rows rows driver t
source-none rows driver t none =
    record {
      long = refl;
      bits = λ s b j within inside. sym (ap (λ x. row_has rows s b j || (driver == j && x)) (none s b) ∙ ap (λ x. row_has rows s b j || x) (and-false (driver == j)) ∙ or-false (row_has rows s b j));
    }

-- ---- one driver more
equal-suc : (a b : ℕ) → (suc a == suc b) ≡ (a == b)
equal-suc a b = at (cases_eq a b)
  where
    at : (a ≡ b) ⊎ (a ≡ b → ⊥) → (suc a == suc b) ≡ (a == b)
    at (inl same) = eq-eqb (suc a) (suc b) (ap suc same) ∙ sym (eq-eqb a b same)
    at (inr apart) = equal-false (suc a) (suc b) (λ same. apart (omega (arith, same))) ∙ sym (equal-false a b apart)

drives-last : (signals : List Signal) (xs : List Driver) (x : Driver) (s b j : ℕ)
    → drives_at signals (xs ++ x ∷ []) s b j ≡ (drives_at signals xs s b j || (length xs == j && driver_drives signals s b x))
drives-last signals [] x s b zero = sym (ap (λ v. v && driver_drives signals s b x) (eq-eqb 0 0 refl))
drives-last signals [] x s b (suc j) = sym (ap (λ v. v && driver_drives signals s b x) (equal-false 0 (suc j) (λ same. absurd (omega (arith, same)))))
drives-last signals (y ∷ ys) x s b zero =
    sym (ap (λ v. driver_drives signals s b y || (v && driver_drives signals s b x)) (equal-false (suc (length ys)) 0 (λ same. absurd (omega (arith, same))))
    ∙ or-false (driver_drives signals s b y))
drives-last signals (y ∷ ys) x s b (suc j) =
    drives-last signals ys x s b j ∙ ap (λ v. drives_at signals ys s b j || (v && driver_drives signals s b x)) (sym (equal-suc (length ys) j))

pub sources-step : (signals : List Signal) (ds : List Driver) (i : ℕ) (x : Driver) (sources next : List (List DrivenBits)) (own : List ℕ) → i < length ds → x ≡ get_or ds i x
    → AreSources signals (take i ds) sources → AddsSource sources next i (λ s b. has own s b)
    → ((s b : ℕ) → s < length signals → b < 128 → has own s b ≡ driver_drives signals s b x) → AreSources signals (take (i + 1) ds) next
sources-step signals ds i x sources next own below is so added owned =
    record {
      long = added.long ∙ so.long;
      bits = λ s b j within inside.
          added.bits s b j (subst (λ n. s < n) (sym so.long) within) inside
          ∙ ap₂ (λ p q. p || (i == j && q)) (so.bits s b j within inside) (owned s b within inside)
          ∙ ap (λ n. drives_at signals (take i ds) s b j || (n == j && driver_drives signals s b x)) (sym (length-take-le i ds (omega (arith, below))))
          ∙ sym (ap (λ xs. drives_at signals xs s b j) (take-at ds i x below is) ∙ drives-last signals (take i ds) x s b j);
    }

pub sources-none : (signals : List Signal) (rows : List (List DrivenBits)) → length rows ≡ length signals → ((s : ℕ) → row_at rows s ≡ []) → AreSources signals [] rows
sources-none signals rows long none = record { long = long; bits = λ s b j within inside. ap (list_any (entry_has j b)) (none s) }

-- ---- the row of a driver
pub row-done : (sources : List (List DrivenBits)) (reads row xs : List ℕ) (i : ℕ) → length xs ≤ i → ((s : ℕ) → get_or reads s 0 ≢ 0 → Contains xs s)
    → ((s : ℕ) → Contains xs s → s < length reads)
    → ((j : ℕ) → list_any (λ x. x == j) row ≡ list_any (signal_meets sources reads j) (take i xs)) → IsRow sources reads row
row-done sources reads row xs i past all within so =
    record {
      found = λ j listed.
          let some : list_any (signal_meets sources reads j) xs ≡ true = ap (list_any (signal_meets sources reads j)) (sym (take_all i xs past)) ∙ sym (so j) ∙ listed in
          let signal = list_any-found (signal_meets sources reads j) xs some in
          let entry = list_any-found (entry_meets (get_or reads signal.0 0) j) (row_at sources signal.0) signal.2 in
          let parts = and_parts (entry.0.driver == j) (share_bit entry.0.mask (get_or reads signal.0 0)) entry.2 in
          let b = share-found entry.0.mask (get_or reads signal.0 0) parts.1 in
          record {
            signal = signal.0;
            position = b.0;
            within = within signal.0 signal.1;
            below = b.1;
            read = b.3;
            driven = list_any-member (entry_has j b.0) (row_at sources signal.0) entry.0 entry.1 (ap₂ (λ x y. x && y) parts.0 b.2);
          };
      all = λ j m.
          let entry = list_any-found (entry_has j m.position) (row_at sources m.signal) m.driven in
          let parts = and_parts (entry.0.driver == j) (bit entry.0.mask m.position) entry.2 in
          let meets : signal_meets sources reads j m.signal ≡ true =
          list_any-member (entry_meets (get_or reads m.signal 0) j) (row_at sources m.signal) entry.0 entry.1
          (ap₂ (λ x y. x && y) parts.0 (share-bit entry.0.mask (get_or reads m.signal 0) m.position m.below parts.1 m.read)) in
          let there : Contains xs m.signal = all m.signal (λ none. false≢true (sym (ap (λ n. bit n m.position) none ∙ bit-zero m.position) ∙ m.read)) in
          so j ∙ ap (list_any (signal_meets sources reads j)) (take_all i xs past) ∙ list_any-member (signal_meets sources reads j) xs m.signal there meets;
    }
