-- Signals by number: what a name stands for that is given the next number, or numbers, is a signal of the whole design.
use Rattle.std.proofs.Common.{◌≡◌, ℕ, zero, suc, ◌+◌, ◌<◌, ◌≤◌, ◌^◌, Bool, true, false, List, [], ◌∷◌, ◌++◌, length, length-append, Option, Some, refl, ◌∙◌, ap, subst, arith}
use Rattle.std.specs.Prelude.{ℤ, pos, ◌+ℤ◌, if◌then◌else◌, slice_get, nat_le, Result, Ok, Err}
use Rattle.std.proofs.lemmas.Bool.{and_from, eq-eqb}
use Rattle.design_core.specs.declared.signal.Signal.{Signal}
use Rattle.design_core.specs.declared.signal.SignalKind.{SignalKind}
use Rattle.design_core.specs.WellFormed.{signal_fits}
use Rattle.v_syntax.specs.PartTree.{PlainRange}
use Rattle.v_syntax.specs.ItemTree.{PlainDeclarator}
use Rattle.v_sizes.specs.Selected.{count_between}
use Rattle.v_sizes.specs.Context.{IsOf, IsThere}
use Rattle.v_sizes.proofs.Meant.{Within, is-width}
use Rattle.v_hierarchy.specs.declared.bounds.Bounds.{Bounds}
use Rattle.v_hierarchy.specs.Constants.{width}
use Rattle.v_hierarchy.specs.Stands.{IsRange}
use Rattle.v_binding.specs.declared.error.BindErr.{BindErr}
use Rattle.v_binding.specs.declared.error.BindErr.TheVariants as fault
use Rattle.v_binding.specs.Steps.{◌>>=◌}
use Rattle.v_binding.specs.Names.{Names}
use Rattle.v_binding.specs.Expressions.{index_at}
use Rattle.v_binding.specs.Addresses.{Addresses, addresses_between, addresses_at}
use Rattle.v_binding.specs.Signals.{Numbered, signal_of, words, one_address, addresses_or_one}
use Rattle.bind_laws.specs.Every.{Every}
use Rattle.bind_laws.specs.Fit.{Begins}
use Rattle.bind_laws.proofs.Lists.{Ok-same, Err-Ok, between}
use Rattle.bind_laws.proofs.Lefts.{word-width}

-- the signals of the design are those of these numbers: they differ in their start values alone
pub record SameSignal (n : Numbered) (o : Option Signal) : Type 0 where
  pub signal : Signal
  pub is : o ≡ Some signal
  pub of : IsOf n.signal.width n.signal.left n.signal.right signal
  pub kind : signal.kind ≡ n.signal.kind

abbrev pub AreSame : List Numbered → List Signal → Type 0
AreSame numbered signals = (k : ℕ) (n : Numbered) → slice_get numbered k ≡ Some n → SameSignal n (slice_get signals k)

-- the numbers of a whole design, with its signals
pub record Final : Type 0 where
  pub numbered : List Numbered
  pub signals : List Signal
  pub same : AreSame numbered signals
  pub few : length numbered < 2 ^ 32

-- ---- one signal
-- the signal of a number is that of the design
pub number-there : (w : Final) (k : ℕ) (n : Numbered) → slice_get w.numbered k ≡ Some n
    → IsThere w.signals n.signal.width n.signal.left n.signal.right k
number-there w k n at = let s = w.same k n at in record { signal = s.signal; there = s.is; is = s.of }

pub signal-fits : (path : List ℕ) (kind : SignalKind) (signed : Bool) (b : Bounds) → IsRange b
    → signal_fits (signal_of path kind signed b) ≡ true
signal-fits path kind signed b range =
    let within : Within (width b) = record { least = range.least; most = range.most } in
    and_from _ _ (and_from _ _ (is-width (width b) within) range.range) (eq-eqb _ (width b) (word-width (width b) 0 within))

-- ---- the words of an array
words-length : (one : ℤ → Numbered) (count : ℕ) (low : ℤ) → length (words one count low) ≡ count
unfolding words
words-length one zero low = refl
words-length one (suc count) low = omega (arith, words-length one count (low +ℤ pos 1))

-- a word of a number below their count
pub record WordAt (one : ℤ → Numbered) (o : Option Numbered) : Type 0 where
  pub address : ℤ
  pub is : o ≡ Some (one address)

words-at : (one : ℤ → Numbered) (count : ℕ) (low : ℤ) (k : ℕ) → k < count
    → WordAt one (slice_get (words one count low) k)
unfolding words
words-at one zero low k less = absurd (omega (arith, less))
words-at one (suc count) low zero less = record { address = low; is = refl }
words-at one (suc count) low (suc k) less = words-at one count (low +ℤ pos 1) k (omega (arith, less))

pub words-every : (P : Numbered → Type 0) (one : ℤ → Numbered) (count : ℕ) (low : ℤ)
    → ((address : ℤ) → P (one address)) → Every P (words one count low)
unfolding words
words-every P one zero low all = tt
words-every P one (suc count) low all = (all low, words-every P one count (low +ℤ pos 1) all)

-- an element of the second of three lists
second-at : {X : Type 0} (xs ys zs : List X) (k : ℕ) → k < length ys
    → slice_get ((xs ++ ys) ++ zs) (length xs + k) ≡ slice_get ys k
second-at {X} [] ys zs k less = ap (slice_get (ys ++ zs)) zeros ∙ front ys k less
  where
    zeros : 0 + k ≡ k
    zeros = omega arith

    front : (ys : List X) (k : ℕ) → k < length ys → slice_get (ys ++ zs) k ≡ slice_get ys k
    front [] k less = absurd (omega (arith, less))
    front (y ∷ ys) zero less = refl
    front (y ∷ ys) (suc k) less = front ys k (omega (arith, less))
second-at (x ∷ xs) ys zs k less =
    let next : length (x ∷ xs) + k ≡ suc (length xs + k) = omega arith in
    ap (slice_get (((x ∷ xs) ++ ys) ++ zs)) next ∙ second-at xs ys zs k less

-- the words that are given the next numbers
pub words-there : (w : Final) (before : List Numbered) (one : ℤ → Numbered) (count : ℕ) (low : ℤ) (size : ℕ)
    (left right : ℤ)
    → ((address : ℤ) → ((one address).signal.width ≡ size) × ((one address).signal.left ≡ left) × ((one address).signal.right ≡ right))
    → Begins (before ++ words one count low) w.numbered → (k : ℕ) → k < count
    → IsThere w.signals size left right (length before + k)
words-there w before one count low size left right alike begins k less =
    let long = words-length one count low in
    let at = words-at one count low k less in
    let found : slice_get w.numbered (length before + k) ≡ Some (one at.address) =
    ap (λ whole. slice_get whole (length before + k)) begins.is ∙ second-at before (words one count low) begins.rest k (omega (arith, long, less)) ∙ at.is in
    let there = number-there w (length before + k) (one at.address) found in
    let same = alike at.address in
    subst (λ s. IsThere w.signals s left right (length before + k)) same.0
    (subst (λ l. IsThere w.signals (one at.address).signal.width l right (length before + k)) same.1
    (subst (λ r. IsThere w.signals (one at.address).signal.width (one at.address).signal.left r (length before + k)) same.2 there))

pub words-few : (w : Final) (before : List Numbered) (one : ℤ → Numbered) (count : ℕ) (low : ℤ)
    → Begins (before ++ words one count low) w.numbered
    → length before + count ≤ 4294967295
words-few w before one count low begins =
    let whole : length w.numbered ≡ length ((before ++ words one count low) ++ begins.rest) = ap length begins.is in
    omega (arith, w.few, whole, length-append (before ++ words one count low) begins.rest, length-append before (words one count low), words-length one count low)

-- ---- addresses
abbrev or_one : Result Addresses BindErr → Addresses
or_one o = elim o [
  | Ok a ↦ a
  | Err _ ↦ one_address
]

-- an array has a word at least
pub addresses-some : (names : Names) (d : PlainDeclarator) (r : PlainRange) → 1 ≤ (addresses_or_one names d r).count
addresses-some names d r = by (addresses_at names d.site.span r) refl
  where
    made : ℤ → ℤ → Result Addresses BindErr
    made left right = if nat_le (count_between left right) 1024 then Ok (addresses_between left right) else Err (fault.Range d.site.span)

    few : (left right : ℤ) (fits : Bool) (a : Addresses)
        → ◌≡◌ {A = Result Addresses BindErr}
        (if fits then Ok (addresses_between left right) else Err (fault.Range d.site.span)) (Ok a) → 1 ≤ a.count
    few left right true a is = subst (λ (x : Addresses). 1 ≤ x.count) (Ok-same is) (omega arith)
    few left right false a is = Err-Ok is

    by : (o : Result Addresses BindErr) → addresses_at names d.site.span r ≡ o → 1 ≤ (or_one o).count
    by (Ok a) is =
        between (index_at names r.left) (λ left. index_at names r.right >>= λ right. made left right) a (1 ≤ a.count) is λ left _ is.
        between (index_at names r.right) (λ right. made left right) a (1 ≤ a.count) is λ right _ is.
        few left right (nat_le (count_between left right) 1024) a is
    by (Err e) is = omega arith
