-- The rows of a design's drivers have what each depends on, so their least order and their circles are the design's.
use Rattle.std.proofs.Common.{ℕ, zero, suc, ◌≡◌, ◌<◌, ◌≤◌, ◌+◌, List, [], ◌∷◌, ◌++◌, length, get_or, take, Bool, true, false, refl, sym, subst, ◌∙◌, ap, arith, Result, Ok, Err, Some, None, ◌⊎◌, inl, inr}
use Rattle.std.specs.Prelude.{◌==◌, Option, slice_get, slice_index_or, Contains, IfOk, IfErr}
use Rattle.std.specs.Option.{option_map_or}
use Rattle.std.specs.List.{list_any, list_all}
use Rattle.std.proofs.lemmas.Bool.{false≢true, cases_order, eq-eqb}
use Rattle.loc_base.proofs.ShelfBools.{equal-true}
use Rattle.loc_base.proofs.ShelfLists.{slice_get-at, list_any-found, list_any-member, list_all-member, Contains-at, Contains-empty}
use Rattle.design_core.specs.declared.signal.Signal.{Signal}
use Rattle.design_core.specs.declared.driver.Driver.{Driver}
use Rattle.design_core.specs.declared.design.Design.{Design}
use Rattle.design_core.specs.Valuation.{width_at}
use Rattle.design_core.specs.Drives.{driver_drives}
use Rattle.design_core.specs.Reads.{driver_reads, Depends}
use Rattle.design_core.specs.Order.{Leads, IsLeastOrderOf, HasCircleOf, IsLeastOrder, HasCircle}
use Rattle.design_core.specs.Given.{CanRun}
use Rattle.design_core.specs.WellFormed.{driver_fits}
use Rattle.design_core.proofs.OrderLaws.{least-alike, least-is_order, least-unique, circle-no_least}
use Rattle.design_bits.specs.Masks.{has}
use Rattle.design_bits.proofs.DrivesWithin.{driver-below, width-within}
use Rattle.design_order.specs.declared.error.OrderErr.{OrderErr}
use Rattle.design_order.specs.declared.error.OrderErr.TheVariants.{NoMemory, Circle}
use Rattle.design_order.specs.declared.sources.DrivenBits.{DrivenBits}
use Rattle.design_order.specs.Circle.{IsCircleOf}
use Rattle.design_order.specs.Refusal.{IsRefused, IsRefusal}
use Rattle.design_order.specs.DriverOrder.{IsTheOrder}
use Rattle.design_order.specs.Rows.{AreWithin, Listed, row}
use Rattle.design_order.specs.Sources.{row_has, drives_at, AreSources, Meets, IsRow, AreNeeds}

-- ---- what a driver reads that another drives
found-driver : (signals : List Signal) (s b : ℕ) (o : Option Driver) → option_map_or (driver_drives signals s b) o false ≡ true → (y : Driver) × (o ≡ Some y) × (driver_drives signals s b y ≡ true)
found-driver signals s b None drives = absurd (false≢true drives)
found-driver signals s b (Some y) drives = (y, refl, drives)

meets-depends : (d : Design) (i j : ℕ) (x : Driver) (sources : List (List DrivenBits)) (reads : List ℕ) → slice_get d.drivers.items i ≡ Some x → AreSources d.signals.items d.drivers.items sources
    → length reads ≡ length d.signals.items → ((s b : ℕ) → s < length d.signals.items → b < 128 → has reads s b ≡ driver_reads d.signals.items s b x) → Meets sources reads j → Depends d i j
meets-depends d i j x sources reads at are long reading m =
    let within : m.signal < length d.signals.items = subst (λ n. m.signal < n) long m.within in
    let source = found-driver d.signals.items m.signal m.position (slice_get d.drivers.items j) (sym (are.bits m.signal m.position j within m.below) ∙ m.driven) in
    record {
      reader = x;
      source = source.0;
      is_reader = at;
      is_source = source.1;
      signal = m.signal;
      position = m.position;
      read = sym (reading m.signal m.position within m.below) ∙ m.read;
      driven = source.2;
    }

same-driver : (d : Design) (i : ℕ) (x y : Driver) → slice_get d.drivers.items i ≡ Some x → slice_get d.drivers.items i ≡ Some y → x ≡ y
same-driver d i x y one other = cc

depends-meets : (d : Design) (i j : ℕ) (x : Driver) (sources : List (List DrivenBits)) (reads : List ℕ) → CanRun d → slice_get d.drivers.items i ≡ Some x → AreSources d.signals.items d.drivers.items sources
    → length reads ≡ length d.signals.items → ((s b : ℕ) → s < length d.signals.items → b < 128 → has reads s b ≡ driver_reads d.signals.items s b x) → Depends d i j → Meets sources reads j
depends-meets d i j x sources reads well at are long reading on =
    let fits = list_all-member (driver_fits d.signals.items d.places.items) d.drivers.items on.source well.drivers (Contains-at d.drivers.items j on.source on.is_source) in
    let inside = width-within d.signals.items on.signal on.position well.signals (driver-below d.signals.items d.places.items on.signal on.position on.source fits on.driven) in
    record {
      signal = on.signal;
      position = on.position;
      within = subst (λ n. on.signal < n) (sym long) inside.0;
      below = inside.1;
      read = reading on.signal on.position inside.0 inside.1 ∙ ap (driver_reads d.signals.items on.signal on.position) (same-driver d i x on.reader at on.is_reader) ∙ on.read;
      driven = are.bits on.signal on.position j inside.0 inside.1 ∙ ap (λ o. option_map_or (driver_drives d.signals.items on.signal on.position) o false) on.is_source ∙ on.driven;
    }

-- ---- one row more
row-before : (rows : List (List ℕ)) (last : List ℕ) (i : ℕ) → i < length rows → row (rows ++ last ∷ []) i ≡ row rows i
row-before [] last i below = absurd (omega (arith, below))
row-before (x ∷ rows) last zero below = refl
row-before (x ∷ rows) last (suc i) below = row-before rows last i (omega (arith, below))

row-last : (rows : List (List ℕ)) (last : List ℕ) → row (rows ++ last ∷ []) (length rows) ≡ last
row-last [] last = refl
row-last (x ∷ rows) last = row-last rows last

row-past : (rows : List (List ℕ)) (last : List ℕ) (i : ℕ) → length rows < i → row (rows ++ last ∷ []) i ≡ []
row-past [] last zero past = absurd (omega (arith, past))
row-past [] last (suc i) past = refl
row-past (x ∷ rows) last zero past = absurd (omega (arith, past))
row-past (x ∷ rows) last (suc i) past = row-past rows last i (omega (arith, past))

row-empty : (rows : List (List ℕ)) (i : ℕ) → length rows ≤ i → row rows i ≡ []
row-empty [] i past = refl
row-empty (x ∷ rows) zero past = absurd (omega (arith, past))
row-empty (x ∷ rows) (suc i) past = row-empty rows i (omega (arith, past))

has-member : (xs : List ℕ) (j : ℕ) → Contains xs j → list_any (λ x. x == j) xs ≡ true
has-member xs j member = list_any-member (λ x. x == j) xs j member (eq-eqb j j refl)

member-has : (xs : List ℕ) (j : ℕ) → list_any (λ x. x == j) xs ≡ true → Contains xs j
member-has xs j some = let found = list_any-found (λ x. x == j) xs some in subst (Contains xs) (equal-true found.0 j found.2) found.1

pub needs-none : (d : Design) → AreNeeds d 0 []
needs-none d = record { long = refl; found = λ i j member. absurd (Contains-empty j member); all = λ i j below on. absurd (omega (arith, below)) }

pub needs-step : (d : Design) (i : ℕ) (x : Driver) (sources : List (List DrivenBits)) (reads last : List ℕ) (rows : List (List ℕ)) → CanRun d → i < length d.drivers.items → x ≡ get_or d.drivers.items i x
    → AreSources d.signals.items d.drivers.items sources → length reads ≡ length d.signals.items
    → ((s b : ℕ) → s < length d.signals.items → b < 128 → has reads s b ≡ driver_reads d.signals.items s b x) → IsRow sources reads last → AreNeeds d i rows
    → AreNeeds d (i + 1) (rows ++ last ∷ [])
needs-step d i x sources reads last rows well below is are long reading own so =
    let at = slice_get-at d.drivers.items i x below is in
    record {
      long = grown rows last ∙ ap (λ n. n + 1) so.long;
      found = λ k j listed. found k j listed at (cases_order k i);
      all = λ k j under on. all k j under on at (cases_order k i);
    }
  where
    grown : (rows : List (List ℕ)) (last : List ℕ) → length (rows ++ last ∷ []) ≡ length rows + 1
    grown [] last = refl
    grown (r ∷ rows) last = let rest = grown rows last in omega (arith, rest)

    here : (k : ℕ) → k ≡ i → row (rows ++ last ∷ []) k ≡ last
    here k same = ap (row (rows ++ last ∷ [])) (same ∙ sym so.long) ∙ row-last rows last

    found : (k j : ℕ) → Contains (row (rows ++ last ∷ []) k) j → slice_get d.drivers.items i ≡ Some x → (k ≡ i) ⊎ ((k < i) ⊎ (i < k)) → Depends d k j
    found k j listed at (inl same) =
        subst (λ n. Depends d n j) (sym same)
        (meets-depends d i j x sources reads at are long reading (own.found j (has-member last j (subst (λ r. Contains r j) (here k same) listed))))
    found k j listed at (inr (inl lt)) = so.found k j (subst (λ r. Contains r j) (row-before rows last k (omega (arith, lt, so.long))) listed)
    found k j listed at (inr (inr gt)) = absurd (Contains-empty j (subst (λ r. Contains r j) (row-past rows last k (omega (arith, gt, so.long))) listed))

    all : (k j : ℕ) → k < i + 1 → Depends d k j → slice_get d.drivers.items i ≡ Some x → (k ≡ i) ⊎ ((k < i) ⊎ (i < k)) → Contains (row (rows ++ last ∷ []) k) j
    all k j under on at (inl same) =
        subst (λ r. Contains r j) (sym (here k same))
        (member-has last j (own.all j (depends-meets d i j x sources reads well at are long reading (subst (λ n. Depends d n j) same on))))
    all k j under on at (inr (inl lt)) = subst (λ r. Contains r j) (sym (row-before rows last k (omega (arith, lt, so.long)))) (so.all k j lt on)
    all k j under on at (inr (inr gt)) = absurd (omega (arith, under, gt))

-- ---- the rows of all drivers
get-within : (xs : List Driver) (k : ℕ) (x : Driver) → slice_get xs k ≡ Some x → k < length xs
get-within [] k x is = absurd cc
get-within (y ∷ ys) zero x is = omega arith
get-within (y ∷ ys) (suc k) x is = let rest = get-within ys k x is in omega (arith, rest)

reader-within : (d : Design) (i j : ℕ) → Depends d i j → i < length d.drivers.items
reader-within d i j on = get-within d.drivers.items i on.reader on.is_reader

source-within : (d : Design) (i j : ℕ) → Depends d i j → j < length d.drivers.items
source-within d i j on = get-within d.drivers.items j on.source on.is_source

needs-within : (d : Design) (rows : List (List ℕ)) → AreNeeds d (length d.drivers.items) rows → (i j : ℕ) → Contains (row rows i) j → j < length rows
needs-within d rows so i j listed = subst (λ n. j < n) (sym so.long) (source-within d i j (so.found i j listed))

get_or-here : (xs : List ℕ) (i d : ℕ) → i < length xs → get_or xs i (get_or xs i d) ≡ get_or xs i d
get_or-here [] i d below = absurd (omega (arith, below))
get_or-here (x ∷ xs) zero d below = refl
get_or-here (x ∷ xs) (suc i) d below = get_or-here xs i d (omega (arith, below))

pub needs-are-within : (d : Design) (rows : List (List ℕ)) → AreNeeds d (length d.drivers.items) rows → AreWithin rows
needs-are-within d rows so =
    record { within = λ i k e below. needs-within d rows so i (get_or (row rows i) k e) (k, below, get_or-here (row rows i) k e below) }

order-of : (d : Design) (rows : List (List ℕ)) (order : List ℕ) → AreNeeds d (length d.drivers.items) rows → IsLeastOrderOf (Listed rows) (length rows) order → IsLeastOrder d order
order-of d rows order so least =
    least-alike (Listed rows) (Depends d) (length d.drivers.items) order (λ i j listed. so.found i j listed) (λ i j on. so.all i j (reader-within d i j on) on)
    (subst (λ n. IsLeastOrderOf (Listed rows) n order) so.long least)

leads-on : (D E : ℕ → ℕ → Type 0) (path : List ℕ) (i last : ℕ) → ((i j : ℕ) → D i j → E i j) → Leads D i path last → Leads E i path last
leads-on D E [] i last on leads = on i last leads
leads-on D E (j ∷ path) i last on (first, rest) = (on i j first, leads-on D E path j last on rest)

circle-on : (D E : ℕ → ℕ → Type 0) (n : ℕ) (drivers : List ℕ) → ((i j : ℕ) → D i j → E i j) → IsCircleOf D n drivers → IsCircleOf E n drivers
circle-on D E n [] on circle = circle
circle-on D E n (i ∷ path) on (within, leads) = (within, leads-on D E path i i on leads)

pub refusal-of : (d : Design) (rows : List (List ℕ)) (error : OrderErr) → AreNeeds d (length d.drivers.items) rows → IsRefused (Listed rows) (length rows) error → IsRefusal d error
refusal-of d rows NoMemory so refused = tt
refusal-of d rows (Circle drivers) so refused =
    circle-on (Listed rows) (Depends d) (length d.drivers.items) drivers.items (λ i j listed. so.found i j listed) (subst (λ n. IsCircleOf (Listed rows) n drivers.items) so.long refused)

pub the-order : (d : Design) (rows : List (List ℕ)) (order : List ℕ) → AreNeeds d (length d.drivers.items) rows → IsLeastOrderOf (Listed rows) (length rows) order → IsTheOrder d order
the-order d rows order so least =
    let own = order-of d rows order so least in
    record {
      least = own;
      carried_out = least-is_order d order own;
      only = λ other too. least-unique (Depends d) (length d.drivers.items) other order too own;
      no_circle = λ circle. circle-no_least (Depends d) (length d.drivers.items) order circle own;
    }
