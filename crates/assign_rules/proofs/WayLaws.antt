-- The first signal that is assigned in two ways, from the sets of what is assigned in each.
use Rattle.std.proofs.Common.{ℕ, zero, suc, ◌≡◌, ◌≢◌, ◌<◌, ◌≤◌, ◌+◌, List, [], ◌∷◌, length, get_or, replicate, Bool, true, false, refl, sym, subst, ◌∙◌, ap, ap₂, arith, Option, Some, None, ◌⊎◌, inl, inr}
use Rattle.std.specs.Prelude.{◌==◌, ◌&&◌, ◌||◌, not, if◌then◌else◌, All}
use Rattle.std.specs.Option.{option_map_or}
use Rattle.std.specs.List.{list_any}
use Rattle.std.proofs.lemmas.Bool.{false≢true, ltb-true, cases_lt}
use Rattle.loc_base.proofs.ShelfBools.{or-false, and-false, equal-false}
use Rattle.design_core.specs.declared.statement.Part.{Part}
use Rattle.design_core.specs.declared.statement.Part.TheVariants as part
use Rattle.design_core.specs.declared.statement.Stmt.{Stmt, Row_of-Stmt, end_of-Stmt, more_of-Stmt, Row_of-CaseItem, end_of-CaseItem, more_of-CaseItem}
use Rattle.design_core.specs.declared.statement.Stmt.TheVariants as stmt
use Rattle.design_core.specs.declared.driver.Driver.{Driver}
use Rattle.design_core.specs.declared.driver.Driver.TheVariants as driver
use Rattle.design_core.specs.declared.driver.Reset.{Reset}
use Rattle.design_core.specs.declared.driver.Clocked.{Clocked}
use Rattle.design_core.specs.declared.design.Design.{Design}
use Rattle.design_core.specs.Valuation.{bit}
use Rattle.design_core.specs.Drives.{some_set, some_set_of, some_set_in}
use Rattle.design_bits.specs.Masks.{Adds, has, share_bit}
use Rattle.design_bits.proofs.Added.{adds-both}
use Rattle.design_bits.proofs.Masks.{bit-ones, bit-zero}
use Rattle.design_bits.proofs.ShareLaws.{share-found, share-bit}
use Rattle.design_rules.specs.Assignments.{home_of, part_of, by_equals, by_arrow, by_either, driver_sets, clocked_sets, blocks_set, connects, is_misassigned}
use Rattle.design_rules.specs.Entries.{is_variable}
use Rattle.assign_rules.specs.declared.assigned.Ways.{Ways}
use Rattle.assign_rules.specs.Ways.{AreWays, Has, by_way, is_home, is_mixed}

-- ---- one bit of a mask
one-bit : (b : ℕ) → bit 1 b ≡ true → b ≡ 0
one-bit b h =
    let below = ltb-true b 1 (sym (bit-ones 1 b) ∙ h) in omega (arith, below)

pub share-one : (m : ℕ) → share_bit m 1 ≡ bit m 0
share-one m = at (bit m 0) refl (share_bit m 1) refl
  where
    at : (b : Bool) → bit m 0 ≡ b → (v : Bool) → share_bit m 1 ≡ v → share_bit m 1 ≡ bit m 0
    at true is v e = share-bit m 1 0 (omega arith) is (bit-ones 1 0) ∙ sym is
    at false is false e = e ∙ sym is
    at false is true e =
        let found = share-found m 1 e in
        absurd (false≢true (sym is ∙ ap (bit m) (sym (one-bit found.0 found.3)) ∙ found.2))

pub ruleset home_tested = (share-one)

-- ---- an assignment is one by `=` or one by `<=`
two-ways : (later x : Bool) → x ≡ ((not later && x) || (later && x))
two-ways true x = refl
two-ways false x = sym (or-false x)

four : (a b c d : Bool) → ((a || b) || (c || d)) ≡ ((a || c) || (b || d))
four true b c d = refl
four false true true d = refl
four false true false d = refl
four false false c d = refl

mutual
  either-set : (homes : List ℕ) (h : ℕ) (st : Stmt) → some_set (by_either homes h) st ≡ (some_set (by_way false homes h) st || some_set (by_way true homes h) st)
  either-set homes h stmt.Nothing = refl
  either-set homes h (stmt.Block' _ statements) = either-all homes h statements
  either-set homes h (stmt.If' _ _ (more_of-Stmt on_true end_of-Stmt) _ (more_of-Stmt on_false end_of-Stmt)) =
      ap₂ (λ x y. x || y) (either-set homes h on_true) (either-set homes h on_false)
      ∙ four (some_set (by_way false homes h) on_true) (some_set (by_way true homes h) on_true) (some_set (by_way false homes h) on_false) (some_set (by_way true homes h) on_false)
  either-set homes h (stmt.Case' _ _ items _ (more_of-Stmt other end_of-Stmt) _) =
      ap₂ (λ x y. x || y) (either-items homes h items) (either-set homes h other)
      ∙ four (some_set_in (by_way false homes h) items) (some_set_in (by_way true homes h) items) (some_set (by_way false homes h) other) (some_set (by_way true homes h) other)
  either-set homes h (stmt.Set _ target _ later) = two-ways later (list_any (part_of homes h) target.parts)

  either-all : {shape : _} (homes : List ℕ) (h : ℕ) (row : Row_of-Stmt shape) → some_set_of (by_either homes h) row ≡ (some_set_of (by_way false homes h) row || some_set_of (by_way true homes h) row)
  either-all homes h end_of-Stmt = refl
  either-all homes h (more_of-Stmt statement rest) =
      ap₂ (λ x y. x || y) (either-set homes h statement) (either-all homes h rest)
      ∙ four (some_set (by_way false homes h) statement) (some_set (by_way true homes h) statement) (some_set_of (by_way false homes h) rest) (some_set_of (by_way true homes h) rest)

  either-items : {shape : _} (homes : List ℕ) (h : ℕ) (row : Row_of-CaseItem shape) → some_set_in (by_either homes h) row ≡ (some_set_in (by_way false homes h) row || some_set_in (by_way true homes h) row)
  either-items homes h end_of-CaseItem = refl
  either-items homes h (more_of-CaseItem labels body rest) =
      ap₂ (λ x y. x || y) (either-set homes h body) (either-items homes h rest)
      ∙ four (some_set (by_way false homes h) body) (some_set (by_way true homes h) body) (some_set_in (by_way false homes h) rest) (some_set_in (by_way true homes h) rest)

either-list : {X : Type 0} (t u v : X → Bool) (xs : List X) → ((x : X) → t x ≡ (u x || v x)) → list_any t xs ≡ (list_any u xs || list_any v xs)
either-list t u v [] same = refl
either-list t u v (x ∷ xs) same = ap₂ (λ p q. p || q) (same x) (either-list t u v xs same) ∙ four (u x) (v x) (list_any u xs) (list_any v xs)

either-driver : (homes : List ℕ) (h : ℕ) (x : Driver) → driver_sets (by_either homes h) x ≡ (driver_sets (by_way false homes h) x || driver_sets (by_way true homes h) x)
either-driver homes h (driver.Cont target value place span) = refl
either-driver homes h (driver.Comb body span) = either-set homes h body

either-reset : (homes : List ℕ) (h : ℕ) (o : Option Reset)
    → option_map_or (λ r. some_set (by_either homes h) r.values) o false
    ≡ (option_map_or (λ r. some_set (by_way false homes h) r.values) o false || option_map_or (λ r. some_set (by_way true homes h) r.values) o false)
either-reset homes h None = refl
either-reset homes h (Some r) = either-set homes h r.values

either-clocked : (homes : List ℕ) (h : ℕ) (x : Clocked) → clocked_sets (by_either homes h) x ≡ (clocked_sets (by_way false homes h) x || clocked_sets (by_way true homes h) x)
either-clocked homes h x =
    ap₂ (λ p q. p || q) (either-set homes h x.body) (either-reset homes h x.reset)
    ∙ four (some_set (by_way false homes h) x.body) (some_set (by_way true homes h) x.body)
    (option_map_or (λ r. some_set (by_way false homes h) r.values) x.reset false) (option_map_or (λ r. some_set (by_way true homes h) r.values) x.reset false)

either-blocks : (d : Design) (homes : List ℕ) (h : ℕ) → blocks_set (by_either homes h) d ≡ (blocks_set (by_way false homes h) d || blocks_set (by_way true homes h) d)
either-blocks d homes h =
    ap₂ (λ p q. p || q)
    (either-list (driver_sets (by_either homes h)) (driver_sets (by_way false homes h)) (driver_sets (by_way true homes h)) d.drivers.items (either-driver homes h))
    (either-list (clocked_sets (by_either homes h)) (clocked_sets (by_way false homes h)) (clocked_sets (by_way true homes h)) d.clocked.items (either-clocked homes h))
    ∙ four (list_any (driver_sets (by_way false homes h)) d.drivers.items) (list_any (driver_sets (by_way true homes h)) d.drivers.items)
    (list_any (clocked_sets (by_way false homes h)) d.clocked.items) (list_any (clocked_sets (by_way true homes h)) d.clocked.items)

-- ---- a set that begins empty
abbrev pub empty_set : ℕ → List ℕ
empty_set n = replicate n 0

pub zero-bits : (n s : ℕ) → get_or (empty_set n) s 0 ≡ 0
zero-bits zero s = refl
zero-bits (suc n) zero = refl
zero-bits (suc n) (suc s) = zero-bits n s

pub zero-long : (n : ℕ) → length (empty_set n) ≡ n
zero-long zero = refl
zero-long (suc n) = ap suc (zero-long n)

-- what is added to it is all that it has
pub has-added : (start set : List ℕ) (n : ℕ) (test : ℕ → Bool) → start ≡ replicate n 0 → Adds start set (λ h b. test h) → Has n test set
has-added start set n test is adds =
    let long : length start ≡ n = ap length is ∙ zero-long n in
    record {
      long = adds.long ∙ long;
      homes = λ h below.
          adds.bits h 0 (subst (λ k. h < k) (sym long) below) (omega arith)
          ∙ ap (λ m. bit m 0 || test h) (ap (λ l. get_or l h 0) is ∙ zero-bits n h) ∙ ap (λ b. b || test h) (bit-zero 0);
    }

pub has-both : (start mid set : List ℕ) (n : ℕ) (one other : ℕ → Bool) → start ≡ replicate n 0 → Adds start mid (λ h b. one h) → Adds mid set (λ h b. other h)
    → Has n (λ h. one h || other h) set
has-both start mid set n one other is first second =
    has-added start set n (λ h. one h || other h) is (adds-both start mid set (λ h b. one h) (λ h b. other h) first second)

-- ---- a signal that has a home
mixed-kind : (v x y : Bool) → ((v && x) || (not v && y)) ≡ (if v then x else y)
mixed-kind true x y = or-false x
mixed-kind false x y = refl

mixed-apart : (a b u w : Bool) → (((a || b) || u) || w) ≡ ((a || b) || (u || w))
mixed-apart true b u w = refl
mixed-apart false true u w = refl
mixed-apart false false u w = refl

pub mixed-same : (d : Design) (homes : List ℕ) (n : ℕ) (ways : Ways) (h : ℕ) → AreWays d homes n ways → h < n
    → is_misassigned d homes h ≡ is_mixed (is_variable d.signals.items h) ways h
mixed-same d homes n ways h are below =
    let equals : is_home ways.equals h ≡ blocks_set (by_way false homes h) d = are.equals.homes h below in
    let arrows : is_home ways.arrows h ≡ blocks_set (by_way true homes h) d = are.arrows.homes h below in
    let v : Bool = is_variable d.signals.items h in
    let E : Bool = blocks_set (by_way false homes h) d in
    let A : Bool = blocks_set (by_way true homes h) d in
    let K : Bool = list_any (driver_sets (by_way true homes h)) d.drivers.items in
    let N : Bool = list_any (connects homes h) d.drivers.items in
    ap (λ y. ((E && A) || K || (v && N)) || (not v && y)) (either-blocks d homes h)
    ∙ mixed-apart (E && A) K (v && N) (not v && (E || A))
    ∙ ap (λ w. ((E && A) || K) || w) (mixed-kind v N (E || A))
    ∙ ap₂ (λ e a. ((e && a) || K) || (if v then N else (e || a))) (sym equals) (sym arrows)
    ∙ ap₂ (λ k m. ((is_home ways.equals h && is_home ways.arrows h) || k) || (if v then m else (is_home ways.equals h || is_home ways.arrows h)))
    (sym (are.comb_arrows.homes h below)) (sym (are.connected.homes h below))

-- ---- a number past all homes
past-zero : (xs : List ℕ) (s : ℕ) → length xs ≤ s → get_or xs s 0 ≡ 0
past-zero [] s past = refl
past-zero (x ∷ xs) zero past = absurd (omega (arith, past))
past-zero (x ∷ xs) (suc s) past = past-zero xs s (omega (arith, past))

pub home-below : (homes : List ℕ) (n : ℕ) → All (λ h. h < n) homes → 1 ≤ n → (s : ℕ) → home_of homes s < n
home-below homes n all some s = at (cases_lt s (length homes))
  where
    at : (s < length homes) ⊎ (length homes ≤ s) → home_of homes s < n
    at (inl below) = all s 0 below
    at (inr past) = omega (arith, some, past-zero homes s past)

not-home : (homes : List ℕ) (n h : ℕ) → All (λ h. h < n) homes → 1 ≤ n → n ≤ h → (s : ℕ) → (home_of homes s == h) ≡ false
not-home homes n h all some past s =
    let below = home-below homes n all some s in equal-false (home_of homes s) h (λ same. absurd (omega (arith, past, below, same)))

past-part : (homes : List ℕ) (h : ℕ) (p : Part) → ((s : ℕ) → (home_of homes s == h) ≡ false) → part_of homes h p ≡ false
past-part homes h (part.Whole s) none = none s
past-part homes h (part.Slice s from width) none = none s
past-part homes h (part.Pick s index offsets) none = none s
past-part homes h (part.Word first count low index from width) none = none first

past-list : {X : Type 0} (t : X → Bool) (xs : List X) → ((x : X) → t x ≡ false) → list_any t xs ≡ false
past-list t [] none = refl
past-list t (x ∷ xs) none = ap₂ (λ p q. p || q) (none x) (past-list t xs none)

-- a test that no left side passes
abbrev Fails : (List Part → Bool → Bool) → Type 0
Fails t = (parts : List Part) (later : Bool) → t parts later ≡ false

mutual
  past-set : (t : List Part → Bool → Bool) (st : Stmt) → Fails t → some_set t st ≡ false
  past-set t stmt.Nothing none = refl
  past-set t (stmt.Block' _ statements) none = past-all t statements none
  past-set t (stmt.If' e _ (more_of-Stmt on_true end_of-Stmt) _ (more_of-Stmt on_false end_of-Stmt)) none =
      ap₂ (λ x y. x || y) (past-set t on_true none) (past-set t on_false none)
  past-set t (stmt.Case' subject _ items _ (more_of-Stmt other end_of-Stmt) _) none = ap₂ (λ x y. x || y) (past-items t items none) (past-set t other none)
  past-set t (stmt.Set place target value later) none = none target.parts later

  past-all : {shape : _} (t : List Part → Bool → Bool) (row : Row_of-Stmt shape) → Fails t → some_set_of t row ≡ false
  past-all t end_of-Stmt none = refl
  past-all t (more_of-Stmt statement rest) none = ap₂ (λ x y. x || y) (past-set t statement none) (past-all t rest none)

  past-items : {shape : _} (t : List Part → Bool → Bool) (row : Row_of-CaseItem shape) → Fails t → some_set_in t row ≡ false
  past-items t end_of-CaseItem none = refl
  past-items t (more_of-CaseItem labels body rest) none = ap₂ (λ x y. x || y) (past-set t body none) (past-items t rest none)

past-driver : (t : List Part → Bool → Bool) → Fails t → (x : Driver) → driver_sets t x ≡ false
past-driver t none (driver.Cont target value place span) = refl
past-driver t none (driver.Comb body span) = past-set t body none

past-reset : (t : List Part → Bool → Bool) → Fails t → (o : Option Reset) → option_map_or (λ r. some_set t r.values) o false ≡ false
past-reset t none None = refl
past-reset t none (Some r) = past-set t r.values none

past-clocked : (t : List Part → Bool → Bool) → Fails t → (x : Clocked) → clocked_sets t x ≡ false
past-clocked t none x = ap₂ (λ p q. p || q) (past-set t x.body none) (past-reset t none x.reset)

past-blocks : (d : Design) (t : List Part → Bool → Bool) → Fails t → blocks_set t d ≡ false
past-blocks d t none = ap₂ (λ p q. p || q) (past-list (driver_sets t) d.drivers.items (past-driver t none)) (past-list (clocked_sets t) d.clocked.items (past-clocked t none))

past-connects : (homes : List ℕ) (h : ℕ) → ((s : ℕ) → (home_of homes s == h) ≡ false) → (x : Driver) → connects homes h x ≡ false
past-connects homes h none (driver.Cont target value place span) = past-list (part_of homes h) target.parts (λ p. past-part homes h p none)
past-connects homes h none (driver.Comb body span) = refl

past-mixed : (d : Design) (homes : List ℕ) (n h : ℕ) → All (λ k. k < n) homes → 1 ≤ n → n ≤ h → is_misassigned d homes h ≡ false
past-mixed d homes n h all some past =
    let none = not-home homes n h all some past in
    let parts = (λ (ps : List Part). past-list (part_of homes h) ps (λ p. past-part homes h p none)) in
    let arrow : Fails (by_arrow homes h) = (λ ps later. ap (λ x. later && x) (parts ps) ∙ and-false later) in
    let equal : Fails (by_equals homes h) = (λ ps later. ap (λ x. not later && x) (parts ps) ∙ and-false (not later)) in
    let either : Fails (by_either homes h) = (λ ps later. parts ps) in
    let v : Bool = is_variable d.signals.items h in
    ap₂ (λ e a. (((e && a) || list_any (driver_sets (by_arrow homes h)) d.drivers.items) || (v && list_any (connects homes h) d.drivers.items)) || (not v && blocks_set (by_either homes h) d))
    (past-blocks d (by_equals homes h) equal) (past-blocks d (by_arrow homes h) arrow)
    ∙ ap₂ (λ k m. ((false || k) || (v && m)) || (not v && blocks_set (by_either homes h) d))
    (past-list (driver_sets (by_arrow homes h)) d.drivers.items (past-driver (by_arrow homes h) arrow))
    (past-list (connects homes h) d.drivers.items (past-connects homes h none))
    ∙ ap₂ (λ x y. x || y) (and-false v) (ap (λ y. not v && y) (past-blocks d (by_either homes h) either) ∙ and-false (not v))

-- a number below which no signal is assigned in two ways, and none is past all homes
pub none-mixed : (d : Design) (homes : List ℕ) (n i : ℕ) → All (λ k. k < n) homes → 1 ≤ n → n ≤ i
    → ((k : ℕ) → k < i → is_misassigned d homes k ≡ false) → (k : ℕ) → is_misassigned d homes k ≡ true → ⊥
none-mixed d homes n i all some past none k mixed = at (cases_lt k i)
  where
    at : (k < i) ⊎ (i ≤ k) → ⊥
    at (inl below) = false≢true (sym (none k below) ∙ mixed)
    at (inr more) = false≢true (sym (past-mixed d homes n k all some (omega (arith, past, more))) ∙ mixed)

-- one signal more that is not assigned in two ways
pub none-more : (d : Design) (homes : List ℕ) (i : ℕ) → ((k : ℕ) → k < i → is_misassigned d homes k ≡ false) → is_misassigned d homes i ≡ false
    → (k : ℕ) → k < i + 1 → is_misassigned d homes k ≡ false
none-more d homes i none here k below = at (cases_lt k i)
  where
    at : (k < i) ⊎ (i ≤ k) → is_misassigned d homes k ≡ false
    at (inl lower) = none k lower
    at (inr more) =
        let same : i ≡ k = omega (arith, below, more) in subst (λ j. is_misassigned d homes j ≡ false) same here

-- the numbers of the search are below those of the sets
pub within-ways : (d : Design) (homes : List ℕ) (n h : ℕ) (ways : Ways) → AreWays d homes n ways → h < n → (h < length ways.equals) × (h < length ways.arrows) × (h < length ways.comb_arrows) × (h < length ways.connected)
within-ways d homes n h ways are below = (
  subst (λ k. h < k) (sym are.equals.long) below,
  subst (λ k. h < k) (sym are.arrows.long) below,
  subst (λ k. h < k) (sym are.comb_arrows.long) below,
  subst (λ k. h < k) (sym are.connected.long) below,
)
