-- The first signal that races, from the set of those that do.
use Rattle.std.proofs.Common.{ℕ, zero, suc, ◌≡◌, ◌<◌, ◌≤◌, ◌+◌, List, [], ◌∷◌, length, get_or, take, replicate, Bool, true, false, refl, sym, subst, ◌∙◌, ap, ap₂, arith, Option, Some, None, ◌⊎◌, inl, inr}
use Rattle.std.specs.Prelude.{◌==◌, ◌&&◌, ◌||◌, All, slice_get, IfNone, IfSome}
use Rattle.std.specs.List.{list_any}
use Rattle.std.proofs.lemmas.Bool.{false≢true, and_parts, or_cases, cases_lt}
use Rattle.std.proofs.lemmas.List.{take_all}
use Rattle.loc_base.proofs.ShelfBools.{or-false, and-false, and-true}
use Rattle.loc_base.proofs.ShelfLists.{slice_get-at}
use Rattle.design_core.specs.declared.design.Design.{Design}
use Rattle.design_core.specs.declared.driver.Clocked.{Clocked}
use Rattle.design_core.specs.Valuation.{bit}
use Rattle.design_core.specs.Given.{CanRun}
use Rattle.design_core.specs.Mentions.{driver_mentions, block_mentions}
use Rattle.design_bits.specs.Masks.{Adds, has}
use Rattle.design_bits.proofs.Masks.{bit-zero}
use Rattle.design_bits.proofs.DrivesWithin.{width-within}
use Rattle.design_rules.specs.Assignments.{home_of, by_equals, clocked_sets}
use Rattle.design_rules.specs.Entries.{is_mentioned, is_output_bit}
use Rattle.design_rules.specs.First.{IsFirst}
use Rattle.design_rules.specs.Races.{IsRace, others, is_used_outside}
use Rattle.design_rules.proofs.FirstUndriven.{used-below}
use Rattle.assign_rules.specs.declared.users.Users.{Users}
use Rattle.assign_rules.specs.Racing.{Assigns, AreRacing}
use Rattle.assign_rules.specs.UsedBy.{is_used_at, is_used_among, AreUsers}
use Rattle.assign_rules.specs.Ways.{by_way, is_home}
use Rattle.assign_rules.proofs.OtherLaws.{others-some}
use Rattle.assign_rules.proofs.UserLaws.{or-first, or-second}
use Rattle.assign_rules.proofs.WayLaws.{home-below, zero-bits}

-- ---- a mask or none
pub mask-held : (m : ℕ) (b : ℕ) → bit m b ≡ (bit m b && true)
mask-held m b = sym (and-true (bit m b))

pub mask-none : (m : ℕ) (b : ℕ) → bit 0 b ≡ (bit m b && false)
mask-none m b = bit-zero b ∙ sym (and-false (bit m b))

pub ruleset masked = (mask-held, mask-none)

-- ---- clocked blocks one after the other
pub none-racing : (d : Design) (homes : List ℕ) (table : List Users) (n : ℕ) (set : List ℕ) → set ≡ replicate n 0 → AreRacing d homes table 0 set
none-racing d homes table n set is = record {
  only = λ h below race. absurd (false≢true (sym (ap (λ m. bit m 0) (ap (λ l. get_or l h 0) is ∙ zero-bits n h) ∙ bit-zero 0) ∙ race));
  all = λ h below race. absurd (omega (arith, race.before));
}

one-of : (blocks : List Clocked) (k : ℕ) (x y : Clocked) → slice_get blocks k ≡ Some x → slice_get blocks k ≡ Some y → x ≡ y
one-of blocks k x y one other = cc

pub more-racing : (d : Design) (homes : List ℕ) (table : List Users) (i : ℕ) (x : Clocked) (racing own new : List ℕ) → i < length d.clocked.items → x ≡ get_or d.clocked.items i x
    → AreRacing d homes table i racing → ((h b : ℕ) → h < length racing → b < 128 → has own h b ≡ clocked_sets (by_way false homes h) x)
    → Adds racing new (λ h b. has own h b && is_used_at table h i) → AreRacing d homes table (i + 1) new
more-racing d homes table i x racing own new below is are bits adds = record {
  only = λ h within race. only_of h (inside h within) (or_cases (is_home racing h) (has own h 0 && is_used_at table h i) (sym (adds.bits h 0 (inside h within) (omega arith)) ∙ race));
  all = λ h within race. adds.bits h 0 (inside h within) (omega arith) ∙ all_of h (inside h within) race (cases_lt race.number i);
}
  where
    at : slice_get d.clocked.items i ≡ Some x
    at = slice_get-at d.clocked.items i x below is

    inside : (h : ℕ) → h < length new → h < length racing
    inside h within = subst (λ n. h < n) adds.long within

    only_of : (h : ℕ) → h < length racing → (is_home racing h ≡ true) ⊎ ((has own h 0 && is_used_at table h i) ≡ true) → Assigns d homes table (i + 1) h
    only_of h within (inl before) =
        let a = are.only h within before in
        record { number = a.number; block = a.block; before = omega (arith, a.before); is_block = a.is_block; assigned = a.assigned; used = a.used }
    only_of h within (inr now) =
        let both = and_parts (has own h 0) (is_used_at table h i) now in
        record { number = i; block = x; before = omega arith; is_block = at; assigned = sym (bits h 0 within (omega arith)) ∙ both.0; used = both.1 }

    all_of : (h : ℕ) → h < length racing → (race : Assigns d homes table (i + 1) h) → (race.number < i) ⊎ (i ≤ race.number) → (is_home racing h || (has own h 0 && is_used_at table h i)) ≡ true
    all_of h within race (inl lower) =
        or-first (is_home racing h) (has own h 0 && is_used_at table h i)
        (are.all h within (record { number = race.number; block = race.block; before = lower; is_block = race.is_block; assigned = race.assigned; used = race.used }))
    all_of h within race (inr past) =
        let same : race.number ≡ i = omega (arith, past, race.before) in
        let block : race.block ≡ x = one-of d.clocked.items i race.block x (subst (λ k. slice_get d.clocked.items k ≡ Some race.block) same race.is_block) at in
        or-second (is_home racing h) (has own h 0 && is_used_at table h i)
        (ap₂ (λ a b. a && b) (bits h 0 within (omega arith) ∙ ap (clocked_sets (by_equals homes h)) (sym block) ∙ race.assigned) (ap (is_used_at table h) (sym same) ∙ race.used))

-- ---- what is used outside of a block
used-same : (d : Design) (k s b : ℕ) → is_used_among d (length d.clocked.items) k s b ≡ is_used_outside d k s b
used-same d k s b =
    ap (λ xs. (list_any (driver_mentions d.signals.items s b) d.drivers.items || is_output_bit d s b) || list_any (block_mentions d.signals.items s b) (others k xs))
    (take_all (length d.clocked.items) d.clocked.items (omega arith))
    ∙ turned (list_any (driver_mentions d.signals.items s b) d.drivers.items) (is_output_bit d s b) (list_any (block_mentions d.signals.items s b) (others k d.clocked.items))
  where
    turned : (a b c : Bool) → ((a || b) || c) ≡ ((a || c) || b)
    turned true b c = refl
    turned false true true = refl
    turned false true false = refl
    turned false false c = sym (or-false c)

outside-used : (d : Design) (k s b : ℕ) → is_used_outside d k s b ≡ true → (is_mentioned d s b || is_output_bit d s b) ≡ true
outside-used d k s b used = at (or_cases (one || some) last used)
  where
    one : Bool
    one = list_any (driver_mentions d.signals.items s b) d.drivers.items

    some : Bool
    some = list_any (block_mentions d.signals.items s b) (others k d.clocked.items)

    last : Bool
    last = is_output_bit d s b

    inner : (one ≡ true) ⊎ (some ≡ true) → is_mentioned d s b ≡ true
    inner (inl here) = or-first one (list_any (block_mentions d.signals.items s b) d.clocked.items) here
    inner (inr here) = or-second one (list_any (block_mentions d.signals.items s b) d.clocked.items) (others-some (block_mentions d.signals.items s b) k d.clocked.items here)

    at : ((one || some) ≡ true) ⊎ (last ≡ true) → (is_mentioned d s b || last) ≡ true
    at (inl here) = or-first (is_mentioned d s b) last (inner (or_cases one some here))
    at (inr here) = or-second (is_mentioned d s b) last here

-- ---- the first one
get-within : (xs : List Clocked) (k : ℕ) (x : Clocked) → slice_get xs k ≡ Some x → k < length xs
get-within [] k x is = absurd cc
get-within (y ∷ ys) zero x is = omega arith
get-within (y ∷ ys) (suc k) x is = let rest = get-within ys k x is in omega (arith, rest)

is-race : (d : Design) (homes : List ℕ) (table : List Users) (h : ℕ) → AreUsers d homes (length d.clocked.items) table → Assigns d homes table (length d.clocked.items) h → IsRace d homes h
is-race d homes table h are a =
    let u = are.only h a.number a.used in
    record {
      number = a.number;
      block = a.block;
      is_block = a.is_block;
      assigned = a.assigned;
      signal = u.signal;
      position = u.position;
      at_home = u.at_home;
      used = sym (used-same d a.number u.signal u.position) ∙ u.used;
    }

race-assigns : (d : Design) (homes : List ℕ) (table : List Users) (h : ℕ) → CanRun d → AreUsers d homes (length d.clocked.items) table → IsRace d homes h
    → Assigns d homes table (length d.clocked.items) h
race-assigns d homes table h well are r =
    let inside = width-within d.signals.items r.signal r.position well.signals (used-below d r.signal r.position well (outside-used d r.number r.signal r.position r.used)) in
    let used = are.all r.signal r.position r.number inside.0 inside.1 (used-same d r.number r.signal r.position ∙ r.used) in
    record {
      number = r.number;
      block = r.block;
      before = get-within d.clocked.items r.number r.block r.is_block;
      is_block = r.is_block;
      assigned = r.assigned;
      used = subst (λ k. is_used_at table k r.number ≡ true) r.at_home used;
    }

not-race : (d : Design) (homes : List ℕ) (n : ℕ) (table : List Users) (set : List ℕ) (h : ℕ) → CanRun d → AreUsers d homes (length d.clocked.items) table
    → AreRacing d homes table (length d.clocked.items) set → length set ≡ n → ((s : ℕ) → home_of homes s < n) → (h < length set → is_home set h ≡ false) → IsRace d homes h → ⊥
not-race d homes n table set h well users racing long homes_below none r =
    let within : h < length set = subst (λ k. k < length set) r.at_home (subst (λ m. home_of homes r.signal < m) (sym long) (homes_below r.signal)) in
    false≢true (sym (none within) ∙ racing.all h within (race-assigns d homes table h well users r))

pub first-race : (d : Design) (homes : List ℕ) (n : ℕ) (table : List Users) (set : List ℕ) (found : Option ℕ) → CanRun d → AreUsers d homes (length d.clocked.items) table
    → AreRacing d homes table (length d.clocked.items) set → length set ≡ n → ((s : ℕ) → home_of homes s < n)
    → IfNone found ((h : ℕ) → h < length set → is_home set h ≡ false) → IfSome found (λ h. is_home set h ≡ true) → IfSome found (λ h. h < length set)
    → IfSome found (λ h. (k : ℕ) → k < h → is_home set k ≡ false) → IsFirst (IsRace d homes) found
first-race d homes n table set None well users racing long below none some within first = λ h r. not-race d homes n table set h well users racing long below (none h) r
first-race d homes n table set (Some h) well users racing long below none some within first = (
  is-race d homes table h users (racing.only h within some),
  λ k lower r. not-race d homes n table set k well users racing long below (λ _. first k lower) r,
)
