-- Who uses a signal, set by set.
use Rattle.std.proofs.Common.{ℕ, zero, suc, ◌≡◌, ◌≢◌, ◌<◌, ◌≤◌, ◌+◌, List, [], ◌∷◌, length, get_or, take, replicate, Bool, true, false, refl, sym, subst, ◌∙◌, ap, ap₂, arith, ◌⊎◌, inl, inr}
use Rattle.std.specs.Prelude.{◌==◌, ◌&&◌, ◌||◌, not, All, Contains}
use Rattle.std.specs.List.{list_any}
use Rattle.std.proofs.lemmas.Bool.{false≢true, and_parts, or_cases, eq-eqb, cases_eq}
use Rattle.std.proofs.lemmas.List.{take_all}
use Rattle.loc_base.proofs.ShelfBools.{or-false, or-true, or-comm, equal-true, equal-false, and-false, and-true}
use Rattle.loc_base.proofs.ShelfLists.{list_any-member, list_any-found, All-member}
use Rattle.design_core.specs.declared.design.Design.{Design}
use Rattle.design_core.specs.Valuation.{bit}
use Rattle.design_core.specs.declared.driver.Clocked.{Clocked}
use Rattle.design_core.specs.Mentions.{driver_mentions, block_mentions}
use Rattle.design_bits.specs.Masks.{Adds, exceeds, has}
use Rattle.design_bits.proofs.Added.{adds-both}
use Rattle.design_bits.proofs.Masks.{bit-zero}
use Rattle.design_bits.proofs.ShareLaws.{exceeds-found, exceeds-bit}
use Rattle.design_rules.specs.Assignments.{home_of}
use Rattle.design_rules.specs.Entries.{is_output_bit}
use Rattle.design_rules.specs.Races.{others}
use Rattle.design_rules.specs.Used.{output_has}
use Rattle.design_rules.proofs.FirstUndriven.{outputs-same}
use Rattle.assign_rules.specs.declared.users.Users.{Users}
use Rattle.assign_rules.specs.declared.users.Users.TheVariants as users
use Rattle.assign_rules.specs.UsedBy.{is_used_beside, is_used_at, HasHome, Notes, is_outside, IsOutside, is_used_among, IsUsed, AreUsers}
use Rattle.assign_rules.proofs.OtherLaws.{any-more, others-more, others-none}
use Rattle.assign_rules.proofs.WayLaws.{zero-bits, zero-long}

-- ---- users of both
pub or-none : (b : Bool) → b ≡ (b || false)
or-none b = sym (or-false b)

pub or-all : (b : Bool) → true ≡ (b || true)
or-all b = sym (or-true b)

or-itself : (b : Bool) → b ≡ (b || b)
or-itself true = refl
or-itself false = refl

pub same-block : (n m k : ℕ) → n ≡ m → not (n == k) ≡ (not (n == k) || not (m == k))
same-block n m k same = or-itself (not (n == k)) ∙ ap (λ j. not (n == k) || not (j == k)) same

pub two-blocks : (n m k : ℕ) → n ≢ m → true ≡ (not (n == k) || not (m == k))
two-blocks n m k apart = at (cases_eq n k)
  where
    at : (n ≡ k) ⊎ (n ≡ k → ⊥) → true ≡ (not (n == k) || not (m == k))
    at (inl same) =
        sym (ap (λ b. not (n == k) || not b) (equal-false m k (λ other. absurd (apart (same ∙ sym other)))) ∙ or-true (not (n == k)))
    at (inr other) = sym (ap (λ b. not b || not (m == k)) (equal-false n k other))

pub ruleset joined = (or-none, or-all, same-block, two-blocks)

-- ---- the bits of a set
-- whether a signal is of a home and has a bit
abbrev pub is_at : List ℕ → List ℕ → ℕ → ℕ → Bool
is_at homes own h s = home_of homes s == h && exceeds (get_or own s 0) 0

more-users : (o m l w : Bool) → ((o || (m && l)) || m) ≡ (o || (m && (l || true)))
more-users true m l w = refl
more-users false true true w = refl
more-users false true false w = refl
more-users false false l w = refl

-- a signal that has a bit
pub note-here : (old mid new : List Users) (more : Users) (homes own ys : List ℕ) (i s : ℕ) → i < length ys → s ≡ get_or ys i s → exceeds (get_or own s 0) 0 ≡ true
    → ((h k : ℕ) → is_used_at mid h k ≡ (is_used_at old h k || (is_used_beside more k && list_any (is_at homes own h) (take i ys))))
    → ((k : ℕ) → is_used_at new (home_of homes s) k ≡ (is_used_at mid (home_of homes s) k || is_used_beside more k))
    → ((h : ℕ) → h ≢ home_of homes s → get_or new h users.Nobody ≡ get_or mid h users.Nobody)
    → (h k : ℕ) → is_used_at new h k ≡ (is_used_at old h k || (is_used_beside more k && list_any (is_at homes own h) (take (i + 1) ys)))
note-here old mid new more homes own ys i s below is some before here others h k = at (cases_eq h (home_of homes s))
  where
    grown : list_any (is_at homes own h) (take (i + 1) ys) ≡ (list_any (is_at homes own h) (take i ys) || is_at homes own h s)
    grown = any-more (is_at homes own h) ys i s below is

    l : Bool
    l = list_any (is_at homes own h) (take i ys)

    at : (h ≡ home_of homes s) ⊎ (h ≡ home_of homes s → ⊥) → is_used_at new h k ≡ (is_used_at old h k || (is_used_beside more k && list_any (is_at homes own h) (take (i + 1) ys)))
    at (inl same) =
        let own_at : is_at homes own h s ≡ true = ap₂ (λ a b. a && b) (eq-eqb (home_of homes s) h (sym same)) some in
        ap (λ j. is_used_at new j k) same ∙ here k ∙ ap (λ j. is_used_at mid j k || is_used_beside more k) (sym same) ∙ ap (λ b. b || is_used_beside more k) (before h k)
        ∙ more-users (is_used_at old h k) (is_used_beside more k) l true
        ∙ ap (λ b. is_used_at old h k || (is_used_beside more k && (l || b))) (sym own_at) ∙ ap (λ b. is_used_at old h k || (is_used_beside more k && b)) (sym grown)
    at (inr apart) =
        let own_at : is_at homes own h s ≡ false = ap (λ b. b && exceeds (get_or own s 0) 0) (equal-false (home_of homes s) h (λ other. absurd (apart (sym other)))) in
        ap (λ u. is_used_beside u k) (others h apart) ∙ before h k
        ∙ ap (λ b. is_used_at old h k || (is_used_beside more k && b)) (sym (grown ∙ ap (λ b. l || b) own_at ∙ or-false l))

-- one that has none
pub note-past : (old mid : List Users) (more : Users) (homes own ys : List ℕ) (i s : ℕ) → i < length ys → s ≡ get_or ys i s → exceeds (get_or own s 0) 0 ≡ false
    → ((h k : ℕ) → is_used_at mid h k ≡ (is_used_at old h k || (is_used_beside more k && list_any (is_at homes own h) (take i ys))))
    → (h k : ℕ) → is_used_at mid h k ≡ (is_used_at old h k || (is_used_beside more k && list_any (is_at homes own h) (take (i + 1) ys)))
note-past old mid more homes own ys i s below is none before h k =
    let l : Bool = list_any (is_at homes own h) (take i ys) in
    before h k
    ∙ ap (λ b. is_used_at old h k || (is_used_beside more k && b))
    (sym (any-more (is_at homes own h) ys i s below is ∙ ap (λ b. l || (home_of homes s == h && b)) none ∙ ap (λ b. l || b) (and-false (home_of homes s == h)) ∙ or-false l))

pub or-first : (a b : Bool) → a ≡ true → (a || b) ≡ true
or-first true b is = refl
or-first false b is = absurd (false≢true is)

pub or-second : (a b : Bool) → b ≡ true → (a || b) ≡ true
or-second a b is = ap (λ x. a || x) is ∙ or-true a

-- all of them
pub noted-all : (old new : List Users) (more : Users) (homes own ys : List ℕ) (i : ℕ) → length ys ≤ i → length new ≡ length old → All (λ s. s < length own) ys
    → ((s : ℕ) → get_or own s 0 ≢ 0 → Contains ys s)
    → ((h k : ℕ) → is_used_at new h k ≡ (is_used_at old h k || (is_used_beside more k && list_any (is_at homes own h) (take i ys)))) → Notes old new more homes own
noted-all old new more homes own ys i past long within all are =
    let whole : (h : ℕ) → list_any (is_at homes own h) (take i ys) ≡ list_any (is_at homes own h) ys = λ h. ap (list_any (is_at homes own h)) (take_all i ys past) in
    record {
      long = long;
      kept = λ h k is. are h k ∙ or-first (is_used_at old h k) (is_used_beside more k && list_any (is_at homes own h) (take i ys)) is;
      noted = λ s b k below is beside.
          let h : ℕ = home_of homes s in
          let there = all s (λ zero_mask. false≢true (sym (ap (λ n. bit n b) zero_mask ∙ bit-zero b) ∙ is)) in
          let at = list_any-member (is_at homes own h) ys s there (ap₂ (λ x y. x && y) (eq-eqb h h refl) (exceeds-bit (get_or own s 0) 0 b below is (bit-zero b))) in
          are h k
          ∙ or-second (is_used_at old h k) (is_used_beside more k && list_any (is_at homes own h) (take i ys))
          (ap₂ (λ x y. x && y) beside (whole h ∙ at));
      only = λ h k is. found h k (or_cases (is_used_at old h k) (is_used_beside more k && list_any (is_at homes own h) (take i ys)) (sym (are h k) ∙ is));
    }
  where
    found : (h k : ℕ) → (is_used_at old h k ≡ true) ⊎ ((is_used_beside more k && list_any (is_at homes own h) (take i ys)) ≡ true)
        → (is_used_at old h k ≡ true) ⊎ ((is_used_beside more k ≡ true) × HasHome homes own h)
    found h k (inl before) = inl before
    found h k (inr now) =
        let both = and_parts (is_used_beside more k) (list_any (is_at homes own h) (take i ys)) now in
        let some = list_any-found (is_at homes own h) ys (sym (ap (list_any (is_at homes own h)) (take_all i ys past)) ∙ both.1) in
        let parts = and_parts (home_of homes some.0 == h) (exceeds (get_or own some.0 0) 0) some.2 in
        let b = exceeds-found (get_or own some.0 0) 0 parts.1 in
        inr (
          both.0,
          record {
            signal = some.0;
            position = b.0;
            within = All-member (λ s. s < length own) ys some.0 within some.1;
            below = b.1;
            at_home = equal-true (home_of homes some.0) h parts.0;
            read = b.2;
          },
        )

-- ---- what is used outside of clocked blocks
pub outside-of : (d : Design) (none start mid set : List ℕ) → start ≡ replicate (length d.signals.items) 0 → ((s : ℕ) → get_or none s 0 ≡ 0)
    → Adds start mid (λ s b. list_any (output_has d s b) d.outputs.items)
    → Adds mid set (λ s b. list_any (driver_mentions d.signals.items s b) d.drivers.items && not (has none s b)) → IsOutside d set
outside-of d none start mid set is zero_masks outputs drivers =
    let n : ℕ = length d.signals.items in
    let long : length start ≡ n = ap length is ∙ zero-long n in
    let o : ℕ → ℕ → Bool = (λ s b. list_any (output_has d s b) d.outputs.items) in
    let p : ℕ → ℕ → Bool = (λ s b. list_any (driver_mentions d.signals.items s b) d.drivers.items && not (has none s b)) in
    let all = adds-both start mid set o p outputs drivers in
    record {
      long = all.long ∙ long;
      bits = λ s b within inside.
          all.bits s b (subst (λ k. s < k) (sym long) within) inside ∙ ap (λ m. bit m b || (o s b || p s b)) (ap (λ l. get_or l s 0) is ∙ zero-bits n s)
          ∙ ap (λ v. v || (o s b || p s b)) (bit-zero b)
          ∙ ap₂ (λ x y. x || (list_any (driver_mentions d.signals.items s b) d.drivers.items && not y)) (outputs-same d s b d.outputs.items)
          (ap (λ m. bit m b) (zero_masks s) ∙ bit-zero b)
          ∙ ap (λ v. is_output_bit d s b || v) (and-true (list_any (driver_mentions d.signals.items s b) d.drivers.items))
          ∙ or-comm (is_output_bit d s b) (list_any (driver_mentions d.signals.items s b) d.drivers.items);
    }

-- ---- the users of a design
pub nobody-long : (n : ℕ) → length (replicate n users.Nobody) ≡ n
nobody-long zero = refl
nobody-long (suc n) = ap suc (nobody-long n)

nobody-at : (n h : ℕ) → get_or (replicate n users.Nobody) h users.Nobody ≡ users.Nobody
nobody-at zero h = refl
nobody-at (suc n) zero = refl
nobody-at (suc n) (suc h) = nobody-at n h

pub first-users : (d : Design) (homes own : List ℕ) (n : ℕ) (start table : List Users) → start ≡ replicate n users.Nobody → IsOutside d own → Notes start table users.Several homes own
    → AreUsers d homes 0 table
first-users d homes own n start table is out notes = record {
  only = λ h k used. at h k (notes.only h k used);
  all = λ s b k below inside used.
      notes.noted s b k inside (out.bits s b below inside ∙ outside s b k (or_cases (is_outside d s b) (list_any (block_mentions d.signals.items s b) (others k (take 0 d.clocked.items))) used)) refl;
}
  where
    outside : (s b k : ℕ) → (is_outside d s b ≡ true) ⊎ (list_any (block_mentions d.signals.items s b) (others k (take 0 d.clocked.items)) ≡ true) → is_outside d s b ≡ true
    outside s b k (inl here) = here
    outside s b k (inr none) = absurd (false≢true (sym (others-none (block_mentions d.signals.items s b) k d.clocked.items) ∙ none))

    at : (h k : ℕ) → (is_used_at start h k ≡ true) ⊎ ((is_used_beside users.Several k ≡ true) × HasHome homes own h) → IsUsed d homes 0 k h
    at h k (inl none) = absurd (false≢true (sym (ap (λ u. is_used_beside u k) (ap (λ xs. get_or xs h users.Nobody) is ∙ nobody-at n h)) ∙ none))
    at h k (inr (_, has_home)) = record {
      signal = has_home.signal;
      position = has_home.position;
      at_home = has_home.at_home;
      used = or-first (is_outside d has_home.signal has_home.position) (list_any (block_mentions d.signals.items has_home.signal has_home.position) (others k (take 0 d.clocked.items)))
          (sym (out.bits has_home.signal has_home.position (subst (λ m. has_home.signal < m) out.long has_home.within) has_home.below) ∙ has_home.read);
    }

among-more : (d : Design) (i k s b : ℕ) (x : Clocked) → i < length d.clocked.items → x ≡ get_or d.clocked.items i x
    → is_used_among d (i + 1) k s b ≡ (is_used_among d i k s b || (not (i == k) && block_mentions d.signals.items s b x))
among-more d i k s b x below is =
    ap (λ v. is_outside d s b || v) (others-more (block_mentions d.signals.items s b) k d.clocked.items i x below is)
    ∙ sym (assoc (is_outside d s b) (list_any (block_mentions d.signals.items s b) (others k (take i d.clocked.items))) (not (i == k) && block_mentions d.signals.items s b x))
  where
    assoc : (a b c : Bool) → ((a || b) || c) ≡ (a || (b || c))
    assoc true b c = refl
    assoc false b c = refl

pub more-blocks : (d : Design) (homes own : List ℕ) (i : ℕ) (x : Clocked) (table new : List Users) → i < length d.clocked.items → x ≡ get_or d.clocked.items i x
    → AreUsers d homes i table → length own ≡ length d.signals.items
    → ((s b : ℕ) → s < length d.signals.items → b < 128 → has own s b ≡ block_mentions d.signals.items s b x) → Notes table new (users.Block i) homes own → AreUsers d homes (i + 1) new
more-blocks d homes own i x table new below is are long bits notes = record {
  only = λ h k used. at h k (notes.only h k used);
  all = λ s b k within inside used.
      all_of s b k within inside
      (or_cases (is_used_among d i k s b) (not (i == k) && block_mentions d.signals.items s b x) (sym (among-more d i k s b x below is) ∙ used));
}
  where
    at : (h k : ℕ) → (is_used_at table h k ≡ true) ⊎ ((is_used_beside (users.Block i) k ≡ true) × HasHome homes own h) → IsUsed d homes (i + 1) k h
    at h k (inl before) =
        let u = are.only h k before in
        record {
          signal = u.signal;
          position = u.position;
          at_home = u.at_home;
          used = among-more d i k u.signal u.position x below is
              ∙ or-first (is_used_among d i k u.signal u.position) (not (i == k) && block_mentions d.signals.items u.signal u.position x) u.used;
        }
    at h k (inr (beside, u)) = record {
      signal = u.signal;
      position = u.position;
      at_home = u.at_home;
      used = among-more d i k u.signal u.position x below is
          ∙ or-second (is_used_among d i k u.signal u.position) (not (i == k) && block_mentions d.signals.items u.signal u.position x)
          (ap₂ (λ a b. a && b) beside (sym (bits u.signal u.position (subst (λ m. u.signal < m) long u.within) u.below) ∙ u.read));
    }

    all_of : (s b k : ℕ) → s < length d.signals.items → b < 128
        → (is_used_among d i k s b ≡ true) ⊎ ((not (i == k) && block_mentions d.signals.items s b x) ≡ true) → is_used_at new (home_of homes s) k ≡ true
    all_of s b k within inside (inl before) = notes.kept (home_of homes s) k (are.all s b k within inside before)
    all_of s b k within inside (inr now) =
        let both = and_parts (not (i == k)) (block_mentions d.signals.items s b x) now in notes.noted s b k inside (bits s b within inside ∙ both.1) both.0
