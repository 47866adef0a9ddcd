-- The arms of a branch in two maps.
use Rattle.std.proofs.Common.{◌≡◌, ℕ, zero, suc, ◌+◌, ◌<◌, ◌≤◌, List, [], ◌∷◌, ◌++◌, length, map, get_or, take, All, Contains, sym, ◌∙◌, ap, subst, arith, append_assoc, append-nil}
use Rattle.std.proofs.lemmas.List.{take_all, get_or_default}
use Rattle.std.proofs.lemmas.List.Elements.{All-append}
use Rattle.loc_base.proofs.ShelfLists.{take-at, All-member}
use Rattle.node_map.specs.declared.entry.Entry.{Entry}
use Rattle.node_map.specs.Entries.{entry_at, put, signals_of, AreWithin, Tracked, Covers}
use Rattle.node_map.proofs.MapSteps.{length-put, put-other, put-entries, map-more, left-member, right-member}

-- ---- signals that are added

pub add-next : (before signals : List ℕ) (entries : List Entry) (i : ℕ) (entry : Entry) → i < length entries → entry ≡ get_or entries i entry → signals ≡ before ++ signals_of (take i entries)
    → signals ++ entry.signal ∷ [] ≡ before ++ signals_of (take (i + 1) entries)
add-next before signals entries i entry within is so_far =
    ap (λ xs. xs ++ entry.signal ∷ []) so_far ∙ append_assoc before (signals_of (take i entries)) (entry.signal ∷ [])
    ∙ ap (λ xs. before ++ xs) (sym (map-more (take i entries) entry) ∙ ap signals_of (sym (take-at entries i entry within is)))

pub add-end : (before : List ℕ) (entries : List Entry) (i : ℕ) → length entries ≤ i → before ++ signals_of (take i entries) ≡ before ++ signals_of entries
add-end before entries i past = ap (λ es. before ++ signals_of es) (take_all i entries past)

pub add-first : (before : List ℕ) (entries : List Entry) → before ≡ before ++ signals_of (take 0 entries)
add-first before entries = sym (append-nil before)

pub ruleset add_steps = (add-next, add-end, add-first)

-- ---- the signals that were changed

all-kept : (n : ℕ) (xs ys : List ℕ) → ((x : ℕ) → Contains ys x → Contains xs x) → All (λ s. s < n) xs → All (λ s. s < n) ys
all-kept n xs ys adds_none h k d within = at (get_or ys k d) (k, within, same)
  where
    same : get_or ys k (get_or ys k d) ≡ get_or ys k d
    same = get_or_default ys k (get_or ys k d) d within

    at : (y : ℕ) → Contains ys y → y < n
    at y member = All-member (λ s. s < n) xs y h (adds_none y member)

signals-within : (n : ℕ) (entries : List Entry) → AreWithin n entries → All (λ s. s < n) (signals_of entries)
signals-within n [] h k d within = absurd (omega (arith, within))
signals-within n (entry ∷ entries) h zero d within = h 0 entry (omega arith)
signals-within n (entry ∷ entries) h (suc k) d within = signals-within n entries (λ i e low. h (suc i) e (omega (arith, low))) k d (omega (arith, within))

-- the signals of what was replaced are among those at hand
pub covered : (signals : List ℕ) (m : Tracked) (replaced : List Entry) → put replaced m.now ≡ m.base → ((s : ℕ) → Contains (signals_of replaced) s → Contains signals s) → All (λ s. s < length m.now) signals
    → Covers signals m
covered signals m replaced is keeps within =
    record { within = within; same = λ s none. sym (ap (λ xs. get_or xs s 0) (sym is) ∙ put-other replaced m.now s (λ member. none (keeps s member))) }

pub both-within : (n : ℕ) (more : List ℕ) (one other : List Entry) (last : List ℕ) → All (λ s. s < n) more → AreWithin n one → AreWithin n other
    → ((s : ℕ) → Contains last s → Contains ((more ++ signals_of one) ++ signals_of other) s) → All (λ s. s < n) last
both-within n more one other last all within_one within_other adds_none =
    all-kept n ((more ++ signals_of one) ++ signals_of other) last adds_none
    (All-append (λ s. s < n) (more ++ signals_of one) (signals_of other) (All-append (λ s. s < n) more (signals_of one) all (signals-within n one within_one)) (signals-within n other within_other))

pub within-alike : (n m : ℕ) (entries : List Entry) → m ≡ n → AreWithin m entries → AreWithin n entries
within-alike n m entries same h = subst (λ k. AreWithin k entries) same h

-- signals among which are all that have changed in two maps
pub record AreChanged (more signals : List ℕ) (now past : Tracked) : Type 0 where
  pub current : Covers signals now
  pub later : Covers signals past
  pub keeps : (s : ℕ) → Contains more s → Contains signals s

pub changed : (more middle all last signals : List ℕ) (one other : List Entry) (now past : Tracked) → middle ≡ more ++ signals_of one → all ≡ middle ++ signals_of other
    → ((s : ℕ) → Contains all s → Contains last s) → ((s : ℕ) → Contains last s → Contains all s) → signals ≡ last
    → put one now.now ≡ now.base → AreWithin (length now.now) one → put other past.now ≡ past.base → AreWithin (length past.now) other
    → length past.now ≡ length now.now → All (λ s. s < length now.now) more → AreChanged more signals now past
changed more middle all last signals one other now past m a keeps adds_none is base_one within_one base_other within_other alike fits =
    let whole : all ≡ (more ++ signals_of one) ++ signals_of other = a ∙ ap (λ xs. xs ++ signals_of other) m in
    let in_last : (s : ℕ) → Contains ((more ++ signals_of one) ++ signals_of other) s → Contains signals s =
    λ s member. subst (λ xs. Contains xs s) (sym is) (keeps s (subst (λ xs. Contains xs s) (sym whole) member)) in
    let within : All (λ s. s < length now.now) signals =
    both-within (length now.now) more one other signals fits within_one (within-alike (length now.now) (length past.now) other alike within_other)
    (λ s member. subst (λ xs. Contains xs s) whole (adds_none s (subst (λ xs. Contains xs s) is member))) in
    record {
      current = covered signals now one base_one (λ s member. in_last s (left-member (more ++ signals_of one) (signals_of other) s (right-member more (signals_of one) s member))) within;
      later = covered signals past other base_other (λ s member. in_last s (right-member (more ++ signals_of one) (signals_of other) s member)) (subst (λ n. All (λ s. s < n) signals) (sym alike) within);
      keeps = λ s member. in_last s (left-member (more ++ signals_of one) (signals_of other) s (left-member more (signals_of one) s member));
    }

-- ---- what a branch left

pub entries-within : (nodes signals : List ℕ) (n : ℕ) → All (λ s. s < n) signals → AreWithin n (map (entry_at nodes) signals)
entries-within nodes [] n h k d within = absurd (omega (arith, within))
entries-within nodes (s ∷ signals) n h zero d within = h 0 s (omega arith)
entries-within nodes (s ∷ signals) n h (suc k) d within = entries-within nodes signals n (λ i e low. h (suc i) e (omega (arith, low))) k d (omega (arith, within))

pub record IsTaken (map : Tracked) (entries : List Entry) : Type 0 where
  pub is : put entries map.base ≡ map.now
  pub within : AreWithin (length map.now) entries

pub taken : (signals : List ℕ) (m : Tracked) (entries : List Entry) → Covers signals m → length m.base ≡ length m.now → entries ≡ map (entry_at m.now) signals → IsTaken m entries
taken signals m entries covers long is =
    record {
      is = ap (λ es. put es m.base) is ∙ put-entries signals m.now m.base long covers.within covers.same;
      within = subst (AreWithin (length m.now)) (sym is) (entries-within m.now signals (length m.now) covers.within);
    }

pub ruleset take_steps = (taken)

-- the later map gets what the other one has
pub settled : (signals : List ℕ) (current later : Tracked) (entries : List Entry) → Covers signals current → Covers signals later → later.base ≡ current.base → length later.now ≡ length current.now
    → entries ≡ map (entry_at current.now) signals → put entries later.now ≡ current.now
settled signals current later entries c l began alike is =
    ap (λ es. put es later.now) is
    ∙ put-entries signals current.now later.now alike c.within (λ s none. c.same s none ∙ ap (λ xs. get_or xs s 0) (sym began) ∙ sym (l.same s none))

pub ruleset settle_steps = (settled, entries-within)

-- ---- what another arm left

-- what the arm left stands at signals in which it may differ
pub arm-same : (signals : List ℕ) (m : Tracked) (arm : List Entry) → Covers signals m → ((s : ℕ) → Contains (signals_of arm) s → Contains signals s)
    → (s : ℕ) → ¬ Contains signals s → get_or (put arm m.base) s 0 ≡ get_or m.now s 0
arm-same signals m arm covers keeps s none = put-other arm m.base s (λ member. none (keeps s member)) ∙ sym (covers.same s none)

-- the maps are as they were when this arm's entries are put again
pub arm-back : (signals : List ℕ) (m : Tracked) (arm own : List Entry) → Covers signals m → ((s : ℕ) → Contains (signals_of arm) s → Contains signals s) → length m.base ≡ length m.now
    → own ≡ map (entry_at m.now) signals → put own (put arm m.base) ≡ m.now
arm-back signals m arm own covers keeps long is =
    ap (λ es. put es (put arm m.base)) is
    ∙ put-entries signals m.now (put arm m.base) (length-put arm m.base ∙ long) covers.within (λ s none. sym (arm-same signals m arm covers keeps s none))

-- the signals of two lists of entries
pub more-within : (n : ℕ) (none middle all : List ℕ) (one other : List Entry) → none ≡ [] → middle ≡ none ++ signals_of one → all ≡ middle ++ signals_of other → AreWithin n one → AreWithin n other → All (λ s. s < n) all
more-within n none middle all one other empty m a within_one within_other =
    let whole : all ≡ signals_of one ++ signals_of other = a ∙ ap (λ xs. xs ++ signals_of other) (m ∙ ap (λ xs. xs ++ signals_of one) empty) in
    subst (All (λ s. s < n)) (sym whole) (All-append (λ s. s < n) (signals_of one) (signals_of other) (signals-within n one within_one) (signals-within n other within_other))

-- all signals of both arms' entries are among those at hand
pub record AreKept (one other : List Entry) (signals : List ℕ) : Type 0 where
  pub one_kept : (s : ℕ) → Contains (signals_of one) s → Contains signals s
  pub other_kept : (s : ℕ) → Contains (signals_of other) s → Contains signals s

pub arms-kept : (none middle all signals : List ℕ) (one other : List Entry) → none ≡ [] → middle ≡ none ++ signals_of one → all ≡ middle ++ signals_of other
    → ((s : ℕ) → Contains all s → Contains signals s) → AreKept one other signals
arms-kept none middle all signals one other empty m a keeps =
    let whole : all ≡ signals_of one ++ signals_of other = a ∙ ap (λ xs. xs ++ signals_of other) (m ∙ ap (λ xs. xs ++ signals_of one) empty) in
    let kept : (s : ℕ) → Contains (signals_of one ++ signals_of other) s → Contains signals s = λ s member. keeps s (subst (λ xs. Contains xs s) (sym whole) member) in
    record {
      one_kept = λ s member. kept s (left-member (signals_of one) (signals_of other) s member);
      other_kept = λ s member. kept s (right-member (signals_of one) (signals_of other) s member);
    }

-- the entries of signals that the map has are within it
pub own-within : (now signals looked : List ℕ) (own : List Entry) (n : ℕ) → own ≡ map (entry_at now) looked → looked ≡ signals → All (λ s. s < length now) signals → n ≡ length now → AreWithin n own
own-within now signals looked own n is same within long =
    subst (AreWithin n) (sym is) (entries-within now looked n (subst (λ k. All (λ s. s < k) looked) (sym long) (subst (All (λ s. s < length now)) (sym same) within)))

pub ruleset beside_steps = (arm-same, arm-back)
