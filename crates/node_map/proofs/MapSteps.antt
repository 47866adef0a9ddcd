-- Entries that are put into a map, and a map that goes back.
use Rattle.std.proofs.Common.{◌≡◌, ℕ, zero, suc, ◌+◌, ◌-◌, ◌<◌, ◌≤◌, List, [], ◌∷◌, ◌++◌, length, map, get_or, set, drop, All, Contains, refl, sym, ◌∙◌, ap, subst, arith, length-append, ◌⊎◌, inl, inr}
use Rattle.std.proofs.lemmas.Bool.{cases_eq}
use Rattle.std.proofs.lemmas.List.{get_or-set_same, get_or-set_other, length-set, ext_get_or, drop_all, get_or_append_left}
use Rattle.std.proofs.lemmas.List.Elements.{All-append}
use Rattle.std.proofs.Math.Seq.{get_or-append_seam}
use Rattle.loc_base.proofs.ShelfLists.{Contains-first, Contains-later, Contains-cons, drop-at}
use Rattle.node_map.specs.declared.entry.Entry.{Entry}
use Rattle.node_map.specs.Entries.{entry_at, put, signals_of, AreWithin}

-- ---- entries that are put

pub length-put : (entries : List Entry) (nodes : List ℕ) → length (put entries nodes) ≡ length nodes
unfolding put
length-put [] nodes = refl
length-put (entry ∷ entries) nodes = length-set (put entries nodes) entry.signal entry.node ∙ length-put entries nodes

pub put-append : (one other : List Entry) (nodes : List ℕ) → put (one ++ other) nodes ≡ put one (put other nodes)
unfolding put
put-append [] other nodes = refl
put-append (entry ∷ one) other nodes = ap (λ xs. set xs entry.signal entry.node) (put-append one other nodes)

pub put-none : (nodes : List ℕ) → put [] nodes ≡ nodes
unfolding put
put-none nodes = refl

set-back : (nodes : List ℕ) (s node : ℕ) → set (set nodes s node) s (get_or nodes s 0) ≡ nodes
set-back [] s node = refl
set-back (x ∷ nodes) zero node = refl
set-back (x ∷ nodes) (suc s) node = ap (λ xs. x ∷ xs) (set-back nodes s node)

-- ---- a store

pub set-base : (replaced : List Entry) (nodes : List ℕ) (s node : ℕ) → put (replaced ++ record { signal = s; node = get_or nodes s 0 } ∷ []) (set nodes s node) ≡ put replaced nodes
unfolding put
set-base replaced nodes s node = put-append replaced (record { signal = s; node = get_or nodes s 0 } ∷ []) (set nodes s node) ∙ ap (put replaced) (set-back nodes s node)

within-length : (n m : ℕ) (entries : List Entry) → n ≡ m → AreWithin n entries → AreWithin m entries
within-length n m entries same h = subst (λ k. AreWithin k entries) same h

pub within-push : (n : ℕ) (entries : List Entry) (entry : Entry) → AreWithin n entries → entry.signal < n → AreWithin n (entries ++ entry ∷ [])
within-push n entries entry h low = All-append (λ (e : Entry). e.signal < n) entries (entry ∷ []) h (λ k d within. single k d within)
  where
    single : (k : ℕ) (d : Entry) → k < 1 → (get_or (entry ∷ []) k d).signal < n
    single zero d within = low
    single (suc k) d within = absurd (omega (arith, within))

pub within-none : (n : ℕ) → AreWithin n []
within-none n k d within = absurd (omega (arith, within))

pub within-set : (nodes : List ℕ) (s node : ℕ) (entries : List Entry) → AreWithin (length nodes) entries → AreWithin (length (set nodes s node)) entries
within-set nodes s node entries h = within-length (length nodes) (length (set nodes s node)) entries (sym (length-set nodes s node)) h

pub ruleset long_steps = (length-put)

pub ruleset map_steps = (put-none, within-none)

pub ruleset set_steps = (set-base, within-push, within-set)

-- ---- back

within-front : (n : ℕ) (entries : List Entry) (entry : Entry) → AreWithin n (entries ++ entry ∷ []) → AreWithin n entries × (entry.signal < n)
within-front n entries entry h = (
  λ k d within. subst (λ (e : Entry). e.signal < n) (get_or_append_left entries (entry ∷ []) d k within) (h k d (omega (arith, within, length-append entries (entry ∷ [])))),
  subst (λ (e : Entry). e.signal < n) (get_or-append_seam entries entry [] entry) (h (length entries) entry (omega (arith, length-append entries (entry ∷ [])))),
)

pub undo-within : (n : ℕ) (replaced rest : List Entry) (entry : Entry) → replaced ≡ rest ++ entry ∷ [] → AreWithin n replaced → AreWithin n rest × (entry.signal < n)
undo-within n replaced rest entry is h = within-front n rest entry (subst (AreWithin n) is h)

pub undo-next : (replaced rest : List Entry) (entry : Entry) (nodes : List ℕ) → replaced ≡ rest ++ entry ∷ [] → put replaced nodes ≡ put rest (set nodes entry.signal entry.node)
unfolding put
undo-next replaced rest entry nodes is = ap (λ es. put es nodes) is ∙ put-append rest (entry ∷ []) nodes

pub undo-end : (replaced : List Entry) (nodes : List ℕ) → replaced ≡ [] → put replaced nodes ≡ nodes
undo-end replaced nodes is = ap (λ es. put es nodes) is ∙ put-none nodes

pub shorter : (replaced rest : List Entry) (entry : Entry) → replaced ≡ rest ++ entry ∷ [] → length rest < length replaced
shorter replaced rest entry is = omega (arith, ap length is, length-append rest (entry ∷ []))

pub ruleset undo_steps = (length-put, undo-within, undo-next, undo-end, shorter, put-none, within-none, within-set)

-- ---- the branch before

pub within-append : (n : ℕ) (one other : List Entry) → AreWithin n one → AreWithin n other → AreWithin n (one ++ other)
within-append n one other a b = All-append (λ (e : Entry). e.signal < n) one other a b

pub ruleset end_steps = (put-append, within-append)

-- ---- entries put by code

pub put-step : (entries : List Entry) (left : ℕ) (nodes after : List ℕ) (entry : Entry) → left < length entries → entry ≡ get_or entries left entry → nodes ≡ put (drop (left + 1) entries) after
    → set nodes entry.signal entry.node ≡ put (drop left entries) after
unfolding put
put-step entries left nodes after entry within is so_far =
    ap (λ xs. set xs entry.signal entry.node) so_far ∙ sym (ap (λ es. put es after) (drop-at entries left entry within is))

pub put-first : (entries : List Entry) (left : ℕ) (nodes : List ℕ) → length entries ≤ left → nodes ≡ put (drop left entries) nodes
put-first entries left nodes past = sym (ap (λ es. put es nodes) (drop_all left entries past) ∙ put-none nodes)

pub entry-within : (n : ℕ) (entries : List Entry) (i : ℕ) (entry : Entry) → AreWithin n entries → i < length entries → entry ≡ get_or entries i entry → entry.signal < n
entry-within n entries i entry h within is = subst (λ (e : Entry). e.signal < n) (sym is) (h i entry within)

pub put-set : (entries : List Entry) (nodes before : List ℕ) (s node : ℕ) → nodes ≡ set before s node → length nodes ≡ length before
put-set entries nodes before s node is = ap length is ∙ length-set before s node

pub ruleset put_steps = (put-step, put-first, entry-within)

-- ---- what was stored

-- a signal that no entry has keeps its node
pub put-other : (entries : List Entry) (nodes : List ℕ) (s : ℕ) → ¬ Contains (signals_of entries) s → get_or (put entries nodes) s 0 ≡ get_or nodes s 0
unfolding put
put-other [] nodes s none = refl
put-other (entry ∷ entries) nodes s none =
    at (cases_eq s entry.signal) (put-other entries nodes s (λ member. none (Contains-later entry.signal (signals_of entries) s member)))
  where
    at : (s ≡ entry.signal) ⊎ (s ≡ entry.signal → ⊥) → get_or (put entries nodes) s 0 ≡ get_or nodes s 0 → get_or (set (put entries nodes) entry.signal entry.node) s 0 ≡ get_or nodes s 0
    at (inl same) rest = absurd (none (subst (λ t. Contains (entry.signal ∷ signals_of entries) t) (sym same) (Contains-first entry.signal (signals_of entries))))
    at (inr apart) rest = get_or-set_other (put entries nodes) entry.signal s entry.node 0 apart ∙ rest

put-each : (nodes other ss : List ℕ) → length other ≡ length nodes → All (λ s. s < length nodes) ss → (s : ℕ) → (¬ Contains ss s → get_or nodes s 0 ≡ get_or other s 0)
    → get_or (put (map (entry_at nodes) ss) other) s 0 ≡ get_or nodes s 0
unfolding put
put-each nodes other [] long all s out = sym (out (λ member. nothing member))
  where
    nothing : Contains [] s → ⊥
    nothing (k, low, is) = omega (arith, low)
put-each nodes other (t ∷ ss) long all s out =
    at (cases_eq s t) (λ apart. put-each nodes other ss long (λ k d h. all (suc k) d (omega (arith, h))) s (λ none. out (λ member. split apart (Contains-cons t ss s member) none)))
  where
    rest : List ℕ
    rest = put (map (entry_at nodes) ss) other

    split : (s ≡ t → ⊥) → (t ≡ s) ⊎ Contains ss s → ¬ Contains ss s → ⊥
    split apart (inl same) none = apart (sym same)
    split apart (inr member) none = none member

    inside : t < length rest
    inside = omega (arith, all 0 t (omega arith), length-put (map (entry_at nodes) ss) other, long)

    at : (s ≡ t) ⊎ (s ≡ t → ⊥) → ((s ≡ t → ⊥) → get_or rest s 0 ≡ get_or nodes s 0) → get_or (set rest t (get_or nodes t 0)) s 0 ≡ get_or nodes s 0
    at (inl here) later = ap (λ k. get_or (set rest t (get_or nodes t 0)) k 0) here ∙ get_or-set_same rest t (get_or nodes t 0) 0 inside ∙ ap (λ k. get_or nodes k 0) (sym here)
    at (inr apart) later = get_or-set_other rest t s (get_or nodes t 0) 0 apart ∙ later apart

-- the entries of signals, put into a map that is the same elsewhere, give the one that they were taken from
pub put-entries : (signals nodes other : List ℕ) → length other ≡ length nodes → All (λ s. s < length nodes) signals → ((s : ℕ) → ¬ Contains signals s → get_or nodes s 0 ≡ get_or other s 0)
    → put (map (entry_at nodes) signals) other ≡ nodes
put-entries signals nodes other long within same =
    ext_get_or 0 (put (map (entry_at nodes) signals) other) nodes (length-put (map (entry_at nodes) signals) other ∙ long) (λ s low. put-each nodes other signals long within s (same s))

pub map-more : (entries : List Entry) (entry : Entry) → signals_of (entries ++ entry ∷ []) ≡ signals_of entries ++ entry.signal ∷ []
map-more [] entry = refl
map-more (x ∷ entries) entry = ap (λ ys. x.signal ∷ ys) (map-more entries entry)

pub right-member : (xs ys : List ℕ) (s : ℕ) → Contains ys s → Contains (xs ++ ys) s
right-member [] ys s member = member
right-member (x ∷ xs) ys s member = Contains-later x (xs ++ ys) s (right-member xs ys s member)

pub left-member : (xs ys : List ℕ) (s : ℕ) → Contains xs s → Contains (xs ++ ys) s
left-member [] ys s (k, low, is) = absurd (omega (arith, low))
left-member (x ∷ xs) ys s member = at (Contains-cons x xs s member) (λ later. left-member xs ys s later)
  where
    at : (x ≡ s) ⊎ Contains xs s → (Contains xs s → Contains (xs ++ ys) s) → Contains (x ∷ (xs ++ ys)) s
    at (inl same) rest = subst (λ t. Contains (x ∷ (xs ++ ys)) t) same (Contains-first x (xs ++ ys))
    at (inr later) rest = Contains-later x (xs ++ ys) s (rest later)
