-- Going over the clauses that watch a literal which became false.
use Rattle.std.specs.Prelude.{◌≡◌, ◌≢◌, ℕ, ◌+◌, ◌-◌, ◌*◌, ◌^◌, ◌<◌, ◌≤◌, ◌⊎◌, Bool, true, cond, Option, Some, None, IfSome, List, [], ◌∷◌, ◌++◌, length, take, get_or, set}
use Rattle.std.specs.Bool.{beq}
use Rattle.std.specs.Vec.{vec_capacity}
use Rattle.clause_base.specs.declared.literal.Lit.{Lit}
use Rattle.clause_base.specs.Literal.{has, same_lit}
use Rattle.clause_base.specs.Acceptance.{numbered}
use Rattle.trail_core.specs.declared.entry.Entry.{Entry}
use Rattle.trail_core.specs.declared.watches.Pair.{Pair}
use Rattle.trail_core.specs.declared.watches.Watches.{Watches}
use Rattle.trail_core.specs.declared.watch.Sweep.{Sweep}
use Rattle.trail_core.specs.declared.visit.Seen.{Seen}
use Rattle.trail_core.specs.declared.visit.Seen.TheVariants as seen
use Rattle.trail_core.specs.declared.watch.Watched.{Watched}
use Rattle.trail_core.specs.declared.watch.Watched.TheVariants as watched
use Rattle.trail_core.specs.Listing.{Listing, nothing}
use Rattle.trail_core.specs.Values.{IsFalseIn, IsVariable}
use Rattle.trail_core.specs.TrailState.{TrailState, IsTrail, IsNumber, AllRest, Propagates, entry_of, values_of, level_in, up_to, with_forced}
use Rattle.trail_core.specs.Look.{Falsifies}
use Rattle.trail_core.specs.declared.shorts.Shorts.{Shorts}
use Rattle.trail_core.specs.Shorts.{HasShorts, AreDue, lists_of}
use Rattle.trail_core.specs.Watching.{Stands, IsListed, IsCovered, IsWatch, IsPaired, IsKept, IsOpen, AreMarked, AreNumbers, list_of, room_of, code_of, with_list, watches, unwatched}

-- the lists have room: `held` counts the places of a literal's list that are in use, and each clause that has the literal and
-- doesn't watch it has one more, but for those that stand in the lists of their literals, the short ones of the first `fixed`; each number is that of a clause with a pair, and a clause without one has two literals that are
-- unassigned at each level below the present one
pub record HasRoom (t : TrailState) (w : Watches) (fixed : ℕ) (held : Lit → ℕ) : Type 0 where
  pub lists : length w.lists.items ≡ 2 * t.vars + 2
  pub pairs : length t.clauses ≤ vec_capacity w.pairs
  pub numbers : (l : Lit) → AreNumbers (list_of w.lists.items l) (length w.pairs.items)
  pub room : (l : Lit) → IsVariable t.vars l.var → held l + unwatched fixed t.clauses w.pairs.items l ≤ room_of w.lists.items l
  pub unpaired : (n k : ℕ) → length w.pairs.items < n → n ≤ length t.clauses → k < t.level → IsOpen (values_of (up_to k t.entries)) (numbered t.clauses n)

-- how many numbers a literal's list has
abbrev pub held_in : List Listing → Lit → ℕ
held_in lists l = length (list_of lists l)

-- the literal is false, at the present level, and wasn't among the entries gone over
pub record IsGone (t : TrailState) (gone_over : ℕ) (gone : Lit) : Type 0 where
  pub variable : IsVariable t.vars gone.var
  pub is_false : IsFalseIn (values_of t.entries) gone
  pub level : level_in t.entries gone.var ≡ Some t.level
  pub later : values_of (take gone_over t.entries) gone.var ≡ None
  pub here : (d : Entry) → (get_or t.entries gone_over d).lit.var ≡ gone.var

-- what is known of a watched literal but the one that is gone
abbrev pub IsOther : List Entry → ℕ → List Listing → Lit → ℕ → Lit → Lit → Type 0
IsOther entries gone_over lists gone n x y = x ≢ gone → IsWatch entries gone_over lists n x y

-- where a clause stays in the list, it is so; where it leaves, it no longer watches the literal
abbrev pub Holds : Seen → Type 0 → Type 0
Holds seen.Stays P = P
Holds seen.Leaves P = ⊥
Holds seen.Falsified P = Unit {0}

-- how many clauses leave the list
abbrev pub leaving : Seen → ℕ
leaving seen.Stays = 0
leaving seen.Leaves = 1
leaving seen.Falsified = 0

-- what is known of a watched literal once its clause was visited
pub record IsVisited (entries : List Entry) (gone_over : ℕ) (lists : List Listing) (gone : Lit) (s : Seen) (n : ℕ) (x y : Lit) : Type 0 where
  pub at_gone : x ≡ gone → Holds s (IsCovered entries x y)
  pub elsewhere : IsOther entries gone_over lists gone n x y

-- a visit of the clause with the number
pub record Visits (old new : TrailState) (old_pairs new_pairs : List Pair) (old_lists new_lists : List Listing) (gone_over : ℕ) (gone : Lit) (n : ℕ) (s : Seen) : Type 0 where
  pub appends : Propagates old new
  pub trail : IsTrail new
  pub size : length new_pairs ≡ length old_pairs
  pub others : (i : ℕ) (d : Pair) → i + 1 ≢ n → get_or new_pairs i d ≡ get_or old_pairs i d
  pub listed : (l : Lit) (m : ℕ) → l ≢ gone → IsListed old_lists l m → IsListed new_lists l m
  pub same : list_of new_lists gone ≡ list_of old_lists gone
  pub lists : length new_lists ≡ length old_lists
  pub rooms : (l : Lit) → room_of new_lists l ≡ room_of old_lists l
  pub numbers : (l : Lit) → AreNumbers (list_of old_lists l) (length old_pairs) → AreNumbers (list_of new_lists l) (length old_pairs)
  pub spare : (l : Lit) → l ≢ gone → length (list_of new_lists l) + unwatched 0 old.clauses new_pairs l ≤ length (list_of old_lists l) + unwatched 0 old.clauses old_pairs l
  pub left : unwatched 0 old.clauses new_pairs gone ≤ unwatched 0 old.clauses old_pairs gone + leaving s
  pub paired : (i : ℕ) (d : Pair) → i + 1 ≡ n → i < length new_pairs → IsPaired new.entries (IsVisited new.entries gone_over new_lists gone s n) (numbered new.clauses n) (get_or new_pairs i d)

-- a clause with a literal of another variable that isn't false
pub record IsReplacement (t : TrailState) (n : ℕ) (other next : Lit) : Type 0 where
  pub member : has (numbered t.clauses n) next ≡ true
  pub apart : next.var ≢ other.var
  pub not_false : IsFalseIn (values_of t.entries) next → ⊥

-- a pair, in one order or the other
abbrev pub IsOriented : Pair → Pair → Type 0
IsOriented q p = (q ≡ p) ⊎ (q ≡ record { first = p.second; second = p.first })

-- what making the literal true for the clause gives
abbrev pub ForceGives : TrailState → TrailState → ℕ → Lit → Seen → Type 0
ForceGives old new n other seen.Stays = (new ≡ with_forced old other n) × ((values_of old.entries other.var ≡ None) × IsTrail new)
ForceGives old new n other seen.Leaves = ⊥
ForceGives old new n other seen.Falsified = (new ≡ old) × Falsifies old n

-- the number was put at the end of the literal's list
pub record IsListedMore (old new : Watches) (l : Lit) (n : ℕ) : Type 0 where
  pub pairs : new.pairs ≡ old.pairs
  pub lists : new.lists.items ≡ with_list old.lists.items l (list_of old.lists.items l ++ n ∷ [])
  pub within : code_of l < length old.lists.items
  pub gone_over : new.gone_over ≡ old.gone_over

-- the pair was put in its place, and the number at the end of the list of its second literal
pub record IsMoved (old new : Watches) (n : ℕ) (p : Pair) : Type 0 where
  pub pairs : new.pairs.items ≡ set old.pairs.items (n - 1) p
  pub capacity : vec_capacity new.pairs ≡ vec_capacity old.pairs
  pub lists : new.lists.items ≡ with_list old.lists.items p.second (list_of old.lists.items p.second ++ n ∷ [])
  pub within : code_of p.second < length old.lists.items
  pub gone_over : new.gone_over ≡ old.gone_over

-- what is known of the clause that is visited
pub record IsKnown (t : TrailState) (w : Watches) (n : ℕ) (gone : Lit) : Type 0 where
  pub above : 1 ≤ n
  pub within : n ≤ length w.pairs.items
  pub number : IsNumber t.clauses n
  pub entries : w.gone_over ≤ length t.entries
  pub is_gone : IsGone t w.gone_over gone
  pub trail : IsTrail t
  pub lists : length w.lists.items ≡ 2 * t.vars + 2
  pub room : (l : Lit) → l ≢ gone → IsVariable t.vars l.var → length (list_of w.lists.items l) + unwatched 0 t.clauses w.pairs.items l ≤ room_of w.lists.items l
  pub paired : (d : Pair) → IsPaired t.entries (IsOther t.entries w.gone_over w.lists.items gone n) (numbered t.clauses n) (get_or w.pairs.items (n - 1) d)

-- what a visit gives
abbrev pub VisitsAs : TrailState → TrailState → Watches → Watches → Lit → ℕ → Seen → Type 0
VisitsAs old new a b gone n s = Visits old new a.pairs.items b.pairs.items a.lists.items b.lists.items a.gone_over gone n s

abbrev pub SeenGives : TrailState → TrailState → Watches → Watches → Lit → ℕ → Seen → Type 0
SeenGives old new a b gone n seen.Stays = VisitsAs old new a b gone n seen.Stays
SeenGives old new a b gone n seen.Leaves = VisitsAs old new a b gone n seen.Leaves
SeenGives old new a b gone n seen.Falsified = VisitsAs old new a b gone n seen.Falsified × Falsifies new n

-- what is known of a watched literal in a pass over the list of the one that is gone, up to a place: where it is that one, it was
-- kept, and is covered unless there was a conflict, or it is yet to be visited
pub record IsWatchNow (entries : List Entry) (gone_over : ℕ) (lists : List Listing) (s : Sweep) (place n : ℕ) (x y : Lit) : Type 0 where
  pub at_gone : x ≡ s.gone → (Stands (list_of lists s.gone) 0 s.kept n × (s.conflict ≡ None → IsCovered entries x y)) ⊎ Stands (list_of lists s.gone) place (length (list_of lists s.gone)) n
  pub elsewhere : IsOther entries gone_over lists s.gone n x y

-- how many places are in use, once the numbers kept in a pass are put together
abbrev pub held_at : List Listing → Sweep → ℕ → Lit → ℕ
held_at lists s place l = cond (same_lit l s.gone) (s.kept + (length (list_of lists s.gone) - place)) (length (list_of lists l))

-- a pass over the list of the literal that is gone has come to a place; how many clauses stand in the lists of their literals plays
-- no part in a pass, since all clauses have pairs: 0 is as good
pub record IsGoing (t : TrailState) (w : Watches) (s : Sweep) (place : ℕ) : Type 0 where
  pub trail : IsTrail t
  pub few : length w.pairs.items ≤ length t.clauses
  pub entries : w.gone_over < length t.entries
  pub present : (at : ℕ) (d : Entry) → w.gone_over ≤ at → at < length t.entries → (get_or t.entries at d).decision_level ≡ t.level
  pub gone : IsGone t w.gone_over s.gone
  pub list : code_of s.gone < length w.lists.items
  pub kept : s.kept ≤ place
  pub conflict : IfSome s.conflict (λ n. Falsifies t n)
  pub room : HasRoom t w 0 (held_at w.lists.items s place)
  pub paired : (i : ℕ) (d : Pair) → i < length w.pairs.items → IsPaired t.entries (IsWatchNow t.entries w.gone_over w.lists.items s place (i + 1)) (numbered t.clauses (i + 1)) (get_or w.pairs.items i d)

-- the lists are kept, so many entries being gone over
abbrev pub AreKept : TrailState → Watches → ℕ → Type 0
AreKept t w gone_over = IsKept t w.pairs.items w.lists.items gone_over

-- what holds of a trail and its watched literals, so many first clauses standing in the lists of their literals where they are short,
-- and so many entries being gone over
pub record WatchesWell (t : TrailState) (w : Watches) (fixed gone_over : ℕ) : Type 0 where
  pub kept : AreKept t w gone_over
  pub room : HasRoom t w fixed (held_in w.lists.items)

-- what a pass gives
abbrev pub SweepGives : TrailState → Watches → ℕ → Watched → Type 0
SweepGives t w fixed watched.Rests = WatchesWell t w fixed (w.gone_over + 1)
SweepGives t w fixed (watched.Falsified n) = WatchesWell t w fixed w.gone_over × Falsifies t n

-- what holds of each trail with the lists of its clauses
pub record IsWatching (t : TrailState) (w : Watches) (s : Shorts) : Type 0 where
  pub trail : IsTrail t
  pub well : WatchesWell t w s.fixed w.gone_over
  pub shorts : HasShorts t.vars t.clauses s.fixed (lists_of s)
  pub marked : AreMarked t.clauses s.fixed w.pairs.items
  pub due : AreDue t s.fixed (length w.pairs.items) w.gone_over

-- the entries from the place on are of the present level
abbrev pub ArePresent : TrailState → ℕ → Type 0
ArePresent t from = (place : ℕ) (d : Entry) → from ≤ place → place < length t.entries → (get_or t.entries place d).decision_level ≡ t.level

-- which clauses of at most three literals are due after a pass over both lists of a literal
abbrev pub SweepsDue : TrailState → ℕ → Watches → Watched → Type 0
SweepsDue t fixed w watched.Rests = AreDue t fixed (length t.clauses) (w.gone_over + 1)
SweepsDue t fixed w (watched.Falsified n) = AreDue t fixed (length t.clauses) w.gone_over

-- what the first clause without a pair gives: a pair
abbrev pub LooksGives : TrailState → Watches → Watches → ℕ → Watched → Type 0
LooksGives t a b fixed watched.Rests = WatchesWell t b fixed b.gone_over × (length b.pairs.items ≡ length a.pairs.items + 1)
LooksGives t a b fixed (watched.Falsified n) = WatchesWell t b fixed b.gone_over × Falsifies t n

-- what pairing all clauses gives
abbrev pub PairsGives : TrailState → Watches → ℕ → Watched → Type 0
PairsGives t w fixed watched.Rests = WatchesWell t w fixed w.gone_over × (length t.clauses ≤ length w.pairs.items)
PairsGives t w fixed (watched.Falsified n) = WatchesWell t w fixed w.gone_over × Falsifies t n

-- each clause has a pair, and all true literals were gone over
pub record IsDone (t : TrailState) (w : Watches) : Type 0 where
  pub pairs : length t.clauses ≤ length w.pairs.items
  pub entries : length t.entries ≤ w.gone_over
  pub rest : AllRest t.clauses (values_of t.entries)

-- what propagation by watched literals gives
abbrev pub WatchGives : TrailState → Watches → ℕ → Watched → Type 0
WatchGives t w fixed watched.Rests = WatchesWell t w fixed w.gone_over × IsDone t w
WatchGives t w fixed (watched.Falsified n) = WatchesWell t w fixed w.gone_over × Falsifies t n

-- the clause whose literals are all false
abbrev pub number_of : Watched → Option ℕ
number_of watched.Rests = None
number_of (watched.Falsified n) = Some n

-- the clause may watch the literals of the pair
pub record MayWatch (t : TrailState) (n : ℕ) (p : Pair) : Type 0 where
  pub first : has (numbered t.clauses n) p.first ≡ true
  pub second : has (numbered t.clauses n) p.second ≡ true
  pub apart : p.first.var ≢ p.second.var
  pub covers_first : IsFalseIn (values_of t.entries) p.first → IsCovered t.entries p.first p.second
  pub covers_second : IsFalseIn (values_of t.entries) p.second → IsCovered t.entries p.second p.first

-- the pair stands behind the others
pub record KeepsPair (old new : Watches) (p : Pair) : Type 0 where
  pub pairs : new.pairs.items ≡ old.pairs.items ++ p ∷ []
  pub capacity : vec_capacity old.pairs ≤ vec_capacity new.pairs
  pub lists : new.lists ≡ old.lists
  pub gone_over : new.gone_over ≡ old.gone_over

-- the clause is listed at both literals of its pair, which stands behind the others
pub record IsPlaced (old new : Watches) (n : ℕ) (p : Pair) : Type 0 where
  pub pairs : new.pairs.items ≡ old.pairs.items ++ p ∷ []
  pub capacity : vec_capacity old.pairs ≤ vec_capacity new.pairs
  pub gone_over : new.gone_over ≡ old.gone_over
  pub lists : length new.lists.items ≡ length old.lists.items
  pub rooms : (l : Lit) → room_of new.lists.items l ≡ room_of old.lists.items l
  pub numbers : (l : Lit) (m : ℕ) → 1 ≤ n → n ≤ m → AreNumbers (list_of old.lists.items l) m → AreNumbers (list_of new.lists.items l) m
  pub held : (l : Lit) → length (list_of new.lists.items l) ≤ length (list_of old.lists.items l) + cond (watches p l) 1 0
  pub listed : (l : Lit) (m : ℕ) → IsListed old.lists.items l m → IsListed new.lists.items l m
  pub first : IsListed new.lists.items p.first n
  pub second : IsListed new.lists.items p.second n

-- the clause with the number has two literals that are unassigned at each level below the present one
abbrev pub IsFreeBelow : TrailState → ℕ → Type 0
IsFreeBelow t n = (k : ℕ) → k < t.level → IsOpen (values_of (up_to k t.entries)) (numbered t.clauses n)

-- no clause is watched
pub record HasNone (vars : ℕ) (w : Watches) : Type 0 where
  pub pairs : w.pairs.items ≡ []
  pub gone_over : w.gone_over ≡ 0
  pub size : length w.lists.items ≡ 2 * vars + 2
  pub empty : (i : ℕ) → get_or w.lists.items i nothing ≡ nothing

-- nothing but the room has changed, and that has grown
pub record IsWider (old new : Watches) : Type 0 where
  pub pairs : new.pairs.items ≡ old.pairs.items
  pub capacity : vec_capacity old.pairs ≤ vec_capacity new.pairs
  pub size : length new.lists.items ≡ length old.lists.items
  pub numbers : (l : Lit) → list_of new.lists.items l ≡ list_of old.lists.items l
  pub rooms : (l : Lit) → room_of old.lists.items l ≤ room_of new.lists.items l
  pub gone_over : new.gone_over ≡ old.gone_over

-- each literal has a list
abbrev pub HaveLists : Watches → List Lit → Type 0
HaveLists w literals = (l : Lit) → has literals l ≡ true → code_of l < length w.lists.items

-- each literal has one place more
abbrev pub HavePlaces : Watches → Watches → List Lit → Type 0
HavePlaces old new literals = (l : Lit) → has literals l ≡ true → room_of old.lists.items l + 1 ≤ room_of new.lists.items l

-- the literals have lists with room for one number more
pub record MayList (w : Watches) (p : Pair) : Type 0 where
  pub first : code_of p.first < length w.lists.items
  pub second : code_of p.second < length w.lists.items
  pub apart : p.first ≢ p.second
  pub room : (l : Lit) → watches p l ≡ true → length (list_of w.lists.items l) < room_of w.lists.items l

-- how late the literal became false; where it isn't false, more than any level
abbrev pub rank_at : Option Entry → Bool → ℕ
rank_at None negated = 2 ^ 64 - 1
rank_at (Some e) negated = cond (beq e.lit.negated negated) (2 ^ 64 - 1) e.decision_level

abbrev pub rank_of : List Entry → Lit → ℕ
rank_of entries l = rank_at (entry_of entries l.var) l.negated

-- the literal of the clause that is of another variable than `apart` and of the greatest rank of these
pub record IsHighest (entries : List Entry) (clause : List Lit) (apart : ℕ) (l : Lit) : Type 0 where
  pub member : has clause l ≡ true
  pub apart_is : l.var ≢ apart
  pub greatest : (m : Lit) → has clause m ≡ true → m.var ≢ apart → rank_of entries m ≤ rank_of entries l

-- what is found
abbrev pub HighestGives : List Entry → List Lit → ℕ → Option Lit → Type 0
HighestGives entries clause apart None = (m : Lit) → has clause m ≡ true → m.var ≡ apart
HighestGives entries clause apart (Some l) = IsHighest entries clause apart l
