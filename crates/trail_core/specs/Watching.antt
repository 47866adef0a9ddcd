-- Watched literals (Moskewicz, Madigan, Zhao, Zhang, Malik 2001): of each clause two literals, at which propagation looks for it.
use Rattle.std.specs.Prelude.{◌≡◌, ◌≢◌, ℕ, ◌+◌, ◌-◌, ◌*◌, ◌<◌, ◌≤◌, Bool, true, not, ◌&&◌, ◌||◌, ◌==◌, cond, nat_le, Some, List, [], ◌∷◌, length, take, get_or, set}
use Rattle.clause_base.specs.declared.literal.Lit.{Lit}
use Rattle.clause_base.specs.Literal.{has, same_lit}
use Rattle.clause_base.specs.Acceptance.{numbered}
use Rattle.trail_core.specs.declared.entry.Entry.{Entry}
use Rattle.trail_core.specs.declared.watches.Pair.{Pair}
use Rattle.trail_core.specs.Listing.{Listing, nothing}
use Rattle.trail_core.specs.Values.{Values, IsTrueIn, IsFalseIn, IsUnassignedIn}
use Rattle.trail_core.specs.TrailState.{TrailState, values_of, level_in}

-- the place of a literal's list
abbrev pub code_of : Lit → ℕ
code_of l = 2 * l.var + cond l.negated 1 0

-- the numbers of the clauses that are looked at when the literal becomes false
abbrev pub list_of : List Listing → Lit → List ℕ
list_of lists l = (get_or lists (code_of l) nothing).numbers

-- how many numbers have a place in the literal's list
abbrev pub room_of : List Listing → Lit → ℕ
room_of lists l = (get_or lists (code_of l) nothing).room

-- the lists with these numbers in the literal's list
abbrev pub with_list : List Listing → Lit → List ℕ → List Listing
with_list lists l xs = set lists (code_of l) record { numbers = xs; room = room_of lists l }

-- the number stands in the list, at a place from `from` on and before `end`
pub record Stands (list : List ℕ) (from end n : ℕ) : Type 0 where
  pub place : ℕ
  pub low : from ≤ place
  pub high : place < end
  pub within : place < length list
  pub is : get_or list place 0 ≡ n

-- the number stands in the literal's list
abbrev pub IsListed : List Listing → Lit → ℕ → Type 0
IsListed lists l n = Stands (list_of lists l) 0 (length (list_of lists l)) n

-- the literal o is true, and its level is at most that of w
pub record IsCovered (entries : List Entry) (w o : Lit) : Type 0 where
  pub is_true : IsTrueIn (values_of entries) o
  pub level : (i j : ℕ) → level_in entries o.var ≡ Some i → level_in entries w.var ≡ Some j → i ≤ j

-- the clause is listed at its watched literal x; where x is false among the entries gone over, the other one, y, covers it
pub record IsWatch (entries : List Entry) (gone_over : ℕ) (lists : List Listing) (n : ℕ) (x y : Lit) : Type 0 where
  pub listed : IsListed lists x n
  pub covered : IsFalseIn (values_of (take gone_over entries)) x → IsCovered entries x y

-- a literal of the clause is true at level 0
pub record IsSettled (entries : List Entry) (clause : List Lit) : Type 0 where
  pub literal : Lit
  pub member : has clause literal ≡ true
  pub is_true : IsTrueIn (values_of entries) literal
  pub level : level_in entries literal.var ≡ Some 0

-- a pair of no literals
pub record IsBlank (p : Pair) : Type 0 where
  pub first : p.first.var ≡ 0
  pub second : p.second.var ≡ 0

-- the clause has at most three literals
abbrev pub is_short : List Lit → Bool
is_short clause = nat_le (length clause) 3

-- the clause with the number stands in a list of each of its literals: it is one of the first `fixed` ones, and has at most three literals
abbrev pub is_fixed : ℕ → ℕ → List Lit → Bool
is_fixed fixed n clause = nat_le n fixed && is_short clause

-- the pair is that of such a clause, which watches none
abbrev pub is_mark : Pair → Bool
is_mark p = (p.first.var == 0) && p.first.negated

-- the clause is settled or stands in the lists of its literals, and its pair has none, or the two literals of the pair are its own, of different variables, and W holds of each beside the other
pub data IsPaired (entries : List Entry) (W : Lit → Lit → Type 0) (clause : List Lit) (p : Pair) : Type 0 where
  settled : IsSettled entries clause → IsBlank p → IsPaired entries W clause p
  in_lists : is_mark p ≡ true → IsBlank p → IsPaired entries W clause p
  watched : has clause p.first ≡ true → has clause p.second ≡ true → p.first.var ≢ p.second.var → W p.first p.second → W p.second p.first → IsPaired entries W clause p

-- the lists are kept: of the entries `gone_over` were gone over, each later one is of the present level, and each of the first clauses is paired
pub record IsKept (t : TrailState) (pairs : List Pair) (lists : List Listing) (gone_over : ℕ) : Type 0 where
  pub few : length pairs ≤ length t.clauses
  pub entries : gone_over ≤ length t.entries
  pub present : (place : ℕ) (d : Entry) → gone_over ≤ place → place < length t.entries → (get_or t.entries place d).decision_level ≡ t.level
  pub paired : (i : ℕ) (d : Pair) → i < length pairs → IsPaired t.entries (IsWatch t.entries gone_over lists (i + 1)) (numbered t.clauses (i + 1)) (get_or pairs i d)

-- the pair has the literal
abbrev pub watches : Pair → Lit → Bool
watches p l = same_lit p.first l || same_lit p.second l

-- the clause has the literal, and its pair neither has it nor says that the clause stands in the lists of its literals
abbrev pub lacks : List Lit → Pair → Lit → Bool
lacks clause p l = has clause l && not (is_mark p || watches p l)

-- the first clause, which has no pair, has the literal and doesn't stand in the lists of its literals
abbrev pub needs : ℕ → List Lit → Lit → Bool
needs fixed clause l = has clause l && not (is_fixed fixed 1 clause)

-- how many clauses have the literal and don't watch it, those without a pair among them, but for those that stand in the lists of
-- their literals: without a pair these are the short ones of the first `fixed`
abbrev pub unwatched : ℕ → List (List Lit) → List Pair → Lit → ℕ
unwatched fixed [] pairs l = 0
unwatched fixed (c ∷ cs) [] l = cond (needs fixed c l) 1 0 + unwatched (fixed - 1) cs [] l
unwatched fixed (c ∷ cs) (p ∷ ps) l = cond (lacks c p l) 1 0 + unwatched (fixed - 1) cs ps l

-- each is one of the numbers 1 to `count`
abbrev pub AreNumbers : List ℕ → ℕ → Type 0
AreNumbers xs count = (i : ℕ) → i < length xs → (1 ≤ get_or xs i 0) × (get_or xs i 0 ≤ count)

-- two literals of the clause, of different variables, are unassigned
pub record IsOpen (values : Values) (clause : List Lit) : Type 0 where
  pub one : Lit
  pub two : Lit
  pub has_one : has clause one ≡ true
  pub has_two : has clause two ≡ true
  pub apart : one.var ≢ two.var
  pub one_free : IsUnassignedIn values one
  pub two_free : IsUnassignedIn values two

-- each pair that says so is that of such a clause
abbrev pub AreMarked : List (List Lit) → ℕ → List Pair → Type 0
AreMarked clauses fixed pairs = (i : ℕ) (d : Pair) → i < length pairs → is_mark (get_or pairs i d) ≡ true → is_fixed fixed (i + 1) (numbered clauses (i + 1)) ≡ true

-- no pair says so that didn't before
abbrev pub KeepsMarks : List Pair → List Pair → Type 0
KeepsMarks old new = (i : ℕ) (d : Pair) → i < length new → is_mark (get_or new i d) ≡ true → is_mark (get_or old i d) ≡ true
