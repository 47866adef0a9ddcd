-- The clauses of at most three literals among the first ones: each stands in a list of each of its literals.
use Rattle.std.specs.Prelude.{◌≡◌, ◌≢◌, ℕ, ◌+◌, ◌*◌, ◌<◌, ◌≤◌, ◌⊎◌, true, false, cond, nat_lt, List, [], ◌∷◌, ◌++◌, length, take, get_or}
use Rattle.clause_base.specs.declared.literal.Lit.{Lit}
use Rattle.clause_base.specs.Literal.{has}
use Rattle.clause_base.specs.Acceptance.{numbered}
use Rattle.trail_core.specs.declared.entry.Entry.{Entry}
use Rattle.trail_core.specs.declared.short_list.Short.{Short}
use Rattle.trail_core.specs.declared.shorts.Shorts.{Shorts}
use Rattle.trail_core.specs.declared.watch.Watched.{Watched}
use Rattle.trail_core.specs.declared.watch.Watched.TheVariants as watched
use Rattle.trail_core.specs.ShortListing.{ShortListing, no_shorts, lists_in, one_of, two_of}
use Rattle.trail_core.specs.Values.{Values, IsTrueIn, IsFalseIn}
use Rattle.trail_core.specs.TrailState.{TrailState, IsNumber, values_of}
use Rattle.trail_core.specs.Look.{Falsifies}
use Rattle.trail_core.specs.Watching.{IsOpen, code_of, is_fixed}

-- no literal of a variable
abbrev pub no_literal : Lit
no_literal = record { var = 0; negated = false }

-- the list of each literal
abbrev pub lists_of : Shorts → List ShortListing
lists_of s = lists_in s.flat s.growing.items

-- the list of a literal
abbrev pub shorts_of : List ShortListing → Lit → List Short
shorts_of lists l = (get_or lists (code_of l) no_shorts).clauses

-- the clause as the literal has it in its list: its literals are this one and the two others, which are of one variable only where
-- it has no other
pub record IsEntry (clauses : List (List Lit)) (l : Lit) (s : Short) : Type 0 where
  pub number : IsNumber clauses s.number
  pub one : has (numbered clauses s.number) (one_of s) ≡ true
  pub two : has (numbered clauses s.number) (two_of s) ≡ true
  pub all : (m : Lit) → has (numbered clauses s.number) m ≡ true → (m ≡ l) ⊎ ((m ≡ one_of s) ⊎ (m ≡ two_of s))
  pub apart : s.one_var ≡ s.two_var → one_of s ≡ l

-- of the two others the literal is the one beside a false one
abbrev pub IsLast : Values → Short → Lit → Type 0
IsLast values s l = ((l ≡ two_of s) × IsFalseIn values (one_of s)) ⊎ ((l ≡ one_of s) × IsFalseIn values (two_of s))

-- the clause with the number stands in the list
pub record IsEntered (list : List Short) (n : ℕ) : Type 0 where
  pub place : ℕ
  pub within : place < length list
  pub is : (d : Short) → (get_or list place d).number ≡ n

-- each literal has a list, in which such clauses stand, and of the first `fixed` clauses each one of at most three literals stands in
-- the lists of all of them
pub record HasShorts (vars : ℕ) (clauses : List (List Lit)) (fixed : ℕ) (lists : List ShortListing) : Type 0 where
  pub size : length lists ≡ 2 * vars + 2
  pub few : fixed ≤ length clauses
  pub sound : (l : Lit) (i : ℕ) (d : Short) → i < length (shorts_of lists l) → IsEntry clauses l (get_or (shorts_of lists l) i d)
  pub listed : (n : ℕ) (l : Lit) → IsNumber clauses n → is_fixed fixed n (numbered clauses n) ≡ true → has (numbered clauses n) l ≡ true → IsEntered (shorts_of lists l) n

-- the clause has a true literal, or two that are unassigned by the entries gone over
pub data IsDue (entries : List Entry) (gone_over : ℕ) (clause : List Lit) : Type 0 where
  due_true : (l : Lit) → has clause l ≡ true → IsTrueIn (values_of entries) l → IsDue entries gone_over clause
  due_open : IsOpen (values_of (take gone_over entries)) clause → IsDue entries gone_over clause

-- so are the first clauses, where they stand in such lists
abbrev pub AreDue : TrailState → ℕ → ℕ → ℕ → Type 0
AreDue t fixed count gone_over = (n : ℕ) → IsNumber t.clauses n → n ≤ count → is_fixed fixed n (numbered t.clauses n) ≡ true → IsDue t.entries gone_over (numbered t.clauses n)

-- what going over the list of a literal gives, which is the opposite of the one at the place
abbrev pub ShortsGive : TrailState → ℕ → ℕ → Watched → Type 0
ShortsGive t fixed place watched.Rests = AreDue t fixed (length t.clauses) (place + 1)
ShortsGive t fixed place (watched.Falsified n) = Falsifies t n

-- there are no clauses, and two lists for each variable
pub record HasNoShorts (vars : ℕ) (s : Shorts) : Type 0 where
  pub size : length s.growing.items ≡ 2 * vars + 2
  pub empty : (l : Lit) → shorts_of s.growing.items l ≡ []
  pub flat : s.flat ≡ []
  pub fixed : s.fixed ≡ 0

-- the lists that take more clauses have the same ones
pub record SameShorts (old new : Shorts) : Type 0 where
  pub fixed : new.fixed ≡ old.fixed
  pub flat : new.flat ≡ old.flat
  pub size : length new.growing.items ≡ length old.growing.items
  pub same : (l : Lit) → shorts_of new.growing.items l ≡ shorts_of old.growing.items l
  pub rooms : (l : Lit) → (get_or old.growing.items (code_of l) no_shorts).room ≤ (get_or new.growing.items (code_of l) no_shorts).room

-- the literal's list has room for one clause more
abbrev pub HasShortPlace : Shorts → Lit → Type 0
HasShortPlace s l = length (shorts_of s.growing.items l) < (get_or s.growing.items (code_of l) no_shorts).room

-- each literal has a list
abbrev pub HaveShortLists : Shorts → List Lit → Type 0
HaveShortLists s literals = (l : Lit) → has literals l ≡ true → code_of l < length s.growing.items

-- and room in it
abbrev pub HaveShortPlaces : Shorts → List Lit → Type 0
HaveShortPlaces s literals = (l : Lit) → has literals l ≡ true → HasShortPlace s l

-- the place behind another one, going round
abbrev pub next_place : ℕ → ℕ → ℕ
next_place place count = cond (nat_lt (place + 1) count) (place + 1) 0

-- the clause with these literals beside the one whose list it stands in
abbrev pub entry_with : Lit → Lit → ℕ → Short
entry_with a b n = record { one_var = a.var; two_var = b.var; number = n; one_negated = a.negated; two_negated = b.negated }

-- what the literal at the place has of the clause: the literals behind it, going round
abbrev pub entry_at : List Lit → ℕ → ℕ → Short
entry_at c n place = entry_with (get_or c (next_place place (length c)) no_literal) (get_or c (next_place (next_place place (length c)) (length c)) no_literal) n

-- the clause is the last in the literal's list, and no other list has changed
pub record PushesShort (old new : Shorts) (l : Lit) (s : Short) : Type 0 where
  pub fixed : new.fixed ≡ old.fixed
  pub flat : new.flat ≡ old.flat
  pub size : length new.growing.items ≡ length old.growing.items
  pub own : shorts_of new.growing.items l ≡ shorts_of old.growing.items l ++ s ∷ []
  pub others : (m : Lit) → m ≢ l → get_or new.growing.items (code_of m) no_shorts ≡ get_or old.growing.items (code_of m) no_shorts

-- the clause is the last in the list of each of its literals, and no other list has changed
pub record Enters (old new : Shorts) (n : ℕ) (c : List Lit) : Type 0 where
  pub fixed : new.fixed ≡ old.fixed
  pub flat : new.flat ≡ old.flat
  pub size : length new.growing.items ≡ length old.growing.items
  pub own : (i : ℕ) (d : Lit) → i < length c → shorts_of new.growing.items (get_or c i d) ≡ shorts_of old.growing.items (get_or c i d) ++ entry_at c n i ∷ []
  pub others : (l : Lit) → has c l ≡ false → shorts_of new.growing.items l ≡ shorts_of old.growing.items l

-- the lists have the same clauses, however they stand in memory
pub record SameLists (old new : Shorts) : Type 0 where
  pub fixed : new.fixed ≡ old.fixed
  pub size : length (lists_of new) ≡ length (lists_of old)
  pub same : (l : Lit) → shorts_of (lists_of new) l ≡ shorts_of (lists_of old) l
