-- Sets of false literals, marked by their variables, and the chains that give them.
use Rattle.std.specs.Prelude.{◌≡◌, ◌≢◌, ℕ, ◌-◌, ◌<◌, ◌≤◌, Bool, true, false, not, ◌&&◌, ◌||◌, ◌==◌, is_some, ◌++◌, ◌⊎◌, count_by, filter, Option, Some, None, List, [], ◌∷◌, map, length, slice_index_or, All}
use Rattle.clause_base.specs.declared.literal.Lit.{Lit}
use Rattle.clause_base.specs.Literal.{same_sign, opposite, has, has_variable, has_distinct_variables, IsWithin}
use Rattle.clause_base.specs.Resolution.{Gives}
use Rattle.clause_base.specs.Acceptance.{numbered, IsAcceptedChain}
use Rattle.trail_core.specs.declared.entry.Entry.{Entry}
use Rattle.trail_core.specs.Values.{Values, IsTrueIn, IsFalseIn}
use Rattle.trail_core.specs.TrailState.{TrailState, IsNumber, values_of, level_in, reason_in, is_decision}

-- there is a sign, and it is this one
abbrev pub has_sign : Option Bool → Bool → Bool
has_sign None sign = false
has_sign (Some a) sign = same_sign a sign

-- the literal is false
abbrev pub is_false : Values → Lit → Bool
is_false values l = has_sign (values l.var) l.negated

-- the variable is marked
abbrev pub marked : List Bool → ℕ → Bool
marked marks v = slice_index_or marks (v - 1) false

-- the false literals of the marked variables
abbrev pub set_of : List Bool → Values → Lit → Bool
set_of marks values l = marked marks l.var && is_false values l

-- the first clause of the chain, resolved in turn with each next one, gives the set
abbrev pub ChainGives : List (List Lit) → List ℕ → (Lit → Bool) → Type 0
ChainGives clauses [] set = ⊥
ChainGives clauses (n ∷ ns) set = Gives (has (numbered clauses n)) (map (numbered clauses) ns) set

-- the chain has numbers of the clauses, and gives the set
pub record Derives (clauses : List (List Lit)) (chain : List ℕ) (set : Lit → Bool) : Type 0 where
  pub numbers : All (λ n. (1 ≤ n) × (n ≤ length clauses)) chain
  pub gives : ChainGives clauses chain set

-- the marks after the variables of the literals are marked, but for one
pub record MarksOthers (old new : List Bool) (literals : List Lit) (skip : ℕ) : Type 0 where
  pub size : length new ≡ length old
  pub each : (v : ℕ) → 1 ≤ v → v ≤ length old → marked new v ≡ (marked old v || (has_variable literals v && not (v == skip)))

-- there is a level, and it is this one
abbrev pub has_level : Option ℕ → ℕ → Bool
has_level None k = false
has_level (Some a) k = a == k

-- the variable got its value at the present decision level
abbrev pub is_present : TrailState → ℕ → Bool
is_present t v = has_level (level_in t.entries v) t.level

-- the entry is of a marked variable and of the present decision level
abbrev pub counts : TrailState → List Bool → Entry → Bool
counts t marks e = marked marks e.lit.var && (e.decision_level == t.level)

-- the literals are those of the marked set that are below the present decision level, and `present` counts the others
pub record Tracks (t : TrailState) (marks : List Bool) (literals : List Lit) (present : ℕ) : Type 0 where
  pub size : length marks ≡ t.vars
  pub members : (l : Lit) → has literals l ≡ (set_of marks (values_of t.entries) l && not (is_present t l.var))
  pub variables : (v : ℕ) → has_variable literals v ≡ true → marked marks v ≡ true
  pub valued : (v : ℕ) → 1 ≤ v → v ≤ t.vars → marked marks v ≡ true → is_some (values_of t.entries v) ≡ true
  pub distinct : has_distinct_variables literals ≡ true
  pub count : present ≡ count_by (counts t marks) t.entries

-- the literals are false, but for those of one variable
abbrev pub AreFalse : Values → List Lit → ℕ → Type 0
AreFalse values literals skip = (l : Lit) → has literals l ≡ true → l.var ≢ skip → IsFalseIn values l

-- a true literal of the clause, the others of which are false
pub record IsForced (values : Values) (clause : List Lit) (x : Lit) : Type 0 where
  pub member : has clause x ≡ true
  pub is_true : IsTrueIn values x
  pub others : (l : Lit) → has clause l ≡ true → l.var ≢ x.var → IsFalseIn values l

-- the marks after the variable x is replaced by the other variables of the clause
pub record Replaces (old new : List Bool) (clause : List Lit) (x : ℕ) : Type 0 where
  pub size : length new ≡ length old
  pub each : (v : ℕ) → 1 ≤ v → v ≤ length old → marked new v ≡ (not (v == x) && (marked old v || has_variable clause v))

-- an analysis that has resolved the reasons of the marked entries from the place on
pub record Resolved (t : TrailState) (marks : List Bool) (literals : List Lit) (chain : List ℕ) (present : ℕ) (place : ℕ) : Type 0 where
  pub tracks : Tracks t marks literals present
  pub derives : Derives t.clauses chain (set_of marks (values_of t.entries))
  pub above : (i : ℕ) (d : Entry) → place ≤ i → i < length t.entries → marked marks (slice_index_or t.entries i d).lit.var ≡ false
  pub some : 1 ≤ present

-- the literal is true and its variable marked, and it is the only such of the present decision level
pub record IsOnlyPresent (t : TrailState) (marks : List Bool) (l : Lit) : Type 0 where
  pub is_marked : marked marks l.var ≡ true
  pub is_true : IsTrueIn (values_of t.entries) l
  pub level : level_in t.entries l.var ≡ Some t.level
  pub only : (v : ℕ) → marked marks v ≡ true → level_in t.entries v ≡ Some t.level → v ≡ l.var

-- the reason of the literal's variable has the number, and its other literals are of marked variables
pub record Covers (t : TrailState) (marks : List Bool) (n : ℕ) (l : Lit) : Type 0 where
  pub reason : reason_in t.entries l.var ≡ Some n
  pub others : (m : Lit) → has (numbered t.clauses n) m ≡ true → m.var ≢ l.var → marked marks m.var ≡ true

-- marks were taken away, none of them of the present decision level
pub record Leaves (t : TrailState) (old new : List Bool) : Type 0 where
  pub fewer : (v : ℕ) → 1 ≤ v → marked new v ≡ true → marked old v ≡ true
  pub present : (v : ℕ) → 1 ≤ v → is_present t v ≡ true → marked new v ≡ marked old v

-- no variable is marked
abbrev pub IsClean : List Bool → Type 0
IsClean marks = (v : ℕ) → marked marks v ≡ false

-- the literals were learned: the chain gives them, and the last one alone became false at the present decision level
pub record Learns (t : TrailState) (marks : List Bool) (literals : List Lit) (chain : List ℕ) : Type 0 where
  pub accepted : IsAcceptedChain t.clauses chain literals
  pub distinct : has_distinct_variables literals ≡ true
  pub within : IsWithin t.vars literals
  pub marks_are : (v : ℕ) → 1 ≤ v → v ≤ t.vars → marked marks v ≡ true → has_variable literals v ≡ true
  pub lower : List Lit
  pub tells : Lit
  pub split : literals ≡ lower ++ tells ∷ []
  pub told : IsFalseIn (values_of t.entries) tells
  pub level : level_in t.entries tells.var ≡ Some t.level
  pub others : (l : Lit) → has lower l ≡ true → IsFalseIn (values_of t.entries) l × (is_present t l.var ≡ false)

-- each marked variable is one of the literals'
abbrev pub AreOf : List Bool → List Lit → Type 0
AreOf marks literals = (v : ℕ) → 1 ≤ v → v ≤ length marks → marked marks v ≡ true → has_variable literals v ≡ true

-- the marks of the literals' variables are taken away
pub record Unmarks (old new : List Bool) (literals : List Lit) : Type 0 where
  pub size : length new ≡ length old
  pub each : (v : ℕ) → 1 ≤ v → v ≤ length old → marked new v ≡ (marked old v && not (has_variable literals v))

-- what one step of the refutation makes of the marks and the chain: the entry at the place isn't marked, or is a
-- decision, or its reason takes its place
pub data RefutesAt (t : TrailState) (old new : List Bool) (before after : List ℕ) (place : ℕ) : Type 0 where
  kept : new ≡ old → after ≡ before → ((d : Entry) → marked old (slice_index_or t.entries place d).lit.var ≡ true → is_decision (slice_index_or t.entries place d) ≡ true) → RefutesAt t old new before after place
  replaced : (n : ℕ) → ((d : Entry) → (slice_index_or t.entries place d).reason ≡ Some n) → ((d : Entry) → marked old (slice_index_or t.entries place d).lit.var ≡ true) → ((d : Entry) → Replaces old new (numbered t.clauses n) (slice_index_or t.entries place d).lit.var) → after ≡ before ++ n ∷ [] → RefutesAt t old new before after place

-- no entry from the place on is of a marked variable
abbrev pub IsUnmarkedFrom : TrailState → List Bool → ℕ → Type 0
IsUnmarkedFrom t marks place = (i : ℕ) (d : Entry) → place ≤ i → i < length t.entries → marked marks (slice_index_or t.entries i d).lit.var ≡ false

-- none of the clauses with the numbers has a literal of the variable
abbrev pub AreWithout : List (List Lit) → List ℕ → ℕ → Type 0
AreWithout clauses numbers v = All (λ n. has_variable (numbered clauses n) v ≡ false) numbers

-- the chain grew by clauses that, resolved in turn with the old set, give the new one
pub record Refutes (t : TrailState) (old new : List Bool) (before after : List ℕ) (place : ℕ) : Type 0 where
  pub size : length new ≡ length old
  pub added : List ℕ
  pub is : after ≡ before ++ added
  pub numbers : All (λ n. (1 ≤ n) × (n ≤ length t.clauses)) added
  pub gives : Gives (set_of old (values_of t.entries)) (map (numbered t.clauses) added) (set_of new (values_of t.entries))
  pub above : (i : ℕ) (d : Entry) → place ≤ i → i < length t.entries → marked new (slice_index_or t.entries i d).lit.var ≡ true → is_decision (slice_index_or t.entries i d) ≡ true
  -- an entry from which on no variable was marked stays so, and its variable is in none of the clauses
  pub without : (i : ℕ) (d : Entry) → i < length t.entries → IsUnmarkedFrom t old i → AreWithout t.clauses added (slice_index_or t.entries i d).lit.var
  pub unmarked : (i : ℕ) → i < length t.entries → IsUnmarkedFrom t old i → IsUnmarkedFrom t new i

-- the opposites of the entries of marked variables
abbrev pub opposites_of : List Bool → List Entry → List Lit
opposites_of marks entries = map (λ e. opposite e.lit) (filter (λ e. marked marks e.lit.var) entries)

-- the variable's entry, from which on no entry is of a marked variable
pub record IsPast (t : TrailState) (marks : List Bool) (v : ℕ) : Type 0 where
  pub place : ℕ
  pub within : place < length t.entries
  pub variable : (d : Entry) → (slice_index_or t.entries place d).lit.var ≡ v
  pub unmarked : IsUnmarkedFrom t marks place

-- the chain is of one clause, whose literals are the head's, which stay, and those of the marked set
pub record Starts (t : TrailState) (head : List Lit) (marks : List Bool) (chain : List ℕ) : Type 0 where
  pub clause : ℕ
  pub is : chain ≡ clause ∷ []
  pub number : IsNumber t.clauses clause
  pub set : (l : Lit) → has (numbered t.clauses clause) l ≡ (has head l || set_of marks (values_of t.entries) l)
  pub past : (l : Lit) → has head l ≡ true → IsPast t marks l.var
  pub distinct : has_distinct_variables head ≡ true

-- the literal is the opposite of a decision among the first n entries
pub record IsDeniedBefore (t : TrailState) (n : ℕ) (l : Lit) : Type 0 where
  pub place : ℕ
  pub within : place < n
  pub decision : (d : Entry) → is_decision (slice_index_or t.entries place d) ≡ true
  pub is : (d : Entry) → opposite (slice_index_or t.entries place d).lit ≡ l

-- the literal is the opposite of a decision
abbrev pub IsDenied : TrailState → Lit → Type 0
IsDenied t l = IsDeniedBefore t (length t.entries) l

-- the variable's entry, such that the literals but for the head's are opposites of decisions before it
pub record RestsBefore (t : TrailState) (head literals : List Lit) (v : ℕ) : Type 0 where
  pub place : ℕ
  pub within : place < length t.entries
  pub variable : (d : Entry) → (slice_index_or t.entries place d).lit.var ≡ v
  pub denied : (l : Lit) → has literals l ≡ true → (has head l ≡ true) ⊎ IsDeniedBefore t place l

-- the chain gives the clause, which has the head's literals, and the others are opposites of decisions
pub record Denies (t : TrailState) (head literals : List Lit) (chain : List ℕ) : Type 0 where
  pub accepted : IsAcceptedChain t.clauses chain literals
  pub distinct : has_distinct_variables literals ≡ true
  pub within : IsWithin t.vars literals
  pub itself : (l : Lit) → has head l ≡ true → has literals l ≡ true
  pub denied : (l : Lit) → has literals l ≡ true → (has head l ≡ true) ⊎ IsDenied t l
  pub before : (x : Lit) → has head x ≡ true → RestsBefore t head literals x.var
