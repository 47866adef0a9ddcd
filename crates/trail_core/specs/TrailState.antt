-- A trail: the true literals in the order in which they became true, each with its decision level and its reason
-- (Handbook of Satisfiability, 2009, chapter 4, section 4.2).
use Rattle.std.specs.Prelude.{◌≡◌, ◌≢◌, ℕ, ◌+◌, ◌^◌, ◌<◌, ◌≤◌, Bool, true, not, ◌==◌, nat_le, Option, Some, None, is_none, IsSome, List, [], ◌∷◌, ◌++◌, length, take, find, filter, count_by, slice_index_or, IsTrue}
use Rattle.std.specs.Option.{option_map, option_and_then}
use Rattle.clause_base.specs.declared.literal.Lit.{Lit}
use Rattle.clause_base.specs.Literal.{has, has_distinct_variables, IsWithin}
use Rattle.clause_base.specs.Acceptance.{numbered}
use Rattle.trail_core.specs.declared.entry.Entry.{Entry}
use Rattle.trail_core.specs.Values.{Values, IsUnassignedIn, IsUnit, Rests, IsVariable}

-- what contracts see of a trail
pub record TrailState : Type 0 where
  pub vars : ℕ
  pub clauses : List (List Lit)
  pub entries : List Entry
  pub level : ℕ

-- the entry of a variable, if it has a value
abbrev pub entry_of : List Entry → ℕ → Option Entry
entry_of entries v = find (λ e. e.lit.var == v) entries

-- the values that the entries give
abbrev pub values_of : List Entry → Values
values_of entries v = option_map (λ e. not e.lit.negated) (entry_of entries v)

-- the decision level of a variable
abbrev pub level_in : List Entry → ℕ → Option ℕ
level_in entries v = option_map (λ e. e.decision_level) (entry_of entries v)

-- the reason of a variable
abbrev pub reason_in : List Entry → ℕ → Option ℕ
reason_in entries v = option_and_then (λ e. e.reason) (entry_of entries v)

-- the entry is a decision
abbrev pub is_decision : Entry → Bool
is_decision e = is_none e.reason

-- how many entries are decisions
abbrev pub decisions : List Entry → ℕ
decisions entries = count_by is_decision entries

-- the entries whose decision level is at most k
abbrev pub up_to : ℕ → List Entry → List Entry
up_to k entries = filter (λ e. nat_le e.decision_level k) entries

-- a clause has the number
pub record IsNumber (clauses : List (List Lit)) (n : ℕ) : Type 0 where
  pub above : 1 ≤ n
  pub within : n ≤ length clauses

-- every clause rests: none is unit, and none is falsified
abbrev pub AllRest : List (List Lit) → Values → Type 0
AllRest clauses values = (n : ℕ) → IsNumber clauses n → Rests values (numbered clauses n)

-- the clause with the number is unit, and the literal is the one that is not false
pub record IsReason (clauses : List (List Lit)) (values : Values) (n : ℕ) (literal : Lit) : Type 0 where
  pub number : IsNumber clauses n
  pub unit : IsUnit values (numbered clauses n) literal

-- the entry may follow those before it: its variable had no value, and its reason, where it has one, was unit
pub record IsJustified (vars : ℕ) (clauses : List (List Lit)) (before : List Entry) (e : Entry) : Type 0 where
  pub variable : IsVariable vars e.lit.var
  pub unassigned : IsUnassignedIn (values_of before) e.lit
  pub forced : (n : ℕ) → e.reason ≡ Some n → IsReason clauses (values_of before) n e.lit

-- what holds of each trail
pub record IsTrail (t : TrailState) : Type 0 where
  -- each clause is over the trail's variables, which are distinct in it
  pub within : (n : ℕ) → IsNumber t.clauses n → IsWithin t.vars (numbered t.clauses n)
  pub distinct : (n : ℕ) → IsNumber t.clauses n → IsTrue (has_distinct_variables (numbered t.clauses n))
  -- each entry is justified by those before it
  pub justified : (place : ℕ) (d : Entry) → place < length t.entries → IsJustified t.vars t.clauses (take place t.entries) (slice_index_or t.entries place d)
  -- an entry's level is the number of decisions up to and including it, and the present level is that of all
  pub leveled : (place : ℕ) (d : Entry) → place < length t.entries → (slice_index_or t.entries place d).decision_level ≡ decisions (take (place + 1) t.entries)
  pub level : t.level ≡ decisions t.entries
  -- the variables are numbers of 32 bits, and there are no more entries than variables
  pub small : t.vars < 2 ^ 32
  pub few : length t.entries ≤ t.vars
  -- at each level below the present one, the entries up to it leave no clause unit or falsified
  pub rests : (k : ℕ) → k < t.level → AllRest t.clauses (values_of (up_to k t.entries))

-- the trail with a clause more
abbrev pub with_clause : TrailState → List Lit → TrailState
with_clause t clause = record { vars = t.vars; clauses = t.clauses ++ clause ∷ []; entries = t.entries; level = t.level }

-- the trail with a literal decided at a level more
abbrev pub with_decision : TrailState → Lit → TrailState
with_decision t l = record { vars = t.vars; clauses = t.clauses; entries = t.entries ++ record { lit = l; decision_level = t.level + 1; reason = None } ∷ []; level = t.level + 1 }

-- the trail with a literal forced at its level by the clause of that number
abbrev pub with_forced : TrailState → Lit → ℕ → TrailState
with_forced t l n = record { vars = t.vars; clauses = t.clauses; entries = t.entries ++ record { lit = l; decision_level = t.level; reason = Some n } ∷ []; level = t.level }

-- the trail gone back to a level
abbrev pub back_at : TrailState → ℕ → TrailState
back_at t k = record { vars = t.vars; clauses = t.clauses; entries = up_to k t.entries; level = k }

-- a clause that may be added: any at level 0, and above it one that is unit with a literal that became false at the present level
pub data MayAdd (t : TrailState) (clause : List Lit) : Type 0 where
  at_start : t.level ≡ 0 → MayAdd t clause
  asserting : (u l : Lit) → IsUnit (values_of t.entries) clause u → has clause l ≡ true → l.var ≢ u.var → level_in t.entries l.var ≡ Some t.level → MayAdd t clause

-- what propagation changes: it appends literals at the present level, each with its reason
pub record Propagates (old new : TrailState) : Type 0 where
  pub vars : new.vars ≡ old.vars
  pub clauses : new.clauses ≡ old.clauses
  pub level : new.level ≡ old.level
  pub longer : length old.entries ≤ length new.entries
  pub prefix : take (length old.entries) new.entries ≡ old.entries
  pub reasoned : (place : ℕ) (d : Entry) → length old.entries ≤ place → place < length new.entries → IsSome (slice_index_or new.entries place d).reason
  pub leveled : (place : ℕ) (d : Entry) → length old.entries ≤ place → place < length new.entries → (slice_index_or new.entries place d).decision_level ≡ old.level
