-- The order of decisions, and which decisions a trail has.
use Rattle.std.specs.Prelude.{◌≡◌, ℕ, ◌+◌, ◌-◌, ◌<◌, ◌≤◌, true, false, is_some, None, nat_lt, if◌then◌else◌, List, length, slice_index, slice_index_or}
use Rattle.clause_base.specs.declared.literal.Lit.{Lit}
use Rattle.clause_base.specs.Literal.{positive, has}
use Rattle.trail_core.specs.declared.entry.Entry.{Entry}
use Rattle.trail_core.specs.Values.{Values, IsVariable, IsTrueIn, IsFalseIn, IsUnassignedIn}
use Rattle.trail_core.specs.TrailState.{TrailState, values_of, up_to, is_decision}
use Rattle.sat_core.specs.declared.order.Choice.{Choice}
use Rattle.sat_core.specs.declared.order.Choice.TheVariants as choice

-- a literal that stands for one past the last
abbrev pub no_literal : Lit
no_literal = record { var = 0; negated = false }

-- the literal at a place of the order of decisions: the assumptions, and then the preferred variables, each true
abbrev pub choice_at : List Lit → List ℕ → ℕ → Lit
choice_at assume preferred place =
    (if nat_lt place (length assume) then slice_index_or assume place no_literal
    else positive (slice_index preferred (place - length assume)))

-- the place behind the order, at which each other decision stands
abbrev pub end_of : List Lit → List ℕ → ℕ
end_of assume preferred = length assume + length preferred

-- the literal at the place has a value, and is true where it is an assumption
pub record IsPassed (values : Values) (assume : List Lit) (preferred : List ℕ) (place : ℕ) : Type 0 where
  pub valued : is_some (values (choice_at assume preferred place).var) ≡ true
  pub assumed : place < length assume → IsTrueIn values (choice_at assume preferred place)

-- all places before n are passed
abbrev pub PassedTo : TrailState → List Lit → List ℕ → ℕ → Type 0
PassedTo t assume preferred n = (place : ℕ) → place < n → IsPassed (values_of t.entries) assume preferred place

-- the literal at the place, or any behind the order, may be decided, and the places before it are passed
pub record MayChoose (t : TrailState) (assume : List Lit) (preferred : List ℕ) (place : ℕ) (l : Lit) : Type 0 where
  pub within : place ≤ end_of assume preferred
  pub literal : place < end_of assume preferred → l ≡ choice_at assume preferred place
  pub variable : IsVariable t.vars l.var
  pub unassigned : IsUnassignedIn (values_of t.entries) l
  pub passed : PassedTo t assume preferred place

-- an assumption is false
pub record IsContrary (t : TrailState) (assume : List Lit) (l : Lit) : Type 0 where
  pub member : has assume l ≡ true
  pub is_false : IsFalseIn (values_of t.entries) l

-- what is chosen
abbrev pub ChoiceGives : TrailState → List Lit → List ℕ → Choice → Type 0
ChoiceGives t assume preferred (choice.Decide place l) = MayChoose t assume preferred place l
ChoiceGives t assume preferred (choice.Refuted l) = IsContrary t assume l
ChoiceGives t assume preferred choice.Free = PassedTo t assume preferred (end_of assume preferred)

-- each variable has a value
abbrev pub AllValued : TrailState → Type 0
AllValued t = (v : ℕ) → IsVariable t.vars v → is_some (values_of t.entries v) ≡ true

-- a variable without a value
pub record IsFree (t : TrailState) (v : ℕ) : Type 0 where
  pub variable : IsVariable t.vars v
  pub unassigned : values_of t.entries v ≡ None

-- the places in the order of decisions at which the trail's decisions stand: a decision is the literal at its place, where that is
-- not behind the order, and the places before it were passed at the level below
pub record AreChosen (t : TrailState) (assume : List Lit) (preferred : List ℕ) (chosen : List ℕ) : Type 0 where
  pub count : length chosen ≡ t.level
  pub within : (k : ℕ) → k < length chosen → slice_index chosen k ≤ end_of assume preferred
  pub choice : (i : ℕ) (d e : Entry) → i < length t.entries → is_decision (slice_index_or t.entries i d) ≡ true
      → slice_index chosen ((slice_index_or t.entries i d).decision_level - 1) < end_of assume preferred
      → (slice_index_or t.entries i e).lit ≡ choice_at assume preferred (slice_index chosen ((slice_index_or t.entries i d).decision_level - 1))
  pub before : (k place : ℕ) → k < length chosen → place < slice_index chosen k → IsPassed (values_of (up_to k t.entries)) assume preferred place
