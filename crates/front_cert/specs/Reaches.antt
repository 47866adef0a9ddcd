-- Private, for the functions inside this crate: what one clause shows, and what was seen of some of the steps.
use Rattle.std.specs.Prelude.{◌≡◌, ℕ, ◌+◌, ◌-◌, ◌*◌, ◌<◌, ◌≤◌, ◌↔◌, ◌⊎◌, Bool, true, false, ◌&&◌, ◌||◌, ◌==◌, nat_lt, List, length, slice_get, slice_index_or, min, Option, Some, None, MatchOption, Result, Ok, Err, IfOk}
use Rattle.std.specs.List.{list_all, list_any}
use Rattle.clause_base.specs.declared.literal.Lit.{Lit}
use Rattle.clause_base.specs.declared.log.Step.{Step}
use Rattle.clause_base.specs.Literal.{same_lit}
use Rattle.clause_base.specs.Steps.{step_at}
use Rattle.front_cert.specs.declared.reach.Reach.{Reach}
use Rattle.front_cert.specs.declared.reach.Reach.TheVariants.{Nothing, Only, Above}
use Rattle.front_cert.specs.declared.reach.Target.{Target}
use Rattle.front_cert.specs.declared.pieces.Parts.{Parts}
use Rattle.loc_base.specs.declared.memory.NoMemory.{NoMemory}
use Rattle.front_cert.specs.declared.seen.Seen.{Seen}

-- the number is one of the members
abbrev pub is_in : List ℕ → ℕ → Bool
is_in members v = list_any (λ m. m == v) members

-- there is a literal, and it is this one
abbrev pub is_literal : Option Lit → Lit → Bool
is_literal None l = false
is_literal (Some b) l = same_lit b l

-- the literal may stand in a clause that shows x absent
abbrev pub may_stand : List ℕ → Option Lit → ℕ → Lit → Bool
may_stand members bound x l = is_literal bound l || (l.negated && (l.var == x || (is_in members l.var && nat_lt l.var x)))

-- the clause shows x absent
abbrev pub shows_absent : List ℕ → Option Lit → ℕ → List Lit → Bool
shows_absent members bound x clause = list_all (may_stand members bound x) clause

-- the clause has no literal but the bound
abbrev pub is_alone : Option Lit → List Lit → Bool
is_alone bound clause = list_all (is_literal bound) clause

-- whether x is among the suspects that are shown absent
abbrev pub covers : Reach → ℕ → Bool
covers Nothing x = false
covers (Only y low) x = (y == x) && nat_lt low x
covers (Above low) x = nat_lt low x

-- there are no suspects in it
abbrev pub is_nothing : Reach → Bool
is_nothing Nothing = true
is_nothing (Only y low) = false
is_nothing (Above low) = false

-- one reach covers what another does and a test lets pass, of the suspects that aren't members
abbrev pub Narrows : List ℕ → Reach → (ℕ → Bool) → Reach → Type 0
Narrows members before test after = (x : ℕ) → is_in members x ≡ false → covers after x ≡ (covers before x && test x)

-- whether x was shown absent by a step that was seen
abbrev pub is_shown : Seen → ℕ → Bool
is_shown seen x = slice_index_or seen.only.items x false || nat_lt seen.above x

-- some step from one place up to another has a clause that passes the test
pub record SomeBetween (test : List Lit → Bool) (log : List Step) (from to : ℕ) : Type 0 where
  pub place : ℕ
  pub low : from ≤ place
  pub high : place < to
  pub passes : test (step_at log place).clause ≡ true

-- the greatest member, 0 where there is none
abbrev pub greatest : List ℕ → ℕ
greatest members = slice_index_or members (length members - 1) 0

-- what was seen of the steps from one place up to another: of the suspects below the greatest member that aren't members those that are
-- shown absent, and whether the size is shown
pub record IsSeen (members : List ℕ) (least more : Option Lit) (log : List Step) (from to : ℕ) (seen : Seen) : Type 0 where
  pub room : length seen.only.items ≡ greatest members
  pub alone : (seen.alone ≡ true) ↔ SomeBetween (is_alone least) log from to
  pub shown : (x : ℕ) → 0 < x → x < greatest members → is_in members x ≡ false
      → (is_shown seen x ≡ true) ↔ SomeBetween (shows_absent members more x) log from to

-- the same of each part, which is of as many steps as the others; together they have all steps
pub record AreSeen (members : List ℕ) (least more : Option Lit) (log : List Step) (parts : Parts) : Type 0 where
  pub cover : length log ≤ length parts.seen.items * parts.many
  pub each : (k : ℕ) (part : Result Seen NoMemory) → slice_get parts.seen.items k ≡ Some part
      → IfOk part (IsSeen members least more log (min (length log) (k * parts.many)) (min (length log) (k * parts.many + parts.many)))

-- what was seen is what was seen before, and what the clause shows
pub record IsAdded (target : Target) (clause : List Lit) (before after : Seen) : Type 0 where
  pub room : length after.only.items ≡ length before.only.items
  pub alone : after.alone ≡ (before.alone || is_alone target.least clause)
  pub shown : (x : ℕ) → 0 < x → x < length before.only.items → is_in target.members.now x ≡ false
      → is_shown after x ≡ (is_shown before x || shows_absent target.members.now target.more x clause)

-- what was seen is what two others saw
pub record IsJoined (one other both : Seen) : Type 0 where
  pub room : length both.only.items ≡ length one.only.items
  pub alone : both.alone ≡ (one.alone || other.alone)
  pub shown : (x : ℕ) → x < length one.only.items → is_shown both x ≡ (is_shown one x || is_shown other x)

-- the same of what a worker saw, where it did
abbrev pub JoinsPart : Seen → Result Seen NoMemory → Seen → Type 0
JoinsPart before (Ok part) after = IsJoined before part after
JoinsPart before (Err e) after = ⊥

-- of the suspects below x that aren't members each was shown absent
abbrev pub AllShown : List ℕ → Seen → ℕ → Type 0
AllShown members seen x = (y : ℕ) → 0 < y → y < x → is_in members y ≡ false → is_shown seen y ≡ true

-- the first suspect that isn't a member and wasn't shown absent
pub record IsFirstUnseen (members : List ℕ) (seen : Seen) (x : ℕ) : Type 0 where
  pub some : 0 < x
  pub within : x < length seen.only.items
  pub no_member : is_in members x ≡ false
  pub unseen : is_shown seen x ≡ false
  pub before : AllShown members seen x

-- what is said to be missing: nothing, or 0 where the size isn't shown, else that suspect
abbrev pub SaysUnseen : List ℕ → Seen → Option ℕ → Type 0
SaysUnseen members seen missing =
    MatchOption missing ((seen.alone ≡ true) × AllShown members seen (length seen.only.items))
    (λ x. ((x ≡ 0) × (seen.alone ≡ false)) ⊎ ((seen.alone ≡ true) × IsFirstUnseen members seen x))
