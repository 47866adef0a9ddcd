-- What the names of a scope are declared as (IEEE 1364-2005, clause 4 and 12.3), and what they stand for while constants are
-- wanted: nothing has a number yet.
use Rattle.std.specs.Prelude.{⊤, ℕ, Bool, true, not, ◌&&◌, ◌||◌, if◌then◌else◌, ℤ, pos, nat_eq, int_lt, is_some, List, [], ◌∷◌, Option, Some, None, option_map, Result, Ok, Err}
use Rattle.std.specs.Option.{option_or, option_map_or}
use Rattle.std.specs.Cmp.Lexicographic.{pointwise}
use Rattle.v_syntax.specs.declared.declaration.Identifier.{Identifier}
use Rattle.v_syntax.specs.PartTree.{PlainRange}
use Rattle.v_sizes.specs.declared.meaning.Meaning.{Meaning}
use Rattle.v_sizes.specs.declared.meaning.Meaning.TheVariants as meaning
use Rattle.v_sizes.specs.declared.meaning.Const.{Const}
use Rattle.v_sizes.specs.Look.{Look}
use Rattle.v_hierarchy.specs.declared.error.ElabErr.{ElabErr}
use Rattle.v_hierarchy.specs.declared.error.ElabErr.TheVariants as fault
use Rattle.v_hierarchy.specs.declared.bounds.Bounds.{Bounds}
use Rattle.v_hierarchy.specs.declared.signal.Signal.{Signal}
use Rattle.v_hierarchy.specs.Constants.{scalar, width}

abbrev pub same_name : List ℕ → List ℕ → Bool
same_name = pointwise nat_eq

pub data Standing : Type 0 where
  signal : Signal → Standing
  -- words, with the range of addresses as it is written
  array : Signal → PlainRange → Standing
  integer : Standing
  genvar : Standing
  -- a parameter, or a loop's variable at one turn
  constant : Const → Bounds → Standing

-- a name with what it is declared as
pub record Entry : Type 0 where
  pub name : Identifier
  pub standing : Standing

abbrev pub bounds_of : Signal → Bounds
bounds_of s = option_map_or (λ b. b) s.bounds scalar

abbrev pub meaning_of : Standing → Meaning
meaning_of (signal s) = meaning.Signal 0 (width (bounds_of s)) s.signed (bounds_of s).left (bounds_of s).right
meaning_of (array s _) = meaning.Array 0 1 (pos 0) (width (bounds_of s)) s.signed (bounds_of s).left (bounds_of s).right
meaning_of integer = meaning.Signal 0 32 true (pos 31) (pos 0)
meaning_of genvar = meaning.Signal 0 32 true (pos 31) (pos 0)
meaning_of (constant c b) = meaning.Constant c b.left b.right

-- ---- a scope's names, and the scopes around a place, the innermost first
abbrev pub find : List ℕ → List Entry → Option Standing
find name [] = None
find name (e ∷ es) = if same_name e.name.name name then Some e.standing else find name es

abbrev pub find_in : List (List Entry) → List ℕ → Option Standing
find_in [] name = None
find_in (frame ∷ frames) name = option_or (find name frame) (find_in frames name)

abbrev pub look_in : List (List Entry) → Look
look_in frames name = option_map meaning_of (find_in frames name)

-- ---- declarations
abbrev pub same_index : ℤ → ℤ → Bool
same_index m n = not (int_lt m n) && not (int_lt n m)

abbrev pub same_bounds : Bounds → Bounds → Bool
same_bounds a b = same_index a.left b.left && same_index a.right b.right

-- two ranges, where both are given, are the same
abbrev pub agree : Option Bounds → Option Bounds → Bool
agree None other = true
agree (Some one) None = true
agree (Some one) (Some other) = same_bounds one other

-- a port's direction and its kind may be declared apart: the range and the sign of either count for both
abbrev pub may_join : Signal → Signal → Bool
may_join one other =
    not (is_some one.direction && is_some other.direction) && not (is_some one.kind && is_some other.kind) && agree one.bounds other.bounds

abbrev pub joined : Signal → Signal → Signal
joined one other =
    record { direction = option_or one.direction other.direction; kind = option_or one.kind other.kind; signed = one.signed || other.signed; bounds = option_or one.bounds other.bounds }

-- what a name becomes that is declared once more, if it may be
abbrev pub again : Standing → Standing → Option Standing
again (signal one) (signal other) = if may_join one other then Some (signal (joined one other)) else None
again _ _ = None

-- a name declared in a scope that may have it already
abbrev pub declared : Entry → List Entry → Result (List Entry) ElabErr
declared new [] = Ok (new ∷ [])
declared new (old ∷ rest) =
    if same_name old.name.name new.name.name
    then elim (again old.standing new.standing) [
      | Some both ↦ Ok (record { name = old.name; standing = both } ∷ rest)
      | None ↦ Err (fault.DoubleName new.name.site.span)
    ]
    else elim (declared new rest) [
      | Ok more ↦ Ok (old ∷ more)
      | Err e ↦ Err e
    ]

-- a name that its scope must not have yet
abbrev pub fresh : Identifier → List Entry → Result ⊤ ElabErr
fresh name names = if is_some (find name.name names) then Err (fault.DoubleName name.site.span) else Ok tt
