-- Declarations: each name stands for something of 1 to 128 bits.
use Rattle.std.proofs.Common.{◌≡◌, Bool, true, false, List, [], ◌∷◌, ◌++◌, Option, Some, None, refl, sym, ◌∙◌, arith}
use Rattle.std.specs.Prelude.{if◌then◌else◌, ℤ, pos, nat_le, Result, Ok, Err}
use Rattle.std.proofs.lemmas.Bool.{leb-true}
use Rattle.v_syntax.specs.declared.declaration.Identifier.{Identifier}
use Rattle.v_syntax.specs.Tree.{Tree}
use Rattle.v_syntax.specs.PartTree.{PlainRange}
use Rattle.v_syntax.specs.ItemTree.{PlainParameterType, vector_type, integer_type}
use Rattle.v_sizes.specs.Look.{Look}
use Rattle.v_sizes.specs.Selected.{count_between}
use Rattle.v_sizes.specs.Context.{IsMeaning}
use Rattle.v_sizes.specs.declared.meaning.Const.{Const}
use Rattle.v_hierarchy.specs.declared.error.ElabErr.{ElabErr}
use Rattle.v_hierarchy.specs.declared.bounds.Bounds.{Bounds}
use Rattle.v_hierarchy.specs.declared.kind.Kind.{Kind}
use Rattle.v_hierarchy.specs.declared.kind.Kind.TheVariants as kind_case
use Rattle.v_hierarchy.specs.Constants.{bounds, constant_at, index_at, bounds_at, bounds_if}
use Rattle.v_hierarchy.specs.Names.{Entry, Standing, same_name, again, declared, meaning_of, fresh, look_in}
use Rattle.v_hierarchy.specs.Stands.{IsRange, IsRangeIf, IsKind}
use Rattle.v_hierarchy.specs.Parameters.{kind_of, kind_at, context_of, valued, value_at, parameter}
use Rattle.v_hierarchy.proofs.RangeLaws.{between as range_between, scalar_range}
use Rattle.v_hierarchy.proofs.AssignedLaws.{bits_range, assigned_range}
use Rattle.v_hierarchy.proofs.FrameLaws.{declared-is, behind, both_of}
use Rattle.v_hierarchy.proofs.DeclaredLaws.{stands-again}
use Rattle.v_binding.specs.Standing.{EntriesStand}
use Rattle.bind_laws.proofs.Steps.{Err-Ok, between, ended}

-- ---- ranges
bounded : (left right : ℤ) (e : ElabErr) (b : Bounds) → (if nat_le (count_between left right) 128 then Ok (bounds left right) else Err e) ≡ Ok b → IsRange b
bounded left right e b = by (nat_le (count_between left right) 128) refl
  where
    by : (few : Bool) → nat_le (count_between left right) 128 ≡ few → ◌≡◌ {A = Result Bounds ElabErr} (if few then Ok (bounds left right) else Err e) (Ok b) → IsRange b
    by true few is = ended IsRange (bounds left right) b is (range_between left right (leb-true (count_between left right) 128 few))
    by false few is = Err-Ok is

bounds_at-range : (look : Look) (r : PlainRange) (b : Bounds) → bounds_at look r ≡ Ok b → IsRange b
bounds_at-range look r b is =
    between (index_at look r.left) _ b (IsRange b) is λ left first is.
    between (index_at look r.right) _ b (IsRange b) is λ right second is.
    bounded left right _ b is

pub bounds_if-range : (look : Look) (r : Option PlainRange) (b : Option Bounds) → bounds_if look r ≡ Ok b → IsRangeIf b
bounds_if-range look None b is = ended IsRangeIf None b is scalar_range
bounds_if-range look (Some r) b is =
    between (bounds_at look r) (λ b. Ok (Some b)) b (IsRangeIf b) is λ own first is. ended IsRangeIf (Some own) b is (bounds_at-range look r own first)

-- ---- parameters
kind_of-is : (signed : Bool) (b : Option Bounds) → IsRangeIf b → IsKind (kind_of signed b)
kind_of-is false None range = tt
kind_of-is false (Some b) range = range
kind_of-is true None range = range
kind_of-is true (Some b) range = range

pub kind_at-is : (look : Look) (t : PlainParameterType) (kind : Kind) → kind_at look t ≡ Ok kind → IsKind kind
kind_at-is look (vector_type signed range) kind is =
    between (bounds_if look range) (λ b. Ok (kind_of signed b)) kind (IsKind kind) is λ b first is.
    ended IsKind (kind_of signed b) kind is (kind_of-is signed b (bounds_if-range look range b first))
kind_at-is look integer_type kind is =
    ended IsKind (kind_case.Typed true (Some (bounds (pos 31) (pos 0)))) kind is (range_between (pos 31) (pos 0) (omega arith))

valued-stands : (kind : Kind) (c : Const) → IsKind kind → IsMeaning (meaning_of (valued kind c))
valued-stands kind_case.AsValue c is = bits_range c.bits
valued-stands (kind_case.Typed signed None) c is = bits_range c.bits
valued-stands (kind_case.Typed signed (Some b)) c is = assigned_range b signed c is

value_at-stands : (look : Look) (kind : Kind) (given : Option Const) (e : Tree) (s : Standing) → IsKind kind → value_at look kind given e ≡ Ok s → IsMeaning (meaning_of s)
value_at-stands look kind (Some c) e s range is = ended (λ s. IsMeaning (meaning_of s)) (valued kind c) s is (valued-stands kind c range)
value_at-stands look kind None e s range is =
    between (constant_at look (context_of kind) e) (λ c. Ok (valued kind c)) s (IsMeaning (meaning_of s)) is λ c first is.
    ended (λ s. IsMeaning (meaning_of s)) (valued kind c) s is (valued-stands kind c range)

-- ---- names
one-more : (es : List Entry) (e : Entry) → EntriesStand es → IsMeaning (meaning_of e.standing) → EntriesStand (es ++ e ∷ [])
one-more [] e all one = (one, tt)
one-more (x ∷ es) e all one = (all.0, one-more es e all.1 one)

pub parameter-stands : (outer : List (List Entry)) (kind : Kind) (given : Option Const) (name : Identifier) (e : Tree) (es after : List Entry) → IsKind kind → EntriesStand es
    → parameter outer kind given name e es ≡ Ok after → EntriesStand after
parameter-stands outer kind given name e es after range all is =
    between (fresh name es) _ after (EntriesStand after) is λ _ _ is.
    between (value_at (look_in (es ∷ outer)) kind given e) _ after (EntriesStand after) is λ s first is.
    ended EntriesStand (es ++ record { name = name; standing = s } ∷ []) after is
    (one-more es (record { name = name; standing = s }) all (value_at-stands (look_in (es ∷ outer)) kind given e s range first))

pub declared-stands : (new : Entry) (es after : List Entry) → IsMeaning (meaning_of new.standing) → EntriesStand es → declared new es ≡ Ok after → EntriesStand after
declared-stands new [] after one all is = ended EntriesStand (new ∷ []) after is (one, tt)
declared-stands new (old ∷ rest) after one all is =
    step (same_name old.name.name new.name.name) (again old.standing new.standing) refl (declared new rest) (λ xs e. declared-stands new rest xs one all.1 e) (sym (declared-is new old rest) ∙ is)
  where
    step : (same : Bool) (both : Option Standing) → again old.standing new.standing ≡ both → (next : Result (List Entry) ElabErr)
        → ((xs : List Entry) → next ≡ Ok xs → EntriesStand xs) → (if same then both_of old new rest both else behind old next) ≡ Ok after → EntriesStand after
    step true (Some both) joins next more e =
        ended EntriesStand (record { name = old.name; standing = both } ∷ rest) after e (stands-again old.standing new.standing both all.0 one joins, all.1)
    step true None joins next more e = Err-Ok e
    step false both joins (Ok xs) more e = ended EntriesStand (old ∷ xs) after e (all.0, more xs refl)
    step false both joins (Err x) more e = Err-Ok e
