-- What names stand for, after what one stands for has been changed.
use Rattle.std.proofs.Common.{◌≡◌, ℕ, List, Bool, true, false, cond, Option, Some, ap, sym, ◌∙◌, refl, subst}
use Rattle.std.specs.Prelude.{None, nat_eq, ◌||◌, is_some, Result, Ok, Err, OnOk, OnErr}
use Rattle.loc_base.specs.declared.memory.NoMemory.{NoMemory}
use Rattle.std.specs.Option.{option_flatten}
use Rattle.std.specs.Cmp.Lexicographic.{pointwise}
use Rattle.v_sizes.specs.declared.meaning.Meaning.{Meaning}
use Rattle.v_sizes.specs.declared.table.Table.{Table}
use Rattle.v_sizes.specs.declared.scope.Scope.{Scope}
use Rattle.v_sizes.specs.Look.{Look}
use Rattle.v_sizes.specs.Table.{entry_in, meaning_in, is_in, with_entry, with_standing}
use Rattle.v_sizes.specs.Scopes.{look_of, has_entry}
use Rattle.v_sizes.specs.Context.{IsMeaning, IsScope}

-- a name that stands for something has an entry
pub flatten-some : (entry : Option (Option Meaning)) (m : Meaning) → option_flatten entry ≡ Some m → is_some entry ≡ true
flatten-some (Some meaning) m is = refl
flatten-some None m is = cc

pub entry-of_meaning : (scope : Scope) (name : List ℕ) (m : Meaning) → look_of scope name ≡ Some m → has_entry scope name ≡ true
entry-of_meaning scope name m is = flatten-some (entry_in scope.table name) m is

flatten-either : (is : Bool) (one : Option Meaning) (rest : Option (Option Meaning))
    → option_flatten (cond is (Some one) rest) ≡ cond is one (option_flatten rest)
flatten-either true one rest = refl
flatten-either false one rest = refl

some-either : (is : Bool) (one : Option Meaning) (rest : Option (Option Meaning)) → is_some (cond is (Some one) rest) ≡ (is || is_some rest)
some-either true one rest = refl
some-either false one rest = refl

-- the meanings and the entries of a table, from the entries of the one before
pub meanings-put : (old new : Table) (name : List ℕ) (one : Option Meaning)
    → ((other : List ℕ) → entry_in new other ≡ with_entry name one (entry_in old) other)
    → (other : List ℕ) → meaning_in new other ≡ with_standing name one (meaning_in old) other
meanings-put old new name one put other = ap option_flatten (put other) ∙ flatten-either (pointwise nat_eq name other) one (entry_in old other)

pub entries-put : (old new : Table) (name : List ℕ) (one : Option Meaning)
    → ((other : List ℕ) → entry_in new other ≡ with_entry name one (entry_in old) other)
    → (other : List ℕ) → is_in new other ≡ (pointwise nat_eq name other || is_in old other)
entries-put old new name one put other = ap is_some (put other) ∙ some-either (pointwise nat_eq name other) one (entry_in old other)

pub meanings-same : (old new : Table) → ((other : List ℕ) → entry_in new other ≡ entry_in old other) → (other : List ℕ) → meaning_in new other ≡ meaning_in old other
meanings-same old new same other = ap option_flatten (same other)

pub entries-same : (old new : Table) → ((other : List ℕ) → entry_in new other ≡ entry_in old other) → (other : List ℕ) → is_in new other ≡ is_in old other
entries-same old new same other = ap is_some (same other)

-- every name goes on to stand for something
pub stands-same : (old new : Look) → IsScope old → ((other : List ℕ) → new other ≡ old other) → IsScope new
stands-same old new stands same name m is = stands name m (sym (same name) ∙ is)

either : (is : Bool) (one rest : Option Meaning) (m : Meaning) → (one ≡ Some m → IsMeaning m) → (rest ≡ Some m → IsMeaning m) → cond is one rest ≡ Some m → IsMeaning m
either true one rest m first second is = first is
either false one rest m first second is = second is

pub stands-with : (old new : Look) (name : List ℕ) (one : Option Meaning) → IsScope old → ((m : Meaning) → one ≡ Some m → IsMeaning m)
    → ((other : List ℕ) → new other ≡ with_standing name one old other) → IsScope new
stands-with old new name one stands first put other m is =
    either (pointwise nat_eq name other) one (old other) m (first m) (stands other m) (sym (put other) ∙ is)

pub same-meaning : (one m : Meaning) → IsMeaning one → Some one ≡ Some m → IsMeaning m
same-meaning one m means is = let e : one ≡ m = cc in subst IsMeaning e means

pub stands-put : (result : Result (Option Meaning) NoMemory) (old new : Table) (name : List ℕ) (one : Meaning) → IsScope (meaning_in old) → IsMeaning one
    → OnOk result ((other : List ℕ) → entry_in new other ≡ with_entry name (Some one) (entry_in old) other)
    → OnErr result ((other : List ℕ) → entry_in new other ≡ entry_in old other) → IsScope (meaning_in new)
stands-put (Ok was) old new name one stands means put same =
    stands-with (meaning_in old) (meaning_in new) name (Some one) stands (λ m. same-meaning one m means) (meanings-put old new name (Some one) put)
stands-put (Err error) old new name one stands means put same = stands-same (meaning_in old) (meaning_in new) stands (meanings-same old new same)
