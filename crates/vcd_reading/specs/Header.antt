-- The header of a dump (IEEE 1364-2005, 18.2.3): the scopes and the variables that it declares.
use Rattle.std.specs.Prelude.{ℕ, Bool, true, false, not, ◌&&◌, ◌||◌, ◌==◌, nat_le, if◌then◌else◌, List, [], ◌∷◌, ◌++◌, length, Option, Some, None, codes, slice_get}
use Rattle.std.specs.List.{list_all}
use Rattle.std.specs.Option.{option_and_then, option_or}
use Rattle.vcd_words.specs.Words.{Placed}
use Rattle.loc_base.specs.Ascii.{is_decimal}
use Rattle.vcd_reading.specs.declared.commands.Command.{Command}
use Rattle.vcd_reading.specs.declared.commands.Command.TheVariants.{End, Comment, Dump, Scope, Upscope, Var, EndDefinitions, Other}
use Rattle.vcd_reading.specs.Commands.{same_bytes, is_end}

-- a variable: the scope in which it stands, if any, the words of its type, size and code, and its name
pub record Variable : Type 0 where
  pub scope : Option ℕ
  pub type_word : List ℕ
  pub size : List ℕ
  pub code : List ℕ
  pub name : List ℕ

-- a scope: the scope around it, if any, and its name
pub record Opened : Type 0 where
  pub around : Option ℕ
  pub name : List ℕ

-- what a header has declared: the scopes, in the order of the `$scope` commands; the scope that is open, if any; the
-- variables in their order; and whether the definitions have ended
pub record Header : Type 0 where
  pub scopes : List Opened
  pub current : Option ℕ
  pub variables : List Variable
  pub ended : Bool

-- a header that has declared nothing
abbrev pub no_header : Header
no_header = record { scopes = []; current = None; variables = []; ended = false }

-- at least one decimal digit
unfoldable pub is_size : List ℕ → Bool
is_size word = nat_le 1 (length word) && list_all is_decimal word

-- the type words of variables that have no bits
unfoldable pub is_real_type : List ℕ → Bool
is_real_type word = same_bytes word (codes "real") || same_bytes word (codes "realtime")

-- the bytes of a word up to the first `[`
abbrev pub up_to_bracket : List ℕ → List ℕ
up_to_bracket [] = []
up_to_bracket (byte ∷ bytes) = if byte == 91 then [] else byte ∷ up_to_bracket bytes

-- the name of a reference: its bytes up to the first `[`, or all but the backslash of an escaped one
abbrev pub name_of : List ℕ → List ℕ
name_of [] = []
name_of (first ∷ rest) = if first == 92 then rest else up_to_bracket (first ∷ rest)

-- the place of a word, where it stands and is wrong
abbrev pub wrong_at : (List ℕ → Bool) → List Placed → ℕ → Option ℕ
wrong_at is_wrong words k = option_and_then (λ word. if is_wrong word.word then Some word.at else None) (slice_get words k)

-- the first wrong word of a `$var`, of those behind it: a type, a size, a code and a reference stand before its `$end`
unfoldable pub wrong_in_var : List Placed → Option ℕ
wrong_in_var words =
    option_or (wrong_at is_end words 0)
    (option_or (wrong_at (λ word. not (is_size word)) words 1)
    (option_or (wrong_at is_end words 2) (wrong_at is_end words 3)))

-- the first wrong word of a section, of those behind its command
abbrev pub wrong_in : Command → List Placed → Option ℕ
wrong_in Var words = wrong_in_var words
wrong_in End words = None
wrong_in Comment words = None
wrong_in Dump words = None
wrong_in Scope words = None
wrong_in Upscope words = None
wrong_in EndDefinitions words = None
wrong_in Other words = None

-- `$var`: the words behind it declare a variable in the open scope
abbrev pub with_variable : Header → List Placed → Header
with_variable h (type_word ∷ size ∷ code ∷ reference ∷ words) =
    record h {
      variables = h.variables ++ (record {
        scope = h.current;
        type_word = type_word.word;
        size = size.word;
        code = code.word;
        name = name_of reference.word;
      }) ∷ [];
    }
with_variable h _ = h

-- the name of a scope, by the words behind its `$scope`: as the second stands there, whatever its bytes, and none where a
-- `$end` stands before it
unfoldable pub scope_name : List Placed → List ℕ
scope_name (kind ∷ name ∷ words) = if is_end kind.word || is_end name.word then [] else name.word
scope_name _ = []

-- `$scope`: one more scope of a name opens, in the open one
abbrev pub with_scope : Header → List ℕ → Header
with_scope h name =
    record h { scopes = h.scopes ++ (record { around = h.current; name = name }) ∷ []; current = Some (length h.scopes) }

-- the scope around a scope
abbrev pub around : List Opened → ℕ → Option ℕ
around scopes scope = option_and_then (λ (opened : Opened). opened.around) (slice_get scopes scope)

-- `$upscope`: the open scope is closed
abbrev pub without_scope : Header → Header
without_scope h = record h { current = option_and_then (around h.scopes) h.current }

-- what a section of the header does, by its command and the words behind that
abbrev pub declared : Header → Command → List Placed → Header
declared h Scope words = with_scope h (scope_name words)
declared h Upscope words = without_scope h
declared h Var words = with_variable h words
declared h EndDefinitions words = record h { ended = true }
declared h End words = h
declared h Comment words = h
declared h Dump words = h
declared h Other words = h
