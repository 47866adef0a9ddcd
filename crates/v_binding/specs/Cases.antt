-- The expressions of a case statement (IEEE 1364-2005, 9.5): all are sized to the widest, and signed only where all are. The wild
-- bits of a label of `casez` (3.5.1, 9.5.1) are not compared.
use Rattle.std.specs.Prelude.{ℕ, ◌+◌, ◌-◌, ◌*◌, ◌%◌, ◌^◌, Bool, true, false, not, ◌&&◌, if◌then◌else◌, max, List, [], ◌∷◌, ◌++◌, drop, Result, Ok}
use Rattle.std.specs.Option.{option_map_or}
use Rattle.v_syntax.specs.Numbers.{is_sign, is_wild, is_hexadecimal}
use Rattle.v_syntax.specs.Literals.{base_of, skip_white}
use Rattle.v_syntax.specs.declared.statement.CaseKind.{CaseKind}
use Rattle.v_syntax.specs.declared.statement.CaseKind.TheVariants as case_kind
use Rattle.v_syntax.specs.Tree.{Tree}
use Rattle.v_syntax.specs.Tree as written
use Rattle.design_core.specs.declared.statement.Label.{Label}
use Rattle.loc_base.specs.Word.{extended}
use Rattle.v_sizes.specs.Word.{word}
use Rattle.v_sizes.specs.Literal.{quote_in, literal_width}
use Rattle.v_sizes.specs.Sizing.{sizing}
use Rattle.v_hierarchy.specs.Unrolled.{Arms, no_arm, arm, default_arm}
use Rattle.v_binding.specs.declared.error.BindErr.{BindErr}
use Rattle.v_binding.specs.Steps.{◌>>=◌, through}
use Rattle.v_binding.specs.Names.{Names, look_in}
use Rattle.v_binding.specs.Expressions.{sized_in}

-- ---- the context of a case's expressions
pub record Context : Type 0 where
  pub width : ℕ
  pub signed : Bool

abbrev pub with_label : Names → Tree → Context → Context
with_label names e c =
    record { width = max c.width (sizing (look_in names) e).width; signed = c.signed && (sizing (look_in names) e).signed }

abbrev pub with_arms : Names → Arms → Context → Context
with_arms names no_arm c = c
with_arms names (arm labels _ rest) c = with_arms names rest (through (with_label names) labels c)
with_arms names (default_arm _ rest) c = with_arms names rest c

abbrev pub context_of : Names → Tree → Arms → Context
context_of names subject arms =
    with_arms names arms (record { width = (sizing (look_in names) subject).width; signed = (sizing (look_in names) subject).signed })

-- ---- wild bits
-- the number that has a 1 for each wild bit of the digits, behind those of this number
abbrev pub wild_from : ℕ → ℕ → List ℕ → ℕ
wild_from base before [] = before
wild_from base before (byte ∷ rest) =
    wild_from base (if is_wild byte then before * base + (base - 1) else if is_hexadecimal byte then before * base else before) rest

-- where the leftmost digit is wild, so are all bits to its left
abbrev pub wild_of_digits : ℕ → ℕ → List ℕ → ℕ
wild_of_digits width base [] = 0
wild_of_digits width base (byte ∷ rest) = wild_from base (if is_wild byte then 2 ^ width - 1 else 0) (byte ∷ rest) % 2 ^ width

abbrev pub wild_in_base : ℕ → List ℕ → ℕ
wild_in_base width [] = 0
wild_in_base width (letter ∷ digits) = option_map_or (λ base. wild_of_digits width base (skip_white digits)) (base_of letter) 0

-- behind the quote: perhaps the letter of the sign, then base and digits
abbrev pub wild_behind : ℕ → List ℕ → ℕ
wild_behind width [] = 0
wild_behind width (byte ∷ rest) = wild_in_base width (if is_sign byte then rest else byte ∷ rest)

abbrev pub wild_number : List ℕ → ℕ
wild_number text = option_map_or (λ at. wild_behind (literal_width text) (drop (at + 1) text)) (quote_in text) 0

-- the wild bits of a label in its context: a signed literal is extended by its leftmost bit
abbrev pub wild_bits : Context → Tree → ℕ
wild_bits c (written.wild _ text) = extended c.signed (literal_width text) c.width (wild_number text)
wild_bits c _ = 0

-- ---- labels
abbrev pub label_at : Names → Context → Tree → List Label → Result (List Label) BindErr
label_at names c e done =
    sized_in names e c.width (not c.signed) >>= λ value. Ok (done ++ record { value = value; wild = word c.width (wild_bits c e) } ∷ [])

abbrev pub is_wild_case : CaseKind → Bool
is_wild_case case_kind.Case = false
is_wild_case case_kind.Casez = true
