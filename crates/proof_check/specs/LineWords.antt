-- What the words of a line mean.
use Rattle.std.specs.Prelude.{ℕ, Bool, true, false, not, cond, ◌&&◌, ◌==◌, nat_lt, nat_le, List, [], ◌∷◌, ◌++◌, length, Option, Some, None, decimal}
use Rattle.std.specs.List.{slice_split}
use Rattle.std.specs.Str.{bytes_eq}
use Rattle.std.specs.Str.Parse.{digits_value}
use Rattle.std.specs.Option.{option_map, option_and_then}
use Rattle.clause_base.specs.declared.literal.Lit.{Lit}
use Rattle.clause_base.specs.declared.log.Step.{Step}
use Rattle.clause_base.specs.declared.log.StepKind.{StepKind}
use Rattle.clause_base.specs.declared.log.StepKind.TheVariants.{Block, Learned, Derived}
use Rattle.clause_base.specs.Literal.{positive, negative, has_variable}
use Rattle.proof_check.specs.Text.{most_variable, most_number}

-- the number from 1 to the most that the word is in decimal
abbrev pub read_number : ℕ → List ℕ → Option ℕ
read_number most word =
    let value = digits_value 10 word in
    cond (bytes_eq (decimal value) word && (nat_le 1 value && nat_le value most)) (Some value) None

-- the literal that the word is
abbrev pub read_literal : List ℕ → Option Lit
read_literal [] = None
read_literal (c ∷ rest) =
    cond (c == 45) (option_map negative (read_number most_variable rest)) (option_map positive (read_number most_variable (c ∷ rest)))

-- what the words so far have given
pub record LineWords : Type 0 where
  pub literals : List Lit
  pub chain : List ℕ
  pub in_chain : Bool

-- nothing so far
abbrev pub no_words : LineWords
no_words = record { literals = []; chain = []; in_chain = false }

-- the variable of the last literal
abbrev pub last_variable : List Lit → ℕ
last_variable [] = 0
last_variable (l ∷ []) = l.var
last_variable (l ∷ m ∷ more) = last_variable (m ∷ more)

-- a block has negations of ascending variables
abbrev pub fits_kind : StepKind → List Lit → Lit → Bool
fits_kind Block literals l = l.negated && nat_lt (last_variable literals) l.var
fits_kind Learned literals l = true
fits_kind Derived literals l = true

-- the literal's variable is new, and the literal fits
abbrev pub fits : StepKind → List Lit → Lit → Bool
fits kind literals l = not (has_variable literals l.var) && fits_kind kind literals l

abbrev pub with_literal : StepKind → LineWords → Option Lit → Option LineWords
with_literal kind words None = None
with_literal kind words (Some l) = cond (fits kind words.literals l) (Some (record words { literals = words.literals ++ l ∷ [] })) None

abbrev pub with_number : LineWords → Option ℕ → Option LineWords
with_number words None = None
with_number words (Some number) = Some (record words { chain = words.chain ++ number ∷ [] })

-- a block has no chain
abbrev pub with_colon : StepKind → LineWords → Option LineWords
with_colon Block words = None
with_colon Learned words = Some (record words { in_chain = true })
with_colon Derived words = Some (record words { in_chain = true })

-- one more word: a number of the chain, the colon before it, or a literal
abbrev pub take_word : StepKind → LineWords → List ℕ → Option LineWords
take_word kind words word =
    cond words.in_chain (with_number words (read_number most_number word))
    (cond (bytes_eq word (58 ∷ [])) (with_colon kind words) (with_literal kind words (read_literal word)))

-- all the words
abbrev pub take_words : StepKind → LineWords → List (List ℕ) → Option LineWords
take_words kind words [] = Some words
take_words kind words (word ∷ more) = option_and_then (λ next. take_words kind next more) (take_word kind words word)

-- nothing is lacking at the line's end
abbrev pub is_whole : StepKind → LineWords → Bool
is_whole Block words = true
is_whole Learned words = nat_lt 0 (length words.chain)
is_whole Derived words = nat_lt 0 (length words.chain)

abbrev pub step_of : StepKind → LineWords → Option Step
step_of kind words = cond (is_whole kind words) (Some (record { kind = kind; clause = words.literals; chain = words.chain })) None

-- the kind with that letter
abbrev pub kind_of : List ℕ → Option StepKind
kind_of word =
    cond (bytes_eq word (98 ∷ [])) (Some Block) (cond (bytes_eq word (108 ∷ [])) (Some Learned) (cond (bytes_eq word (100 ∷ [])) (Some Derived) None))

-- the step that the words between spaces are
abbrev pub read_pieces : List (List ℕ) → Option Step
read_pieces [] = None
read_pieces (first ∷ more) = option_and_then (λ kind. option_and_then (step_of kind) (take_words kind no_words more)) (kind_of first)

-- the step that the line is
abbrev pub read_line : List ℕ → Option Step
read_line line = read_pieces (slice_split (λ b. b == 32) line)
