-- The text of a log: a line that names the form, a line with the digest of the inputs, and a line for each step.
use Rattle.std.specs.Prelude.{◌≡◌, ℕ, zero, suc, ◌+◌, ◌-◌, ◌<◌, ◌≤◌, ◌⊎◌, true, cond, List, [], ◌∷◌, ◌++◌, length, get_or, map, codes, decimal, All, IsTrue, ◌==◌}
use Rattle.std.specs.List.{flat_map, slice_split}
use Rattle.std.specs.List.Sorted.{IsStrictlyIncreasing}
use Rattle.hex.specs.Hex.{encode_lower, IsBytes}
use Rattle.loc_base.specs.declared.digest.Digest.{Digest}
use Rattle.clause_base.specs.declared.literal.Lit.{Lit}
use Rattle.clause_base.specs.declared.log.Step.{Step}
use Rattle.clause_base.specs.declared.log.StepKind.{StepKind}
use Rattle.clause_base.specs.declared.log.StepKind.TheVariants.{Block, Learned, Derived}
use Rattle.clause_base.specs.Literal.{has_distinct_variables}
use Rattle.proof_check.specs.declared.types.LogText.{LogText}

-- ---- what can be written

-- the greatest variable
abbrev pub most_variable : ℕ
most_variable = 4000000

-- the greatest number of a clause
abbrev pub most_number : ℕ
most_number = 4294967295

-- from 1 to the most
abbrev pub IsUpTo : ℕ → ℕ → Type 0
IsUpTo most n = (1 ≤ n) × (n ≤ most)

-- a block has the negations of ascending variables and no chain, and any other step has a chain
abbrev pub HasFormOf : StepKind → Step → Type 0
HasFormOf Block step = All (λ l. l.negated ≡ true) step.clause × IsStrictlyIncreasing (map (λ l. l.var) step.clause) × (step.chain ≡ [])
HasFormOf Learned step = 0 < length step.chain
HasFormOf Derived step = 0 < length step.chain

-- the step can be written
pub record CanBeWritten (step : Step) : Type 0 where
  pub has_form : HasFormOf step.kind step
  pub variables : All (λ l. IsUpTo most_variable l.var) step.clause
  pub numbers : All (IsUpTo most_number) step.chain

-- a digest has 32 bytes
pub record IsDigest (digest : Digest) : Type 0 where
  pub bytes : IsBytes digest.bytes
  pub count : length digest.bytes ≡ 32

-- each step of the log can be written, and is of distinct variables
pub record IsLogText (value : LogText) : Type 0 where
  pub digest : IsDigest value.inputs
  pub steps : All CanBeWritten value.log
  pub distinct : All (λ step. IsTrue (has_distinct_variables step.clause)) value.log

-- ---- how it is written

-- a variable in decimal, after a minus sign where it is negated
abbrev pub literal_text : Lit → List ℕ
literal_text l = cond l.negated (45 ∷ decimal l.var) (decimal l.var)

-- each word after a space
abbrev pub spaced : List (List ℕ) → List ℕ
spaced words = flat_map (λ word. 32 ∷ word) words

-- the letter of a step
abbrev pub letter : StepKind → ℕ
letter Block = 98
letter Learned = 108
letter Derived = 100

-- a colon and the chain's numbers
abbrev pub chain_words : StepKind → List ℕ → List (List ℕ)
chain_words Block chain = []
chain_words Learned chain = (58 ∷ []) ∷ map decimal chain
chain_words Derived chain = (58 ∷ []) ∷ map decimal chain

-- the clause's literals, and then the chain
abbrev pub words_of : Step → List (List ℕ)
words_of step = map literal_text step.clause ++ chain_words step.kind step.chain

-- the step's line, without its newline
abbrev pub step_line : Step → List ℕ
step_line step = letter step.kind ∷ spaced (words_of step)

-- the first line
abbrev pub head_line : List ℕ
head_line = codes "localise-log 1"

-- the second line
abbrev pub inputs_line : Digest → List ℕ
inputs_line digest = codes "inputs " ++ encode_lower digest.bytes

-- all lines
abbrev pub lines_of : LogText → List (List ℕ)
lines_of value = head_line ∷ inputs_line value.inputs ∷ map step_line value.log

-- the lines, each with a newline after it
abbrev pub text_of : LogText → List ℕ
text_of value = flat_map (λ line. line ++ 10 ∷ []) (lines_of value)

-- ---- the first line that isn't of the form

-- the text's lines, and what follows the last newline
abbrev pub pieces : List ℕ → List (List ℕ)
pieces text = slice_split (λ b. b == 10) text

-- the line at that place, counted from 0, is of the form
abbrev pub IsLine : ℕ → List ℕ → Type 0
IsLine zero line = line ≡ head_line
IsLine (suc zero) line = (digest : Digest) × IsDigest digest × (line ≡ inputs_line digest)
IsLine (suc (suc place)) line = (step : Step) × CanBeWritten step × IsTrue (has_distinct_variables step.clause) × (line ≡ step_line step)

-- the piece at that place, counted from 0, is the first that isn't right: a line that isn't of the form, or what follows
-- the last newline where that isn't empty or a line is lacking
pub record IsFirstBadPiece (text_pieces : List (List ℕ)) (place : ℕ) : Type 0 where
  pub within : place < length text_pieces
  pub before : (k : ℕ) → k < place → IsLine k (get_or text_pieces k [])
  pub bad : ((place + 1 < length text_pieces) × ¬ (IsLine place (get_or text_pieces place [])))
      ⊎ ((place + 1 ≡ length text_pieces) × ¬ ((2 ≤ place) × (get_or text_pieces place [] ≡ [])))

-- the first line that isn't of the form has that number, counted from 1
abbrev pub IsFirstBadLine : List ℕ → ℕ → Type 0
IsFirstBadLine text line = (1 ≤ line) × IsFirstBadPiece (pieces text) (line - 1)
