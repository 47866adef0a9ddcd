-- The text of a log in portions: its two first lines, and then the lines of some steps at a time.
use Rattle.std.specs.Prelude.{◌≡◌, ℕ, ◌+◌, ◌<◌, ◌≤◌, ◌^◌, true, List, [], ◌∷◌, ◌++◌, length, map, All}
use Rattle.std.specs.List.{flat_map}
use Rattle.std.specs.List.Sorted.{IsStrictlyIncreasing}
use Rattle.loc_base.specs.declared.digest.Digest.{Digest}
use Rattle.clause_base.specs.declared.literal.Lit.{Lit}
use Rattle.clause_base.specs.declared.log.Step.{Step}
use Rattle.clause_base.specs.declared.log.StepKind.{StepKind}
use Rattle.clause_base.specs.declared.log.StepKind.TheVariants.{Block, Learned, Derived}
use Rattle.clause_base.specs.Literal.{AreWithin}
use Rattle.clause_base.specs.Acceptance.{IsAccepted}
use Rattle.proof_check.specs.Text.{head_line, inputs_line, step_line, text_of}
use Rattle.proof_check.specs.declared.types.LogText.{LogText}

-- a line, with its newline
abbrev pub ended : List ℕ → List ℕ
ended line = line ++ 10 ∷ []

-- the two first lines
abbrev pub head_text : Digest → List ℕ
head_text inputs = ended head_line ++ ended (inputs_line inputs)

-- the lines of steps
abbrev pub steps_text : List Step → List ℕ
steps_text steps = flat_map (λ step. ended (step_line step)) steps

-- the text of a log is its head and the lines of its steps, and those of two stretches of steps are those of both
pub record PortionsJoin : Type 0 where
  pub whole : (value : LogText) → text_of value ≡ head_text value.inputs ++ steps_text value.log
  pub joined : (one next : List Step) → steps_text (one ++ next) ≡ steps_text one ++ steps_text next

-- a block as it can be written: the negations of ascending variables
abbrev pub IsPlainBlock : List Lit → Type 0
IsPlainBlock clause = All (λ l. l.negated ≡ true) clause × IsStrictlyIncreasing (map (λ l. l.var) clause)

-- a block has no chain
abbrev pub HasNoChain : StepKind → Step → Type 0
HasNoChain Block step = step.chain ≡ []
HasNoChain Learned step = Unit {0}
HasNoChain Derived step = Unit {0}

-- a log of a form with blocks
pub record OfForm : Type 0 where
  pub vars : ℕ
  pub form : List (List Lit)
  pub blocks : List (List Lit)
  pub log : List Step

-- an accepted log whose blocks can be written, over variables that can be written
pub record IsWritable (of : OfForm) : Type 0 where
  pub accepted : IsAccepted of.form of.blocks of.log
  pub blocks : All IsPlainBlock of.blocks
  pub chainless : All (λ step. HasNoChain step.kind step) of.log
  pub within : AreWithin of.vars (map (λ step. step.clause) of.log)
  pub few_variables : of.vars ≤ 4000000
  pub few_clauses : length of.form + length of.log < 2 ^ 32
