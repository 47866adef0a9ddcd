-- What a debugger holds between two calls; only private contracts cite it.
use Rattle.std.specs.Prelude.{ℕ, ◌≡◌, ◌≤◌, ◌<◌, Bool, false, nat_lt, List, length, map, drop, count_by, Result, Ok, Err}
use Rattle.loc_base.specs.declared.memory.NoMemory.{NoMemory}
use Rattle.gate_base.specs.Nodes.{counted}
use Rattle.design_core.specs.declared.values.Values.{Values}
use Rattle.design_core.specs.Explained.{AreValuesOf, Explains}
use Rattle.clause_base.specs.declared.form.Form.{Form}
use Rattle.clause_base.specs.declared.literal.Lit.{Lit}
use Rattle.clause_base.specs.declared.log.Step.{Step}
use Rattle.clause_base.specs.declared.log.StepKind.TheVariants.{Derived}
use Rattle.clause_base.specs.Satisfaction.{Satisfies}
use Rattle.clause_base.specs.Counted.{EndsASize}
use Rattle.clause_base.specs.Progress.{LearnedAreFresh}
use Rattle.clause_base.specs.Steps.{step_at}
use Rattle.word_net.specs.Nets.{Net, IsNet}
use Rattle.bit_circuit.specs.Circuits.{circuit_of}
use Rattle.v_synth.specs.Matches.{IsNetOf}
use Rattle.unroller.specs.Unrolls.{Unrolling, base_of, variables_of}
use Rattle.clause_form.specs.Clauses.{form_clauses}
use Rattle.form_laws.specs.Models.{Selects}
use Rattle.sat_core.specs.Outcome.{is_derived}
use Rattle.sat_core.specs.SolverState.{assignment_of, blocks_of}
use Rattle.set_enum.specs.Bounds.{bounds_of}
use Rattle.set_enum.specs.EnumState.{EnumState, IsEnum}
use Rattle.debug_core.specs.declared.encoding.Encoding.{Encoding}
use Rattle.debug_core.specs.declared.debugger.Search.{Search}
use Rattle.debug_core.specs.declared.found.Found.{Found}
use Rattle.debug_core.specs.Problems.{Problem, IsFormFor, IsProblem, problem_of, suspect_count, suspects_of, unrolling_for}
use Rattle.debug_core.specs.Debugging.{DebugState, FindsNothing, Gives, IsCertified, IsDebugger, IsFrontOf, Searches, StaysEnded}

-- an unrolling of the circuit of the net of a problem's design, within the numbers of nodes and of variables
pub record IsUnrollingFor (p : Problem) (u : Unrolling) : Type 0 where
  pub net : Net
  pub kept : IsNet net
  pub of_design : IsNetOf p.design p.order net
  pub is : u ≡ unrolling_for p (circuit_of net)
  pub few_nodes : counted (circuit_of net).nodes ≤ 4000000
  pub few_variables : variables_of u ≤ 4000000
  pub base : u.base ≡ base_of p.groups p.k

-- a form that is made of such an unrolling
pub record IsEncodingOf (p : Problem) (made : Form) (u : Unrolling) : Type 0 where
  pub can : IsProblem p
  pub unrolled : IsUnrollingFor p u
  pub form : IsFormFor p made.vars made.clauses
  pub vars_are : made.vars ≡ variables_of u
  pub clauses_are : made.clauses ≡ form_clauses u p.groups p.k

-- the problem of an encoding
abbrev pub problem_in : Encoding → Problem
problem_in e = problem_of e.question

abbrev pub IsEncoding : Encoding → Type 0
IsEncoding e = IsEncodingOf (problem_in e) e.form e.unrolled

-- values that explain the traces with a set, where the assignment satisfies the form and selects the set
pub record ExplainsIn (p : Problem) (assignment : ℕ → Bool) (members : List ℕ) (values : Values) : Type 0 where
  pub values_of : AreValuesOf p.design p.traces (suspects_of p) members values
  pub explains : Explains p.design p.traces (suspects_of p) members values

abbrev pub ExplainModels : Encoding → List Bool → List ℕ → Values → Type 0
ExplainModels e model members values =
    Satisfies (assignment_of model) e.form.clauses → Selects (assignment_of model) (suspect_count (problem_in e)) members
    → ExplainsIn (problem_in e) (assignment_of model) members values

-- the set of which a clause is the block
abbrev pub members_of : List Lit → List ℕ
members_of clause = map (λ (l : Lit). l.var) clause

-- what contracts see of a debugger, by its problem, its form, its enumerator, what is kept of a certificate, and how many steps are a
-- session's
abbrev pub state_of : Problem → Form → EnumState → List Step → Bool → ℕ → DebugState
state_of p form e certificate finished imported = record {
  problem = p;
  vars = form.vars;
  form = form.clauses;
  log = e.log;
  listed = map members_of (blocks_of e.log);
  ended = nat_lt p.k e.size;
  certificate = certificate;
  finished = finished;
  imported = imported;
}

-- the same by its search
abbrev pub state_in : Problem → Form → Search → DebugState
state_in p form s = state_of p form s.enumerator (drop s.appended s.certificate) s.finished s.imported

-- the enumerator is of the form, whose first variables are the suspects'
pub record IsOverForm (p : Problem) (made : Form) (e : EnumState) : Type 0 where
  pub vars : e.vars ≡ made.vars
  pub form : e.form ≡ made.clauses
  pub suspects : e.n ≡ suspect_count p
  pub size : e.k ≡ p.k
  pub holds : IsEnum e

-- what has been searched behind the steps of a session: the learned steps are fresh, each derived step closed a size unless it is of a
-- certificate, and the sets are a front
pub record IsSearched (p : Problem) (made : Form) (e : EnumState) (finished : Bool) (imported : ℕ) : Type 0 where
  pub session_within : imported ≤ length e.log
  pub fresh : LearnedAreFresh made.clauses e.log imported
  pub few : finished ≡ false → count_by is_derived (drop imported e.log) ≤ e.size
  pub ends : finished ≡ false → (place : ℕ) → imported ≤ place → place < length e.log → (step_at e.log place).kind ≡ Derived
      → EndsASize (bounds_of (suspect_count p) p.k) (step_at e.log place).clause
  pub front : IsFrontOf p (map members_of (blocks_of e.log))

-- a debugger between two calls
pub record IsStanding (p : Problem) (made : Form) (u : Unrolling) (e : EnumState) (certificate : List Step) (finished : Bool) (imported : ℕ) : Type 0 where
  pub encoding : IsEncodingOf p made u
  pub over : IsOverForm p made e
  pub searched : IsSearched p made e finished imported
  pub certified : IsCertified (state_of p made e certificate finished imported)

-- the same of its search
abbrev pub Stands : Problem → Form → Unrolling → Search → Type 0
Stands p made u s = IsStanding p made u s.enumerator (drop s.appended s.certificate) s.finished s.imported

-- what an answer says, or want of memory
abbrev pub Answers : DebugState → DebugState → ℕ → Result Found NoMemory → Type 0
Answers old new left (Ok found) = Gives old new left found
Answers old new left (Err e) = FindsNothing old new

-- what a call of `next` leaves
pub record Advances (old new : DebugState) (budget left : ℕ) (result : Result Found NoMemory) : Type 0 where
  pub holds : IsDebugger new
  pub searches : Searches old new budget left
  pub answers : Answers old new left result
  pub ended : StaysEnded old new result

-- the same, by the searches before and after it
abbrev pub Leaves : Problem → Form → Search → Search → ℕ → ℕ → Result Found NoMemory → Type 0
Leaves p made old new budget left result = Advances (state_in p made old) (state_in p made new) budget left result
