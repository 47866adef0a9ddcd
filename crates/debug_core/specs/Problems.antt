-- A problem of debugging (Smith, Veneris, Ali and Viglas, Fault diagnosis and logic debugging using Boolean satisfiability, IEEE
-- TCAD 2005): a design, traces of it, suspects, and the greatest size of a set; and the form in which its sets are searched.
use Rattle.std.specs.Prelude.{ℕ, ◌≡◌, ◌≤◌, ◌<◌, ◌^◌, List, length, map, All}
use Rattle.gate_base.specs.Nodes.{counted}
use Rattle.design_core.specs.declared.design.Design.{Design}
use Rattle.design_core.specs.declared.trace.Trace.{Trace}
use Rattle.design_core.specs.WellFormed.{IsWellFormed}
use Rattle.design_core.specs.DrivenOnce.{IsDrivenOnce}
use Rattle.design_core.specs.Reads.{IsOrder}
use Rattle.design_core.specs.TraceFits.{IsTraceOf}
use Rattle.suspect_map.specs.declared.group.Group.{Group}
use Rattle.suspect_map.specs.Groups.{AreWithin}
use Rattle.clause_base.specs.declared.literal.Lit.{Lit}
use Rattle.word_net.specs.Nets.{Net, IsNet}
use Rattle.bit_circuit.specs.Circuits.{BitNet, circuit_of}
use Rattle.v_synth.specs.Matches.{IsNetOf}
use Rattle.unroller.specs.Unrolls.{Unrolling, cycles_of, unrolled_of, variables_of}
use Rattle.clause_form.specs.Clauses.{form_clauses, literals_in}
use Rattle.debug_core.specs.declared.error.DebugErr.{DebugErr}
use Rattle.debug_core.specs.declared.error.DebugErr.TheVariants.{Nodes, Vars, Literals, NoMemory}
use Rattle.debug_core.specs.declared.question.Question.{Question}

-- a design whose drivers stand in an order, traces of it, groups of its places, which are the suspects, and the greatest size of a
-- set of suspects
pub record Problem : Type 0 where
  pub design : Design
  pub order : List ℕ
  pub traces : List Trace
  pub groups : List Group
  pub k : ℕ

-- the problem that is asked
abbrev pub problem_of : Question → Problem
problem_of q = record {
  design = q.design.now;
  order = q.order.now;
  traces = q.traces.now;
  groups = q.groups.now;
  k = q.k;
}

-- the suspects, each the list of its places
abbrev pub suspects_of : Problem → List (List ℕ)
suspects_of p = map (λ (group : Group). group.places) p.groups

-- how many there are
abbrev pub suspect_count : Problem → ℕ
suspect_count p = length p.groups

-- a problem that can be asked: the design can be carried out, the traces are of it, and the suspects are of its places
pub record IsProblem (p : Problem) : Type 0 where
  pub well_formed : IsWellFormed p.design
  pub once : IsDrivenOnce p.design
  pub ordered : IsOrder p.design p.order
  pub few_signals : length p.design.signals.items ≤ 1048576
  pub traces : All (IsTraceOf p.design) p.traces
  pub few_cycles : cycles_of p.traces < 2 ^ 32
  pub groups : AreWithin (length p.design.places.items) p.groups
  pub size : p.k ≤ 8

-- the circuit of the net of the problem's design: there is one
pub record IsCircuitFor (p : Problem) (circuit : BitNet) : Type 0 where
  pub net : Net
  pub kept : IsNet net
  pub of_design : IsNetOf p.design p.order net
  pub is : circuit ≡ circuit_of net

-- its unrolling over the problem's traces
abbrev pub unrolling_for : Problem → BitNet → Unrolling
unrolling_for p circuit = unrolled_of circuit p.traces p.groups p.k

-- the clauses of the problem's form
abbrev pub clauses_for : Problem → BitNet → List (List Lit)
clauses_for p circuit = form_clauses (unrolling_for p circuit) p.groups p.k

-- so many variables and these clauses are the form of the problem; nodes, variables and literals are within their numbers
pub record IsFormFor (p : Problem) (vars : ℕ) (clauses : List (List Lit)) : Type 0 where
  pub circuit : BitNet
  pub of_design : IsCircuitFor p circuit
  pub vars_are : vars ≡ variables_of (unrolling_for p circuit)
  pub clauses_are : clauses ≡ clauses_for p circuit
  pub few_nodes : counted circuit.nodes ≤ 4000000
  pub few_variables : vars ≤ 4000000
  pub few_literals : literals_in clauses ≤ 64000000

-- the circuit has too many AND and free nodes
abbrev pub HasManyNodes : BitNet → Type 0
HasManyNodes circuit = 4000000 < counted circuit.nodes

-- it hasn't, but the form has too many variables
abbrev pub HasManyVariables : Problem → BitNet → Type 0
HasManyVariables p circuit = (counted circuit.nodes ≤ 4000000) × (4000000 < variables_of (unrolling_for p circuit))

-- it has neither, but too many literals
abbrev pub HasManyLiterals : Problem → BitNet → Type 0
HasManyLiterals p circuit =
    (counted circuit.nodes ≤ 4000000) × (variables_of (unrolling_for p circuit) ≤ 4000000)
    × (64000000 < literals_in (clauses_for p circuit))

-- why a problem is refused: the first of these counts that passes its number; want of memory says nothing
abbrev pub IsRefused : Problem → DebugErr → Type 0
IsRefused p Nodes = (circuit : BitNet) × IsCircuitFor p circuit × HasManyNodes circuit
IsRefused p Vars = (circuit : BitNet) × IsCircuitFor p circuit × HasManyVariables p circuit
IsRefused p Literals = (circuit : BitNet) × IsCircuitFor p circuit × HasManyLiterals p circuit
IsRefused p NoMemory = Unit {0}
