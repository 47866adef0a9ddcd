-- Which refusals below are which refusals of a problem, and what is made where there is none.
use Rattle.std.proofs.Common.{◌≡◌, ℕ, ◌<◌, ◌≤◌, List, [], ◌∷◌, length, max, refl, ap, ◌∙◌, subst, arith}
use Rattle.gate_base.specs.Nodes.{counted}
use Rattle.clause_base.specs.declared.form.Form.{Form}
use Rattle.clause_base.specs.declared.literal.Lit.{Lit}
use Rattle.word_net.specs.Nets.{IsNet, Net}
use Rattle.bit_circuit.specs.declared.error.BlastErr.{BlastErr}
use Rattle.bit_circuit.specs.declared.error.BlastErr.TheVariants as blast
use Rattle.bit_circuit.specs.Circuits.{circuit_of}
use Rattle.bit_circuit.specs.Limits.{IsRefused as IsBlastRefused}
use Rattle.v_synth.specs.Matches.{IsNetOf}
use Rattle.unroller.specs.declared.error.UnrollErr.{UnrollErr}
use Rattle.unroller.specs.declared.error.UnrollErr.TheVariants as unroll
use Rattle.unroller.specs.Limits.{IsRefused as IsUnrollRefused}
use Rattle.unroller.specs.Unrolls.{Unrolling, variables_of}
use Rattle.clause_form.specs.declared.error.FormErr.{FormErr}
use Rattle.clause_form.specs.declared.error.FormErr.TheVariants as form
use Rattle.clause_form.specs.Clauses.{form_clauses, literals_in}
use Rattle.clause_form.specs.Limits.{IsRefused as IsFormRefused}
use Rattle.debug_core.specs.Causes.{blast_cause, form_cause, unroll_cause}
use Rattle.debug_core.specs.Problems.{IsCircuitFor, IsFormFor, IsProblem, IsRefused, Problem, unrolling_for}
use Rattle.debug_core.specs.Standing.{IsEncodingOf, IsUnrollingFor}

module _ (p : Problem) (net : Net) (kept : IsNet net) (of_design : IsNetOf p.design p.order net) where
  circuit-for : IsCircuitFor p (circuit_of net)
  circuit-for = record { net = net; kept = kept; of_design = of_design; is = refl }

  pub blast-refused : (e : BlastErr) → IsBlastRefused e (4000000 < counted (circuit_of net).nodes) → IsRefused p (blast_cause e)
  blast-refused blast.Nodes many = (circuit_of net, circuit-for, many)
  blast-refused blast.NoMemory nothing = nothing

  pub unroll-refused : counted (circuit_of net).nodes ≤ 4000000 → (e : UnrollErr)
      → IsUnrollRefused e (4000000 < variables_of (unrolling_for p (circuit_of net))) → IsRefused p (unroll_cause e)
  unroll-refused few unroll.Vars many = (circuit_of net, circuit-for, (few, many))
  unroll-refused few unroll.NoMemory nothing = nothing

module _ (p : Problem) (u : Unrolling) (is : IsUnrollingFor p u) where
  for-circuit : IsCircuitFor p (circuit_of is.net)
  for-circuit = circuit-for p is.net is.kept is.of_design

  pub form-refused : (e : FormErr) → IsFormRefused e (64000000 < literals_in (form_clauses u p.groups p.k)) → IsRefused p (form_cause e)
  form-refused form.Literals many = (
    circuit_of is.net,
    for-circuit,
    (
      is.few_nodes,
      subst (λ v. variables_of v ≤ 4000000) is.is is.few_variables,
      subst (λ v. 64000000 < literals_in (form_clauses v p.groups p.k)) is.is many,
    ),
  )
  form-refused form.NoMemory nothing = nothing

  pub encoded : (made : Form) → IsProblem p → made.vars ≡ variables_of u → made.clauses ≡ form_clauses u p.groups p.k
      → literals_in made.clauses ≤ 64000000 → IsEncodingOf p made u
  encoded made can vars clauses few = record {
    can = can;
    unrolled = is;
    form = record {
      circuit = circuit_of is.net;
      of_design = for-circuit;
      vars_are = vars ∙ ap variables_of is.is;
      clauses_are = clauses ∙ ap (λ v. form_clauses v p.groups p.k) is.is;
      few_nodes = is.few_nodes;
      few_variables = omega (arith, vars, is.few_variables);
      few_literals = few;
    };
    vars_are = vars;
    clauses_are = clauses;
  }

-- the form of a plan of the problem
pub planned : (p : Problem) (u : Unrolling) → IsUnrollingFor p u → IsProblem p → (vars : ℕ) (clauses : List (List Lit)) → vars ≡ variables_of u
    → clauses ≡ form_clauses u p.groups p.k → literals_in clauses ≤ 64000000 → IsFormFor p vars clauses
planned p u is can vars clauses vars_are clauses_are few =
    let made : Form = record { vars = vars; clauses = clauses } in
    (encoded p u is made can vars_are clauses_are few).form

-- a clause counts for one literal at least
pub clauses-few : (clauses : List (List Lit)) → length clauses ≤ literals_in clauses
unfolding literals_in
clauses-few [] = omega arith
clauses-few (clause ∷ clauses) = let one : 1 ≤ max 1 (length clause) = omega arith in omega (arith, one, clauses-few clauses)
