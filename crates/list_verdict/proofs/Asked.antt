-- What is known of a list that can be judged: its design can be simulated, its form encodes the sets that work, and has its counter.
use Rattle.std.proofs.Common.{◌≡◌, ℕ, suc, ◌+◌, ◌^◌, ◌<◌, ◌≤◌, List, [], ◌∷◌, length, refl, ap, ◌∙◌, subst, arith}
use Rattle.std.specs.Prelude.{All, true, ◌&&◌, nat_lt}
use Rattle.std.specs.List.{list_all}
use Rattle.std.proofs.lemmas.Bool.{lt-ltb}
use Rattle.std.proofs.lemmas.List.{length-map}
use Rattle.loc_base.proofs.ShelfLists.{list_all-below}
use Rattle.gate_base.specs.Nodes.{counted}
use Rattle.plain_sim.proofs.EvaluateRun.{can-run}
use Rattle.suspect_map.specs.declared.group.Group.{Group}
use Rattle.clause_base.specs.declared.form.Form.{Form}
use Rattle.clause_base.specs.Literal.{AreWithin}
use Rattle.card_counter.specs.InForm.{HasCounter}
use Rattle.card_counter.specs.Places.{starts}
use Rattle.cycle_sim.specs.Simulated.{CanSimulate, IsSimulable}
use Rattle.unroller.specs.Unrolls.{variables_of}
use Rattle.unroller.proofs.Whole.{base-unrolled}
use Rattle.bit_circuit.specs.Circuits.{BitNet, circuit_of}
use Rattle.debug_core.specs.Problems.{IsFormFor, IsProblem, Problem, clauses_for, suspect_count, suspects_of, unrolling_for}
use Rattle.debug_core.specs.Standing.{IsEncodingOf}
use Rattle.debug_core.proofs.Encoded.{counter, encodes, within}
use Rattle.debug_core.specs.Listed.{Encodes}
use Rattle.design_core.specs.Works.{Works}

-- ---- the design
pub can-simulate : (p : Problem) → IsProblem p → CanSimulate p.design p.order
can-simulate p can = record {
  can_run = can-run p.design can.well_formed;
  numbers = list_all-below (length p.design.drivers.items) p.order can.ordered.numbers;
}

pub simulable : (p : Problem) → IsProblem p → IsSimulable p.design p.order
simulable p can = record { well_formed = can.well_formed; once = can.once; ordered = can.ordered }

-- ---- the form
module _ (p : Problem) (made : Form) (can : IsProblem p) (form : IsFormFor p made.vars made.clauses) where
  encoding-of : IsEncodingOf p made (unrolling_for p (circuit_of form.of_design.net))
  encoding-of = record {
    can = can;
    unrolled = record {
      net = form.of_design.net;
      kept = form.of_design.kept;
      of_design = form.of_design.of_design;
      is = refl;
      few_nodes = subst (λ (c : BitNet). counted c.nodes ≤ 4000000) form.of_design.is form.few_nodes;
      few_variables = omega (arith, form.few_variables, form.vars_are, ap (λ (c : BitNet). variables_of (unrolling_for p c)) form.of_design.is);
      base = base-unrolled (circuit_of form.of_design.net) p.traces p.groups p.k;
    };
    form = form;
    vars_are = form.vars_are ∙ ap (λ (c : BitNet). variables_of (unrolling_for p c)) form.of_design.is;
    clauses_are = form.clauses_are ∙ ap (clauses_for p) form.of_design.is;
  }

  pub form-within : AreWithin made.vars made.clauses
  form-within = within p made (unrolling_for p (circuit_of form.of_design.net)) encoding-of

  pub form-counter : HasCounter (suspect_count p) p.k made.vars made.clauses
  form-counter = counter p made (unrolling_for p (circuit_of form.of_design.net)) encoding-of

  pub form-encodes : Encodes (suspect_count p) p.k made.clauses (Works p.design p.traces (suspects_of p))
  form-encodes = encodes p made (unrolling_for p (circuit_of form.of_design.net)) encoding-of

  -- the suspects are variables of the form
  pub few-suspects : suspect_count p ≤ made.vars
  few-suspects = omega (arith, form-counter.within)

  -- there is room for the bound
  pub bound-fits : suspect_count p + 1 + starts p.k (suspect_count p + 1) < 2 ^ 32
  bound-fits = omega (arith, form-counter.within, form.few_variables)

pub suspects-long : (p : Problem) → length (suspects_of p) ≡ suspect_count p
suspects-long p = length-map p.groups (λ (group : Group). group.places)

pub ruleset form_rules = (bound-fits, few-suspects)
