-- What the form of a problem is good for: it encodes the sets that work, has its counter, and a model's values explain the traces.
use Rattle.std.proofs.Common.{◌≡◌, ℕ, Bool, List, Result, Ok, Err, ap, sym, ◌∙◌, subst}
use Rattle.std.specs.Prelude.{IfOk}
use Rattle.loc_base.specs.declared.memory.NoMemory.{NoMemory}
use Rattle.design_core.specs.declared.values.Values.{Values}
use Rattle.design_core.specs.Works.{Works}
use Rattle.clause_base.specs.declared.form.Form.{Form}
use Rattle.clause_base.specs.Literal.{AreWithin}
use Rattle.clause_base.specs.Satisfaction.{Satisfies}
use Rattle.card_counter.specs.InForm.{HasCounter}
use Rattle.word_net.specs.Nets.{IsNet, Net}
use Rattle.bit_circuit.specs.Circuits.{circuit_of}
use Rattle.v_synth.specs.Matches.{IsNetOf}
use Rattle.unroller.specs.Unrolls.{AreTraces, Unrolling, variables_of}
use Rattle.clause_form.specs.Clauses.{form_clauses}
use Rattle.form_laws.specs.Encodes.{CanBeAsked, unrolling_of}
use Rattle.form_laws.specs.Models.{HasOneColumnEach, Selects}
use Rattle.form_laws.proofs.Equivalence.{columns, has-counter, is-within}
use Rattle.form_values.specs.ModelValues.{AreModelValues, ArePlaces}
use Rattle.design_circuits.specs.Forms.{CanAskNet, IsModelOf, NetAsked, NetModel, asked_of, of_design}
use Rattle.design_circuits.specs.Reading.{IsOfNet, OfNet}
use Rattle.design_circuits.proofs.Asked.{asked-places, can-be-asked, is-of_design}
use Rattle.design_circuits.proofs.Explaining.{explains, values-are}
use Rattle.design_circuits.proofs.NetReads.{places, reads}
use Rattle.debug_core.specs.Listed.{Encodes}
use Rattle.debug_core.proofs.OfForm.{encodes-list}
use Rattle.debug_core.specs.Problems.{IsProblem, Problem, suspect_count, suspects_of}
use Rattle.sat_core.specs.SolverState.{assignment_of}
use Rattle.debug_core.specs.declared.encoding.Encoding.{Encoding}
use Rattle.debug_core.specs.Standing.{ExplainModels, ExplainsIn, IsEncoding, IsEncodingOf, problem_in}

-- the net of a problem's design, as it is asked
module _ (p : Problem) (can : IsProblem p) (net : Net) (kept : IsNet net) (of_net : IsNetOf p.design p.order net) where
  abbrev pub net_of : OfNet
  net_of = record { design = p.design; order = p.order; net = net }

  pub is-of_net : IsOfNet net_of
  is-of_net = record { well_formed = can.well_formed; once = can.once; order = can.ordered; net = kept; of_design = of_net }

  abbrev pub net_asked : NetAsked
  net_asked = record { of = net_of; traces = p.traces; groups = p.groups; k = p.k }

  pub can-ask : CanAskNet net_asked
  can-ask = record { of_net = is-of_net; traces = can.traces; few = can.few_cycles }

  pub asked-can : CanBeAsked (asked_of net_asked)
  asked-can = can-be-asked net_asked can-ask (reads net_of is-of_net)

  pub are-traces : AreTraces (circuit_of net) p.traces 0
  are-traces = asked-can.traces

module _ (p : Problem) (made : Form) (u : Unrolling) (is : IsEncodingOf p made u) where
  abbrev asked : NetAsked
  asked = net_asked p is.can is.unrolled.net is.unrolled.kept is.unrolled.of_design

  abbrev u_of : Unrolling
  u_of = unrolling_of (asked_of asked)

  ask : CanAskNet asked
  ask = can-ask p is.can is.unrolled.net is.unrolled.kept is.unrolled.of_design

  be-asked : CanBeAsked (asked_of asked)
  be-asked = asked-can p is.can is.unrolled.net is.unrolled.kept is.unrolled.of_design

  clauses-here : made.clauses ≡ form_clauses u_of p.groups p.k
  clauses-here = is.clauses_are ∙ ap (λ v. form_clauses v p.groups p.k) is.unrolled.is

  vars-here : made.vars ≡ variables_of u_of
  vars-here = is.vars_are ∙ ap variables_of is.unrolled.is

  pub encodes : Encodes (suspect_count p) p.k made.clauses (Works p.design p.traces (suspects_of p))
  encodes =
      subst (λ clauses. Encodes (suspect_count p) p.k clauses (Works p.design p.traces (suspects_of p))) (sym clauses-here)
      (encodes-list (of_design asked) (is-of_design asked ask (reads asked.of ask.of_net)))

  pub counter : HasCounter (suspect_count p) p.k made.vars made.clauses
  counter =
      subst (λ vars. HasCounter (suspect_count p) p.k vars made.clauses) (sym vars-here)
      (subst (HasCounter (suspect_count p) p.k (variables_of u_of)) (sym clauses-here) (has-counter (asked_of asked) be-asked))

  pub within : AreWithin made.vars made.clauses
  within =
      subst (λ vars. AreWithin vars made.clauses) (sym vars-here)
      (subst (AreWithin (variables_of u_of)) (sym clauses-here) (is-within (asked_of asked) be-asked))

  pub one-column : HasOneColumnEach u
  one-column = subst HasOneColumnEach (sym is.unrolled.is) (columns (asked_of asked) be-asked)

  pub are-places : ArePlaces u p.groups
  are-places =
      subst (λ v. ArePlaces v p.groups) (sym is.unrolled.is)
      (asked-places asked ask (reads asked.of ask.of_net) (places asked.of ask.of_net) is.can.groups)

  pub explaining : (a : ℕ → Bool) (members : List ℕ) (values : Values) → AreModelValues a u p.groups members values
      → Satisfies a made.clauses → Selects a (suspect_count p) members → ExplainsIn p a members values
  explaining a members values are satisfies selects = record {
    values_of = values-are model ask of-model (reads asked.of ask.of_net) (places asked.of ask.of_net);
    explains = explains model ask of-model (reads asked.of ask.of_net) (places asked.of ask.of_net);
  }
    where
      model : NetModel
      model = record { asked = asked; assignment = a; members = members; values = values }

      of-model : IsModelOf model
      of-model = record {
        satisfies = subst (Satisfies a) clauses-here satisfies;
        selects = selects;
        values = subst (λ v. AreModelValues a v p.groups members values) is.unrolled.is are;
      }

-- what code has of the values, where there are any
pub values-explain : (e : Encoding) → IsEncoding e → (model : List Bool) (members : List ℕ) (r : Result Values NoMemory)
    → IfOk r (AreModelValues (assignment_of model) e.unrolled e.question.groups.now members) → IfOk r (ExplainModels e model members)
values-explain e is model members (Ok values) are = λ satisfies selects.
    explaining (problem_in e) e.form e.unrolled is (assignment_of model) members values are satisfies selects
values-explain e is model members (Err error) are = tt
