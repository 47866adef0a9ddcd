-- A set can be selected in a form with pairs exactly where it works by functions.
use Rattle.std.proofs.Common.{◌+◌, ◌≤◌, false, List, length, map, arith}
use Rattle.std.specs.Prelude.{All}
use Rattle.gate_base.specs.declared.node.Node.{Node}
use Rattle.gate_base.specs.Meaning.{Source}
use Rattle.design_core.specs.declared.design.Design.{Design}
use Rattle.design_core.specs.declared.trace.Trace.{Trace}
use Rattle.design_core.specs.Works.{Groups}
use Rattle.suspect_map.specs.declared.group.Group.{Group}
use Rattle.clause_base.specs.Literal.{AreWithin}
use Rattle.card_counter.specs.InForm.{HasCounter}
use Rattle.clause_form.specs.Clauses.{form_clauses}
use Rattle.unroller.specs.Unrolls.{Unrolling, variables_of}
use Rattle.form_laws.specs.Encodes.{Asked, unrolling_of}
use Rattle.form_laws.proofs.Equivalence.{has-counter, is-within}
use Rattle.pair_form.specs.declared.pair.Pair.{Pair}
use Rattle.pair_form.specs.Pairs.{pairs_clauses, pairs_made}
use Rattle.pair_form.specs.AllPairs.{all_pairs, function_clauses, function_variables}
use Rattle.pair_form.proofs.Differing.{grown-length}
use Rattle.pair_form.proofs.PairsMean.{pairs-grown}
use Rattle.form_laws.proofs.Within.{AreNamed}
use Rattle.function_laws.specs.Encoded.{OfFunctions, CanCompare, IsEncodedByFunctions, EncodesFunctions}
use Rattle.function_laws.proofs.PairLists.{all-all}
use Rattle.function_laws.proofs.SelectorsOn.{selectors-hold}
use Rattle.function_laws.proofs.Named.{AreSuspects, pairs-named, counter-behind, within-behind}
use Rattle.function_laws.proofs.Models.{kept, base-is}
use Rattle.function_laws.proofs.Picked.{askable, all-are}
use Rattle.function_laws.proofs.ToFunctions.{works}
use Rattle.function_laws.proofs.ToModel.{encoded}

module _ (of : OfFunctions) (can : CanCompare of) where
  abbrev d : Design
  d = of.form.design

  abbrev asked : Asked
  asked = of.form.asked

  abbrev groups : List Group
  groups = asked.groups

  abbrev traces : List Trace
  traces = asked.traces

  abbrev u : Unrolling
  u = unrolling_of asked

  abbrev places : Groups
  places = map (λ (group : Group). group.places) groups

  abbrev pairs : List Pair
  pairs = all_pairs u groups of.compared

  -- ---- the counter of the form, and its variables

  abbrev after : List Node
  after = pairs_made u.definitions pairs

  abbrev nothing : Source
  nothing = record { inputs = λ input b. false; states = λ state b. false; frees = λ place. false; chosen = λ moment place b. false }

  longer : length u.definitions ≤ length after
  longer = grown-length (pairs-grown u.base nothing u.definitions pairs (all-are of can))

  suspects : All (AreSuspects (length groups)) pairs
  suspects =
      all-all u groups (AreSuspects (length groups)) of.compared
      (λ c s t member apart below.
      selectors-hold (λ x. (1 ≤ x) × (x ≤ length groups)) c.place groups 1 (λ x from low. (from, omega (arith, low))))

  named : All (AreNamed (length groups) u.base (u.base + length after)) (pairs_clauses u.base u.definitions pairs)
  named =
      pairs-named (length groups) u.base (length after) nothing u.definitions pairs (kept asked (askable of can)).ordered (all-are of can) suspects (omega arith)

  pub functions-counter : HasCounter (length groups) asked.k (function_variables u groups of.compared) (function_clauses u groups asked.k of.compared)
  functions-counter =
      counter-behind (length groups) asked.k (variables_of u) (function_variables u groups of.compared) u.base (length after)
      (form_clauses u groups asked.k) (pairs_clauses u.base u.definitions pairs) (base-is asked (askable of can)) (omega (arith, longer))
      (has-counter asked (askable of can)) named

  pub functions-within : AreWithin (function_variables u groups of.compared) (function_clauses u groups asked.k of.compared)
  functions-within =
      within-behind (length groups) (variables_of u) (function_variables u groups of.compared) u.base (length after)
      (form_clauses u groups asked.k) (pairs_clauses u.base u.definitions pairs) (omega (arith, base-is asked (askable of can)))
      (omega (arith, base-is asked (askable of can))) (omega (arith, base-is asked (askable of can))) (omega (arith, longer)) (is-within asked (askable of can)) named

  pub encodes-functions : EncodesFunctions of
  encodes-functions j set size few =
      ((λ (is : IsEncodedByFunctions asked of.compared j set). works of can j set is), (λ work. encoded of can set work j size few))
