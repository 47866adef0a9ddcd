-- The clauses of a form with a set's selectors true can be satisfied exactly where the set works.
use Rattle.std.proofs.Common.{◌≡◌, ◌⊎◌, inl, inr, ℕ, zero, suc, ◌+◌, ◌-◌, ◌<◌, ◌≤◌, Bool, false, if◌then◌else◌, List, [], length, get_or, Some, refl, sym, ◌∙◌, ap, subst, arith}
use Rattle.std.specs.Prelude.{All, nat_le, slice_get}
use Rattle.std.proofs.Math.Path.{fun_ext}
use Rattle.std.proofs.lemmas.Bool.{cases_lt, le-leb, lt-leb}
use Rattle.std.proofs.lemmas.List.Elements.{All-append}
use Rattle.loc_base.proofs.ShelfBools.{if-true, if-false}
use Rattle.loc_base.proofs.ShelfLists.{Contains-place}
use Rattle.gate_base.specs.declared.literal.Literal.{Literal}
use Rattle.gate_base.specs.declared.literal.Literal.TheVariants.{Known, Of}
use Rattle.gate_base.specs.Nodes.{sources_in}
use Rattle.gate_base.specs.Meaning.{Source, values}
use Rattle.clause_base.specs.declared.literal.Lit.{Lit}
use Rattle.clause_base.specs.Literal.{IsWithin, AreWithin}
use Rattle.clause_base.specs.Satisfaction.{is_satisfied, Satisfies, SatisfiesClause}
use Rattle.card_counter.specs.Places.{starts, at_least, IsNoCounter}
use Rattle.card_counter.specs.InForm.{literals_from, HasCounter}
use Rattle.card_counter.specs.Means.{true_count, CountsAs}
use Rattle.card_counter.proofs.Said.{satisfies-behind, satisfies-both}
use Rattle.card_counter.proofs.Counting.{meets, counts-as, few-bound}
use Rattle.card_counter.proofs.InForms.{selectors-before, few-selected}
use Rattle.design_core.specs.declared.trace.Trace.{Trace}
use Rattle.design_core.specs.Given.{row}
use Rattle.unroller.specs.Cycles.{free_bits}
use Rattle.unroller.specs.Meaning.{FreesGrouped}
use Rattle.unroller.specs.Reads.{AreKept, IsFreeAt, moment_of, unrolled_lit}
use Rattle.unroller.specs.Unrolls.{Unrolling, is_grouped, base_of, unrolled_before, unrolled_of, cycles_of, variables_of}
use Rattle.unroller.proofs.Whole.{base-unrolled, sources-unrolled, kept-unrolled}
use Rattle.clause_form.specs.Clauses.{selectors_of, selector_clauses, words_clauses, cycles_clauses, form_clauses}
use Rattle.form_laws.specs.Runs.{Chosen, CircuitMeets, CircuitWorks}
use Rattle.form_laws.specs.Models.{literal_in, value_in, Selects, freed_by, is_member, AreOfModel, HasOneColumnEach}
use Rattle.form_laws.specs.Encodes.{Asked, CanBeAsked, unrolling_of, SatisfiesForm, IsEncoded, EncodesSets, FewAreSelected, ModelMeets}
use Rattle.form_laws.proofs.Definitions.{HasValues, DefinitionsHold, definitions-from, definitions-to}
use Rattle.form_laws.proofs.Splits.{CyclesHold, cycles-say, cycles-hold}
use Rattle.form_laws.proofs.Cycles.{TraceStands, TracesTie, traces-tie, after-none}
use Rattle.form_laws.proofs.Frees.{Owned, traces-owned, bits-traces, before-owned}
use Rattle.form_laws.proofs.Columns.{model_chosen, chosen-at, chosen-own, one-column-each}
use Rattle.form_laws.proofs.SameRuns.{ChooseAlike, meets-alike}
use Rattle.form_laws.proofs.Selecting.{selectors-free, none-selected, selected-few, all-few}
use Rattle.form_laws.proofs.Within.{AreNamed, IsNamed, cycles-named, counter-named}
use Rattle.form_laws.proofs.Turned.{cycle-right, right-cycle}
use Rattle.form_laws.proofs.Moments.{first_of, cycles-within, Located, located, firsts-at, AllChosen, all-chosen, pasted, pasted-meets}

literals-long : (first count : ℕ) → length (literals_from first count) ≡ count
literals-long first zero = refl
literals-long first (suc count) = ap suc (literals-long (first + 1) count)

module _ (of : Asked) (can : CanBeAsked of) where
  abbrev n : ℕ
  n = length of.groups

  abbrev u : Unrolling
  u = unrolling_of of

  abbrev selectors : ℕ → List Lit
  selectors = selectors_of of.groups

  kept : AreKept u
  kept = kept-unrolled of.circuit of.traces of.groups of.k can.traces

  no_sources : sources_in u.definitions ≡ 0
  no_sources = sources-unrolled of.circuit of.traces of.groups of.k

  base-is : u.base ≡ n + starts of.k (n + 1) + 1
  base-is = base-unrolled of.circuit of.traces of.groups of.k

  pub bits-are : u.bits ≡ free_bits of.circuit.nodes
  unfolding unrolled_of
  bits-are = bits-traces of.circuit (is_grouped of.groups) of.traces (unrolled_before of.circuit (base_of of.groups of.k))

  pub columns : HasOneColumnEach u
  columns = one-column-each (λ v. false) of.circuit can.circuit u bits-are

  owned : Owned u
  unfolding unrolled_of
  owned =
      traces-owned of.circuit (is_grouped of.groups) of.traces (unrolled_before of.circuit (base_of of.groups of.k)) refl
      (before-owned of.circuit (base_of of.groups of.k))

  pub firsts-are : (i : ℕ) (trace : Trace) → slice_get of.traces i ≡ Some trace → get_or u.firsts i 0 ≡ first_of of.traces i
  unfolding unrolled_of
  firsts-are i trace there =
      let here : i ≡ 0 + i = omega arith in
      let none : 0 + first_of of.traces i ≡ first_of of.traces i = omega arith in
      ap (λ k. get_or u.firsts k 0) here
      ∙ firsts-at of.circuit (is_grouped of.groups) of.traces (unrolled_before of.circuit (base_of of.groups of.k)) i trace there ∙ none

  -- ---- the variables of the form

  room : n + starts of.k (n + 1) ≤ variables_of u
  room = omega (arith, base-is)

  named : All (AreNamed n u.base (u.base + length u.definitions)) (cycles_clauses u selectors 0 0 u.ends)
  named = cycles-named u of.groups kept

  pub has-counter : HasCounter n of.k (variables_of u) (form_clauses u of.groups of.k)
  unfolding form_clauses
  has-counter = record {
    within = room;
    rest = cycles_clauses u selectors 0 0 u.ends;
    splits = refl;
    apart = λ i d below. λ j l within.
        apart-from (get_or (get_or (cycles_clauses u selectors 0 0 u.ends) i d) j l) (named i d below j l within);
  }
    where
      apart-from : (l : Lit) → IsNamed n u.base (u.base + length u.definitions) l → IsNoCounter (n + 1) of.k n l.var
      apart-from l (inl selector) = inl (omega (arith, selector.1))
      apart-from l (inr definition) = inr (omega (arith, definition.0, base-is))

  pub is-within : AreWithin (variables_of u) (form_clauses u of.groups of.k)
  unfolding form_clauses
  is-within =
      All-append (IsWithin (variables_of u)) (selector_clauses n of.k) (cycles_clauses u selectors 0 0 u.ends)
      (counter-named n of.k (variables_of u) room 0 n (omega arith))
      (λ i d below. λ j l within.
      within-from (get_or (get_or (cycles_clauses u selectors 0 0 u.ends) i d) j l) (named i d below j l within))
    where
      within-from : (l : Lit) → IsNamed n u.base (u.base + length u.definitions) l → (1 ≤ l.var) × (l.var ≤ variables_of u)
      within-from l (inl selector) = (selector.0, omega (arith, selector.1, room))
      within-from l (inr definition) = (omega (arith, definition.0, base-is), omega (arith, definition.1, base-is))

  -- ---- the cycles in the form

  module _ (e : Source) (frees : FreesGrouped e (is_grouped of.groups)) where
    tie : TracesTie e of.circuit (is_grouped of.groups) frees (unrolled_before of.circuit (base_of of.groups of.k)) u of.traces
    unfolding unrolled_of
    tie =
        traces-tie e of.circuit (is_grouped of.groups) frees of.traces (unrolled_before of.circuit (base_of of.groups of.k)) can.traces.each
        (record { each = refl; outputs = omega arith; expected = omega arith })

    ends-are : length u.ends ≡ cycles_of of.traces
    ends-are = omega (arith, tie.ends)

    stands : (i : ℕ) (trace : Trace) → slice_get of.traces i ≡ Some trace
        → TraceStands e of.circuit (is_grouped of.groups) frees trace (first_of of.traces i) u
    stands i trace there =
        let none : 0 + first_of of.traces i ≡ first_of of.traces i = omega arith in
        subst (λ first. TraceStands e of.circuit (is_grouped of.groups) frees trace first u) none
        (tie.stands u (after-none u) i trace there)

    -- the outputs of a cycle are right in the assignment
    abbrev OutputsOf : (ℕ → Bool) → Type 0
    OutputsOf a = (t : ℕ) → t < length u.ends → Satisfies a (words_clauses u.base (row u.expected u.each t) (row u.outputs u.each t))

    -- each trace is met with what the source chooses
    abbrev AllMet : Type 0
    AllMet = (i : ℕ) (trace : Trace) → slice_get of.traces i ≡ Some trace
        → CircuitMeets of.circuit trace e.frees (λ t. e.chosen (first_of of.traces i + t))

    module _ (a : ℕ → Bool) (has : HasValues a u.base e u.definitions) where
      met-from : OutputsOf a → AllMet
      met-from hold i trace there t low =
          let within : first_of of.traces i + t < length u.ends = omega (arith, low, ends-are, cycles-within of.traces i trace there) in
          cycle-right a e of.circuit u has (first_of of.traces i + t) _ _ (stands i trace there t low)
          (hold (first_of of.traces i + t) within)

      outputs-from : AllMet → OutputsOf a
      outputs-from met t within =
          let l : Located of.traces t = located of.traces t (omega (arith, within, ends-are)) in
          subst (λ m. Satisfies a (words_clauses u.base (row u.expected u.each m) (row u.outputs u.each m))) l.is
          (right-cycle a e of.circuit u has (first_of of.traces l.number + l.cycle) _ _ (stands l.number l.trace l.there l.cycle l.low)
          (met l.number l.trace l.there l.cycle l.low))

  -- as many cycles as the traces have
  pub ends-all : length u.ends ≡ cycles_of of.traces
  ends-all =
      ends-are (record {
        inputs = λ input bit. false;
        states = λ state bit. false;
        frees = λ place. false;
        chosen = λ moment place bit. false;
      }) (λ place none. refl)

  -- ---- from an assignment to choices

  module _ (a : ℕ → Bool) (satisfied : SatisfiesForm of a) where
    parts : Satisfies a (cycles_clauses u selectors 0 0 u.ends)
    unfolding form_clauses
    parts = satisfies-behind a (selector_clauses n of.k) (cycles_clauses u selectors 0 0 u.ends) satisfied

    hold : CyclesHold (SatisfiesClause a) u selectors 0 0 u.ends
    hold = cycles-say (SatisfiesClause a) u selectors 0 0 u.ends kept.ends parts

    abbrev e : Source
    e = record {
      inputs = λ input bit. false;
      states = λ state bit. false;
      frees = λ place. is_satisfied a (selectors place);
      chosen = model_chosen a u;
    }

    free : FreesGrouped e (is_grouped of.groups)
    free place none = none-selected a of.groups place 1 none

    has : HasValues a u.base e u.definitions
    has =
        definitions-from a u.base selectors e u.definitions kept.ordered no_sources (λ place. refl)
        (λ i node there. hold.definitions i node (omega arith) there)
        (λ i moment place bit computed there is_free.
        chosen-own a of.circuit can.circuit u bits-are owned i moment place bit computed there)

    outputs-hold : OutputsOf e free a
    outputs-hold t within =
        let here : 0 + t ≡ t = omega arith in
        subst (λ m. Satisfies a (words_clauses u.base (row u.expected u.each m) (row u.outputs u.each m))) here (hold.outputs t within)

    met : AllMet e free
    met = met-from e free a has outputs-hold

    frees-set : (set : List ℕ) → Selects a n set → e.frees ≡ freed_by of.groups set
    frees-set set selects = fun_ext (λ place. selectors-free a of.groups set selects place)

    value-of-literal : (l : Literal) → value_in a (unrolled_lit u.base l) ≡ literal_in a u.base l
    value-of-literal (Known value) = refl
    value-of-literal (Of node negated) = refl

    -- bits that are the model's meet the trace
    model-meets : (set : List ℕ) → Selects a n set → (number : ℕ) (trace : Trace) (chosen : Chosen)
        → slice_get of.traces number ≡ Some trace → AreOfModel a u (freed_by of.groups set) number trace chosen → CircuitMeets of.circuit trace (freed_by of.groups set) chosen
    model-meets set selects number trace chosen there is_model =
        subst (λ freed. CircuitMeets of.circuit trace freed chosen) (frees-set set selects)
        (meets-alike of.circuit trace e.frees (λ t. e.chosen (first_of of.traces number + t)) chosen alike (met number trace there))
      where
        alike : ChooseAlike of.circuit trace e.frees (λ t. e.chosen (first_of of.traces number + t)) chosen
        alike t place bit low read is_free =
            let moment = first_of of.traces number + t in
            let in_bits : slice_get u.bits read.column ≡ Some (record { place = place; bit = bit }) =
            ap (λ bs. slice_get bs read.column) bits-are ∙ read.there in
            let number_is : moment_of u number t ≡ moment = ap (λ k. k + t) (firsts-are number trace there) in
            let literal = get_or (get_or u.frees (moment_of u number t) []) read.column (Known false) in
            let is_at : IsFreeAt u (moment_of u number t) place bit (unrolled_lit u.base literal) =
            record { column = read.column; of_bit = in_bits; is = refl } in
            chosen-at a of.circuit can.circuit u bits-are moment read.column place bit in_bits
            ∙ ap (λ m. literal_in a u.base (get_or (get_or u.frees m []) read.column (Known false))) (sym number_is)
            ∙ sym (value-of-literal literal)
            ∙ sym (is_model t place bit (unrolled_lit u.base literal) low
            (ap (λ freed. freed place) (sym (frees-set set selects)) ∙ is_free) is_at)

    -- so the set works
    works : (set : List ℕ) → Selects a n set → CircuitWorks of.circuit of.traces (freed_by of.groups set)
    works set selects trace member =
        let (i, there) = Contains-place of.traces trace member in (
          (λ t. e.chosen (first_of of.traces i + t)),
          subst (λ freed. CircuitMeets of.circuit trace freed (λ t. e.chosen (first_of of.traces i + t)))
              (frees-set set selects) (met i trace there),
        )

  -- ---- from choices to an assignment

  module _ (set : List ℕ) (works : CircuitWorks of.circuit of.traces (freed_by of.groups set)) where
    abbrev freed : ℕ → Bool
    freed = freed_by of.groups set

    every : AllChosen of.circuit freed of.traces
    every = all-chosen of.circuit freed of.traces works

    abbrev chosen_source : Source
    chosen_source = record {
      inputs = λ input bit. false;
      states = λ state bit. false;
      frees = freed;
      chosen = pasted of.circuit freed of.traces every;
    }

    -- the selectors of the set and the values of the definitions
    abbrev begun : ℕ → Bool
    begun v = if nat_le v n then is_member set v else get_or (values chosen_source [] u.definitions) (v - u.base) false

    begun-selects : Selects begun n set
    begun-selects i some few =
        if-true (nat_le i n) (is_member set i) (get_or (values chosen_source [] u.definitions) (i - u.base) false) (is_member set i)
        (le-leb i n few) refl

    freed-grouped : FreesGrouped chosen_source (is_grouped of.groups)
    freed-grouped place none = sym (selectors-free begun of.groups set begun-selects place) ∙ none-selected begun of.groups place 1 none

    -- with the counters that follow
    counted : CountsAs begun (n + 1) of.k (literals_from 1 n)
    counted = counts-as begun (n + 1) of.k (literals_from 1 n) (selectors-before n)

    abbrev a : ℕ → Bool
    a = counted.other

    same : (v : ℕ) → IsNoCounter (n + 1) of.k n v → a v ≡ begun v
    same v outside = counted.same v (subst (λ m. IsNoCounter (n + 1) of.k m v) (sym (literals-long 1 n)) outside)

    selects : Selects a n set
    selects i some few = same i (inl (omega (arith, few))) ∙ begun-selects i some few

    has-chosen : HasValues a u.base chosen_source u.definitions
    has-chosen i within =
        let past : n < u.base + i = omega (arith, base-is) in
        let place : u.base + i - u.base ≡ i = omega arith in
        same (u.base + i) (inr (omega (arith, base-is)))
        ∙ if-false (nat_le (u.base + i) n) (is_member set (u.base + i))
        (get_or (values chosen_source [] u.definitions) (u.base + i - u.base) false)
        (get_or (values chosen_source [] u.definitions) i false) (lt-leb (u.base + i) n past)
        (ap (λ k. get_or (values chosen_source [] u.definitions) k false) place)

    met-chosen : AllMet chosen_source freed-grouped
    met-chosen i trace there = pasted-meets of.circuit freed of.traces every i trace there

    definitions-hold : DefinitionsHold a u.base selectors u.definitions
    definitions-hold =
        definitions-to a u.base selectors chosen_source u.definitions kept.ordered no_sources
        (λ place. sym (selectors-free a of.groups set selects place)) has-chosen

    outputs : OutputsOf chosen_source freed-grouped a
    outputs = outputs-from chosen_source freed-grouped a has-chosen met-chosen

    satisfies : SatisfiesForm of a
    unfolding form_clauses
    satisfies =
        satisfies-both a (selector_clauses n of.k) (cycles_clauses u selectors 0 0 u.ends)
        (meets a (n + 1) of.k (literals_from 1 n) counted.counts)
        (cycles-hold (SatisfiesClause a) u selectors 0 0 u.ends kept.ends (record {
          definitions = λ i node from there. definitions-hold i node there;
          outputs = λ t within.
              let here : t ≡ 0 + t = omega arith in
              subst (λ m. Satisfies a (words_clauses u.base (row u.expected u.each m) (row u.outputs u.each m))) here (outputs t within);
        }))

    encoded : (j : ℕ) → j ≤ of.k → length set ≤ j → IsEncoded of j set
    encoded j size few = record {
      assignment = a;
      satisfies = satisfies;
      bound = λ more.
          let long : length (literals_from 1 n) ≡ n = literals-long 1 n in
          ap (λ m. a (at_least (n + 1) of.k m (j + 1))) (sym long)
          ∙ few-bound (n + 1) of.k (literals_from 1 n) begun (selectors-before n) counted j size (omega (arith, more, long))
          (omega (arith, selected-few begun n set begun-selects, few));
      selects = selects;
    }

  -- ---- the main statements

  pub encodes : EncodesSets of
  encodes j set size few =
      ((λ (is : IsEncoded of j set). works is.assignment is.satisfies set is.selects), (λ w. encoded set w j size few))

  pub few-are : FewAreSelected of
  few-are j a size satisfied bound = at (cases_lt j n)
    where
      at : (j < n) ⊎ (n ≤ j) → true_count a (literals_from 1 n) ≤ j
      at (inl more) = few-selected n of.k (variables_of u) (form_clauses u of.groups of.k) a has-counter satisfied j size more (bound more)
      at (inr past) = omega (arith, past, all-few a 1 n)

  pub models-meet : ModelMeets of
  models-meet a set number trace chosen satisfied selects there is_model =
      model-meets a satisfied set selects number trace chosen there is_model
