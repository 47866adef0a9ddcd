-- In a model of a form the literals of outputs are what the run gives, by the bits that the model chooses; and chosen bits that make
-- each trace right have a model, in which the literals of bits of freed places are these.
use Rattle.std.proofs.Common.{◌≡◌, inl, inr, ℕ, zero, suc, ◌+◌, ◌-◌, ◌*◌, ◌<◌, ◌≤◌, Bool, true, false, if◌then◌else◌, List, [], ◌∷◌, ◌++◌, length, map, get_or, Some, refl, sym, ◌∙◌, ap, subst, arith, length-append}
use Rattle.std.specs.Prelude.{nat_le, slice_get}
use Rattle.std.specs.Option.{option_map}
use Rattle.std.proofs.Math.Seq.{get_or-append_seam}
use Rattle.std.proofs.lemmas.Bool.{le-leb, lt-leb}
use Rattle.std.proofs.lemmas.Option.{slice_get_within, slice_get-map, get_or_from_slice_get}
use Rattle.loc_base.proofs.ShelfBools.{if-true, if-false}
use Rattle.gate_base.specs.declared.literal.Literal.{Literal}
use Rattle.gate_base.specs.declared.literal.Literal.TheVariants.{Known}
use Rattle.gate_base.specs.declared.node.Node.{Node}
use Rattle.gate_base.specs.declared.node.Node.TheVariants.{Free}
use Rattle.gate_base.specs.Nodes.{sources_in}
use Rattle.gate_base.specs.Meaning.{Source, node_value, values, bit_value}
use Rattle.clause_base.specs.declared.literal.Lit.{Lit}
use Rattle.clause_base.specs.Satisfaction.{Satisfies, SatisfiesClause}
use Rattle.card_counter.specs.Places.{starts, at_least, IsNoCounter}
use Rattle.card_counter.specs.InForm.{literals_from}
use Rattle.card_counter.specs.Means.{CountsAs}
use Rattle.card_counter.proofs.Said.{satisfies-behind, satisfies-both}
use Rattle.card_counter.proofs.Counting.{meets, counts-as, few-bound}
use Rattle.card_counter.proofs.InForms.{selectors-before}
use Rattle.design_core.specs.declared.trace.Trace.{Trace}
use Rattle.design_core.specs.Given.{row}
use Rattle.unroller.specs.Cycles.{translated}
use Rattle.unroller.specs.Meaning.{FreesGrouped}
use Rattle.unroller.specs.Reads.{AreKept}
use Rattle.unroller.specs.Unrolls.{Unrolling, is_grouped, base_of, unrolled_before, unrolled_of, cycles_of}
use Rattle.unroller.proofs.Whole.{base-unrolled, sources-unrolled, kept-unrolled}
use Rattle.clause_form.specs.Clauses.{selectors_of, selector_clauses, words_clauses, cycles_clauses, form_clauses}
use Rattle.form_laws.specs.Runs.{Chosen, CircuitMeets, value_in_cycle}
use Rattle.form_laws.specs.Models.{literal_in, Selects, freed_by, is_member}
use Rattle.form_laws.specs.Encodes.{Asked, CanBeAsked, unrolling_of, SatisfiesForm, MeetsBoundAt}
use Rattle.form_laws.proofs.Definitions.{HasValues, definitions-from, definitions-to, literal-in}
use Rattle.form_laws.proofs.Splits.{CyclesHold, cycles-say, cycles-hold, slice_get-range}
use Rattle.form_laws.proofs.Cycles.{TraceStands, TracesTie, traces-tie, after-none}
use Rattle.form_laws.proofs.Frees.{Owned, traces-owned, before-owned}
use Rattle.form_laws.proofs.Columns.{model_chosen, chosen-own}
use Rattle.form_laws.proofs.Equivalence.{bits-are, ends-all}
use Rattle.form_laws.proofs.Selecting.{selectors-free, none-selected, selected-few}
use Rattle.form_laws.proofs.Turned.{cycle-right, right-cycle}
use Rattle.form_laws.proofs.Moments.{first_of, cycles-within, Located, located}
use Rattle.pair_form.specs.declared.compared.OutputBit.{OutputBit}
use Rattle.pair_form.specs.AllPairs.{operand_at}
use Rattle.pair_form.proofs.Ands.{values-known}
use Rattle.function_laws.proofs.Held.{Held, traces-held, before-held}

literals-long : (first count : ℕ) → length (literals_from first count) ≡ count
literals-long first zero = refl
literals-long first (suc count) = ap suc (literals-long (first + 1) count)

-- the value of the definition of a bit of a freed place is the bit that is chosen
chosen-value : (e : Source) (nodes : List Node) (known : List Bool) (i moment place bit : ℕ) (computed : Literal)
    → slice_get nodes i ≡ Some (Free moment place bit computed) → e.frees place ≡ true
    → get_or (values e known nodes) (length known + i) false ≡ e.chosen moment place bit
unfolding values node_value
chosen-value e [] known i moment place bit computed there free = cc
chosen-value e (first ∷ nodes) known zero moment place bit computed there free =
    let b = node_value e known first in
    let here : length known + 0 ≡ length known = omega arith in
    let last : length known < length (known ++ b ∷ []) = omega (arith, length-append known (b ∷ [])) in
    ap (λ n. get_or (values e (known ++ b ∷ []) nodes) n false) here
    ∙ values-known e (known ++ b ∷ []) nodes (length known) last
    ∙ get_or-append_seam known b [] false ∙ ap (node_value e known) (Some-is there) ∙ of-free known
  where
    Some-is : Some first ≡ Some (Free moment place bit computed) → first ≡ Free moment place bit computed
    Some-is same = cc

    of-free : (known : List Bool) → node_value e known (Free moment place bit computed) ≡ e.chosen moment place bit
    of-free known = if-true (e.frees place) (e.chosen moment place bit) _ (e.chosen moment place bit) free refl
chosen-value e (first ∷ nodes) known (suc i) moment place bit computed there free =
    let b = node_value e known first in
    let number : length (known ++ b ∷ []) + i ≡ length known + suc i = omega (arith, length-append known (b ∷ [])) in
    subst (λ n. get_or (values e (known ++ b ∷ []) nodes) n false ≡ e.chosen moment place bit) number
    (chosen-value e nodes (known ++ b ∷ []) i moment place bit computed there free)

module _ (of : Asked) (can : CanBeAsked of) where
  abbrev n : ℕ
  n = length of.groups

  abbrev pub u : Unrolling
  u = unrolling_of of

  abbrev selectors : ℕ → List Lit
  selectors = selectors_of of.groups

  pub kept : AreKept u
  kept = kept-unrolled of.circuit of.traces of.groups of.k can.traces

  no_sources : sources_in u.definitions ≡ 0
  no_sources = sources-unrolled of.circuit of.traces of.groups of.k

  pub base-is : u.base ≡ n + starts of.k (n + 1) + 1
  base-is = base-unrolled of.circuit of.traces of.groups of.k

  owned : Owned u
  unfolding unrolled_of
  owned =
      traces-owned of.circuit (is_grouped of.groups) of.traces (unrolled_before of.circuit (base_of of.groups of.k)) refl
      (before-owned of.circuit (base_of of.groups of.k))

  held : Held (is_grouped of.groups) u
  unfolding unrolled_of
  held =
      traces-held of.circuit (is_grouped of.groups) of.traces (unrolled_before of.circuit (base_of of.groups of.k)) refl
      (before-held of.circuit (is_grouped of.groups) (base_of of.groups of.k))

  -- ---- the cycles in the form

  module _ (e : Source) (frees : FreesGrouped e (is_grouped of.groups)) where
    tie : TracesTie e of.circuit (is_grouped of.groups) frees (unrolled_before of.circuit (base_of of.groups of.k)) u of.traces
    unfolding unrolled_of
    tie =
        traces-tie e of.circuit (is_grouped of.groups) frees of.traces (unrolled_before of.circuit (base_of of.groups of.k)) can.traces.each
        (record { each = refl; outputs = omega arith; expected = omega arith })

    ends-are : length u.ends ≡ cycles_of of.traces
    ends-are = ends-all of can

    stands : (i : ℕ) (trace : Trace) → slice_get of.traces i ≡ Some trace
        → TraceStands e of.circuit (is_grouped of.groups) frees trace (first_of of.traces i) u
    stands i trace there =
        let none : 0 + first_of of.traces i ≡ first_of of.traces i = omega arith in
        subst (λ first. TraceStands e of.circuit (is_grouped of.groups) frees trace first u) none
        (tie.stands u (after-none u) i trace there)

    -- the bits that are chosen for a trace of a number
    abbrev pub chosen_in : ℕ → Chosen
    chosen_in i t = e.chosen (first_of of.traces i + t)

    abbrev OutputsOf : (ℕ → Bool) → Type 0
    OutputsOf a = (t : ℕ) → t < length u.ends → Satisfies a (words_clauses u.base (row u.expected u.each t) (row u.outputs u.each t))

    abbrev pub AllMet : Type 0
    AllMet = (i : ℕ) (trace : Trace) → slice_get of.traces i ≡ Some trace → CircuitMeets of.circuit trace e.frees (chosen_in i)

    module _ (a : ℕ → Bool) (has : HasValues a u.base e u.definitions) where
      met-from : OutputsOf a → AllMet
      met-from hold i trace there t low =
          let within : first_of of.traces i + t < length u.ends = omega (arith, low, ends-are, cycles-within of.traces i trace there) in
          cycle-right a e of.circuit u has (first_of of.traces i + t) _ _ (stands i trace there t low)
          (hold (first_of of.traces i + t) within)

      outputs-from : AllMet → OutputsOf a
      outputs-from met t within =
          let l : Located of.traces t = located of.traces t (omega (arith, within, ends-are)) in
          subst (λ m. Satisfies a (words_clauses u.base (row u.expected u.each m) (row u.outputs u.each m))) l.is
          (right-cycle a e of.circuit u has (first_of of.traces l.number + l.cycle) _ _ (stands l.number l.trace l.there l.cycle l.low)
          (met l.number l.trace l.there l.cycle l.low))

      -- the literal of a bit of an output is what it is in the run
      pub shown : (i : ℕ) (trace : Trace) → slice_get of.traces i ≡ Some trace → (t : ℕ) → t < trace.cycles
          → (o : OutputBit) (word : List Literal) (l : Literal) → slice_get of.circuit.outputs o.output ≡ Some word
          → slice_get word o.position ≡ Some l
          → literal_in a u.base (operand_at u (first_of of.traces i + t) o) ≡ value_in_cycle of.circuit trace e.frees (chosen_in i) t l
      unfolding bit_value
      shown i trace there t low o word l in_outputs in_word =
          let moment = first_of of.traces i + t in
          let s = stands i trace there t low in
          let few : o.output < u.each = omega (arith, slice_get_within of.circuit.outputs o.output word in_outputs, tie.long.each) in
          let in_row : slice_get (row u.outputs u.each moment) o.output ≡ Some (map (translated s.now) word) =
          ap (λ ws. slice_get ws o.output) s.outputs ∙ slice_get-map (map (translated s.now)) of.circuit.outputs o.output
          ∙ ap (option_map (map (translated s.now))) in_outputs in
          let in_form : slice_get u.outputs (moment * u.each + o.output) ≡ Some (map (translated s.now) word) =
          sym (slice_get-range u.outputs (moment * u.each) (moment * u.each + u.each) o.output (omega (arith, few))) ∙ in_row in
          let in_words : get_or u.outputs (moment * u.each + o.output) [] ≡ map (translated s.now) word =
          get_or_from_slice_get u.outputs (moment * u.each + o.output) (map (translated s.now) word) [] in_form in
          let at_place : slice_get (map (translated s.now) word) o.position ≡ Some (translated s.now l) =
          slice_get-map (translated s.now) word o.position ∙ ap (option_map (translated s.now)) in_word in
          let m = s.means l in
          ap (λ w. literal_in a u.base (get_or w o.position (Known false))) in_words
          ∙ ap (literal_in a u.base)
          (get_or_from_slice_get (map (translated s.now) word) o.position (translated s.now l) (Known false) at_place)
          ∙ literal-in a u.base e u.definitions has (translated s.now l) m.within ∙ m.value

  -- ---- from a model to chosen bits

  module _ (a : ℕ → Bool) (set : List ℕ) (satisfied : SatisfiesForm of a) (selects : Selects a n set) (chosen : ℕ → ℕ → ℕ → Bool)
      (alike : (moment column place bit : ℕ) → slice_get u.bits column ≡ Some (record { place = place; bit = bit })
      → chosen moment place bit ≡ model_chosen a u moment place bit) where
    abbrev pub model_source : Source
    model_source = record {
      inputs = λ input bit. false;
      states = λ state bit. false;
      frees = freed_by of.groups set;
      chosen = chosen;
    }

    pub model-grouped : FreesGrouped model_source (is_grouped of.groups)
    model-grouped place none = sym (selectors-free a of.groups set selects place) ∙ none-selected a of.groups place 1 none

    hold : CyclesHold (SatisfiesClause a) u selectors 0 0 u.ends
    unfolding form_clauses
    hold =
        cycles-say (SatisfiesClause a) u selectors 0 0 u.ends kept.ends
        (satisfies-behind a (selector_clauses n of.k) (cycles_clauses u selectors 0 0 u.ends) satisfied)

    pub model-has : HasValues a u.base model_source u.definitions
    model-has =
        definitions-from a u.base selectors model_source u.definitions kept.ordered no_sources
        (λ place. sym (selectors-free a of.groups set selects place))
        (λ i node there. hold.definitions i node (omega arith) there)
        (λ i moment place bit computed there is_free.
        let (within, own) = owned.own i moment place bit computed there in
        alike moment own.column place bit own.of_bit
        ∙ chosen-own a of.circuit can.circuit u (bits-are of can) owned i moment place bit computed there)

    pub model-met : AllMet model_source model-grouped
    model-met =
        met-from model_source model-grouped a model-has
        (λ t within.
        let here : 0 + t ≡ t = omega arith in
        subst (λ m. Satisfies a (words_clauses u.base (row u.expected u.each m) (row u.outputs u.each m))) here (hold.outputs t within))

  -- ---- from chosen bits to a model

  module _ (set : List ℕ) (chosen : ℕ → ℕ → ℕ → Bool) where
    abbrev freed : ℕ → Bool
    freed = freed_by of.groups set

    abbrev pub chosen_source : Source
    chosen_source = record {
      inputs = λ input bit. false;
      states = λ state bit. false;
      frees = freed;
      chosen = chosen;
    }

    -- the selectors of the set and the values of the definitions
    abbrev begun : ℕ → Bool
    begun v = if nat_le v n then is_member set v else get_or (values chosen_source [] u.definitions) (v - u.base) false

    begun-selects : Selects begun n set
    begun-selects i some few =
        if-true (nat_le i n) (is_member set i) (get_or (values chosen_source [] u.definitions) (i - u.base) false) (is_member set i)
        (le-leb i n few) refl

    pub chosen-grouped : FreesGrouped chosen_source (is_grouped of.groups)
    chosen-grouped place none = sym (selectors-free begun of.groups set begun-selects place) ∙ none-selected begun of.groups place 1 none

    -- with the counters that follow
    pub counted : CountsAs begun (n + 1) of.k (literals_from 1 n)
    counted = counts-as begun (n + 1) of.k (literals_from 1 n) (selectors-before n)

    abbrev pub counting : ℕ → Bool
    counting = counted.other

    same : (v : ℕ) → IsNoCounter (n + 1) of.k n v → counting v ≡ begun v
    same v outside = counted.same v (subst (λ m. IsNoCounter (n + 1) of.k m v) (sym (literals-long 1 n)) outside)

    pub chosen-selects : Selects counting n set
    chosen-selects i some few = same i (inl (omega (arith, few))) ∙ begun-selects i some few

    pub chosen-has : HasValues counting u.base chosen_source u.definitions
    chosen-has i within =
        let past : n < u.base + i = omega (arith, base-is) in
        let place : u.base + i - u.base ≡ i = omega arith in
        same (u.base + i) (inr (omega (arith, base-is)))
        ∙ if-false (nat_le (u.base + i) n) (is_member set (u.base + i))
        (get_or (values chosen_source [] u.definitions) (u.base + i - u.base) false)
        (get_or (values chosen_source [] u.definitions) i false) (lt-leb (u.base + i) n past)
        (ap (λ k. get_or (values chosen_source [] u.definitions) k false) place)

    pub chosen-satisfies : AllMet chosen_source chosen-grouped → SatisfiesForm of counting
    unfolding form_clauses
    chosen-satisfies met =
        satisfies-both counting (selector_clauses n of.k) (cycles_clauses u selectors 0 0 u.ends)
        (meets counting (n + 1) of.k (literals_from 1 n) counted.counts)
        (cycles-hold (SatisfiesClause counting) u selectors 0 0 u.ends kept.ends (record {
          definitions = λ i node from there.
              definitions-to counting u.base selectors chosen_source u.definitions kept.ordered no_sources
              (λ place. sym (selectors-free counting of.groups set chosen-selects place)) chosen-has i node there;
          outputs = λ t within.
              let here : t ≡ 0 + t = omega arith in
              subst (λ m. Satisfies counting (words_clauses u.base (row u.expected u.each m) (row u.outputs u.each m))) here
              (outputs-from chosen_source chosen-grouped counting chosen-has met t within);
        }))

    pub chosen-bound : (j : ℕ) → j ≤ of.k → length set ≤ j → MeetsBoundAt of j counting
    chosen-bound j size few more =
        let long : length (literals_from 1 n) ≡ n = literals-long 1 n in
        ap (λ m. counting (at_least (n + 1) of.k m (j + 1))) (sym long)
        ∙ few-bound (n + 1) of.k (literals_from 1 n) begun (selectors-before n) counted j size (omega (arith, more, long))
        (omega (arith, selected-few begun n set begun-selects, few))

    -- the literal of a bit of a freed place is the bit that is chosen
    pub chosen-shown : (moment column place bit : ℕ) → moment < length u.ends
        → slice_get u.bits column ≡ Some (record { place = place; bit = bit }) → is_grouped of.groups place ≡ true → freed place ≡ true
        → literal_in counting u.base (get_or (get_or u.frees moment []) column (Known false)) ≡ chosen moment place bit
    chosen-shown moment column place bit within there grouped free =
        let d = held.defined moment column place bit (omega (arith, within, held.rows)) there grouped in
        let here : 0 + d.number ≡ d.number = omega arith in
        ap (literal_in counting u.base) d.is
        ∙ chosen-has d.number (slice_get_within u.definitions d.number (Free moment place bit d.computed) d.there)
        ∙ ap (λ k. get_or (values chosen_source [] u.definitions) k false) (sym here)
        ∙ chosen-value chosen_source u.definitions [] d.number moment place bit d.computed d.there free
