-- Values that work by functions have a model of the form with pairs.
use Rattle.std.proofs.Common.{◌≡◌, ℕ, ◌+◌, ◌<◌, ◌≤◌, ◌^◌, Bool, true, false, List, length, map, Some, sym, ◌∙◌, ap, arith, add-one}
use Rattle.std.specs.Prelude.{Contains, min, slice_get}
use Rattle.std.proofs.Math.Path.{fun_ext}
use Rattle.std.proofs.lemmas.Option.{slice_get_within}
use Rattle.loc_base.proofs.ShelfLists.{slice_get-some}
use Rattle.design_core.specs.declared.design.Design.{Design}
use Rattle.design_core.specs.declared.place.Place.{Place}
use Rattle.design_core.specs.declared.trace.Trace.{Trace}
use Rattle.design_core.specs.Valuation.{Valuation, bit, width_at}
use Rattle.design_core.specs.Reads.{AgreeOn}
use Rattle.design_core.specs.Run.{start_state}
use Rattle.design_core.specs.Works.{Groups}
use Rattle.design_core.proofs.NumberLaws.{number-below}
use Rattle.suspect_map.specs.declared.group.Group.{Group}
use Rattle.card_counter.specs.Places.{starts, at_least}
use Rattle.card_counter.proofs.Said.{satisfies-both}
use Rattle.clause_form.specs.Clauses.{form_clauses}
use Rattle.unroller.specs.Meaning.{FreesGrouped}
use Rattle.unroller.specs.Unrolls.{Unrolling, is_grouped, variables_of}
use Rattle.form_laws.specs.Models.{literal_in, column_of}
use Rattle.form_laws.specs.Encodes.{Asked, unrolling_of, SatisfiesForm}
use Rattle.form_laws.proofs.Definitions.{HasValues}
use Rattle.form_laws.proofs.Columns.{column-there}
use Rattle.form_laws.proofs.DesignWorks.{meets-alike-design}
use Rattle.form_laws.proofs.Equivalence.{bits-are, is-within}
use Rattle.form_laws.proofs.Moments.{first_of, Located, located}
use Rattle.form_laws.proofs.Selecting.{selectors-free}
use Rattle.place_functions.specs.Operands.{is_operand}
use Rattle.place_functions.specs.Functions.{IsMoment, WorksByFunctions}
use Rattle.place_functions.proofs.OperandsWithin.{operand-below}
use Rattle.pair_form.specs.declared.pair.Pair.{Pair}
use Rattle.pair_form.specs.declared.compared.OutputBit.{OutputBit}
use Rattle.pair_form.specs.declared.compared.Compared.{Compared}
use Rattle.pair_form.specs.Pairs.{pairs_clauses}
use Rattle.pair_form.specs.Following.{Follows, OfPairs, GoesOn}
use Rattle.pair_form.specs.AllPairs.{operand_at, bit_at, pair_at, all_pairs}
use Rattle.pair_form.proofs.PairsMean.{adds-following}
use Rattle.function_laws.specs.Encoded.{OfFunctions, CanCompare, IsCompared, IsEncodedByFunctions}
use Rattle.function_laws.proofs.PairLists.{all-all}
use Rattle.function_laws.proofs.SelectorsOn.{member-satisfies}
use Rattle.function_laws.proofs.Words.{map-at, bits-same, satisfies-same, pasted, pasted-at, pasted-below, run-again}
use Rattle.function_laws.proofs.Models.{kept, base-is, counting, chosen-has, chosen-grouped, chosen-satisfies, chosen-bound, chosen-selects, chosen-shown}
use Rattle.function_laws.proofs.Picked.{askable, ends, fits, all-are, is-compared, in-group, in-trace, tells, freed, bits, picked, source, AllWide, AllRuns}

module _ (of : OfFunctions) (can : CanCompare of) where
  abbrev d : Design
  d = of.form.design

  abbrev asked : Asked
  asked = of.form.asked

  abbrev groups : List Group
  groups = asked.groups

  abbrev traces : List Trace
  traces = asked.traces

  abbrev u : Unrolling
  u = unrolling_of asked

  abbrev places : Groups
  places = map (λ (group : Group). group.places) groups

  abbrev pairs : List Pair
  pairs = all_pairs u groups of.compared

  -- ---- from functions to a model

  module _ (set : List ℕ) (work : WorksByFunctions d traces places set) where
    abbrev paste : ℕ → ℕ → ℕ
    paste moment p = pasted traces work.chosen moment p

    abbrev model : ℕ → Bool
    model = counting asked (askable of can) set ((bits of can) set paste)

    grouped-back : FreesGrouped ((source of can) set paste) (is_grouped groups)
    grouped-back = chosen-grouped asked (askable of can) set ((bits of can) set paste)

    has-back : HasValues model u.base ((source of can) set paste) u.definitions
    has-back = chosen-has asked (askable of can) set ((bits of can) set paste)

    some-power : (w : ℕ) → 0 < 2 ^ w
    some-power w = let below = number-below w (λ b. false) in omega (arith, below)

    wide-back : (AllWide of can) set paste
    wide-back i trace at t p place there free =
        pasted-below traces work.chosen p (2 ^ place.width) (some-power place.width)
        (λ k other in_traces cycle. work.explains.widths k other in_traces cycle p place there free) (first_of traces i + t)

    are-back : (AllRuns of can) set paste work.runs
    are-back i trace there =
        run-again d trace ((freed of can) set paste) (work.chosen i) ((picked of can) set paste i)
        (λ t low. fun_ext (λ p. sym (pasted-at traces work.chosen i trace there t low p))) (work.runs i) 0 (start_state d)
        (work.explains.are_runs i trace there)

    satisfies : SatisfiesForm asked model
    satisfies =
        chosen-satisfies asked (askable of can) set ((bits of can) set paste)
        (λ i trace there.
        (meets-alike-design of.form can.form trace ((freed of can) set paste) ((picked of can) set paste i) ((fits of can) i trace there) (wide-back i trace there)).1
        (work.runs i, are-back i trace there, work.explains.right i trace there))

    -- the literal of a bit of a freed place is that bit of the place's value
    bit-shown : (s p b : ℕ) (place : Place) → s < length u.ends → slice_get d.places.items p ≡ Some place → b < place.width
        → (freed of can) set paste p ≡ true → literal_in model u.base (bit_at u s p b) ≡ bit (paste s p) b
    bit-shown s p b place within there below free =
        let (column, in_circuit) = can.bits p b place there below in
        let in_form = ap (λ bs. slice_get bs column) (bits-are asked (askable of can)) ∙ in_circuit in
        chosen-shown asked (askable of can) set ((bits of can) set paste) s (column_of u.bits p b) p b within (column-there u.bits column p b in_form)
        ((in-group of can) set paste grouped-back p free) free

    -- a cycle of all, with its valuation
    record At (s : ℕ) : Type 0 where
      place : Located traces s
      V : Valuation
      moment : IsMoment traces work.runs place.number place.cycle V

    at-cycle : (s : ℕ) → s < length u.ends → At s
    at-cycle s within =
        let l : Located traces s = located traces s (omega (arith, within, (ends of can))) in
        let long = (in-trace of can) set paste grouped-back model has-back work.runs wide-back are-back l.number l.trace l.there in
        let (V, there) = slice_get-some (work.runs l.number) l.cycle (omega (arith, long, l.low)) in
        record {
          place = l;
          V = V;
          moment = record { in_traces = slice_get_within traces l.number l.trace l.there; there = there };
        }

    at-tells : (s : ℕ) (at : At s) (o : OutputBit) (signal : ℕ) → slice_get d.outputs.items o.output ≡ Some signal
        → o.position < width_at d.signals.items signal → literal_in model u.base (operand_at u s o) ≡ at.V signal o.position
    at-tells s at o signal in_design below =
        ap (λ m. literal_in model u.base (operand_at u m o)) (sym at.place.is)
        ∙ (tells of can) set paste grouped-back model has-back work.runs wide-back are-back at.place.number at.place.cycle at.V at.moment o signal in_design below

    at-picks : (s : ℕ) (at : At s) (p : ℕ) → paste s p ≡ work.chosen at.place.number at.place.cycle p
    at-picks s at p =
        ap (λ m. paste m p) (sym at.place.is)
        ∙ pasted-at traces work.chosen at.place.number at.place.trace at.place.there at.place.cycle at.place.low p

    follows : (c : Compared) (s t : ℕ) → Contains of.compared c → s < t → t < length u.ends → Follows u.base model (pair_at u groups c s t)
    follows c s t member apart below x selected on same =
        bits-same (literal_in model u.base) u s t c.place 0 c.width
        (λ b low high.
        let in_width : b < compared.place.width = omega (arith, high, compared.width) in
        bit-shown s c.place b compared.place before compared.there in_width free
        ∙ ap (λ n. bit n b) equal ∙ sym (bit-shown t c.place b compared.place below compared.there in_width free))
      where
        compared : IsCompared d c
        compared = (is-compared of can) c member

        before : s < length u.ends
        before = omega (arith, apart, below)

        free : (freed of can) set paste c.place ≡ true
        free =
            sym (selectors-free model groups set (chosen-selects asked (askable of can) set ((bits of can) set paste)) c.place)
            ∙ member-satisfies model c.place groups 1 x selected on

        one : At s
        one = at-cycle s before

        other : At t
        other = at-cycle t below

        agree : AgreeOn (is_operand d c.place) one.V other.V
        agree = record {
          same = λ signal position reads.
              let (o, in_operands, of_bit) = compared.all signal position reads in
              let within = operand-below d c.place signal position can.form.well_formed reads in
              let low : o.position < width_at d.signals.items signal = omega (arith, within, of_bit.at) in
              ap (one.V signal) (sym of_bit.at) ∙ sym (at-tells s one o signal of_bit.output low)
              ∙ map-at (literal_in model u.base) (operand_at u s) (operand_at u t) c.operands same o in_operands
              ∙ at-tells t other o signal of_bit.output low ∙ ap (other.V signal) of_bit.at;
        }

        equal : paste s c.place ≡ paste t c.place
        equal =
            at-picks s one c.place
            ∙ work.explains.functions c.place free compared.bound one.place.number one.place.cycle other.place.number other.place.cycle one.V
            other.V one.moment other.moment agree ∙ sym (at-picks t other c.place)

    abbrev of_pairs : OfPairs
    of_pairs = record { base = u.base; definitions = u.definitions; source = (source of can) set paste; assignment = model; pairs = pairs }

    goes : GoesOn of_pairs
    goes =
        (adds-following of_pairs (record { ordered = (kept asked (askable of can)).ordered; gives = has-back; pairs = (all-are of can) })).some
        (all-all u groups (Follows u.base model) of.compared follows)

    counter-below : (j : ℕ) → j ≤ asked.k → j < length groups → at_least (length groups + 1) asked.k (length groups) (j + 1) < u.base
    counter-below j size more =
        let n = length groups in
        let next : starts asked.k (n + 1) ≡ starts asked.k n + min n (asked.k + 1) = ap (starts asked.k) (add-one n) in
        omega (arith, size, more, next, base-is asked (askable of can))

    pub encoded : (j : ℕ) → j ≤ asked.k → length set ≤ j → IsEncodedByFunctions asked of.compared j set
    encoded j size few = record {
      assignment = goes.further;
      satisfies = satisfies-both goes.further (form_clauses u groups asked.k) (pairs_clauses u.base u.definitions pairs)
          (satisfies-same goes.further model (variables_of u) (λ v low. goes.same v (omega (arith, low, base-is asked (askable of can))))
          (form_clauses u groups asked.k) (is-within asked (askable of can)) satisfies)
          goes.satisfies;
      bound = λ more.
          let below = counter-below j size more in
          goes.same (at_least (length groups + 1) asked.k (length groups) (j + 1)) (omega (arith, below))
          ∙ chosen-bound asked (askable of can) set ((bits of can) set paste) j size few more;
      selects = λ i some low.
          goes.same i (omega (arith, low, base-is asked (askable of can))) ∙ chosen-selects asked (askable of can) set ((bits of can) set paste) i some low;
    }
