-- What a model of a form with pairs chooses works by functions.
use Rattle.std.proofs.Common.{◌≡◌, ◌⊎◌, inl, inr, ℕ, ◌+◌, ◌<◌, ◌≤◌, ◌^◌, Bool, true, List, [], length, map, Option, Some, None, sym, ◌∙◌, ap, subst, arith}
use Rattle.std.specs.Prelude.{All, Contains, IsTrue, slice_get}
use Rattle.std.proofs.lemmas.Bool.{cases_lt}
use Rattle.std.proofs.lemmas.List.Elements.{All-contains}
use Rattle.design_core.specs.declared.design.Design.{Design}
use Rattle.design_core.specs.declared.trace.Trace.{Trace}
use Rattle.design_core.specs.Valuation.{Valuation, number}
use Rattle.design_core.specs.Reads.{AgreeOn}
use Rattle.design_core.specs.Explained.{place_width}
use Rattle.design_core.specs.Run.{IsRun, IsRightThroughout}
use Rattle.design_core.specs.Works.{Groups}
use Rattle.design_core.proofs.NumberLaws.{number-below, number-same}
use Rattle.design_core.proofs.RunLaws.{run-exists, run-right}
use Rattle.synth_parts.proofs.Base.{bit-number}
use Rattle.suspect_map.specs.declared.group.Group.{Group}
use Rattle.clause_base.specs.Satisfaction.{Satisfies}
use Rattle.card_counter.proofs.Said.{satisfies-front, satisfies-behind}
use Rattle.clause_form.specs.Clauses.{form_clauses}
use Rattle.unroller.specs.Meaning.{FreesGrouped}
use Rattle.unroller.specs.Unrolls.{Unrolling, is_grouped}
use Rattle.form_laws.specs.Models.{literal_in}
use Rattle.form_laws.specs.Encodes.{Asked, unrolling_of, SatisfiesForm}
use Rattle.form_laws.proofs.Definitions.{HasValues}
use Rattle.form_laws.proofs.Columns.{model_chosen}
use Rattle.form_laws.proofs.DesignWorks.{meets-alike-design}
use Rattle.form_laws.proofs.Equivalence.{bits-are}
use Rattle.form_laws.proofs.Moments.{first_of}
use Rattle.form_laws.proofs.Selecting.{selectors-free}
use Rattle.place_functions.specs.Operands.{is_operand, is_bound}
use Rattle.place_functions.specs.Functions.{IsMoment, IsFunction, WorksByFunctions}
use Rattle.place_functions.proofs.OperandsWithin.{operand-below}
use Rattle.pair_form.specs.declared.pair.Pair.{Pair}
use Rattle.pair_form.specs.declared.compared.Compared.{Compared}
use Rattle.pair_form.specs.Pairs.{pairs_clauses}
use Rattle.pair_form.specs.Following.{Follows}
use Rattle.pair_form.specs.AllPairs.{operand_at, pair_at, all_pairs}
use Rattle.pair_form.proofs.PairsMean.{pairs-say}
use Rattle.function_laws.specs.Encoded.{OfFunctions, CanCompare, IsEncodedByFunctions}
use Rattle.function_laws.proofs.PairLists.{all-there}
use Rattle.function_laws.proofs.SelectorsOn.{IsOn, satisfied-member}
use Rattle.function_laws.proofs.Words.{map-same, bits-at}
use Rattle.function_laws.proofs.Models.{kept, model-has, model-grouped, model-met}
use Rattle.function_laws.proofs.Picked.{askable, fits, width-is, has-bit, all-are, is-compared, in-group, tells, moment-within, freed, bits, picked, source, AllWide, AllRuns}

module _ (of : OfFunctions) (can : CanCompare of) where
  abbrev d : Design
  d = of.form.design

  abbrev asked : Asked
  asked = of.form.asked

  abbrev groups : List Group
  groups = asked.groups

  abbrev traces : List Trace
  traces = asked.traces

  abbrev u : Unrolling
  u = unrolling_of asked

  abbrev places : Groups
  places = map (λ (group : Group). group.places) groups

  abbrev pairs : List Pair
  pairs = all_pairs u groups of.compared

  -- ---- from a model to functions

  module _ (j : ℕ) (set : List ℕ) (is : IsEncodedByFunctions asked of.compared j set) where
    abbrev a : ℕ → Bool
    a = is.assignment

    in_form : SatisfiesForm asked a
    in_form = satisfies-front a (form_clauses u groups asked.k) (pairs_clauses u.base u.definitions pairs) is.satisfies

    in_pairs : Satisfies a (pairs_clauses u.base u.definitions pairs)
    in_pairs = satisfies-behind a (form_clauses u groups asked.k) (pairs_clauses u.base u.definitions pairs) is.satisfies

    abbrev pick : ℕ → ℕ → ℕ
    pick moment p = number (place_width d p) (model_chosen a u moment p)

    alike : (moment column place b : ℕ) → slice_get u.bits column ≡ Some (record { place = place; bit = b })
        → (bits of can) set pick moment place b ≡ model_chosen a u moment place b
    alike moment column place b there =
        let (p, in_places, below) =
        can.form.circuit.places column (record { place = place; bit = b }) (ap (λ bs. slice_get bs column) (sym (bits-are asked (askable of can))) ∙ there) in
        bit-number (place_width d place) (model_chosen a u moment place) b (omega (arith, below, (width-is of can) place p in_places))

    grouped : FreesGrouped ((source of can) set pick) (is_grouped groups)
    grouped = model-grouped asked (askable of can) a set in_form is.selects ((bits of can) set pick) alike

    has : HasValues a u.base ((source of can) set pick) u.definitions
    has = model-has asked (askable of can) a set in_form is.selects ((bits of can) set pick) alike

    wide : (AllWide of can) set pick
    wide i trace at t p place there free =
        subst (λ w. (picked of can) set pick i t p < 2 ^ w) ((width-is of can) p place there)
        (number-below (place_width d p) (model_chosen a u (first_of traces i + t) p))

    abbrev run_of : ℕ → Option Trace → List Valuation
    run_of i None = []
    run_of i (Some trace) =
        (run-exists d of.form.order can.form.well_formed can.form.once can.form.order trace ((freed of can) set pick) ((picked of can) set pick i)).0

    abbrev runs : ℕ → List Valuation
    runs i = run_of i (slice_get traces i)

    are : (AllRuns of can) set pick runs
    are i trace there =
        subst (λ o. IsRun d trace ((freed of can) set pick) ((picked of can) set pick i) (run_of i o)) (sym there)
        (run-exists d of.form.order can.form.well_formed can.form.once can.form.order trace ((freed of can) set pick) ((picked of can) set pick i)).1

    right : (i : ℕ) (trace : Trace) → slice_get traces i ≡ Some trace → IsRightThroughout d trace (runs i)
    right i trace there =
        run-right d of.form.order can.form.well_formed can.form.order trace ((freed of can) set pick) ((picked of can) set pick i) (runs i) (are i trace there)
        ((meets-alike-design of.form can.form trace ((freed of can) set pick) ((picked of can) set pick i) ((fits of can) i trace there) (wide i trace there)).0
        (model-met asked (askable of can) a set in_form is.selects ((bits of can) set pick) alike i trace there))

    follow : All (Follows u.base a) pairs
    follow = pairs-say a u.base ((source of can) set pick) u.definitions pairs (kept asked (askable of can)).ordered has (all-are of can) in_pairs

    -- a place that is compared has the same bits where its operands are the same
    forward : (c : Compared) → Contains of.compared c → (s t : ℕ) → s < t → t < length u.ends → (freed of can) set pick c.place ≡ true
        → map (literal_in a u.base) (map (operand_at u s) c.operands) ≡ map (literal_in a u.base) (map (operand_at u t) c.operands)
        → (b : ℕ) → b < c.width → model_chosen a u s c.place b ≡ model_chosen a u t c.place b
    forward c member s t apart below free same b low =
        let on : IsOn a _ = satisfied-member a c.place groups 1 (selectors-free a groups set is.selects c.place ∙ free) in
        let follows = All-contains (Follows u.base a) pairs (pair_at u groups c s t) follow (all-there u groups of.compared c s t member apart below) in
        let zero_more : 0 + b ≡ b = omega arith in
        subst (λ n. model_chosen a u s c.place n ≡ model_chosen a u t c.place n) zero_more
        (bits-at (literal_in a u.base) u s t c.place 0 c.width b (follows on.x on.member on.on same) low)

    -- so has any bound place of the set's
    earlier : (p : ℕ) → (freed of can) set pick p ≡ true → is_bound d p ≡ true → (i t k v : ℕ) (V W : Valuation) → IsMoment traces runs i t V
        → IsMoment traces runs k v W → AgreeOn (is_operand d p) V W → first_of traces i + t < first_of traces k + v
        → (b : ℕ) → b < place_width d p
        → model_chosen a u (first_of traces i + t) p b ≡ model_chosen a u (first_of traces k + v) p b
    earlier p free bound i t k v V W one other agree apart b low =
        let here = (has-bit of can) p b low in
        let (c, member, at) = can.each p here.place here.there bound ((in-group of can) set pick grouped p free) in
        let compared = (is-compared of can) c member in
        let of_place : place_width d c.place ≡ c.width = (width-is of can) c.place compared.place compared.there ∙ sym compared.width in
        let wide_as : place_width d c.place ≡ place_width d p = ap (place_width d) at in
        let s = first_of traces i + t in
        let r = first_of traces k + v in
        subst (λ q. model_chosen a u s q b ≡ model_chosen a u r q b) at
        (forward c member s r apart ((moment-within of can) set pick grouped a has runs wide are k v W other) (ap ((freed of can) set pick) at ∙ free)
        (map-same (literal_in a u.base) (operand_at u s) (operand_at u r) c.operands
        (λ o in_operands.
        let (signal, of_bit, reads) = compared.only o in_operands in
        let below = operand-below d c.place signal o.position can.form.well_formed reads in
        (tells of can) set pick grouped a has runs wide are i t V one o signal of_bit.output below
        ∙ agree.same signal o.position (ap (λ q. is_operand d q signal o.position) (sym at) ∙ reads)
        ∙ sym ((tells of can) set pick grouped a has runs wide are k v W other o signal of_bit.output below)))
        b (omega (arith, low, of_place, wide_as)))

    functions : (p : ℕ) → IsTrue ((freed of can) set pick p) → is_bound d p ≡ true → IsFunction d traces ((picked of can) set pick) runs p
    functions p free bound i t k v V W one other agree =
        number-same (place_width d p) (model_chosen a u s p) (model_chosen a u r p)
        (λ b low. by b low (cases_lt s r) (cases_lt r s))
      where
        s : ℕ
        s = first_of traces i + t

        r : ℕ
        r = first_of traces k + v

        by : (b : ℕ) → b < place_width d p → (s < r) ⊎ (r ≤ s) → (r < s) ⊎ (s ≤ r) → model_chosen a u s p b ≡ model_chosen a u r p b
        by b low (inl before) behind = earlier p free bound i t k v V W one other agree before b low
        by b low (inr past) (inl before) =
            sym (earlier p free bound k v i t W V other one (record { same = λ x y reads. sym (agree.same x y reads) }) before b low)
        by b low (inr past) (inr not_past) =
            let same : s ≡ r = omega (arith, past, not_past) in ap (λ m. model_chosen a u m p b) same

    pub works : WorksByFunctions d traces places set
    works = record {
      chosen = (picked of can) set pick;
      runs = runs;
      explains = record { widths = wide; are_runs = are; right = right; functions = functions };
    }
