-- An engine from one step of a search to the next.
use Rattle.std.proofs.Common.{◌≡◌, ℕ, ◌+◌, ◌-◌, ◌*◌, ◌^◌, ◌<◌, ◌≤◌, suc, Bool, true, false, not, cond, List, [], ◌∷◌, ◌++◌, map, length, get_or, take, Option, Some, None, Result, Ok, Err, refl, sym, ap, ◌∙◌, subst, arith, ◌⊎◌, inl, inr, ⊎_elim}
use Rattle.std.specs.Prelude.{is_none, IsSome}
use Rattle.std.specs.List.{All}
use Rattle.std.specs.Option.{option_and_then}
use Rattle.std.proofs.lemmas.Bool.{false≢true, both_ways, cases_lt, or_cases}
use Rattle.std.proofs.lemmas.List.{take_at, take_all, take-append-le, drop_at, length_push, length-take-le, get_or_push}
use Rattle.std.proofs.Math.Nat.{add-mul}
use Rattle.std.proofs.lemmas.List.Elements.{All-drop}
use Rattle.loc_base.specs.declared.memory.NoMemory.{NoMemory}
use Rattle.clause_base.specs.declared.literal.Lit.{Lit}
use Rattle.clause_base.specs.declared.log.Step.{Step}
use Rattle.clause_base.specs.declared.log.StepKind.TheVariants.{Learned as learned_kind, Derived as derived_kind}
use Rattle.clause_base.specs.Literal.{opposite, same_lit, has, has_distinct_variables, IsWithin, AreWithin}
use Rattle.clause_base.specs.Steps.{step_at, no_step}
use Rattle.clause_base.specs.Acceptance.{clauses_of, IsAcceptedChain}
use Rattle.clause_base.proofs.Accepted.{clauses_of-push, length-clauses_of}
use Rattle.clause_base.proofs.Sets.{lit_ext, same_lit-true, opposite-opposite, has-IsConsistent}
use Rattle.trail_core.specs.declared.entry.Entry.{Entry}
use Rattle.trail_core.specs.Values.{IsTrueIn}
use Rattle.trail_core.specs.TrailState.{TrailState, IsTrail, Propagates, with_clause, with_decision, back_at, entry_of, values_of, reason_in, is_decision}
use Rattle.trail_core.proofs.Truth.{IsMapped, mapped, values-up_to_some}
use Rattle.sat_core.specs.declared.engine.Engine.{Engine}
use Rattle.sat_core.specs.declared.verdict.Verdict.{Verdict}
use Rattle.sat_core.specs.declared.verdict.Verdict.TheVariants as verdict
use Rattle.sat_core.specs.SolverState.{SolverState}
use Rattle.sat_core.specs.Outcome.{Grows, IsRefuted, Says, closings_of, closings}
use Rattle.sat_core.specs.Derivation.{IsDenied}
use Rattle.sat_core.specs.Choices.{choice_at, no_literal, AreChosen, MayChoose, IsContrary}
use Rattle.sat_core.specs.Engines.{IsFit, LearnsStep, Learned, KeptLog, same, step}
use Rattle.sat_core.specs.Searching.{form_of, state_of, IsReady, IsUnderWay, IsAtStart, Keeps, DerivesStep, Ends, measure, GoesOn, StepGives, closings_at}
use Rattle.sat_core.proofs.Growing.{IsLogged, logged, solver_from, IsLogged-push, Grows-none, Grows-learned, Grows-trans, Grows-length}
use Rattle.sat_core.proofs.Sets.{not_both}
use Rattle.sat_core.proofs.OrderLemmas.{choice_assume, contrary_member}
use Rattle.sat_core.proofs.Tracking.{IsEntryAt, entry_at}
use Rattle.sat_core.proofs.Resolving.{no_entry}
use Rattle.sat_core.proofs.Chosen.{decision_level_bounds, AreChosen-decide, AreChosen-back, AreChosen-propagates}

-- the form is as long as the engine says
form_length : (e : Engine) (log : List Step) → IsReady e log → length (form_of e) ≡ e.form_len
form_length e log r = length-take-le e.form_len e.trail.clauses r.own

-- the form stays, where the clauses still begin with it
pub form_kept : (old new : Engine) (log more : List Step) → IsReady old log → new.form_len ≡ old.form_len → new.trail.clauses ≡ clauses_of (form_of old) more → form_of new ≡ form_of old
form_kept old new log more r n c =
    ap (λ k. take k new.trail.clauses) n
    ∙ (ap (take old.form_len) c ∙ take_at (form_of old) (map (λ (s : Step). s.clause) more) old.form_len (form_length old log r))

-- what stays of an engine, but for its trail and what it knows
pub record StaysFit (old new : Engine) : Type 0 where
  pub fit : IsFit new
  pub vars : new.trail.vars ≡ old.trail.vars
  pub size : new.form_len ≡ old.form_len
  pub preferred : new.preferred.items ≡ old.preferred.items
  pub model : length new.model.items ≡ length old.model.items

pub StaysFit-from : (old new : Engine) → IsFit new → new.trail.vars ≡ old.trail.vars → new.form_len ≡ old.form_len → new.preferred ≡ old.preferred → new.model ≡ old.model → StaysFit old new
StaysFit-from old new h v n p m = record { fit = h; vars = v; size = n; preferred = ap (λ x. x.items) p; model = ap (λ x. length x.items) m }

pub stays : (e : Engine) (log : List Step) → IsReady e log → StaysFit e e
stays e log r = record { fit = r.fit; vars = refl; size = refl; preferred = refl; model = refl }

pub Keeps-from : (old new : Engine) (log more : List Step) → IsReady old log → StaysFit old new → new.trail.clauses ≡ clauses_of (form_of old) more → Keeps old new
Keeps-from old new log more r s c = record { vars = s.vars; size = s.size; form = form_kept old new log more r s.size c; preferred = s.preferred }

-- an engine that is ready again, with a log that is accepted
pub IsReady-from : (old new : Engine) (log after : List Step) → IsReady old log → StaysFit old new → new.known ≤ length after → new.trail.clauses ≡ clauses_of (form_of old) (take new.known after) → IsLogged old.trail.vars (form_of old) after → IsReady new after
IsReady-from old new log after r s k c l =
    let f : form_of new ≡ form_of old = form_kept old new log (take new.known after) r s.size c in
    record {
      fit = s.fit;
      own = omega (arith, s.size, form_length old log r, ap length c, length-clauses_of (form_of old) (take new.known after));
      known = k;
      pace = c ∙ ap (λ cs. clauses_of cs (take new.known after)) (sym f);
      preferred = subst (All (λ v. (1 ≤ v) × (v ≤ new.trail.vars))) (sym s.preferred) (subst (λ n. All (λ v. (1 ≤ v) × (v ≤ n)) old.preferred.items) (sym s.vars) r.preferred);
      few = omega (arith, ap length s.preferred, r.few);
      size = s.model ∙ (r.size ∙ sym s.vars);
      solver = solver_from (state_of new after) (subst (λ cs. IsLogged new.trail.vars cs after) (sym f) (subst (λ n. IsLogged n (form_of old) after) (sym s.vars) l));
    }

-- the same, where neither the clauses nor the log changed
pub IsReady-same : (old new : Engine) (log after : List Step) → IsReady old log → StaysFit old new → new.trail.clauses ≡ old.trail.clauses → new.known ≡ old.known → after ≡ log → IsReady new after
IsReady-same old new log after r s c k e = subst (IsReady new) (sym e)
    (IsReady-from old new log log r s (omega (arith, k, r.known)) (c ∙ (r.pace ∙ ap (λ n. clauses_of (form_of old) (take n log)) (sym k))) (logged (state_of old log) r.solver))

-- the same, with a step more in the log alone
pub IsReady-pushed : (old new : Engine) (log after : List Step) (s : Step) → IsReady old log → StaysFit old new → new.trail.clauses ≡ old.trail.clauses → new.known ≡ old.known → after ≡ log ++ s ∷ [] → IsLogged old.trail.vars (form_of old) after → IsReady new after
IsReady-pushed old new log after s r f c k e l =
    let front : take new.known after ≡ take old.known log = ap (λ n. take n after) k ∙ (ap (take old.known) e ∙ take-append-le old.known log (s ∷ []) r.known) in
    IsReady-from old new log after r f (omega (arith, k, r.known, ap length e, length_push log s)) (c ∙ (r.pace ∙ ap (clauses_of (form_of old)) (sym front))) l

-- the trail has the clauses of all steps
pub whole_clauses : (e : Engine) (log : List Step) (assume : List Lit) → IsUnderWay e log assume → e.trail.clauses ≡ clauses_of (form_of e) log
whole_clauses e log assume u = u.ready.pace ∙ (ap (λ n. clauses_of (form_of e) (take n log)) u.whole ∙ ap (clauses_of (form_of e)) (take_all (length log) log (omega arith)))

-- a learned step leaves the log accepted
pub logged_learned : (e : Engine) (log after : List Step) (assume : List Lit) (literals : List Lit) (chain : List ℕ) → IsUnderWay e log assume → LearnsStep e.trail log after literals chain → IsLogged e.trail.vars (form_of e) after
logged_learned e log after assume literals chain u r =
    IsLogged-push e.trail.vars (form_of e) log after record { kind = learned_kind; clause = literals; chain = chain } (logged (state_of e log) u.ready.solver) refl (subst (λ cs. IsAcceptedChain cs chain literals) (whole_clauses e log assume u) r.accepted) r.within r.distinct r.step

-- a derived step leaves the log accepted
pub logged_derived : (e : Engine) (head : List Lit) (log after : List Step) (assume : List Lit) → IsUnderWay e log assume → DerivesStep e.trail head log after → IsLogged e.trail.vars (form_of e) after
logged_derived e head log after assume u r =
    IsLogged-push e.trail.vars (form_of e) log after record { kind = derived_kind; clause = r.literals; chain = r.chain } (logged (state_of e log) u.ready.solver) refl (subst (λ cs. IsAcceptedChain cs r.chain r.literals) (whole_clauses e log assume u) r.denies.accepted) r.denies.within r.denies.distinct r.step

-- the clauses after one was learned
pub learned_clauses : (old new : Engine) (log after : List Step) (assume : List Lit) → IsUnderWay old log assume → Learned old new log after → new.trail.clauses ≡ clauses_of (form_of old) after
learned_clauses old new log after assume u r =
    ap (λ (t : TrailState). t.clauses) r.trail ∙ (ap (λ cs. cs ++ r.literals ∷ []) (whole_clauses old log assume u)
    ∙ (sym (clauses_of-push (form_of old) log record { kind = learned_kind; clause = r.literals; chain = r.chain }) ∙ ap (clauses_of (form_of old)) (sym r.learns.step)))

learned_known : (old new : Engine) (log after : List Step) (assume : List Lit) → IsUnderWay old log assume → Learned old new log after → new.known ≡ length after
learned_known old new log after assume u r = omega (arith, r.known, u.whole, ap length r.learns.step, length_push log record { kind = learned_kind; clause = r.literals; chain = r.chain })

-- the engine after a clause was learned
pub IsReady-learned : (old new : Engine) (log after : List Step) (assume : List Lit) → IsUnderWay old log assume → StaysFit old new → Learned old new log after → IsReady new after
IsReady-learned old new log after assume u s r =
    let k = learned_known old new log after assume u r in
    let front : take new.known after ≡ after = take_all new.known after (omega (arith, k)) in
    IsReady-from old new log after u.ready s (omega (arith, k)) (learned_clauses old new log after assume u r ∙ ap (clauses_of (form_of old)) (sym front)) (logged_learned old log after assume r.literals r.chain u r.learns)

AreChosen-with_clause : (t : TrailState) (c : List Lit) (assume : List Lit) (preferred chosen : List ℕ) → AreChosen t assume preferred chosen → AreChosen (with_clause t c) assume preferred chosen
AreChosen-with_clause t c assume preferred chosen a = record { count = a.count; within = a.within; choice = a.choice; before = a.before }

-- the same, as the parts of an engine are given
AreChosen-at : (t u : TrailState) (assume : List Lit) (preferred preferred' chosen chosen' : List ℕ) → u ≡ t → preferred' ≡ preferred → chosen' ≡ chosen → AreChosen t assume preferred chosen → AreChosen u assume preferred' chosen'
AreChosen-at t u assume preferred preferred' chosen chosen' p q r a =
    subst (λ x. AreChosen x assume preferred' chosen') (sym p) (subst (λ x. AreChosen t assume x chosen') (sym q) (subst (AreChosen t assume preferred) (sym r) a))

pub IsUnderWay-learned : (old new : Engine) (log after : List Step) (assume : List Lit) → IsUnderWay old log assume → StaysFit old new → Learned old new log after → IsUnderWay new after assume
IsUnderWay-learned old new log after assume u s r = record {
  ready = IsReady-learned old new log after assume u s r;
  whole = learned_known old new log after assume u r;
  chosen = AreChosen-at (with_clause (back_at old.trail r.level) r.literals) new.trail assume old.preferred.items new.preferred.items (take r.level old.chosen.items) new.chosen.items r.trail s.preferred r.chosen
      (AreChosen-with_clause (back_at old.trail r.level) r.literals assume old.preferred.items (take r.level old.chosen.items)
      (AreChosen-back old.trail assume old.preferred.items old.chosen.items r.level u.ready.fit.trail (omega (arith, r.lower)) u.chosen));
}

-- fewer units outweigh the variables
measure_lower : (a b n x y : ℕ) → a + 1 ≡ b → x ≤ n → a * (n + 1) + x < b * (n + 1) + y
measure_lower a b n x y e l =
    let once : 1 * (n + 1) ≡ n + 1 = omega arith in
    let m : b * (n + 1) ≡ a * (n + 1) + (n + 1) = ap (λ k. k * (n + 1)) (sym e) ∙ (add-mul a 1 (n + 1) ∙ ap (λ k. a * (n + 1) + k) once) in
    omega (arith, m, l)

pub smaller_learned : (old new : Engine) (budget left : ℕ) → new.trail.vars ≡ old.trail.vars → left + 1 ≡ budget → measure new left < measure old budget
smaller_learned old new budget left v e =
    subst (λ n. left * (n + 1) + (n - length new.trail.entries) < measure old budget) (sym v)
    (measure_lower left budget old.trail.vars (old.trail.vars - length new.trail.entries) (old.trail.vars - length old.trail.entries) e (omega arith))

pub smaller_extended : (old new : Engine) (left : ℕ) → IsTrail new.trail → new.trail.vars ≡ old.trail.vars → length old.trail.entries < length new.trail.entries → measure new left < measure old left
smaller_extended old new left h v l =
    subst (λ n. left * (n + 1) + (n - length new.trail.entries) < measure old left) (sym v)
    (let few : length new.trail.entries ≤ old.trail.vars = omega (arith, h.few, v) in
    let less : old.trail.vars - length new.trail.entries < old.trail.vars - length old.trail.entries = omega (arith, few, l) in
    omega (arith, less))

-- a longer trail in the middle of a step
pub smaller_between : (old middle new : Engine) (budget left : ℕ) → middle.trail.vars ≡ old.trail.vars → length old.trail.entries ≤ length middle.trail.entries → measure new left < measure middle budget → measure new left < measure old budget
smaller_between old middle new budget left v l h =
    let same : measure middle budget ≡ budget * (old.trail.vars + 1) + (old.trail.vars - length middle.trail.entries) = ap (λ n. budget * (n + 1) + (n - length middle.trail.entries)) v in
    let less : old.trail.vars - length middle.trail.entries ≤ old.trail.vars - length old.trail.entries = omega (arith, l) in
    omega (arith, h, same, less)

-- what is left after want of memory in learning
pub IsReady-kept : (old new : Engine) (log after : List Step) (assume : List Lit) (units left : ℕ) → IsUnderWay old log assume → StaysFit old new → KeptLog old new log after units left → IsReady new after
IsReady-kept old new log after assume units left u s (same c k e l) = IsReady-same old new log after u.ready s c k e
IsReady-kept old new log after assume units left u s (step literals chain c k r l) =
    IsReady-pushed old new log after record { kind = learned_kind; clause = literals; chain = chain } u.ready s c k r.step (logged_learned old log after assume literals chain u r)

pub Grows-kept : (old new : Engine) (log after : List Step) (assume : List Lit) (units left : ℕ) → IsUnderWay old log assume → KeptLog old new log after units left → Grows (form_of old) log after units left 0
Grows-kept old new log after assume units left u (same c k e l) =
    subst (λ n. Grows (form_of old) log after units n 0) (sym l) (subst (λ xs. Grows (form_of old) log xs units units 0) (sym e) (Grows-none (form_of old) log units))
Grows-kept old new log after assume units left u (step literals chain c k r l) =
    Grows-learned old.trail (form_of old) log after literals chain units left (whole_clauses old log assume u) r l

pub clauses_kept : (old new : Engine) (log after : List Step) (units left : ℕ) → KeptLog old new log after units left → new.trail.clauses ≡ old.trail.clauses
clauses_kept old new log after units left (same c k e l) = c
clauses_kept old new log after units left (step literals chain c k r l) = c

pub Keeps-same : (old new : Engine) (log : List Step) → IsReady old log → StaysFit old new → new.trail.clauses ≡ old.trail.clauses → Keeps old new
Keeps-same old new log r s c = Keeps-from old new log (take old.known log) r s (c ∙ r.pace)

pub Keeps-learned : (old new : Engine) (log after : List Step) (assume : List Lit) → IsUnderWay old log assume → StaysFit old new → Learned old new log after → Keeps old new
Keeps-learned old new log after assume u s r = Keeps-from old new log after u.ready s (learned_clauses old new log after assume u r)

pub Grows-learned_at : (old new : Engine) (log after : List Step) (assume : List Lit) (units left : ℕ) → IsUnderWay old log assume → Learned old new log after → left + 1 ≡ units → Grows (form_of old) log after units left 0
Grows-learned_at old new log after assume units left u r l = Grows-learned old.trail (form_of old) log after r.literals r.chain units left (whole_clauses old log assume u) r.learns l

-- an engine after a derived step
pub IsReady-derived : (old new : Engine) (head : List Lit) (log after : List Step) (assume : List Lit) → IsUnderWay old log assume → StaysFit old new → new.trail ≡ old.trail → new.known ≡ old.known → DerivesStep old.trail head log after → IsReady new after
IsReady-derived old new head log after assume u s t k r =
    IsReady-pushed old new log after record { kind = derived_kind; clause = r.literals; chain = r.chain } u.ready s (ap (λ (x : TrailState). x.clauses) t) k r.step (logged_derived old head log after assume u r)

-- the derived step is the last, and of negated assumptions
pub refuted : (t : TrailState) (head : List Lit) (log after : List Step) (assume : List Lit) (number : ℕ) → DerivesStep t head log after → number ≡ length after → ((l : Lit) → (has head l ≡ true) ⊎ IsDenied t l → has assume (opposite l) ≡ true) → IsRefuted after number assume
refuted t head log after assume number r n f = record {
  last = n;
  some = omega (arith, size);
  derived = ap (λ (x : Step). x.kind) here;
  negated = λ l p. f l (r.denies.denied l (ap (λ (x : Step). has x.clause l) (sym here) ∙ p));
}
  where
    s : Step
    s = record { kind = derived_kind; clause = r.literals; chain = r.chain }

    size : length after ≡ length log + 1
    size = ap length r.step ∙ length_push log s

    here : step_at after (number - 1) ≡ s
    here = ap (λ xs. step_at xs (number - 1)) r.step ∙ get_or_push log s no_step (number - 1) (omega (arith, n, size))

-- no literal is the opposite of a decision at level 0
none_denied : (t : TrailState) (l : Lit) → IsTrail t → t.level ≡ 0 → IsDenied t l → ⊥
none_denied t l h z d = let b = decision_level_bounds t d.place no_entry h d.within (d.decision no_entry) in omega (arith, b.0, b.1, z)

pub refuted_closed : (t : TrailState) (log after : List Step) (assume : List Lit) (number : ℕ) → IsTrail t → t.level ≡ 0 → DerivesStep t [] log after → number ≡ length after → IsRefuted after number assume
refuted_closed t log after assume number h z r n = refuted t [] log after assume number r n (λ l c. ⊎_elim (λ p. absurd (false≢true p)) (λ d. absurd (none_denied t l h z d)) c)

-- a literal of a list has a place in it
record HasPlace (ls : List Lit) (l : Lit) : Type 0 where
  place : ℕ
  within : place < length ls
  is : (d : Lit) → get_or ls place d ≡ l

later_place : (x : Lit) (ls : List Lit) (l : Lit) → HasPlace ls l → HasPlace (x ∷ ls) l
later_place x ls l p = record { place = suc p.place; within = omega (arith, p.within); is = p.is }

has_place : (ls : List Lit) (l : Lit) → has ls l ≡ true → HasPlace ls l
has_place [] l h = absurd (false≢true h)
has_place (x ∷ ls) l h = ⊎_elim
    (λ p. record { place = 0; within = omega arith; is = λ d. same_lit-true x l p })
    (λ p. later_place x ls l (has_place ls l p))
    (or_cases (same_lit x l) (has ls l) h)

-- where an assumption is false, each decision is an assumption
pub decision_assumed : (t : TrailState) (assume : List Lit) (preferred chosen : List ℕ) (a : Lit) (i : ℕ) (d : Entry) → IsTrail t → AreChosen t assume preferred chosen → IsContrary t assume a → i < length t.entries → is_decision (get_or t.entries i d) ≡ true → has assume (get_or t.entries i d).lit ≡ true
decision_assumed t assume preferred chosen a i d h c k l y =
    elim (cases_lt x (length assume)) [
      | inl b ↦ subst (λ m. has assume m ≡ true) (sym (c.choice i d d l y (omega (arith, b)))) (contrary_member assume preferred x b)
      | inr b ↦ absurd (late b)
    ]
  where
    x : ℕ
    x = get_or chosen ((get_or t.entries i d).decision_level - 1) 0

    late : length assume ≤ x → ⊥
    late b =
        let p = has_place assume a k.member in
        let bounds = decision_level_bounds t i d h l y in
        let n : (get_or t.entries i d).decision_level - 1 < length chosen = omega (arith, bounds.0, bounds.1, c.count) in
        let passed = c.before ((get_or t.entries i d).decision_level - 1) p.place n (omega (arith, p.within, b)) in
        let same_literal : choice_at assume preferred p.place ≡ a = choice_assume assume preferred p.place p.within ∙ p.is no_literal in
        let holds : IsTrueIn (values_of t.entries) (choice_at assume preferred p.place) = values-up_to_some t.entries ((get_or t.entries i d).decision_level - 1) (choice_at assume preferred p.place).var (not (choice_at assume preferred p.place).negated) h.leveled (passed.assumed p.within) in
        not_both (values_of t.entries) a k.is_false (subst (IsTrueIn (values_of t.entries)) same_literal holds)

-- a false assumption has a reason
pub contrary_reason : (t : TrailState) (assume : List Lit) (preferred chosen : List ℕ) (a : Lit) → IsTrail t → AreChosen t assume preferred chosen → has_distinct_variables assume ≡ true → IsContrary t assume a → IsSome (reason_in t.entries a.var)
contrary_reason t assume preferred chosen a h c distinct k = subst IsSome (sym reason_is) (at m.value.reason refl)
  where
    m : IsMapped (λ (x : Entry). not x.lit.negated) (entry_of t.entries a.var) a.negated
    m = mapped (λ (x : Entry). not x.lit.negated) (entry_of t.entries a.var) a.negated k.is_false

    e : IsEntryAt t a.var m.value
    e = entry_at t a.var m.value m.is

    reason_is : reason_in t.entries a.var ≡ m.value.reason
    reason_is = ap (option_and_then (λ (x : Entry). x.reason)) m.is

    not_flip : (p q : Bool) → not p ≡ q → p ≡ not q
    not_flip true true g = absurd (false≢true g)
    not_flip true false g = refl
    not_flip false true g = refl
    not_flip false false g = absurd (false≢true (sym g))

    literal : (get_or t.entries e.place no_entry).lit ≡ opposite a
    literal = ap (λ (x : Entry). x.lit) (e.is no_entry) ∙ lit_ext m.value.lit (opposite a) e.variable (not_flip m.value.lit.negated a.negated m.gives)

    at : (o : Option ℕ) → m.value.reason ≡ o → IsSome o
    at None q =
        let decision : is_decision (get_or t.entries e.place no_entry) ≡ true = ap is_decision (e.is no_entry) ∙ ap is_none q in
        let assumed = decision_assumed t assume preferred chosen a e.place no_entry h c k e.within decision in
        absurd (both_ways (has assume (opposite a)) (has-IsConsistent assume distinct a k.member) (ap (has assume) (sym literal) ∙ assumed))
    at (Some n) q = refl

pub refuted_contrary : (t : TrailState) (log after : List Step) (assume : List Lit) (preferred chosen : List ℕ) (a : Lit) (number : ℕ) → IsTrail t → AreChosen t assume preferred chosen → IsContrary t assume a → DerivesStep t (opposite a ∷ []) log after → number ≡ length after → IsRefuted after number assume
refuted_contrary t log after assume preferred chosen a number h c k r n = refuted t (opposite a ∷ []) log after assume number r n (λ l d. ⊎_elim (λ p. own l p) (λ x. denied l x) d)
  where
    or_false : (b : Bool) → (cond b true false) ≡ b
    or_false true = refl
    or_false false = refl

    own : (l : Lit) → has (opposite a ∷ []) l ≡ true → has assume (opposite l) ≡ true
    own l p = ⊎_elim
        (λ q. subst (λ m. has assume (opposite m) ≡ true) (same_lit-true (opposite a) l q) (ap (has assume) (opposite-opposite a) ∙ k.member))
        (λ q. absurd (false≢true q))
        (or_cases (same_lit (opposite a) l) false p)

    denied : (l : Lit) → IsDenied t l → has assume (opposite l) ≡ true
    denied l x = subst (λ m. has assume (opposite m) ≡ true) (x.is no_entry)
        (ap (has assume) (opposite-opposite (get_or t.entries x.place no_entry).lit) ∙ decision_assumed t assume preferred chosen a x.place no_entry h c k x.within (x.decision no_entry))

-- propagation leaves a search under way
pub IsUnderWay-propagates : (e : Engine) (t : TrailState) (log : List Step) (assume : List Lit) → IsUnderWay e log assume → Propagates e.trail t → IsTrail t → IsUnderWay (record e { trail = t }) log assume
IsUnderWay-propagates e t log assume u p h = record {
  ready = IsReady-same e (record e { trail = t }) log log u.ready record { fit = record { trail = h; empty = u.ready.fit.empty; size = u.ready.fit.size ∙ sym p.vars }; vars = p.vars; size = refl; preferred = refl; model = refl } p.clauses refl refl;
  whole = u.whole;
  chosen = AreChosen-propagates e.trail t assume e.preferred.items e.chosen.items p u.chosen;
}

-- a decision leaves a search under way
pub IsUnderWay-decides : (old new : Engine) (log : List Step) (assume : List Lit) (place : ℕ) (l : Lit) → IsUnderWay old log assume → StaysFit old new → MayChoose old.trail assume old.preferred.items place l → new.trail ≡ with_decision old.trail l → new.chosen.items ≡ old.chosen.items ++ place ∷ [] → new.known ≡ old.known → IsUnderWay new log assume
IsUnderWay-decides old new log assume place l u s m t c k = record {
  ready = IsReady-same old new log log u.ready s (ap (λ (x : TrailState). x.clauses) t) k refl;
  whole = k ∙ u.whole;
  chosen = AreChosen-at (with_decision old.trail l) new.trail assume old.preferred.items new.preferred.items (old.chosen.items ++ place ∷ []) new.chosen.items t s.preferred c
      (AreChosen-decide old.trail assume old.preferred.items old.chosen.items place l u.ready.fit.trail u.chosen m);
}

pub longer_decides : (old new : TrailState) (l : Lit) → new ≡ with_decision old l → length old.entries < length new.entries
longer_decides old new l e = omega (arith, ap (λ (t : TrailState). length t.entries) e, length_push old.entries record { lit = l; decision_level = old.level + 1; reason = None })

-- the beginning of a search
pub IsUnderWay-start : (e : Engine) (log : List Step) (assume : List Lit) → IsReady e log → IsAtStart e log → IsUnderWay e log assume
IsUnderWay-start e log assume r s = record {
  ready = r;
  whole = s.whole;
  chosen = record {
    count = ap length s.chosen ∙ sym s.level;
    within = λ k l. absurd (omega (arith, l, ap length s.chosen));
    choice = λ i d x l y z. let b = decision_level_bounds e.trail i d r.fit.trail l y in absurd (omega (arith, b.0, b.1, s.level));
    before = λ k place l b. absurd (omega (arith, l, ap length s.chosen));
  };
}

-- what ends a search is what the verdict says, while units are left
pub says_from : (s : SolverState) (assume : List Lit) (left : ℕ) (v : Verdict) → 0 < left → Ends s assume v → Says s assume left v
says_from s assume left verdict.Model l h = (l, h)
says_from s assume left (verdict.Closed number) l h = (l, h)
says_from s assume left verdict.Spent l h = absurd h

pub closings_err : (r : Result (Option Verdict) NoMemory) (y : NoMemory) → r ≡ Err y → closings_at r ≡ 0
closings_err r y e = ap closings_at e

pub Keeps-trans : (a b c : Engine) → Keeps a b → Keeps b c → Keeps a c
Keeps-trans a b c p q = record { vars = q.vars ∙ p.vars; size = q.size ∙ p.size; form = q.form ∙ p.form; preferred = q.preferred ∙ p.preferred }

-- the clauses of the log are within the variables
pub log_within : (e : Engine) (log : List Step) → IsReady e log → AreWithin e.trail.vars (map (λ (s : Step). s.clause) log)
log_within e log r =
    subst (AreWithin e.trail.vars) (drop_at (form_of e) (map (λ (s : Step). s.clause) log) (length (form_of e)) refl)
    (All-drop (λ c. IsWithin e.trail.vars c) (length (form_of e)) (clauses_of (form_of e) log) r.solver.within)

-- the trail's clauses are the form's and as many more as steps are known
pub clauses_count : (e : Engine) (log : List Step) → IsReady e log → length e.trail.clauses ≡ e.form_len + e.known
clauses_count e log r = ap length r.pace ∙ (length-clauses_of (form_of e) (take e.known log) ∙ omega (arith, form_length e log r, length-take-le e.known log r.known))

pub closings_some : (o : Option Verdict) (v : Verdict) → o ≡ Some v → closings_at (Ok o) ≡ closings_of v
closings_some o v e = ap (λ x. closings_at (Ok x)) e

pub closings_failed : (r : Result Verdict NoMemory) (y : NoMemory) → r ≡ Err y → closings r ≡ 0
closings_failed r y e = ap closings e

-- the growth up to a step, and then by it
pub Grows-step : (first now : Engine) (a b c : List Step) (u v w d : ℕ) → Keeps first now → Grows (form_of first) a b u v 0 → Grows (form_of now) b c v w d → Grows (form_of first) a c u w d
Grows-step first now a b c u v w d k r s =
    let e : 0 + d ≡ d = omega arith in
    subst (Grows (form_of first) a c u w) e (Grows-trans (form_of first) a b c u v w 0 d r (subst (λ f. Grows f b c v w d) k.form s))

-- the numbers of clauses that are left after a step
pub clauses_fit-step : (now next : Engine) (b c : List Step) (v w : ℕ) → Keeps now next → Grows (form_of now) b c v w 0 → now.form_len + length b + v + 1 < 2 ^ 32 → next.form_len + length c + w + 1 < 2 ^ 32
clauses_fit-step now next b c v w k r l = omega (arith, k.size, Grows-length (form_of now) b c v w 0 r, l)

pub goes_on : (old new : Engine) (log : List Step) (assume : List Lit) (budget left : ℕ) (o : Option Verdict) → o ≡ None → StepGives old new log assume budget left o → GoesOn old new log assume budget left
goes_on old new log assume budget left o e g = subst (StepGives old new log assume budget left) e g
