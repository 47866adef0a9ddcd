-- Why a preferred variable is false in the model on which the trail stands.
use Rattle.std.proofs.Common.{◌≡◌, ℕ, ◌<◌, ◌≤◌, Bool, true, false, not, cond, eqb, List, [], ◌∷◌, length, get_or, Option, Some, None, Result, Ok, Err, refl, sym, ap, ◌∙◌, subst, arith, ⊎_elim}
use Rattle.std.specs.Prelude.{All, is_some, is_none, IsSome, Contains}
use Rattle.std.specs.List.{AllZip}
use Rattle.std.specs.Result.{IfOk}
use Rattle.std.specs.Option.{option_map, option_and_then}
use Rattle.std.proofs.lemmas.Bool.{false≢true, both_ways, eqb-true, or_left}
use Rattle.std.proofs.lemmas.List.{take_all, get_or_default}
use Rattle.std.proofs.lemmas.List.Elements.{All-get_or, All-head, All-tail}
use Rattle.loc_base.proofs.ShelfBools.{or-false}
use Rattle.loc_base.specs.declared.memory.NoMemory.{NoMemory}
use Rattle.clause_base.specs.declared.literal.Lit.{Lit}
use Rattle.clause_base.specs.declared.log.Step.{Step}
use Rattle.clause_base.specs.declared.log.StepKind.{StepKind}
use Rattle.clause_base.specs.declared.log.StepKind.TheVariants.{Derived}
use Rattle.clause_base.specs.Literal.{negative, opposite, same_lit, has, has_variable}
use Rattle.clause_base.specs.Acceptance.{clauses_of, IsAcceptedAs, IsAcceptedChain}
use Rattle.clause_base.proofs.Sets.{same_lit-true, same_lit_itself, opposite-opposite, has_variable-has}
use Rattle.trail_core.specs.declared.entry.Entry.{Entry}
use Rattle.trail_core.specs.Values.{IsVariable}
use Rattle.trail_core.specs.TrailState.{TrailState, IsTrail, entry_of, values_of, level_in, reason_in, is_decision}
use Rattle.trail_core.proofs.Truth.{mapped}
use Rattle.trail_core.proofs.Looks.{has_at}
use Rattle.sat_core.specs.declared.engine.Engine.{Engine}
use Rattle.sat_core.specs.SolverState.{SolverState, blocks_of, assignment_of}
use Rattle.sat_core.specs.Choices.{no_literal, AreChosen}
use Rattle.sat_core.specs.Derivation.{Denies, IsDeniedBefore, RestsBefore}
use Rattle.sat_core.specs.Explaining.{IsDecidedBefore, assumed, preferred_before, assumptions, MayExplain, MayStand, itself, of_assumption, of_earlier, Explains}
use Rattle.sat_core.specs.Searching.{form_of, state_of, seen_of, IsReady, Stands, StandsTold}
use Rattle.sat_core.specs.Tracing.{IsDerivedFor, IsForcedFalse}
use Rattle.sat_core.proofs.Tracking.{entry_at}
use Rattle.sat_core.proofs.Resolving.{no_entry, true_at, level_at}
use Rattle.sat_core.proofs.Greatest.{decided_before}

-- an engine and its log of which assumptions are told
pub record IsTold (e : Engine) (log : List Step) (told : Option (List Lit)) : Type 0 where
  pub assume : List Lit
  pub whole : e.known ≡ length log
  pub stands : Stands e assume
  pub seen : seen_of e log told ≡ record (state_of e log) { told = Some assume }

kept : (b : Bool) (told : Option (List Lit)) → IsSome (cond b told None) → IsSome told
kept true told h = h
kept false told h = absurd (false≢true h)

-- what is told stands
pub told_stands : (e : Engine) (log : List Step) (told : Option (List Lit)) → StandsTold e told → IsSome (seen_of e log told).told → IsTold e log told
told_stands e log None s h = absurd (false≢true (kept (eqb e.known (length log)) None h))
told_stands e log (Some assume) s h = at (eqb e.known (length log)) refl h
  where
    at : (b : Bool) → eqb e.known (length log) ≡ b → IsSome (cond b (Some assume) None) → IsTold e log (Some assume)
    at true q y = record { assume = assume; whole = eqb-true e.known (length log) q; stands = s; seen = ap (λ b. record (state_of e log) { told = cond b (Some assume) None }) q }
    at false q y = absurd (false≢true y)

-- a variable that is false in the model is false on the trail
false_on_trail : (e : Engine) (assume : List Lit) (v : ℕ) → Stands e assume → IsVariable e.trail.vars v → assignment_of e.model.items v ≡ false → values_of e.trail.entries v ≡ Some false
false_on_trail e assume v s i f = at (values_of e.trail.entries v) refl (s.valued v i)
  where
    at : (o : Option Bool) → values_of e.trail.entries v ≡ o → is_some o ≡ true → values_of e.trail.entries v ≡ Some false
    at None q y = absurd (false≢true y)
    at (Some b) q y = q ∙ ap Some (sym (s.model.values v b i q) ∙ f)

-- the entry of a false variable
record IsFalseAt (t : TrailState) (v : ℕ) : Type 0 where
  entry : Entry
  place : ℕ
  within : place < length t.entries
  is : get_or t.entries place no_entry ≡ entry
  variable : entry.lit.var ≡ v
  negated : not entry.lit.negated ≡ false
  reason : reason_in t.entries v ≡ entry.reason
  level : (d : Entry) → level_in t.entries v ≡ Some (get_or t.entries place d).decision_level

false_at : (t : TrailState) (v : ℕ) → values_of t.entries v ≡ Some false → IsFalseAt t v
false_at t v f =
    let m = mapped (λ (x : Entry). not x.lit.negated) (entry_of t.entries v) false f in
    let e = entry_at t v m.value m.is in
    record {
      entry = m.value;
      place = e.place;
      within = e.within;
      is = e.is no_entry;
      variable = e.variable;
      negated = m.gives;
      reason = ap (option_and_then (λ (x : Entry). x.reason)) m.is;
      level = λ d. ap (option_map (λ (x : Entry). x.decision_level)) m.is ∙ ap (λ (x : Entry). Some x.decision_level) (sym (e.is d));
    }

-- a false preferred variable that is in no assumption has a reason
preferred_reason : (t : TrailState) (assume : List Lit) (preferred chosen : List ℕ) (i : ℕ) → IsTrail t → AreChosen t assume preferred chosen → i < length preferred → values_of t.entries (get_or preferred i 0) ≡ Some false → has_variable assume (get_or preferred i 0) ≡ false → IsSome (reason_in t.entries (get_or preferred i 0))
preferred_reason t assume preferred chosen i h c k f free = subst IsSome (sym e.reason) (at e.entry.reason refl)
  where
    e : IsFalseAt t (get_or preferred i 0)
    e = false_at t (get_or preferred i 0) f

    not_decided : IsDecidedBefore assume preferred i (get_or t.entries e.place no_entry).lit → ⊥
    not_decided (assumed x l w) =
        let same : (get_or assume x no_literal).var ≡ get_or preferred i 0 = ap (λ (m : Lit). m.var) (sym (w no_literal)) ∙ (ap (λ (y : Entry). y.lit.var) e.is ∙ e.variable) in
        both_ways (has_variable assume (get_or preferred i 0)) free (ap (has_variable assume) (sym same) ∙ has_variable-has assume (get_or assume x no_literal) (has_at assume x no_literal l))
    not_decided (preferred_before j l w) =
        let plain : e.entry.lit.negated ≡ false = ap (λ (y : Entry). y.lit.negated) (sym e.is) ∙ ap (λ (m : Lit). m.negated) w in
        false≢true (sym e.negated ∙ ap not plain)

    at : (o : Option ℕ) → e.entry.reason ≡ o → IsSome o
    at None q = absurd (not_decided (decided_before t assume preferred chosen i e.place h c k e.within f e.level e.place no_entry (omega arith) (ap is_decision e.is ∙ ap is_none q)))
    at (Some n) q = refl

-- where a variable may be explained, it is false on the trail for a reason
pub explained_reason : (e : Engine) (log : List Step) (told : Option (List Lit)) (var : ℕ) → IsReady e log → StandsTold e told → MayExplain (seen_of e log told) var → IsForcedFalse e.trail var
explained_reason e log told var r s m = at m.preferred
  where
    now : IsTold e log told
    now = told_stands e log told s m.told

    free : has_variable now.assume var ≡ false
    free = ap (λ (x : SolverState). has_variable (assumptions x.told) var) (sym now.seen) ∙ m.free

    at : Contains e.preferred.items var → IsForcedFalse e.trail var
    at (i, k, is) = subst (IsForcedFalse e.trail) same record {
      variable = variable;
      is_false = f;
      reason = preferred_reason e.trail now.assume e.preferred.items e.chosen.items i r.fit.trail now.stands.chosen k f (ap (has_variable now.assume) same ∙ free);
    }
      where
        same : get_or e.preferred.items i 0 ≡ var
        same = get_or_default e.preferred.items i 0 var k ∙ is

        variable : IsVariable e.trail.vars (get_or e.preferred.items i 0)
        variable = let b = All-get_or (λ v. (1 ≤ v) × (v ≤ e.trail.vars)) e.preferred.items i 0 k r.preferred in record { above = b.0; within = b.1 }

        f : values_of e.trail.entries (get_or e.preferred.items i 0) ≡ Some false
        f = false_on_trail e now.assume (get_or e.preferred.items i 0) now.stands variable (ap (assignment_of e.model.items) same ∙ m.is_false)

opposite_of : (m l : Lit) → opposite m ≡ l → opposite l ≡ m
opposite_of m l e = ap opposite (sym e) ∙ opposite-opposite m

-- a literal of the clause stands for the variable, an assumption, or an earlier variable
literal_stands : (e : Engine) (log : List Step) (assume : List Lit) (i : ℕ) (clause : List Lit) (chain : List ℕ) → IsReady e log → Stands e assume → i < length e.preferred.items → assignment_of e.model.items (get_or e.preferred.items i 0) ≡ false → Denies e.trail (negative (get_or e.preferred.items i 0) ∷ []) clause chain → (l : Lit) → has clause l ≡ true → MayStand (record (state_of e log) { told = Some assume }) (get_or e.preferred.items i 0) i l
literal_stands e log assume i clause chain r s k f d l p = ⊎_elim own other (rests.denied l p)
  where
    t : TrailState
    t = e.trail

    v : ℕ
    v = get_or e.preferred.items i 0

    variable_at : (j : ℕ) → j < length e.preferred.items → IsVariable t.vars (get_or e.preferred.items j 0)
    variable_at j b = let w = All-get_or (λ x. (1 ≤ x) × (x ≤ t.vars)) e.preferred.items j 0 b r.preferred in record { above = w.0; within = w.1 }

    rests : RestsBefore t (negative v ∷ []) clause v
    rests = d.before (negative v) (or_left (same_lit (negative v) (negative v)) false (same_lit_itself (negative v)))

    is_false : values_of t.entries v ≡ Some false
    is_false = false_on_trail e assume v s (variable_at i k) f

    level : (x : Entry) → level_in t.entries v ≡ Some (get_or t.entries rests.place x).decision_level
    level x = ap (level_in t.entries) (sym (rests.variable x)) ∙ level_at t rests.place x r.fit.trail rests.within

    own : has (negative v ∷ []) l ≡ true → MayStand (record (state_of e log) { told = Some assume }) v i l
    own y = itself (sym (same_lit-true (negative v) l (sym (or-false (same_lit (negative v) l)) ∙ y)))

    other : IsDeniedBefore t rests.place l → MayStand (record (state_of e log) { told = Some assume }) v i l
    other x = at (decided_before t assume e.preferred.items e.chosen.items i rests.place r.fit.trail s.chosen k rests.within is_false level x.place no_entry (omega (arith, x.within)) (x.decision no_entry))
      where
        m : Lit
        m = (get_or t.entries x.place no_entry).lit

        low : x.place < length t.entries
        low = omega (arith, x.within, rests.within)

        at : IsDecidedBefore assume e.preferred.items i m → MayStand (record (state_of e log) { told = Some assume }) v i l
        at (assumed j b w) = of_assumption (ap (has assume) (opposite_of m l (x.is no_entry) ∙ w no_literal) ∙ has_at assume j no_literal b)
        at (preferred_before j b w) =
            let lit : l ≡ negative (get_or e.preferred.items j 0) = sym (x.is no_entry) ∙ ap opposite w in
            let holds : values_of t.entries (get_or e.preferred.items j 0) ≡ Some true = subst (λ (c : Lit). values_of t.entries c.var ≡ Some (not c.negated)) w (true_at t x.place no_entry r.fit.trail low) in
            of_earlier j b lit (ap (λ (c : Lit). assignment_of e.model.items c.var) lit ∙ s.model.values (get_or e.preferred.items j 0) true (variable_at j (omega (arith, b, k))) holds)

accepted_as : (kind : StepKind) (form blocks : List (List Lit)) (log : List Step) (step : Step) → kind ≡ Derived → IsAcceptedChain (clauses_of form log) step.chain step.clause → IsAcceptedAs kind form blocks log step
accepted_as kind form blocks log step k h = subst (λ x. IsAcceptedAs x form blocks log step) (sym k) h

-- the step explains the variable
pub explains_from : (e : Engine) (log : List Step) (told : Option (List Lit)) (var : ℕ) (step : Step) → IsReady e log → StandsTold e told → MayExplain (seen_of e log told) var → step.kind ≡ Derived → Denies e.trail (negative var ∷ []) step.clause step.chain → Explains (seen_of e log told) var step
explains_from e log told var step r s m kind d = subst (λ x. Explains x var step) (sym now.seen) record {
  kind = kind;
  accepted = accepted_as step.kind (form_of e) (blocks_of log) log step kind (subst (λ cs. IsAcceptedChain cs step.chain step.clause) clauses d.accepted);
  within = d.within;
  itself = d.itself (negative var) (or_left (same_lit (negative var) (negative var)) false (same_lit_itself (negative var)));
  literals = λ i k is l p. subst (λ v. MayStand (record (state_of e log) { told = Some now.assume }) v i l) is
      (literal_stands e log now.assume i step.clause step.chain r now.stands k (ap (assignment_of e.model.items) is ∙ m.is_false)
      (subst (λ v. Denies e.trail (negative v ∷ []) step.clause step.chain) (sym is) d) l p);
}
  where
    now : IsTold e log told
    now = told_stands e log told s m.told

    clauses : e.trail.clauses ≡ clauses_of (form_of e) log
    clauses = r.pace ∙ ap (clauses_of (form_of e)) (take_all e.known log (omega (arith, now.whole)))

-- the same of the answer of a call that sees the solver so
pub explained : (e : Engine) (log : List Step) (told : Option (List Lit)) (s : SolverState) (var : ℕ) (r : Result Step NoMemory) → seen_of e log told ≡ s → IsReady e log → StandsTold e told → MayExplain s var → IfOk r (λ step. step.kind ≡ Derived) → IfOk r (λ step. Denies e.trail (negative var ∷ []) step.clause step.chain) → IfOk r (Explains s var)
explained e log told s var (Ok step) q r h m k d = subst (λ x. Explains x var step) q (explains_from e log told var step r h (subst (λ x. MayExplain x var) (sym q) m) k d)
explained e log told s var (Err x) q r h m k d = k

-- a step of a clause and a chain that deny
pub denies_step : (t : TrailState) (head literals : List Lit) (chain : List ℕ) (r : Result Step NoMemory) → Denies t head literals chain → IfOk r (λ step. step.clause ≡ literals) → IfOk r (λ step. step.chain ≡ chain) → IfOk r (λ step. Denies t head step.clause step.chain)
denies_step t head literals chain (Ok step) d k l = subst (λ c. Denies t head c step.chain) (sym k) (subst (Denies t head literals) (sym l) d)
denies_step t head literals chain (Err x) d k l = k

-- where the variables of a list may be explained, each is false on the trail for a reason
pub explained_reasons : (e : Engine) (log : List Step) (told : Option (List Lit)) (s : SolverState) (vars : List ℕ) → seen_of e log told ≡ s → IsReady e log → StandsTold e told → All (MayExplain s) vars → All (IsForcedFalse e.trail) vars
explained_reasons e log told s vars q r h all i d l = explained_reason e log told (get_or vars i d) r h (subst (λ x. MayExplain x (get_or vars i d)) (sym q) (all i d l))

-- the steps of a list explain its variables
explains_each : (e : Engine) (log : List Step) (told : Option (List Lit)) (vars : List ℕ) (steps : List Step) → IsReady e log → StandsTold e told → All (MayExplain (seen_of e log told)) vars → AllZip (IsDerivedFor e.trail) vars steps → AllZip (Explains (seen_of e log told)) vars steps
explains_each e log told [] [] r h all z = z
explains_each e log told [] (step ∷ steps) r h all z = absurd z
explains_each e log told (var ∷ vars) [] r h all z = absurd z
explains_each e log told (var ∷ vars) (step ∷ steps) r h all z = (
  explains_from e log told var step r h (All-head (MayExplain (seen_of e log told)) var vars all) z.0.kind z.0.denies,
  explains_each e log told vars steps r h (All-tail (MayExplain (seen_of e log told)) var vars all) z.1,
)

-- the same of the answer of a call that sees the solver so
pub explained_all : (e : Engine) (log : List Step) (told : Option (List Lit)) (s : SolverState) (vars : List ℕ) (r : Result (List Step) NoMemory) → seen_of e log told ≡ s → IsReady e log → StandsTold e told → All (MayExplain s) vars → IfOk r (AllZip (IsDerivedFor e.trail) vars) → IfOk r (AllZip (Explains s) vars)
explained_all e log told s vars (Ok steps) q r h all z = subst (λ x. AllZip (Explains x) vars steps) q (explains_each e log told vars steps r h (subst (λ x. All (MayExplain x) vars) (sym q) all) z)
explained_all e log told s vars (Err x) q r h all z = z
