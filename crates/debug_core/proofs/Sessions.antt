-- A debugger that goes on from a session: the steps of its log may be imported, and its sets are a front.
use Rattle.std.proofs.Common.{◌≡◌, ◌⊎◌, inl, inr, ℕ, zero, suc, ◌+◌, ◌<◌, ◌≤◌, Bool, true, false, List, [], ◌∷◌, ◌++◌, length, map, take, drop, get_or}
use Rattle.std.proofs.Common.{refl, ap, sym, ◌∙◌, subst, arith, add-one}
use Rattle.std.specs.Prelude.{All, Contains, IsTrue, count_by, nat_lt}
use Rattle.std.proofs.Math.Seq.{drop-length}
use Rattle.std.proofs.lemmas.Bool.{both_ways, cases_lt, le-ltb, lt-ltb}
use Rattle.std.proofs.lemmas.List.{append-nil, length-map, length_push, take_all, take_more}
use Rattle.std.proofs.lemmas.List.Elements.{All-cons, All-head, All-nil, All-push, All-tail}
use Rattle.clause_base.specs.declared.form.Form.{Form}
use Rattle.clause_base.specs.declared.literal.Lit.{Lit}
use Rattle.clause_base.specs.declared.log.Step.{Step}
use Rattle.clause_base.specs.declared.log.StepKind.{StepKind}
use Rattle.clause_base.specs.declared.log.StepKind.TheVariants.{Block, Derived, Learned}
use Rattle.clause_base.specs.Acceptance.{Follows, IsAccepted, IsAcceptedAs, IsAcceptedStep, blocks_in, clauses_of, is_block, is_block_kind}
use Rattle.clause_base.specs.Literal.{AllDistinct, AreWithin, IsWithin, has_distinct_variables}
use Rattle.clause_base.specs.Steps.{no_step, step_at}
use Rattle.clause_base.proofs.Accepted.{accepted-IsWithin, clauses_of-more, log_holds}
use Rattle.card_counter.specs.InForm.{HasCounter}
use Rattle.card_counter.specs.Shows.{Shows, last_of}
use Rattle.loc_base.proofs.ShelfLists.{All-member}
use Rattle.design_core.specs.Listing.{IsEntry}
use Rattle.design_core.specs.Works.{IsSet, IsWithin as IsWithinSet, Works}
use Rattle.sat_core.specs.Outcome.{is_derived}
use Rattle.sat_core.specs.SolverState.{blocks_of}
use Rattle.sat_core.proofs.Growing.{blocks_counted, blocks_push, blocks_push_block}
use Rattle.unroller.specs.Unrolls.{Unrolling}
use Rattle.set_enum.specs.EnumState.{EnumState, IsEnum, MayBeImported, with_imported}
use Rattle.set_enum.specs.Sets.{IsBlock, IsSetOf, block_of}
use Rattle.debug_core.specs.Debugging.{DebugState, IsCertified, IsDebugger, IsFrontOf, IsKept}
use Rattle.debug_core.specs.Listed.{AreGiven, Encodes, EncodesListed, LoggedList}
use Rattle.debug_core.specs.Problems.{Problem, suspect_count, suspects_of}
use Rattle.debug_core.specs.Sessions.{GoesOnFrom, IsSession, MayGoOn, listed_of}
use Rattle.debug_core.specs.Standing.{IsEncodingOf, IsSearched, IsStanding, members_of, state_of}
use Rattle.debug_core.proofs.Certified.{each-none}
use Rattle.debug_core.proofs.Debuggers.{all-behind, members-block}
use Rattle.debug_core.proofs.Encoded.{counter, encodes, within}
use Rattle.debug_core.proofs.Given.{given-front}
use Rattle.debug_core.proofs.Selected.{within-few, within-same}

-- ---- accepted logs
-- a block is the next of those that are listed
as-block : (kind : StepKind) (form blocks : List (List Lit)) (earlier : List Step) (s : Step) → is_block_kind kind ≡ true
    → IsAcceptedAs kind form blocks earlier s → (blocks_in earlier < length blocks) × (s.clause ≡ get_or blocks (blocks_in earlier) [])
as-block Block form blocks earlier s is accepted = accepted
as-block Learned form blocks earlier s is accepted = cc
as-block Derived form blocks earlier s is accepted = cc

module _ (form blocks : List (List Lit)) (log : List Step) (is : IsAccepted form blocks log) where
  -- the blocks of some steps are the first of those that are listed
  abbrev HasFirst : List Step → Type 0
  HasFirst earlier = blocks_of earlier ≡ take (length (blocks_of earlier)) blocks

  has-more : (earlier : List Step) (s : Step) → IsAcceptedStep form blocks earlier s → HasFirst earlier → HasFirst (earlier ++ s ∷ [])
  has-more earlier s accepted first = at (is_block s) refl
    where
      at : (b : Bool) → is_block s ≡ b → HasFirst (earlier ++ s ∷ [])
      at true block =
          let many : ℕ = length (blocks_of earlier) in
          let next = as-block s.kind form blocks earlier s block accepted in
          let count : blocks_in earlier ≡ many = blocks_counted earlier in
          let pushed : blocks_of (earlier ++ s ∷ []) ≡ blocks_of earlier ++ s.clause ∷ [] = blocks_push_block earlier s block in
          let long : length (blocks_of (earlier ++ s ∷ [])) ≡ many + 1 = ap length pushed ∙ length_push (blocks_of earlier) s.clause in
          let here : s.clause ≡ get_or blocks many [] = next.1 ∙ ap (λ (i : ℕ). get_or blocks i []) count in
          pushed
          ∙ (ap (λ (front : List (List Lit)). front ++ s.clause ∷ []) first
          ∙ (ap (λ (clause : List Lit). take many blocks ++ clause ∷ []) here
          ∙ (sym (take_more blocks many [] (omega (arith, next.0, count))) ∙ ap (λ (i : ℕ). take i blocks) (sym long))))
      at false other =
          let same : blocks_of (earlier ++ s ∷ []) ≡ blocks_of earlier = blocks_push earlier s other in
          same ∙ (first ∙ ap (λ (front : List (List Lit)). take (length front) blocks) (sym same))

  has-first : (n : ℕ) → n ≤ length log → HasFirst (take n log)
  has-first zero low = refl
  has-first (suc n) low =
      let lt : n < length log = omega (arith, low) in
      let whole : take (suc n) log ≡ take n log ++ step_at log n ∷ [] = rw (← add-one n) (take_more log n no_step lt) in
      subst HasFirst (sym whole) (has-more (take n log) (step_at log n) (is.each_step n lt) (has-first n (omega (arith, low))))

  -- the blocks of an accepted log are those that are listed
  pub blocks-accepted : blocks_of log ≡ blocks
  blocks-accepted =
      let first : HasFirst log = subst HasFirst (take_all (length log) log (omega arith)) (has-first (length log) (omega arith)) in
      first ∙ (ap (λ (n : ℕ). take n blocks) (sym (blocks_counted log) ∙ is.every_block) ∙ take_all (length blocks) blocks (omega arith))

  -- its clauses are over the variables of form and blocks
  module _ (vars : ℕ) (in_form : AreWithin vars form) (in_blocks : AreWithin vars blocks) where
    clauses-within : (n : ℕ) → n ≤ length log → AreWithin vars (clauses_of form (take n log))
    clauses-within zero low = rw append-nil in_form
    clauses-within (suc n) low =
        let lt : n < length log = omega (arith, low) in
        let before : AreWithin vars (clauses_of form (take n log)) = clauses-within n (omega (arith, low)) in
        let last : IsWithin vars (step_at log n).clause =
        accepted-IsWithin vars form blocks (take n log) (step_at log n) in_blocks before (is.each_step n lt) in
        let whole : clauses_of form (take (suc n) log) ≡ clauses_of form (take n log) ++ (step_at log n).clause ∷ [] =
        rw (← add-one n) (clauses_of-more form log n lt) in
        subst (AreWithin vars) (sym whole) (All-push (IsWithin vars) (clauses_of form (take n log)) (step_at log n).clause before last)

    pub steps-within : AreWithin vars (map (λ (s : Step). s.clause) log)
    steps-within =
        all-behind (IsWithin vars) form (map (λ (s : Step). s.clause) log)
        (subst (λ (steps : List Step). AreWithin vars (clauses_of form steps)) (take_all (length log) log (omega arith))
        (clauses-within (length log) (omega arith)))

-- ---- the blocks of sets
block-within : (n vars : ℕ) → n ≤ vars → (set : List ℕ) → All (λ m. (1 ≤ m) × (m ≤ n)) set → IsWithin vars (block_of set)
block-within n vars low [] all = All-nil (λ (l : Lit). (1 ≤ l.var) × (l.var ≤ vars))
block-within n vars low (m ∷ set) all =
    let first : (1 ≤ m) × (m ≤ n) = All-head (λ (v : ℕ). (1 ≤ v) × (v ≤ n)) m set all in
    All-cons (λ (l : Lit). (1 ≤ l.var) × (l.var ≤ vars)) (record { var = m; negated = true }) (block_of set)
    (first.0, omega (arith, low, first.1))
    (block-within n vars low set (All-tail (λ (v : ℕ). (1 ≤ v) × (v ≤ n)) m set all))

module _ (n vars : ℕ) (low : n ≤ vars) where
  pub blocks-within : (sets : List (List ℕ)) → All (IsSetOf n) sets → AreWithin vars (map block_of sets)
  blocks-within [] all = All-nil (IsWithin vars)
  blocks-within (set ∷ sets) all =
      let first : IsSetOf n set = All-head (IsSetOf n) set sets all in
      All-cons (IsWithin vars) (block_of set) (map block_of sets) (block-within n vars low set first.members)
      (blocks-within sets (All-tail (IsSetOf n) set sets all))

  pub are-blocks : (sets : List (List ℕ)) → All (IsSetOf n) sets → All (IsBlock n) (map block_of sets)
  are-blocks [] all = All-nil (IsBlock n)
  are-blocks (set ∷ sets) all =
      All-cons (IsBlock n) (block_of set) (map block_of sets) (record { set = set; of = All-head (IsSetOf n) set sets all; is = refl })
      (are-blocks sets (All-tail (IsSetOf n) set sets all))

sets-members : (sets : List (List ℕ)) → map members_of (map block_of sets) ≡ sets
sets-members [] = refl
sets-members (set ∷ sets) =
    ap (λ (first : List ℕ). first ∷ map members_of (map block_of sets)) (members-block set)
    ∙ ap (λ (rest : List (List ℕ)). set ∷ rest) (sets-members sets)

-- the sets of a session are those whose blocks its log has
pub sets-are : (p : Problem) (form : List (List Lit)) (sets : List (List ℕ)) (log : List Step) → IsSession p form sets log
    → map members_of (blocks_of log) ≡ sets
sets-are p form sets log session =
    ap (map members_of) (blocks-accepted form (map block_of sets) log session.accepted) ∙ sets-members sets

-- ---- what a debugger leaves
module _ (p : Problem) (form : List (List Lit)) (sets : List (List ℕ)) (front : IsFrontOf p sets) where
  abbrev Entry : List ℕ → Type 0
  Entry set = IsEntry p.design p.traces (suspects_of p) p.k set

  entry-of : (set : List ℕ) → Contains sets set → Entry set
  entry-of set member = All-member Entry sets set front.entries member

  -- of two sets of a front none is within the other
  apart : (one other : List ℕ) → Contains sets one → Contains sets other → IsWithinSet one other → one ≡ other
  apart one other one_there other_there within = at (cases_lt (length one) (length other))
    where
      inner : Entry one
      inner = entry-of one one_there

      outer : Entry other
      outer = entry-of other other_there

      at : (length one < length other) ⊎ (length other ≤ length one) → one ≡ other
      at (inl fewer) =
          absurd (outer.minimal.least one inner.suspects within
          (λ back. let most = within-few other one outer.suspects.ascending inner.suspects.ascending back in omega (arith, fewer, most))
          inner.minimal.works)
      at (inr as_many) = within-same one other inner.suspects.ascending outer.suspects.ascending within as_many

  front-given : AreGiven (listed_of p form sets)
  front-given = record {
    suspects = λ i d low. (front.entries i d low).suspects;
    sizes = λ i d low. (front.entries i d low).size;
    works = λ i d low. (front.entries i d low).minimal.works;
    ordered = front.ordered;
    apart = apart;
  }

pub shown-session : (s : DebugState) → IsDebugger s → Shows (suspect_count s.problem) s.problem.k (last_of s.listed) s.log
    → IsSession s.problem s.form s.listed s.log
shown-session s holds shows = record {
  given = front-given s.problem s.form s.listed holds.front;
  accepted = holds.accepted;
  chainless = holds.chainless;
  shows = shows;
}

-- ---- the debugger
module _ (p : Problem) (made : Form) (u : Unrolling) (e : EnumState) (certificate : List Step) (finished : Bool) (imported : ℕ)
    (is : IsStanding p made u e certificate finished imported) (log : List Step)
    (may : MayGoOn (state_of p made e certificate finished imported) log) where
  abbrev n : ℕ
  n = suspect_count p

  abbrev sets : List (List ℕ)
  sets = may.sets

  session : IsSession p made.clauses sets log
  session = may.session

  empty : e.log ≡ []
  empty = may.begins.no_step

  joined : e.log ++ log ≡ log
  joined = ap (λ (steps : List Step). steps ++ log) empty

  open-size : e.size ≤ e.k
  open-size = elim (cases_lt p.k e.size) [
    | inl over ↦ absurd (both_ways (nat_lt p.k e.size) may.begins.goes_on (lt-ltb p.k e.size over))
    | inr low ↦ omega (arith, low, is.over.size)
  ]

  suspects-long : length (suspects_of p) ≡ n
  suspects-long = length-map p.groups (λ group. group.places)

  are-sets : All (IsSetOf n) sets
  are-sets i d low =
      let set : IsSet (suspects_of p) (get_or sets i d) = session.given.suspects i d low in
      record { ascending = set.ascending; members = subst (λ (m : ℕ). All (λ v. (1 ≤ v) × (v ≤ m)) (get_or sets i d)) suspects-long set.numbers }

  few : n ≤ made.vars
  few = omega (arith, (counter p made u is.encoding).within)

  blocks-are : blocks_of log ≡ map block_of sets
  blocks-are = blocks-accepted made.clauses (map block_of sets) log session.accepted

  accepted : IsAccepted e.form (blocks_of (e.log ++ log)) (e.log ++ log)
  accepted =
      subst (λ (steps : List Step). IsAccepted e.form (blocks_of steps) steps) (sym joined)
      (subst (λ (form : List (List Lit)). IsAccepted form (blocks_of log) log) (sym is.over.form)
      (subst (λ (blocks : List (List Lit)). IsAccepted made.clauses blocks log) (sym blocks-are) session.accepted))

  log-within : AreWithin made.vars (map (λ (s : Step). s.clause) log)
  log-within =
      steps-within made.clauses (map block_of sets) log session.accepted made.vars (within p made u is.encoding)
      (blocks-within n made.vars few sets are-sets)

  pub may-be-imported : MayBeImported e log
  may-be-imported = record {
    open_size = open-size;
    accepted = accepted;
    within = subst (λ (vars : ℕ). AreWithin vars (map (λ (s : Step). s.clause) log)) (sym is.over.vars) log-within;
    blocks = subst (All (IsBlock e.n)) (sym blocks-are)
        (subst (λ (m : ℕ). All (IsBlock m) (map block_of sets)) (sym is.over.suspects) (are-blocks n made.vars few sets are-sets));
    chainless = session.chainless;
  }

  abbrev now : EnumState
  now = with_imported e log

  -- what contracts see then
  abbrev gone : DebugState
  gone = state_of p made now [] false (length log)

  gone-listed : gone.listed ≡ sets
  gone-listed = ap (λ (steps : List Step). map members_of (blocks_of steps)) joined ∙ sets-are p made.clauses sets log session

  pub goes-on-from : GoesOnFrom (state_of p made e certificate finished imported) log (state_of p made (with_imported e log) [] false (length log))
  goes-on-from = record {
    problem = refl;
    vars = refl;
    form = refl;
    log_is = joined;
    imported = refl;
    listed = λ other is_session.
        ap (λ (steps : List Step). map members_of (blocks_of steps)) joined ∙ sets-are p made.clauses other log is_session;
    goes_on = may.begins.goes_on;
    no_certificate = refl;
    unfinished = refl;
  }

  module _ (holds : IsEnum (with_imported e log)) where
    -- form and log are of distinct variables
    distinct-form : AllDistinct made.clauses
    distinct-form =
        subst AllDistinct is.over.form
        (subst AllDistinct (append-nil e.form)
        (subst (λ (steps : List Step). AllDistinct (clauses_of e.form steps)) empty is.over.holds.distinct))

    distinct-log : AllDistinct (map (λ (s : Step). s.clause) log)
    distinct-log =
        all-behind (λ clause. IsTrue (has_distinct_variables clause)) e.form (map (λ (s : Step). s.clause) log)
        (subst (λ (steps : List Step). AllDistinct (clauses_of e.form steps)) joined holds.distinct)

    follows : Follows made.clauses (map block_of sets) log
    follows assignment in_form in_blocks =
        log_holds assignment made.clauses (map block_of sets) log distinct-form distinct-log session.accepted.each_step in_form in_blocks

    abbrev logged : LoggedList
    logged = record { list = listed_of p made.clauses sets; vars = made.vars; log = log }

    encodes-sets : EncodesListed (listed_of p made.clauses sets)
    encodes-sets =
        subst (λ (m : ℕ). Encodes m p.k made.clauses (Works p.design p.traces (suspects_of p))) (sym suspects-long) (encodes p made u is.encoding)

    -- the sets are a front
    front : IsFrontOf p sets
    front = given-front logged encodes-sets session.given (record {
      counter = subst (λ (m : ℕ). HasCounter m p.k made.vars made.clauses) (sym suspects-long) (counter p made u is.encoding);
      follows = follows;
      shows = subst (λ (m : ℕ). Shows m p.k (last_of sets) log) (sym suspects-long) session.shows;
    })

    none-behind : count_by is_derived (drop (length log) (e.log ++ log)) ≡ 0
    none-behind = ap (λ (steps : List Step). count_by is_derived (drop (length log) steps)) joined ∙ ap (count_by is_derived) (drop-length log)

    long : length (e.log ++ log) ≡ length log
    long = ap length joined

    searched : IsSearched p made now false (length log)
    searched = record {
      session_within = omega (arith, long);
      fresh = λ place low within kind. absurd (omega (arith, low, within, long));
      few = λ unfinished. omega (arith, none-behind);
      ends = λ unfinished place low within kind. absurd (omega (arith, low, within, long));
      front = subst (IsFrontOf p) (sym gone-listed) front;
    }

    certified : IsCertified gone
    certified = record {
      kept = All-nil (IsKept made.vars made.clauses (e.log ++ log));
      shows = subst (λ (listed : List (List ℕ)). Shows n p.k (last_of listed) ((e.log ++ log) ++ [])) (sym gone-listed)
          (subst (Shows n p.k (last_of sets)) (sym (append-nil (e.log ++ log) ∙ joined)) session.shows);
      each = each-none n p.k (last_of gone.listed);
    }

    pub goes-on-standing : IsStanding p made u (with_imported e log) [] false (length log)
    goes-on-standing = record {
      encoding = is.encoding;
      over = record { vars = is.over.vars; form = is.over.form; suspects = is.over.suspects; size = is.over.size; holds = holds };
      searched = searched;
      certified = certified;
    }
