-- What holds of a debugger that stands between two calls.
use Rattle.std.proofs.Common.{◌≡◌, ℕ, ◌+◌, ◌^◌, ◌<◌, Bool, true, false, List, [], ◌∷◌, ◌++◌, length, map, drop}
use Rattle.std.proofs.Common.{refl, ap, sym, ◌∙◌, subst, arith}
use Rattle.std.specs.Prelude.{All, IsTrue, cond, count_by, filter, nat_lt}
use Rattle.std.proofs.lemmas.Bool.{le-ltb, ltb-true}
use Rattle.std.proofs.lemmas.List.{length-map}
use Rattle.std.proofs.lemmas.List.Elements.{All-cons, All-head, All-nil, All-tail}
use Rattle.design_core.specs.Works.{Works}
use Rattle.clause_base.specs.declared.form.Form.{Form}
use Rattle.clause_base.specs.declared.literal.Lit.{Lit}
use Rattle.clause_base.specs.declared.log.Step.{Step}
use Rattle.clause_base.specs.Acceptance.{IsAccepted, clauses_of, is_block}
use Rattle.clause_base.specs.Literal.{AllDistinct, AreWithin, IsWithin, has_distinct_variables}
use Rattle.clause_base.specs.Progress.{IsClosing}
use Rattle.sat_core.specs.Outcome.{is_learned}
use Rattle.sat_core.specs.SolverState.{blocks_of}
use Rattle.sat_core.proofs.FreshBound.{few_fresh}
use Rattle.unroller.specs.Unrolls.{Unrolling}
use Rattle.set_enum.specs.Bounds.{bound_of}
use Rattle.set_enum.specs.EnumState.{EnumState, IsEnum, begun, listed_over, untold}
use Rattle.set_enum.specs.Sets.{IsBlock, NoneBelow, block_of}
use Rattle.debug_core.specs.Listed.{Encodes, EncodesListed, Listed}
use Rattle.debug_core.specs.Sessions.{listed_of}
use Rattle.debug_core.proofs.Fronts.{empty-front, whole}
use Rattle.debug_core.proofs.Certified.{each-none, shows-none}
use Rattle.debug_core.specs.Debugging.{Begins, IsDebugger, IsKept}
use Rattle.debug_core.specs.Problems.{Problem, suspect_count, suspects_of}
use Rattle.debug_core.specs.Standing.{IsEncodingOf, IsStanding, members_of, state_of}
use Rattle.debug_core.proofs.Encoded.{counter, encodes, within}

-- the members of a block are those of its set
pub members-block : (set : List ℕ) → members_of (block_of set) ≡ set
members-block [] = refl
members-block (m ∷ set) = ap (λ rest. m ∷ rest) (members-block set)

-- blocks of sets are the blocks of their members
pub blocks-members : (n : ℕ) (blocks : List (List Lit)) → All (IsBlock n) blocks → map block_of (map members_of blocks) ≡ blocks
blocks-members n [] all = refl
blocks-members n (block ∷ blocks) all =
    let first : IsBlock n block = All-head (IsBlock n) block blocks all in
    let same : block_of (members_of block) ≡ block =
    ap (λ b. block_of (members_of b)) first.is ∙ (ap block_of (members-block first.set) ∙ sym first.is) in
    ap (λ b. b ∷ map block_of (map members_of blocks)) same
    ∙ ap (λ rest. block ∷ rest) (blocks-members n blocks (All-tail (IsBlock n) block blocks all))

-- what holds of the clauses of a log holds of its blocks
blocks-in : (P : List Lit → Type 0) (log : List Step) → All P (map (λ (s : Step). s.clause) log) → All P (blocks_of log)
blocks-in P [] all = all
blocks-in P (s ∷ log) all = at (is_block s) (blocks-in P log (All-tail P s.clause (map (λ (x : Step). x.clause) log) all))
  where
    at : (b : Bool) → All P (blocks_of log) → All P (map (λ (x : Step). x.clause) (cond b (s ∷ filter is_block log) (filter is_block log)))
    at true rest = All-cons P s.clause (blocks_of log) (All-head P s.clause (map (λ (x : Step). x.clause) log) all) rest
    at false rest = rest

pub all-behind : {X : Type 0} (P : X → Type 0) (front rest : List X) → All P (front ++ rest) → All P rest
all-behind P [] rest all = all
all-behind P (x ∷ front) rest all = all-behind P front rest (All-tail P x (front ++ rest) all)

module _ (p : Problem) (made : Form) (u : Unrolling) (e : EnumState) (certificate : List Step) (finished : Bool) (imported : ℕ)
    (is : IsStanding p made u e certificate finished imported) where
  abbrev n : ℕ
  n = suspect_count p

  abbrev pub listed : List (List ℕ)
  listed = map members_of (blocks_of e.log)

  pub suspects-long : length (suspects_of p) ≡ n
  suspects-long = length-map p.groups (λ group. group.places)

  pub blocks-are : blocks_of e.log ≡ map block_of listed
  blocks-are = sym (blocks-members e.n (blocks_of e.log) is.over.holds.blocks)

  -- the clauses that are left, as the list has them
  pub clauses-left : listed_over e ≡ made.clauses ++ map block_of listed
  clauses-left = ap (λ form. form ++ blocks_of e.log) is.over.form ∙ ap (λ blocks. made.clauses ++ blocks) blocks-are

  accepted : IsAccepted made.clauses (map block_of listed) e.log
  accepted =
      subst (λ blocks. IsAccepted made.clauses blocks e.log) blocks-are
      (subst (λ form. IsAccepted form (blocks_of e.log) e.log) is.over.form is.over.holds.accepted)

  -- the clauses of the log's steps
  log-within : AreWithin made.vars (map (λ (s : Step). s.clause) e.log)
  log-within =
      subst (λ vars. AreWithin vars (map (λ (s : Step). s.clause) e.log)) is.over.vars
      (all-behind (IsWithin e.vars) e.form (map (λ (s : Step). s.clause) e.log) is.over.holds.within)

  log-distinct : AllDistinct (map (λ (s : Step). s.clause) e.log)
  log-distinct =
      all-behind (λ clause. IsTrue (has_distinct_variables clause)) e.form (map (λ (s : Step). s.clause) e.log) is.over.holds.distinct

  few-learned : count_by is_learned (drop imported e.log) < 3 ^ made.vars
  few-learned =
      few_fresh made.vars made.clauses (map block_of listed) e.log imported (within p made u is.encoding)
      (subst (AreWithin made.vars) blocks-are (blocks-in (IsWithin made.vars) e.log log-within))
      (subst (λ form. AllDistinct (clauses_of form e.log)) is.over.form is.over.holds.distinct)
      accepted is.searched.fresh

  all-closed : nat_lt p.k e.size ≡ true → e.size ≡ e.k + 1
  all-closed ended = omega (arith, ltb-true p.k e.size ended, is.over.holds.sizes, is.over.size)

  none-left : nat_lt p.k e.size ≡ true → NoneBelow (length (suspects_of p)) (p.k + 1) (made.clauses ++ map block_of listed)
  none-left ended =
      let size : e.size ≡ p.k + 1 = omega (arith, all-closed ended, is.over.size) in
      let count : e.n ≡ length (suspects_of p) = is.over.suspects ∙ sym suspects-long in
      subst (λ m. NoneBelow m (p.k + 1) (made.clauses ++ map block_of listed)) count
      (subst (λ z. NoneBelow e.n z (made.clauses ++ map block_of listed)) size
      (subst (NoneBelow e.n e.size) clauses-left is.over.holds.closed))

  -- the clauses encode the sets of the list
  pub encodes-listed : EncodesListed (listed_of p made.clauses listed)
  encodes-listed =
      subst (λ m. Encodes m p.k made.clauses (Works p.design p.traces (suspects_of p))) (sym suspects-long) (encodes p made u is.encoding)

  closing : nat_lt p.k e.size ≡ true → IsClosing (bound_of n p.k p.k) e.log
  closing ended =
      subst (λ k. IsClosing (bound_of n k k) e.log) is.over.size
      (subst (λ m. IsClosing (bound_of m e.k e.k) e.log) is.over.suspects (is.over.holds.closing (all-closed ended)))

  -- what holds of each debugger
  pub is-debugger : IsDebugger (state_of p made e certificate finished imported)
  is-debugger = record {
    problem = is.encoding.can;
    form = is.encoding.form;
    accepted = accepted;
    blocks = blocks-are;
    form_within = within p made u is.encoding;
    few_suspects = omega (arith, (counter p made u is.encoding).within);
    log_within = log-within;
    distinct = log-distinct;
    chainless = is.over.holds.chainless;
    session_within = is.searched.session_within;
    fresh = is.searched.fresh;
    few_learned = few-learned;
    few_derived = λ unfinished. omega (arith, is.searched.few unfinished, is.over.holds.sizes, is.over.size);
    ends = is.searched.ends;
    front = is.searched.front;
    whole = λ ended. whole (listed_of p made.clauses listed) encodes-listed is.searched.front (none-left ended);
    closing = closing;
    certified = is.certified;
  }

-- a debugger of a problem, before any search
module _ (p : Problem) (made : Form) (u : Unrolling) (n k : ℕ) (is : IsEncodingOf p made u) (many : n ≡ suspect_count p) (size : k ≡ p.k)
    (holds : IsEnum (begun made.vars made.clauses n k)) where
  pub begun-standing : IsStanding p made u (begun made.vars made.clauses n k) [] false 0
  begun-standing = record {
    encoding = is;
    over = record { vars = refl; form = refl; suspects = many; size = size; holds = holds };
    searched = record {
      session_within = omega arith;
      fresh = λ place low within kind. absurd (omega (arith, within));
      few = λ unfinished. omega arith;
      ends = λ unfinished place low within kind. absurd (omega (arith, within));
      front = empty-front (listed_of p made.clauses []);
    };
    certified = record {
      kept = All-nil (IsKept made.vars made.clauses []);
      shows = shows-none (suspect_count p) p.k [];
      each = each-none (suspect_count p) p.k [];
    };
  }

  pub begun-begins : Begins p (state_of p made (begun made.vars made.clauses n k) [] false 0)
  begun-begins = record { problem = refl; no_step = refl; no_set = refl; goes_on = le-ltb p.k 0 (omega arith); no_certificate = refl; unfinished = refl; by_itself = refl }

-- nothing changes where the enumerator tells nothing any more
pub stands-untold : (p : Problem) (made : Form) (u : Unrolling) (e new : EnumState) (certificate : List Step) (finished : Bool) (imported : ℕ)
    → IsStanding p made u e certificate finished imported → IsEnum new → new ≡ untold e → IsStanding p made u new certificate finished imported
stands-untold p made u e new certificate finished imported is holds same =
    subst (λ x. IsStanding p made u x certificate finished imported) (sym same) (record {
      encoding = is.encoding;
      over = record {
        vars = is.over.vars;
        form = is.over.form;
        suspects = is.over.suspects;
        size = is.over.size;
        holds = subst IsEnum same holds;
      };
      searched = record {
        session_within = is.searched.session_within;
        fresh = is.searched.fresh;
        few = is.searched.few;
        ends = is.searched.ends;
        front = is.searched.front;
      };
      certified = is.certified;
    })

pub same-untold : (p : Problem) (made : Form) (e new : EnumState) (certificate : List Step) (finished : Bool) (imported : ℕ)
    → new ≡ untold e → state_of p made new certificate finished imported ≡ state_of p made e certificate finished imported
same-untold p made e new certificate finished imported same = ap (λ x. state_of p made x certificate finished imported) same
