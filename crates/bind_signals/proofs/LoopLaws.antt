-- An integer is among the variables of the loops of a scope exactly where a loop uses it.
use Rattle.std.proofs.Common.{◌≡◌, ℕ, Bool, true, false, ◌&&◌, ◌||◌, not, List, [], ◌∷◌, ◌++◌, map, Option, Some, None, is_some, refl, sym, ap, ◌∙◌}
use Rattle.std.specs.Prelude.{if◌then◌else◌, nat_lt}
use Rattle.std.proofs.lemmas.Slice.Eq.{bytes_eq-Decides}
use Rattle.loc_base.proofs.ShelfBools.{and-false, or-assoc}
use Rattle.v_syntax.specs.declared.declaration.Identifier.{Identifier}
use Rattle.v_hierarchy.specs.Names.{Entry, same_name}
use Rattle.v_hierarchy.specs.Unrolled.{Steps, nothing, still, run, branch, choose, repeated, StepList, no_step, step, Arms, no_arm, arm, default_arm, Turns, no_turn, turn}
use Rattle.v_hierarchy.specs.Items.{Copied, written, always, child, inner, Block, scope, Copies, no_copy, copy}
use Rattle.v_hierarchy.specs.Items as items
use Rattle.v_hierarchy.specs.Views.{PlainArm, labelled, otherwise, arms_of}
use Rattle.v_binding.specs.Signals.{loops_on, loops_on_all, loops_on_arms, loops_on_turns, hides, is_looped, is_looped_in, is_loop_variable}
use Rattle.bind_signals.specs.LoopNames.{Listed, is_used, with_loops, with_all, with_arm, with_arms, with_turns, with_unhidden, without, with_copies, with_copied, with_block}

pub arms_step : (a : PlainArm) (rest : List PlainArm) (before : Listed) → with_arms (arms_of (a ∷ rest)) before ≡ with_arms (arms_of rest) (with_arm a before)
arms_step (labelled labels body) rest before = refl
arms_step (otherwise body) rest before = refl

-- ---- names
pub same-back : (a b : List ℕ) → same_name a b ≡ same_name b a
same-back a b = step (same_name a b) refl (same_name b a) refl
  where
    step : (one : Bool) → same_name a b ≡ one → (other : Bool) → same_name b a ≡ other → one ≡ other
    step true one true other = refl
    step false one false other = refl
    step true one false other = let e : true ≡ false = sym ((bytes_eq-Decides b a).1 (sym ((bytes_eq-Decides a b).0 one))) ∙ other in cc
    step false one true other = let e : true ≡ false = sym ((bytes_eq-Decides a b).1 (sym ((bytes_eq-Decides b a).0 other))) ∙ one in cc

and-true : (a : Bool) → (a && true) ≡ a
and-true true = refl
and-true false = refl

or-false : (a : Bool) → (a || false) ≡ a
or-false true = refl
or-false false = refl

-- one more at the end
used-push : (q : List ℕ) (seen : ℕ → Bool) (v : Identifier) (names : Listed)
    → is_used q seen (names ++ v ∷ []) ≡ (is_used q seen names || (same_name v.name q && seen v.site.token))
used-push q seen v [] = or-false (same_name v.name q && seen v.site.token)
used-push q seen v (x ∷ xs) =
    ap (λ b. (same_name x.name q && seen x.site.token) || b) (used-push q seen v xs)
    ∙ sym (or-assoc (same_name x.name q && seen x.site.token) (is_used q seen xs) (same_name v.name q && seen v.site.token))

-- ---- statements
mutual
  on_loops : (q : List ℕ) (seen : ℕ → Bool) (s : Steps) (before : Listed) → is_used q seen (with_loops s before) ≡ (is_used q seen before || loops_on q seen s)
  on_loops q seen nothing before = sym (or-false (is_used q seen before))
  on_loops q seen (still s) before = sym (or-false (is_used q seen before))
  on_loops q seen (run steps) before = on_all q seen steps before
  on_loops q seen (branch c on_true other) before =
      on_loops q seen other (with_loops on_true before) ∙ ap (λ b. b || loops_on q seen other) (on_loops q seen on_true before)
      ∙ or-assoc (is_used q seen before) (loops_on q seen on_true) (loops_on q seen other)
  on_loops q seen (choose kind subject arms) before = on_arms q seen arms before
  on_loops q seen (repeated variable turns) before =
      on_turns q seen turns (before ++ variable ∷ []) ∙ ap (λ b. b || loops_on_turns q seen turns) (used-push q seen variable before)
      ∙ or-assoc (is_used q seen before) (same_name variable.name q && seen variable.site.token) (loops_on_turns q seen turns)

  on_all : (q : List ℕ) (seen : ℕ → Bool) (s : StepList) (before : Listed) → is_used q seen (with_all s before) ≡ (is_used q seen before || loops_on_all q seen s)
  on_all q seen no_step before = sym (or-false (is_used q seen before))
  on_all q seen (step x xs) before =
      on_all q seen xs (with_loops x before) ∙ ap (λ b. b || loops_on_all q seen xs) (on_loops q seen x before)
      ∙ or-assoc (is_used q seen before) (loops_on q seen x) (loops_on_all q seen xs)

  on_arms : (q : List ℕ) (seen : ℕ → Bool) (s : Arms) (before : Listed) → is_used q seen (with_arms s before) ≡ (is_used q seen before || loops_on_arms q seen s)
  on_arms q seen no_arm before = sym (or-false (is_used q seen before))
  on_arms q seen (arm labels x xs) before =
      on_arms q seen xs (with_loops x before) ∙ ap (λ b. b || loops_on_arms q seen xs) (on_loops q seen x before)
      ∙ or-assoc (is_used q seen before) (loops_on q seen x) (loops_on_arms q seen xs)
  on_arms q seen (default_arm x xs) before =
      on_arms q seen xs (with_loops x before) ∙ ap (λ b. b || loops_on_arms q seen xs) (on_loops q seen x before)
      ∙ or-assoc (is_used q seen before) (loops_on q seen x) (loops_on_arms q seen xs)

  on_turns : (q : List ℕ) (seen : ℕ → Bool) (s : Turns) (before : Listed) → is_used q seen (with_turns s before) ≡ (is_used q seen before || loops_on_turns q seen s)
  on_turns q seen no_turn before = sym (or-false (is_used q seen before))
  on_turns q seen (turn value x xs) before =
      on_turns q seen xs (with_loops x before) ∙ ap (λ b. b || loops_on_turns q seen xs) (on_loops q seen x before)
      ∙ or-assoc (is_used q seen before) (loops_on q seen x) (loops_on_turns q seen xs)

-- ---- variables that are hidden
-- where an integer is seen in a scope inside
abbrev seen_in : List ℕ → List Entry → (ℕ → Bool) → ℕ → Bool
seen_in q entries seen token = seen token && not (hides q entries token)

used-unhidden : (q : List ℕ) (seen : ℕ → Bool) (entries : List Entry) (names before : Listed)
    → is_used q seen (with_unhidden entries names before) ≡ (is_used q seen before || is_used q (seen_in q entries seen) names)
used-unhidden q seen entries [] before = sym (or-false (is_used q seen before))
used-unhidden q seen entries (x ∷ xs) before =
    used-unhidden q seen entries xs (if hides x.name entries x.site.token then before else before ++ x ∷ [])
    ∙ cases (hides x.name entries x.site.token) refl (same_name x.name q) refl
  where
    rest : Bool
    rest = is_used q (seen_in q entries seen) xs

    cases : (hidden : Bool) → hides x.name entries x.site.token ≡ hidden → (same : Bool) → same_name x.name q ≡ same
        → (is_used q seen (if hidden then before else before ++ x ∷ []) || rest)
        ≡ (is_used q seen before || ((same && (seen x.site.token && not (hides q entries x.site.token))) || rest))
    cases true at false same = refl
    cases true at true same =
        ap (λ b. is_used q seen before || (b || rest))
        (sym (ap (λ n. seen x.site.token && not (hides n entries x.site.token)) (sym ((bytes_eq-Decides x.name q).0 same))
        ∙ ap (λ b. seen x.site.token && not b) at ∙ and-false (seen x.site.token)))
    cases false at false same =
        ap (λ b. b || rest) (used-push q seen x before ∙ ap (λ b. is_used q seen before || (b && seen x.site.token)) same ∙ or-false (is_used q seen before))
    cases false at true same =
        ap (λ b. b || rest)
        (used-push q seen x before ∙ ap (λ b. is_used q seen before || (b && seen x.site.token)) same
        ∙ ap (λ b. is_used q seen before || b)
        (sym (ap (λ n. seen x.site.token && not (hides n entries x.site.token)) (sym ((bytes_eq-Decides x.name q).0 same))
        ∙ ap (λ b. seen x.site.token && not b) at ∙ and-true (seen x.site.token))))
        ∙ or-assoc (is_used q seen before) (seen x.site.token && not (hides q entries x.site.token)) rest

used-without : (q name : List ℕ) (seen : ℕ → Bool) (names before : Listed)
    → is_used q seen (without name names before) ≡ (is_used q seen before || (not (same_name name q) && is_used q seen names))
used-without q name seen [] before =
    sym (ap (λ b. is_used q seen before || b) (and-false (not (same_name name q))) ∙ or-false (is_used q seen before))
used-without q name seen (x ∷ xs) before =
    used-without q name seen xs (if same_name name x.name then before else before ++ x ∷ [])
    ∙ cases (same_name name x.name) refl (same_name x.name q) refl
  where
    rest : Bool
    rest = is_used q seen xs

    here : same_name x.name q ≡ true → same_name name q ≡ same_name name x.name
    here same = sym (ap (λ n. same_name name n) ((bytes_eq-Decides x.name q).0 same))

    cases : (hidden : Bool) → same_name name x.name ≡ hidden → (same : Bool) → same_name x.name q ≡ same
        → (is_used q seen (if hidden then before else before ++ x ∷ []) || (not (same_name name q) && rest))
        ≡ (is_used q seen before || (not (same_name name q) && ((same && seen x.site.token) || rest)))
    cases true at true same =
        let gone : same_name name q ≡ true = here same ∙ at in
        ap (λ b. is_used q seen before || (not b && rest)) gone
        ∙ sym (ap (λ b. is_used q seen before || (not b && (seen x.site.token || rest))) gone)
    cases true at false same = refl
    cases false at true same =
        let there : same_name name q ≡ false = here same ∙ at in
        ap (λ b. b || (not (same_name name q) && rest)) (used-push q seen x before ∙ ap (λ b. is_used q seen before || (b && seen x.site.token)) same)
        ∙ ap (λ b. (is_used q seen before || seen x.site.token) || (not b && rest)) there
        ∙ or-assoc (is_used q seen before) (seen x.site.token) rest
        ∙ sym (ap (λ b. is_used q seen before || (not b && (seen x.site.token || rest))) there)
    cases false at false same =
        ap (λ b. b || (not (same_name name q) && rest))
        (used-push q seen x before ∙ ap (λ b. is_used q seen before || (b && seen x.site.token)) same ∙ or-false (is_used q seen before))

-- ---- what items make
-- of a scope inside, by what is so of its items
of-block : (q : List ℕ) (seen : ℕ → Bool) (path : List ℕ) (entries : List Entry) (copies : Copies) (before : Listed)
    → is_used q (seen_in q entries seen) (with_copies copies []) ≡ is_looped q (seen_in q entries seen) copies
    → is_used q seen (with_block (scope path entries copies) before) ≡ (is_used q seen before || is_looped q (seen_in q entries seen) copies)
of-block q seen path entries copies before is =
    used-unhidden q seen entries (with_copies copies []) before ∙ ap (λ b. is_used q seen before || b) is

mutual
  on_copies : (q : List ℕ) (seen : ℕ → Bool) (cs : Copies) (before : Listed) → is_used q seen (with_copies cs before) ≡ (is_used q seen before || is_looped q seen cs)
  on_copies q seen no_copy before = sym (or-false (is_used q seen before))
  on_copies q seen (copy x xs) before =
      on_copies q seen xs (with_copied x before) ∙ ap (λ b. b || is_looped q seen xs) (on_copied q seen x before)
      ∙ or-assoc (is_used q seen before) (is_looped_in q seen x) (is_looped q seen xs)

  on_copied : (q : List ℕ) (seen : ℕ → Bool) (x : Copied) (before : Listed) → is_used q seen (with_copied x before) ≡ (is_used q seen before || is_looped_in q seen x)
  on_copied q seen (written item) before = sym (or-false (is_used q seen before))
  on_copied q seen (always s events body) before = on_loops q seen body before
  on_copied q seen (child s c) before = sym (or-false (is_used q seen before))
  on_copied q seen (inner (scope path entries copies)) before =
      of-block q seen path entries copies before (on_copies q (seen_in q entries seen) copies [])
  on_copied q seen (items.turn variable value (scope path entries copies)) before =
      used-without q variable.name seen (with_block (scope path entries copies) []) before
      ∙ ap (λ b. is_used q seen before || (not (same_name variable.name q) && b))
      (of-block q seen path entries copies [] (on_copies q (seen_in q entries seen) copies []))

pub among_loops : (v : Identifier) (found : Bool) (cs : Copies) → found ≡ is_used v.name (nat_lt v.site.token) (with_copies cs []) → found ≡ is_loop_variable v cs
among_loops v found cs is = is ∙ on_copies v.name (nat_lt v.site.token) cs []
