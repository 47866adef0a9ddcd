-- Steps of the turns of a generate loop.
use Rattle.std.proofs.Common.{◌≡◌, ℕ, zero, suc, ◌+◌, ◌-◌, ◌<◌, ◌≤◌, Bool, true, false, List, ◌∷◌, refl, sym, ap, ◌∙◌, arith, ◌⊎◌, inl, inr}
use Rattle.std.specs.Prelude.{⊤, Result, Ok, Err, OnOk, IfErr}
use Rattle.loc_base.specs.declared.span.Span.{Span}
use Rattle.v_syntax.specs.StatementTree.{PlainHead}
use Rattle.v_syntax.specs.ItemTree.{PlainBlock}
use Rattle.v_sizes.specs.declared.meaning.Const.{Const}
use Rattle.v_hierarchy.specs.declared.error.ElabErr.{ElabErr}
use Rattle.v_hierarchy.specs.declared.error.ElabErr.TheVariants as fault
use Rattle.v_hierarchy.specs.declared.left.Left.{Left}
use Rattle.v_hierarchy.specs.Frames.{Refuses}
use Rattle.v_hierarchy.specs.Steps.{◌>>=◌}
use Rattle.v_hierarchy.specs.Names.{Entry}
use Rattle.v_hierarchy.specs.Unrolled.{begun, stepped, turns}
use Rattle.v_hierarchy.specs.Items.{Copies, Place, Met, frames, loop_genvar, turn_met, turn_of, body_of}
use Rattle.v_elaborate.specs.Parts.{turn_met_at, turns_met, loop_met}

-- the turns from one on, where so many may still come
abbrev pub generate_from : Place → Span → PlainHead → PlainBlock → List (List Entry) → ℕ → Const → Bool → Met → Result Met ElabErr
generate_from place span head body scopes most value runs met =
    turns most span (turn_met span) (turn_of (λ own. body_of own body) place head.variable body scopes) (stepped scopes head) (value, runs) met

-- a turn, then what comes of the next
generate_then : Place → Span → PlainHead → PlainBlock → List (List Entry) → ℕ → Const → Result Met ElabErr → Result Met ElabErr
generate_then place span head body scopes most value r =
    r >>= λ met. stepped scopes head value >>= λ next.
    turns most span (turn_met span) (turn_of (λ own. body_of own body) place head.variable body scopes) (stepped scopes head) next met

generate-then : (place : Place) (span : Span) (head : PlainHead) (body : PlainBlock) (scopes : List (List Entry)) (most : ℕ) (value : Const) (met : Met)
    → generate_from place span head body scopes (suc most) value true met ≡ generate_then place span head body scopes most value (turn_met_at place span head body scopes value met)
unfolding generate_then
generate-then place span head body scopes most value met =
    go (turn_met span met) (turn_of (λ own. body_of own body) place head.variable body scopes value) λ more.
    stepped scopes head value >>= λ next.
    turns most span (turn_met span) (turn_of (λ own. body_of own body) place head.variable body scopes) (stepped scopes head) next more
  where
    go : (r : Result Met ElabErr) (f g : Met → Result Met ElabErr) → r >>= (λ counted. f counted >>= g) ≡ (r >>= f) >>= g
    go (Ok m) f g = refl
    go (Err e) f g = refl

pub generate-next : (place : Place) (span : Span) (head : PlainHead) (body : PlainBlock) (scopes : List (List Entry)) (most rest : ℕ) (value : Const) (runs : Bool) (met after : Met)
    (next : Const) (more : Bool) → runs ≡ true → most ≡ suc rest
    → turn_met_at place span head body scopes value met ≡ Ok after → stepped scopes head value ≡ Ok (next, more)
    → generate_from place span head body scopes most value runs met ≡ generate_from place span head body scopes rest next more after
unfolding generate_then
generate-next place span head body scopes most rest value runs met after next more goes is made steps =
    ap (λ b. generate_from place span head body scopes most value b met) goes
    ∙ ap (λ n. generate_from place span head body scopes n value true met) is
    ∙ generate-then place span head body scopes rest value met
    ∙ ap (generate_then place span head body scopes rest value) made
    ∙ ap (λ (r : Result (Const × Bool) ElabErr). r >>= λ next. turns rest span (turn_met span) (turn_of (λ own. body_of own body) place head.variable body scopes) (stepped scopes head) next after) steps

pub generate-refused : (place : Place) (span : Span) (head : PlainHead) (body : PlainBlock) (scopes : List (List Entry)) (most rest : ℕ) (value : Const) (runs : Bool) (met : Met) (e : ElabErr)
    → runs ≡ true → most ≡ suc rest → turn_met_at place span head body scopes value met ≡ Err e
    → generate_from place span head body scopes most value runs met ≡ Err e
unfolding generate_then
generate-refused place span head body scopes most rest value runs met e goes is made =
    ap (λ b. generate_from place span head body scopes most value b met) goes
    ∙ ap (λ n. generate_from place span head body scopes n value true met) is
    ∙ generate-then place span head body scopes rest value met
    ∙ ap (generate_then place span head body scopes rest value) made

pub generate-step_refused : (place : Place) (span : Span) (head : PlainHead) (body : PlainBlock) (scopes : List (List Entry)) (most rest : ℕ) (value : Const) (runs : Bool) (met after : Met) (e : ElabErr)
    → runs ≡ true → most ≡ suc rest → turn_met_at place span head body scopes value met ≡ Ok after → stepped scopes head value ≡ Err e
    → generate_from place span head body scopes most value runs met ≡ Err e
unfolding generate_then
generate-step_refused place span head body scopes most rest value runs met after e goes is made steps =
    ap (λ b. generate_from place span head body scopes most value b met) goes
    ∙ ap (λ n. generate_from place span head body scopes n value true met) is
    ∙ generate-then place span head body scopes rest value met
    ∙ ap (generate_then place span head body scopes rest value) made
    ∙ ap (λ (r : Result (Const × Bool) ElabErr). r >>= λ next. turns rest span (turn_met span) (turn_of (λ own. body_of own body) place head.variable body scopes) (stepped scopes head) next after) steps

pub generate-end : (place : Place) (span : Span) (head : PlainHead) (body : PlainBlock) (scopes : List (List Entry)) (most : ℕ) (value : Const) (runs : Bool) (met : Met)
    → runs ≡ false → generate_from place span head body scopes most value runs met ≡ Ok met
generate-end place span head body scopes most value runs met ends = ap (λ b. generate_from place span head body scopes most value b met) ends

pub generate-too_many : (place : Place) (span : Span) (head : PlainHead) (body : PlainBlock) (scopes : List (List Entry)) (most : ℕ) (value : Const) (runs : Bool) (met : Met)
    → runs ≡ true → most ≡ 0 → generate_from place span head body scopes most value runs met ≡ Err (fault.Turns span)
generate-too_many place span head body scopes most value runs met goes is =
    ap (λ b. generate_from place span head body scopes most value b met) goes ∙ ap (λ n. generate_from place span head body scopes n value true met) is

pub ruleset generate_steps = (generate-next, generate-refused, generate-step_refused, generate-end, generate-too_many)

-- ---- as the code has them: the place and the scopes around it are the same at each turn
pub same-outer : (names names' : List Entry) (outer outer' : List (List Entry)) → names ∷ outer ≡ names' ∷ outer' → outer ≡ outer'
same-outer names names' outer outer' same = cc

pub same-names : (names names' : List Entry) (outer outer' : List (List Entry)) → names ∷ outer ≡ names' ∷ outer' → names ≡ names'
same-names names names' outer outer' same = cc

-- what is met with other names that are the same
pub same-met : (copies : Copies) (left : Left) (names names' : List Entry) (outer outer' : List (List Entry)) → names ∷ outer ≡ names' ∷ outer'
    → ◌≡◌ {A = Met} (record { names = names; copies = copies; left = left }) (record { names = names'; copies = copies; left = left })
same-met copies left names names' outer outer' same =
    ap (λ ns. record { names = ns; copies = copies; left = left }) (same-names names names' outer outer' same)

module _ (place there : Place) (is_place : there ≡ place) (scopes around : List (List Entry)) (same : around ≡ scopes) (span : Span) (head : PlainHead) (body : PlainBlock)
    (n : ℕ) (few : n < 65536) (value : Const) (runs : Bool) (goes : runs ≡ true) (met : Met) (whole : Result Met ElabErr)
    (rest : generate_from place span head body scopes (65536 - n) value runs met ≡ whole) where
  one-less : 65536 - n ≡ suc (65536 - (n + 1))
  one-less = omega (arith, few)

  inside : {r : Result Met ElabErr} → turn_met_at there span head body around value met ≡ r → turn_met_at place span head body scopes value met ≡ r
  inside is = ap (λ p. turn_met_at p span head body scopes value met) (sym is_place) ∙ ap (λ fs. turn_met_at there span head body fs value met) (sym same) ∙ is

  pub generate-goes_on : (after : Met) (now : List (List Entry)) (next : Const) (more : Bool) → turn_met_at there span head body around value met ≡ Ok after
      → now ≡ scopes → stepped now head value ≡ Ok (next, more) → generate_from place span head body scopes (65536 - (n + 1)) next more after ≡ whole
  generate-goes_on after now next more made back steps =
      sym (generate-next place span head body scopes (65536 - n) (65536 - (n + 1)) value runs met after next more goes one-less
      (inside made) (ap (λ fs. stepped fs head value) (sym back) ∙ steps)) ∙ rest

  pub generate-turn_refuses : (e : ElabErr) → Refuses (turn_met_at there span head body around value met) e → Refuses whole e
  generate-turn_refuses e (inl none) = inl none
  generate-turn_refuses e (inr is) =
      inr (sym rest ∙ generate-refused place span head body scopes (65536 - n) (65536 - (n + 1)) value runs met e goes one-less (inside is))

  pub generate-step_refuses : (after : Met) (now : List (List Entry)) (e : ElabErr) → turn_met_at there span head body around value met ≡ Ok after
      → now ≡ scopes → Refuses (stepped now head value) e → Refuses whole e
  generate-step_refuses after now e made back (inl none) = inl none
  generate-step_refuses after now e made back (inr is) =
      inr (sym rest ∙ generate-step_refused place span head body scopes (65536 - n) (65536 - (n + 1)) value runs met after e goes one-less
      (inside made) (ap (λ fs. stepped fs head value) (sym back) ∙ is))

pub generate-ended : (place : Place) (span : Span) (head : PlainHead) (body : PlainBlock) (scopes : List (List Entry)) (n : ℕ) (value : Const) (runs : Bool) (met : Met)
    (whole : Result Met ElabErr) → generate_from place span head body scopes (65536 - n) value runs met ≡ whole → runs ≡ false → whole ≡ Ok met
generate-ended place span head body scopes n value runs met whole rest ends = sym rest ∙ generate-end place span head body scopes (65536 - n) value runs met ends

pub generate-beyond : (place : Place) (span : Span) (head : PlainHead) (body : PlainBlock) (scopes : List (List Entry)) (n : ℕ) (value : Const) (runs : Bool) (met : Met)
    (whole : Result Met ElabErr) → generate_from place span head body scopes (65536 - n) value runs met ≡ whole → runs ≡ true → 65536 ≤ n → whole ≡ Err (fault.Turns span)
generate-beyond place span head body scopes n value runs met whole rest goes many =
    let none : 65536 - n ≡ 0 = omega (arith, many) in
    sym rest ∙ generate-too_many place span head body scopes (65536 - n) value runs met goes none

-- ---- a whole loop
module _ (place there : Place) (is_place : there ≡ place) (met now : Met) (is_met : now ≡ met) (around : List (List Entry)) (same : around ≡ frames place met)
    (span : Span) (head : PlainHead) (body : PlainBlock) (value : Const) (runs : Bool)
    (u : ⊤) (found : loop_genvar (frames place met) head.variable ≡ Ok u) (begins : begun (frames place met) head ≡ Ok (value, runs)) where
  loop-is : loop_met place span head body met ≡ turns_met there span head body around (value, runs) now
  loop-is =
      ap (λ (r : Result ⊤ ElabErr). r >>= λ _. begun (frames place met) head >>= λ first. turns_met place span head body (frames place met) first met) found
      ∙ ap (λ (r : Result (Const × Bool) ElabErr). r >>= λ first. turns_met place span head body (frames place met) first met) begins
      ∙ ap (λ p. turns_met p span head body (frames place met) (value, runs) met) (sym is_place)
      ∙ ap (λ fs. turns_met there span head body fs (value, runs) met) (sym same)
      ∙ ap (λ m. turns_met there span head body around (value, runs) m) (sym is_met)

  pub loop-ok : (r : Result ⊤ ElabErr) (last : Met) → OnOk r (turns_met there span head body around (value, runs) now ≡ Ok last) → OnOk r (loop_met place span head body met ≡ Ok last)
  loop-ok (Ok u) last ran = loop-is ∙ ran
  loop-ok (Err e) last ran = tt

  pub loop-refuses : (r : Result ⊤ ElabErr) → IfErr r (λ e. Refuses (turns_met there span head body around (value, runs) now) e)
      → IfErr r (λ e. Refuses (loop_met place span head body met) e)
  loop-refuses (Ok u) all = tt
  loop-refuses (Err e) (inl none) = inl none
  loop-refuses (Err e) (inr is) = inr (loop-is ∙ is)
