-- The arms of a case, one before the others.
use Rattle.std.proofs.Common.{◌≡◌, true, false, List, [], ◌∷◌, ◌++◌, refl, ap, ◌∙◌}
use Rattle.std.specs.Prelude.{Result, Ok, Err}
use Rattle.design_core.specs.declared.place.Place.{Place}
use Rattle.design_core.specs.declared.statement.Label.{Label}
use Rattle.design_core.specs.declared.statement.Stmt.{Stmt}
use Rattle.design_core.specs.declared.statement.Stmt.TheVariants as stmt
use Rattle.v_hierarchy.specs.Views.{PlainArm, labelled, otherwise, arms_of}
use Rattle.v_binding.specs.declared.error.BindErr.{BindErr}
use Rattle.v_binding.specs.Steps.{◌>>=◌, each}
use Rattle.v_binding.specs.Names.{Names}
use Rattle.v_binding.specs.Places.{Home, Placed, placed}
use Rattle.v_binding.specs.Cases.{Context, with_arms, label_at}
use Rattle.v_binding.specs.Statements.{Chosen, as_default, bound, bound_arms}
use Rattle.bind_statements.specs.declared.chosen.BoundArm.{BoundArm}
use Rattle.bind_statements.specs.declared.chosen.BoundArm.TheVariants.{Item as item, Other as other}
use Rattle.bind_statements.specs.Arms.{is_nothing, bound_arm, chosen_with, FitArm}
use Rattle.bind_statements.specs.Contexts.{with_arm}
use Rattle.v_binding.specs.Turns.{ArmsFit}

-- ---- contexts
pub context-next : (names : Names) (a : PlainArm) (rest : List PlainArm) (c : Context) → with_arms names (arms_of (a ∷ rest)) c ≡ with_arms names (arms_of rest) (with_arm names a c)
context-next names (labelled labels body) rest c = refl
context-next names (otherwise body) rest c = refl

pub ruleset context_steps = (context-next)

-- ---- what arms are bound to
arms-step : (home : Home) (names : Names) (c : Context) (a : PlainArm) (rest : List PlainArm) (done : Chosen) (places : List Place)
    → bound_arms home names c (arms_of (a ∷ rest)) done places
    ≡ (bound_arm home names c a places >>= λ x. bound_arms home names c (arms_of rest) (chosen_with done x.value) x.places)
arms-step home names c (labelled labels body) rest done places = go (each (label_at names c) labels []) (bound home names body places)
  where
    go : (list : Result (List Label) BindErr) (one : Result (Placed Stmt) BindErr)
        → (list >>= λ labels. one >>= λ x. bound_arms home names c (arms_of rest) (record { items = done.items ++ record { labels = labels; body = x.value } ∷ []; other = done.other }) x.places)
        ≡ ((list >>= λ labels. one >>= λ x. Ok (placed (item (record { labels = labels; body = x.value })) x.places))
        >>= λ x. bound_arms home names c (arms_of rest) (chosen_with done x.value) x.places)
    go (Ok list) (Ok one) = refl
    go (Ok list) (Err e) = refl
    go (Err e) one = refl
arms-step home names c (otherwise body) rest done places = go (bound home names body places)
  where
    go : (one : Result (Placed Stmt) BindErr)
        → (one >>= λ x. bound_arms home names c (arms_of rest) (record { items = done.items; other = as_default x.value }) x.places)
        ≡ ((one >>= λ x. Ok (placed (other x.value) x.places)) >>= λ x. bound_arms home names c (arms_of rest) (chosen_with done x.value) x.places)
    go (Ok one) = refl
    go (Err e) = refl

pub arms-next : (home : Home) (names : Names) (c : Context) (a : PlainArm) (rest : List PlainArm) (done : Chosen) (places after : List Place) (made : BoundArm)
    → bound_arm home names c a places ≡ Ok (placed made after)
    → bound_arms home names c (arms_of (a ∷ rest)) done places ≡ bound_arms home names c (arms_of rest) (chosen_with done made) after
arms-next home names c a rest done places after made is =
    arms-step home names c a rest done places
    ∙ ap (λ (r : Result (Placed BoundArm) BindErr). r >>= λ x. bound_arms home names c (arms_of rest) (chosen_with done x.value) x.places) is

pub arms-refused : (home : Home) (names : Names) (c : Context) (a : PlainArm) (rest : List PlainArm) (done : Chosen) (places : List Place) (e : BindErr)
    → bound_arm home names c a places ≡ Err e → bound_arms home names c (arms_of (a ∷ rest)) done places ≡ Err e
arms-refused home names c a rest done places e is =
    arms-step home names c a rest done places
    ∙ ap (λ (r : Result (Placed BoundArm) BindErr). r >>= λ x. bound_arms home names c (arms_of rest) (chosen_with done x.value) x.places) is

-- ---- their turns
pub arm-fits : (a : PlainArm) (rest : List PlainArm) → ArmsFit (arms_of (a ∷ rest)) → FitArm a
arm-fits (labelled labels body) rest fit = fit.0
arm-fits (otherwise body) rest fit = fit.0

pub arms-fit : (a : PlainArm) (rest : List PlainArm) → ArmsFit (arms_of (a ∷ rest)) → ArmsFit (arms_of rest)
arms-fit (labelled labels body) rest fit = fit.1
arms-fit (otherwise body) rest fit = fit.1

pub ruleset arm_steps = (arms-next, arms-refused, arm-fits, arms-fit)

-- ---- defaults
pub default-nothing : (s : Stmt) → is_nothing s ≡ true → as_default s ≡ stmt.Block []
default-nothing stmt.Nothing is = refl
default-nothing _ is = cc

pub default-kept : (s : Stmt) → is_nothing s ≡ false → as_default s ≡ s
default-kept stmt.Nothing is = cc
default-kept _ is = refl

pub ruleset default_laws = (default-nothing, default-kept)
