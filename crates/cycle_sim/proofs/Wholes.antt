-- An assignment to a whole signal.
use Rattle.std.proofs.Common.{ℕ, ◌+◌, ◌-◌, ◌≡◌, Bool, true, false, ◌&&◌, List, [], ◌∷◌, refl, ap, sym, ◌∙◌, arith, Option}
use Rattle.std.specs.Prelude.{◌==◌, ◌||◌, nat_le, nat_lt, if◌then◌else◌}
use Rattle.std.specs.List.{list_any}
use Rattle.std.proofs.Math.Path.{fun_ext}
use Rattle.std.proofs.lemmas.Bool.{le-leb}
use Rattle.loc_base.specs.declared.span.Span.{Span}
use Rattle.design_core.specs.declared.signal.Signal.{Signal}
use Rattle.design_core.specs.declared.expression.Typed.{Typed}
use Rattle.design_core.specs.declared.statement.Part.{Part}
use Rattle.design_core.specs.declared.statement.Part.TheVariants.{Whole}
use Rattle.design_core.specs.declared.statement.Target.{Target}
use Rattle.design_core.specs.declared.driver.Driver.TheVariants.{Cont}
use Rattle.design_core.specs.Valuation.{Valuation, bit, width_at}
use Rattle.design_core.specs.Value.{value}
use Rattle.design_core.specs.Store.{store, with_bits}
use Rattle.design_core.specs.After.{Choice}
use Rattle.design_core.specs.Cycle.{without, cont_assigned}
use Rattle.design_core.specs.Drives.{part_drives}
use Rattle.cycle_sim.specs.Masks.{with_own}

-- ---- what is left of the values before it: nothing of the signal's own bits
and-true : (x y : Bool) → (x && true && y) ≡ (x && y)
and-true true y = refl
and-true false y = refl

tested : (s signal b w : ℕ) → (s == signal && nat_le 0 b && nat_lt b (0 + w)) ≡ (s == signal && nat_lt b w)
tested s signal b w =
    ap (λ t. s == signal && t && nat_lt b (0 + w)) (le-leb 0 b (omega arith))
    ∙ and-true (s == signal) (nat_lt b (0 + w))
    ∙ ap (λ n. s == signal && nat_lt b n) (omega arith)

one-test : (t : Bool) (x y v : Bool) → x ≡ y → (if t || false then (if t then x else v) else v) ≡ (if t then y else v)
one-test true x y v e = e
one-test false x y v e = refl

pub stored-whole : (signals : List Signal) (R V : Valuation) (parts : List Part) (signal : ℕ) (bits : ℕ → Bool)
    → parts ≡ Whole signal ∷ [] → (s b : ℕ)
    → (if list_any (part_drives signals s b) parts then store signals R R parts bits s b else V s b)
    ≡ with_bits V signal 0 (width_at signals signal) bits s b
stored-whole signals R V parts signal bits only s b =
    ap (λ ps. if list_any (part_drives signals s b) ps then store signals R R ps bits s b else V s b) only
    ∙ at (s == signal && nat_lt b (width_at signals signal)) refl
  where
    at : (t : Bool) → (s == signal && nat_lt b (width_at signals signal)) ≡ t
        → (if list_any (part_drives signals s b) (Whole signal ∷ []) then store signals R R (Whole signal ∷ []) bits s b else V s b)
        ≡ with_bits V signal 0 (width_at signals signal) bits s b
    at true e =
        ap (λ t. if t || false then store signals R R (Whole signal ∷ []) bits s b else V s b) e
        ∙ ap (λ t. if t then bits (0 + (b - 0)) else R s b) (tested s signal b (width_at signals signal) ∙ e)
        ∙ ap bits (omega arith)
        ∙ sym (ap (λ t. if t then bits (b - 0) else V s b) (tested s signal b (width_at signals signal) ∙ e))
    at false e =
        ap (λ t. if t || false then store signals R R (Whole signal ∷ []) bits s b else V s b) e
        ∙ sym (ap (λ t. if t then bits (b - 0) else V s b) (tested s signal b (width_at signals signal) ∙ e))

pub whole-own : (signals : List Signal) (choice : Choice) (target : Target) (e : Typed) (place : Option ℕ) (span : Span)
    (V N : Valuation) (signal : ℕ) → target.parts ≡ Whole signal ∷ []
    → N ≡ with_bits V signal 0 (width_at signals signal) (bit (cont_assigned choice place (value signals V e)))
    → N ≡ with_own signals choice (Cont target e place span) V
whole-own signals choice target e place span V N signal only n =
    n ∙ fun_ext (λ s. fun_ext (λ b. sym (stored-whole signals (without signals (Cont target e place span) V) V target.parts
    signal (bit (cont_assigned choice place (value signals V e))) only s b)))
