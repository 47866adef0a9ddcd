-- Worked examples of the definitions: small designs written down by hand, and what every cycle of them shows.
use Rattle.design_core.specs.declared.expression.Node.{end_of-Typed, more_of-Typed}
use Rattle.std.proofs.Common.{◌≡◌, ℕ, ◌+◌, ◌-◌, ◌^◌, ◌<◌, ◌≤◌, List, [], ◌∷◌, ap, ◌∙◌, refl, lit<, lit≤}
use Rattle.std.specs.Prelude.{Bool, true, false, not, ◌||◌, if◌then◌else◌, bit_or, pos, Some, None}
use Rattle.std.proofs.lemmas.Bool.{lt-ltb}
use Rattle.loc_base.specs.declared.bits.Bits.{Bits}
use Rattle.design_core.specs.declared.signal.SignalKind.TheVariants as kind
use Rattle.design_core.specs.declared.expression.UnaryOp.TheVariants as unary_op
use Rattle.design_core.specs.declared.expression.BinaryOp.TheVariants as binary_op
use Rattle.design_core.specs.declared.expression.Typed.{Typed}
use Rattle.design_core.specs.declared.expression.Node.TheVariants as node
use Rattle.design_core.specs.declared.statement.Part.TheVariants as part
use Rattle.design_core.specs.declared.statement.Target.{Target}
use Rattle.design_core.specs.declared.statement.Stmt.TheVariants as stmt
use Rattle.design_core.specs.declared.driver.Driver.{Driver}
use Rattle.design_core.specs.declared.driver.Driver.TheVariants as driver
use Rattle.design_core.specs.declared.driver.Reset.{Reset}
use Rattle.design_core.specs.declared.driver.Clocked.{Clocked}
use Rattle.loc_base.specs.declared.span.Span.{Span}
use Rattle.design_core.specs.declared.design.Design.{Design}
use Rattle.design_core.specs.Valuation.{Valuation, bit, number}
use Rattle.design_core.specs.Value.{value}
use Rattle.design_core.specs.After.{Choice}
use Rattle.design_core.specs.Cycle.{Cycle, left_from}
use Rattle.design_core.proofs.NumberLaws.{number-same}
use Rattle.design_core.proofs.Examples.{Any, vec, declared, scalar, none_freed, freed}

-- ---- what the designs are made of
abbrev whole : ℕ → ℕ → Typed
whole width signal = record { width = width; signed = false; node = node.Whole signal }

abbrev target : Any → ℕ → Target
target any signal = record { parts = part.Whole signal ∷ [] }

-- a word of some bits
abbrev word : (width value : ℕ) → 1 ≤ width → width ≤ 128 → value < 2 ^ width → Bits
word width value least most within = record { width = width; value = value; at_least_one = least; at_most_128 = most; in_range = within }

one_bit : (b : Bool) → bit (0 + (if b then 2 ^ 0 else 0)) 0 ≡ b
one_bit true = refl
one_bit false = refl

-- a signal's number in one bit
one : (V : Valuation) (s : ℕ) → bit (number 1 (V s)) 0 ≡ V s 0
unfolding number
one V s = one_bit (V s 0)

-- ---- held-register: always @(posedge clk) q <= q; the clock is signal 0, and q signal 1
abbrev pub held_block : Any → Clocked
held_block any = record { reset = None; body = stmt.Set 0 (target any 1) (whole 1 1) true }

abbrev pub held : Any → Design
held any = record {
  signals = vec any (scalar any kind.Input ∷ scalar any kind.Reg ∷ []) (lit< tt);
  drivers = vec any [] (lit< tt);
  clocked = vec any (held_block any ∷ []) (lit< tt);
  places = vec any [] (lit< tt);
  inputs = vec any [] (lit< tt);
  outputs = vec any (1 ∷ []) (lit< tt);
}

pub a_held_register_keeps_its_state : (any : Any) (state V next : Valuation) → Cycle (held any) [] state none_freed V next
    → (V 1 0 ≡ state 1 0) × (next 1 0 ≡ state 1 0) × (V 0 0 ≡ false)
a_held_register_keeps_its_state any state V next c =
    let now : V 1 0 ≡ state 1 0 = c.register 1 0 refl refl in
    (now, c.next_clocked (held_block any) 1 0 (0, lit< tt, refl) refl refl refl ∙ one V 1 ∙ now, c.other 0 0 refl)

pub a_freed_held_register_takes_the_value : (any : Any) (v : ℕ) (state V next : Valuation) → Cycle (held any) [] state (freed 0 v) V next
    → (V 1 0 ≡ state 1 0) × (next 1 0 ≡ bit v 0)
a_freed_held_register_takes_the_value any v state V next c =
    (c.register 1 0 refl refl, c.next_clocked (held_block any) 1 0 (0, lit< tt, refl) refl refl refl)

-- ---- step-by-two: q <= q + 2; with q in four bits
abbrev step_block : Any → Clocked
step_block any = record {
  reset = None;
  body = stmt.Set 0 (target any 1)
      (record {
        width = 4;
        signed = false;
        node = node.Binary' binary_op.Add tt (more_of-Typed 4 false (node.Whole 1) end_of-Typed) tt (more_of-Typed 4 false (node.Const (word 4 2 (lit≤ tt) (lit≤ tt) (lit< tt))) end_of-Typed);
      }) true;
}

abbrev step : Any → Design
step any = record {
  signals = vec any (scalar any kind.Input ∷ declared any 4 (pos 3) (pos 0) kind.Reg ∷ []) (lit< tt);
  drivers = vec any [] (lit< tt);
  clocked = vec any (step_block any ∷ []) (lit< tt);
  places = vec any [] (lit< tt);
  inputs = vec any [] (lit< tt);
  outputs = vec any (1 ∷ []) (lit< tt);
}

step_bits : (any : Any) (choice : Choice) (state V next : Valuation) → Cycle (step any) [] state choice V next
    → (b : ℕ) → b < 4 → next 1 b ≡ left_from (step any).signals.items choice (step_block any) V (step_block any).body 1 b
step_bits any choice state V next c b h =
    c.next_clocked (step_block any) 1 b (0, lit< tt, refl) refl (rw (lt-ltb b 4 h) refl) refl

-- 2 becomes 4, and 15 becomes 1
pub a_step_adds_two : (any : Any) (state V next : Valuation) → Cycle (step any) [] state none_freed V next → V 1 ≡ bit 2 → number 4 (next 1) ≡ 4
unfolding number
a_step_adds_two any state V next c e = number-same 4 (next 1) _ (step_bits any none_freed state V next c) ∙ rw e refl

pub a_step_wraps : (any : Any) (state V next : Valuation) → Cycle (step any) [] state none_freed V next → V 1 ≡ bit 15 → number 4 (next 1) ≡ 1
unfolding number
a_step_wraps any state V next c e = number-same 4 (next 1) _ (step_bits any none_freed state V next c) ∙ rw e refl

pub a_freed_step_takes_the_value : (any : Any) (state V next : Valuation) → Cycle (step any) [] state (freed 0 1) V next → number 4 (next 1) ≡ 1
unfolding number
a_freed_step_takes_the_value any state V next c = number-same 4 (next 1) _ (step_bits any (freed 0 1) state V next c) ∙ refl

-- ---- an asynchronous reset: always @(posedge clk or posedge rst) if (rst) q <= 1'b0; else q <= ~q;
abbrev reset_of : Any → Bool → Reset
reset_of any level = record {
  signal = 1;
  level = level;
  values = stmt.Set 0 (target any 2) (record { width = 1; signed = false; node = node.Const (word 1 0 (lit≤ tt) (lit≤ tt) (lit< tt)) }) true;
}

abbrev toggle_block : Any → Bool → Clocked
toggle_block any level = record {
  reset = Some (reset_of any level);
  body = stmt.Set 1 (target any 2) (record { width = 1; signed = false; node = node.Unary' unary_op.Not tt (more_of-Typed 1 false (node.Whole 2) end_of-Typed) }) true;
}

abbrev toggle : Any → Bool → Design
toggle any level = record {
  signals = vec any (scalar any kind.Input ∷ scalar any kind.Input ∷ scalar any kind.Reg ∷ []) (lit< tt);
  drivers = vec any [] (lit< tt);
  clocked = vec any (toggle_block any level ∷ []) (lit< tt);
  places = vec any [] (lit< tt);
  inputs = vec any (1 ∷ []) (lit< tt);
  outputs = vec any (2 ∷ []) (lit< tt);
}

not_one : (b : Bool) → bit (1 - (0 + (if b then 2 ^ 0 else 0))) 0 ≡ not b
not_one true = refl
not_one false = refl

-- while rst is 1 the register has its reset value, in this cycle and in the next state
pub an_active_reset_is_seen_in_its_cycle : (any : Any) (samples : List Bits) (state V next : Valuation) → Cycle (toggle any true) samples state none_freed V next → V 1 0 ≡ true
    → (V 2 0 ≡ false) × (next 2 0 ≡ false)
an_active_reset_is_seen_in_its_cycle any samples state V next c active =
    let now : V 2 0 ≡ false = c.reset (toggle_block any true) (reset_of any true) 2 0 (0, lit< tt, refl) refl active refl refl in
    (now, c.next_reset 2 0 refl (rw active refl) ∙ now)

-- while it is 0 the register has its state, and the next one is what the body computes
pub an_inactive_reset_has_no_effect : (any : Any) (samples : List Bits) (state V next : Valuation) → Cycle (toggle any true) samples state none_freed V next → V 1 0 ≡ false
    → (V 2 0 ≡ state 2 0) × (next 2 0 ≡ not (state 2 0))
unfolding number
an_inactive_reset_has_no_effect any samples state V next c inactive =
    let now : V 2 0 ≡ state 2 0 = c.register 2 0 refl (rw inactive refl) in
    (now, c.next_clocked (toggle_block any true) 2 0 (0, lit< tt, refl) (rw inactive refl) refl refl ∙ not_one (V 2 0) ∙ ap not now)

-- a reset by negedge is active while its signal is 0
pub a_reset_at_level_0_is_active_at_0 : (any : Any) (samples : List Bits) (state V next : Valuation) → Cycle (toggle any false) samples state none_freed V next → V 1 0 ≡ false
    → (V 2 0 ≡ false) × (next 2 0 ≡ false)
a_reset_at_level_0_is_active_at_0 any samples state V next c active =
    let now : V 2 0 ≡ false = c.reset (toggle_block any false) (reset_of any false) 2 0 (0, lit< tt, refl) refl (rw active refl) refl refl in
    (now, c.next_reset 2 0 refl (rw active refl) ∙ now)

-- ---- fan-out: assign n = a; assign y = n | b; assign x = n; the signals a, b, n, y, x are 0 to 4
abbrev drives : Any → Span → ℕ → Typed → ℕ → Driver
drives any span signal computed place = driver.Cont (target any signal) computed (Some place) span

abbrev n_driver : Any → Span → Driver
n_driver any span = drives any span 2 (whole 1 0) 0

abbrev y_driver : Any → Span → Driver
y_driver any span = drives any span 3 (record { width = 1; signed = false; node = node.Binary' binary_op.Or tt (more_of-Typed 1 false (node.Whole 2) end_of-Typed) tt (more_of-Typed 1 false (node.Whole 1) end_of-Typed) }) 1

abbrev x_driver : Any → Span → Driver
x_driver any span = drives any span 4 (whole 1 2) 2

abbrev fan_out : Any → Span → Design
fan_out any span = record {
  signals = vec any (scalar any kind.Input ∷ scalar any kind.Input ∷ scalar any kind.Net ∷ scalar any kind.Net ∷ scalar any kind.Net ∷ []) (lit< tt);
  drivers = vec any (n_driver any span ∷ y_driver any span ∷ x_driver any span ∷ []) (lit< tt);
  clocked = vec any [] (lit< tt);
  places = vec any [] (lit< tt);
  inputs = vec any (0 ∷ 1 ∷ []) (lit< tt);
  outputs = vec any (3 ∷ 4 ∷ []) (lit< tt);
}

either : (a b : Bool) → bit (bit_or (0 + (if a then 2 ^ 0 else 0)) (0 + (if b then 2 ^ 0 else 0))) 0 ≡ (a || b)
either true true = refl
either true false = refl
either false true = refl
either false false = refl

-- where nothing is freed, n is a, y is n or b, and x is n
pub fan_out_computes : (any : Any) (span : Span) (samples : List Bits) (state V next : Valuation) → Cycle (fan_out any span) samples state none_freed V next
    → (V 2 0 ≡ V 0 0) × (V 3 0 ≡ (V 2 0 || V 1 0)) × (V 4 0 ≡ V 2 0)
unfolding number
fan_out_computes any span samples state V next c = (
  c.driver (n_driver any span) 2 0 (0, lit< tt, refl) refl ∙ one_bit (V 0 0),
  c.driver (y_driver any span) 3 0 (1, lit< tt, refl) refl ∙ either (V 2 0) (V 1 0),
  c.driver (x_driver any span) 4 0 (2, lit< tt, refl) refl ∙ one_bit (V 2 0),
)

-- the place of n put to 1 makes y and x 1
pub freeing_n_raises_both_outputs : (any : Any) (span : Span) (samples : List Bits) (state V next : Valuation) → Cycle (fan_out any span) samples state (freed 0 1) V next
    → (V 3 0 ≡ true) × (V 4 0 ≡ true)
unfolding number
freeing_n_raises_both_outputs any span samples state V next c =
    let n : V 2 0 ≡ true = c.driver (n_driver any span) 2 0 (0, lit< tt, refl) refl in (
      c.driver (y_driver any span) 3 0 (1, lit< tt, refl) refl ∙ either (V 2 0) (V 1 0) ∙ ap (λ b. b || V 1 0) n,
      c.driver (x_driver any span) 4 0 (2, lit< tt, refl) refl ∙ one_bit (V 2 0) ∙ n,
    )

-- the place of y alone, whatever its value, leaves x what a is
pub freeing_y_leaves_x : (any : Any) (span : Span) (v : ℕ) (samples : List Bits) (state V next : Valuation) → Cycle (fan_out any span) samples state (freed 1 v) V next
    → (V 3 0 ≡ bit v 0) × (V 4 0 ≡ V 0 0)
unfolding number
freeing_y_leaves_x any span v samples state V next c = (
  c.driver (y_driver any span) 3 0 (1, lit< tt, refl) refl,
  c.driver (x_driver any span) 4 0 (2, lit< tt, refl) refl ∙ one_bit (V 2 0) ∙ c.driver (n_driver any span) 2 0 (0, lit< tt, refl) refl ∙ one_bit (V 0 0),
)
