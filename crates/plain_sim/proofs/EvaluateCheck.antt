-- The equations that are compared are those of a cycle.
use Rattle.std.proofs.Common.{◌≡◌, ℕ, ◌<◌, List, length, ap, ◌∙◌, sym}
use Rattle.std.specs.Prelude.{not, IsTrue, slice_get, Some, Result, Ok, Err, IfOk}
use Rattle.std.proofs.lemmas.Bool.{and_parts, and_from}
use Rattle.std.proofs.lemmas.Option.{slice_get_within}
use Rattle.loc_base.specs.declared.bits.Bits.{Bits}
use Rattle.design_core.specs.declared.driver.Driver.{Driver}
use Rattle.design_core.specs.declared.driver.Reset.{Reset}
use Rattle.design_core.specs.declared.driver.Clocked.{Clocked}
use Rattle.design_core.specs.declared.design.Design.{Design}
use Rattle.plain_sim.specs.declared.cycle.region.Region.TheVariants as region
use Rattle.design_core.specs.Valuation.{Valuation}
use Rattle.design_core.specs.Constant.{zeros}
use Rattle.design_core.specs.After.{Choice}
use Rattle.design_core.specs.Drives.{driver_drives, block_drives, is_register_bit}
use Rattle.design_core.specs.Cycle.{Cycle, sampled, before, driven, left_from, is_active, is_reset, is_clocked}
use Rattle.design_core.specs.Reads.{AgreeOn}
use Rattle.plain_sim.specs.EvaluateCycle.{is_in, DriverHolds, BlockHolds}
use Rattle.design_core.proofs.CycleLaws.{Contains-at, Contains-place}

pub IfOk-map : {X E : Type 0} (r : Result X E) (P Q : X → Type 0) → ((x : X) → P x → Q x) → IfOk r P → IfOk r Q
IfOk-map (Ok x) P Q to h = to x h
IfOk-map (Err e) P Q to h = h

-- the facts of a cycle that are compared with words at once
abbrev pub ValuesHold : Design → Valuation → Valuation → Valuation → Valuation → Type 0
ValuesHold d V S state Z =
    AgreeOn (is_in d V region.Listed) V S × AgreeOn (is_in d V region.Held) V state × AgreeOn (is_in d V region.Undriven) V Z

abbrev pub NextHolds : Design → Valuation → Valuation → Valuation → Valuation → Type 0
NextHolds d V next state Z =
    AgreeOn (is_in d V region.Reset) next V × AgreeOn (is_in d V region.Unclocked) next state × AgreeOn (is_in d V region.NoRegister) next Z

-- what is compared makes a cycle
pub cycle-from : (d : Design) (samples : List Bits) (state : Valuation) (choice : Choice) (V next S Z E : Valuation)
    → S ≡ sampled d.inputs.items samples → Z ≡ zeros → E ≡ before d samples state
    → ValuesHold d V S state Z → NextHolds d V next state Z
    → ((i : ℕ) → i < length d.clocked.items → BlockHolds d choice E V next i)
    → ((i : ℕ) → i < length d.drivers.items → DriverHolds d choice V i)
    → Cycle d samples state choice V next
cycle-from d samples state choice V next S Z E s_is z_is e_is (input, held, undriven) (reset, unclocked, none) blocks drivers =
    record {
      input = λ s b listed. input.same s b listed ∙ ap (λ (W : Valuation). W s b) s_is;
      reset = λ block r s b member at active drives register. reset_value block r s b (Contains-place d.clocked.items block member) at active drives register;
      register = λ s b register quiet. held.same s b (and_from (is_register_bit d s b) (not (is_reset d V s b)) register quiet);
      driver = λ driver s b member drives. driver_value driver s b (Contains-place d.drivers.items driver member) drives;
      other = λ s b passes. undriven.same s b passes ∙ ap (λ (W : Valuation). W s b) z_is;
      next_clocked = λ block s b member quiet drives register. next_value block s b (Contains-place d.clocked.items block member) quiet drives register;
      next_reset = λ s b register active. reset.same s b (and_from (is_register_bit d s b) (is_reset d V s b) register active);
      next_kept = λ s b register kept. unclocked.same s b (and_from (is_register_bit d s b) (not (is_clocked d s b)) register kept);
      next_other = λ s b outside. none.same s b outside ∙ ap (λ (W : Valuation). W s b) z_is;
    }
  where
    reset_value : (block : Clocked) (r : Reset) (s b : ℕ) → (i : ℕ) × (slice_get d.clocked.items i ≡ Some block) → block.reset ≡ Some r
        → IsTrue (is_active V block) → IsTrue (block_drives d.signals.items s b block) → IsTrue (is_register_bit d s b)
        → V s b ≡ left_from d.signals.items choice block (before d samples state) r.values s b
    reset_value block r s b (i, there) at active drives register =
        ((blocks i (slice_get_within d.clocked.items i block there)).reset block r there at active).same s b
        (and_from (is_register_bit d s b) (block_drives d.signals.items s b block) register drives)
        ∙ ap (λ W. left_from d.signals.items choice block W r.values s b) e_is

    next_value : (block : Clocked) (s b : ℕ) → (i : ℕ) × (slice_get d.clocked.items i ≡ Some block) → IsTrue (not (is_active V block))
        → IsTrue (block_drives d.signals.items s b block) → IsTrue (is_register_bit d s b)
        → next s b ≡ left_from d.signals.items choice block V block.body s b
    next_value block s b (i, there) quiet drives register =
        ((blocks i (slice_get_within d.clocked.items i block there)).body block there quiet).same s b
        (and_from (is_register_bit d s b) (block_drives d.signals.items s b block) register drives)

    driver_value : (driver : Driver) (s b : ℕ) → (i : ℕ) × (slice_get d.drivers.items i ≡ Some driver)
        → IsTrue (driver_drives d.signals.items s b driver) → V s b ≡ driven d.signals.items choice V driver s b
    driver_value driver s b (i, there) drives = (drivers i (slice_get_within d.drivers.items i driver there) driver there).same s b drives

-- and a cycle has all that is compared
pub values-of : (d : Design) (samples : List Bits) (state : Valuation) (choice : Choice) (V next S Z : Valuation)
    → S ≡ sampled d.inputs.items samples → Z ≡ zeros → Cycle d samples state choice V next → ValuesHold d V S state Z
values-of d samples state choice V next S Z s_is z_is c = (
  record { same = λ s b listed. c.input s b listed ∙ sym (ap (λ (W : Valuation). W s b) s_is) },
  record {
    same = λ s b passes. let parts = and_parts (is_register_bit d s b) (not (is_reset d V s b)) passes in c.register s b parts.0 parts.1;
  },
  record { same = λ s b passes. c.other s b passes ∙ sym (ap (λ (W : Valuation). W s b) z_is) },
)

pub next-of : (d : Design) (samples : List Bits) (state : Valuation) (choice : Choice) (V next Z : Valuation)
    → Z ≡ zeros → Cycle d samples state choice V next → NextHolds d V next state Z
next-of d samples state choice V next Z z_is c = (
  record { same = λ s b passes. let parts = and_parts (is_register_bit d s b) (is_reset d V s b) passes in c.next_reset s b parts.0 parts.1 },
  record {
    same = λ s b passes. let parts = and_parts (is_register_bit d s b) (not (is_clocked d s b)) passes in c.next_kept s b parts.0 parts.1;
  },
  record { same = λ s b passes. c.next_other s b passes ∙ sym (ap (λ (W : Valuation). W s b) z_is) },
)

pub block-of : (d : Design) (samples : List Bits) (state : Valuation) (choice : Choice) (V next E : Valuation)
    → E ≡ before d samples state → Cycle d samples state choice V next → (i : ℕ) → BlockHolds d choice E V next i
block-of d samples state choice V next E e_is c i =
    record {
      reset = λ block r there at active. record {
        same = λ s b passes.
            let parts = and_parts (is_register_bit d s b) (block_drives d.signals.items s b block) passes in
            c.reset block r s b (Contains-at d.clocked.items i block there) at active parts.1 parts.0
            ∙ sym (ap (λ W. left_from d.signals.items choice block W r.values s b) e_is);
      };
      body = λ block there quiet. record {
        same = λ s b passes.
            let parts = and_parts (is_register_bit d s b) (block_drives d.signals.items s b block) passes in
            c.next_clocked block s b (Contains-at d.clocked.items i block there) quiet parts.1 parts.0;
      };
    }

pub driver-of : (d : Design) (samples : List Bits) (state : Valuation) (choice : Choice) (V next : Valuation)
    → Cycle d samples state choice V next → (i : ℕ) → DriverHolds d choice V i
driver-of d samples state choice V next c i driver there =
    record { same = λ s b drives. c.driver driver s b (Contains-at d.drivers.items i driver there) drives }
