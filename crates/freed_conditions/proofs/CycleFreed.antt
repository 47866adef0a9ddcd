-- A cycle of a freed design is one of the design, on the design's own bits, where no new place is freed.
use Rattle.std.proofs.Common.{ℕ, ◌≡◌, ◌<◌, ◌≤◌, true, false, not, ◌&&◌, ◌||◌, List, length, ap, ◌∙◌, sym, ◌⊎◌, inl, inr}
use Rattle.std.specs.Prelude.{◌==◌, if◌then◌else◌, slice_get}
use Rattle.std.specs.Option.{option_map_or}
use Rattle.std.specs.List.{list_any}
use Rattle.std.proofs.lemmas.Bool.{cases_lt, lt-ltb, le-ltb}
use Rattle.loc_base.specs.declared.bits.Bits.{Bits}
use Rattle.design_core.specs.declared.signal.Signal.{Signal}
use Rattle.design_core.specs.declared.design.Design.{Design}
use Rattle.design_core.specs.Valuation.{Valuation}
use Rattle.design_core.specs.After.{Choice}
use Rattle.design_core.specs.Drives.{is_reg, driver_drives, is_driven, block_drives, is_register_bit, is_listed}
use Rattle.design_core.specs.Cycle.{sampled, before, is_active, is_reset, is_clocked, Cycle}
use Rattle.freed_conditions.specs.Alike.{AgreeBelow}
use Rattle.freed_conditions.specs.Old.{old_bits}
use Rattle.freed_conditions.proofs.DriversFreed.{DriverAlike}
use Rattle.freed_conditions.proofs.ClockedFreed.{ClockedAlike}
use Rattle.freed_conditions.proofs.Beside.{Beside, zip-member, zip-any}

pub old-agrees : (d : Design) (V : Valuation) → AgreeBelow (length d.signals.items) V (old_bits d V)
old-agrees d V = record { same = λ s b below. sym (ap (λ t. t && V s b) (lt-ltb s (length d.signals.items) below)) }

pub old-zero : (d : Design) (V : Valuation) (s b : ℕ) → length d.signals.items ≤ s → old_bits d V s b ≡ false
old-zero d V s b above = ap (λ t. t && V s b) (le-ltb s (length d.signals.items) above)

-- ---- what both designs say of a bit of the design
listed-same : (d e : Design) (choice : Choice) → Beside d e choice → (s : ℕ) → is_listed e s ≡ is_listed d s
listed-same d e choice h s = ap (list_any (λ input. input == s)) h.inputs

driven-same : (d e : Design) (choice : Choice) → Beside d e choice → (s b : ℕ) → s < length d.signals.items → is_driven e s b ≡ is_driven d s b
driven-same d e choice h s b below =
    zip-any (DriverAlike d.signals.items e.signals.items choice) (driver_drives d.signals.items s b) (driver_drives e.signals.items s b) d.drivers.items e.drivers.items h.drivers
    (λ own other alike. alike.drives s b below)

pub register-same : (d e : Design) (choice : Choice) → Beside d e choice → (s b : ℕ) → s < length d.signals.items → is_register_bit e s b ≡ is_register_bit d s b
register-same d e choice h s b below =
    ap (λ o. option_map_or (λ (signal : Signal). is_reg signal.kind) o false && not (is_driven e s b)) (h.signals s below)
    ∙ ap (λ t. option_map_or (λ (signal : Signal). is_reg signal.kind) (slice_get d.signals.items s) false && not t) (driven-same d e choice h s b below)

reset-same : (d e : Design) (choice : Choice) → Beside d e choice → (V W : Valuation) → AgreeBelow (length d.signals.items) W V
    → (s b : ℕ) → s < length d.signals.items → is_reset e W s b ≡ is_reset d V s b
reset-same d e choice h V W agree s b below =
    zip-any (ClockedAlike d.signals.items e.signals.items choice) (λ block. is_active V block && block_drives d.signals.items s b block)
    (λ block. is_active W block && block_drives e.signals.items s b block) d.clocked.items e.clocked.items h.clocked
    (λ own other alike. ap (λ t. t && block_drives e.signals.items s b other) (alike.active V W agree) ∙ ap (λ t. is_active V own && t) (alike.drives s b below))

clocked-same : (d e : Design) (choice : Choice) → Beside d e choice → (s b : ℕ) → s < length d.signals.items → is_clocked e s b ≡ is_clocked d s b
clocked-same d e choice h s b below =
    zip-any (ClockedAlike d.signals.items e.signals.items choice) (block_drives d.signals.items s b) (block_drives e.signals.items s b) d.clocked.items e.clocked.items h.clocked
    (λ own other alike. alike.drives s b below)

before-alike : (d e : Design) (choice : Choice) → Beside d e choice → (samples : List Bits) (V W : Valuation) → AgreeBelow (length d.signals.items) W V
    → AgreeBelow (length d.signals.items) (before e samples W) (before d samples V)
before-alike d e choice h samples V W agree = record {
  same = λ s b below.
      ap (λ t. if t then sampled e.inputs.items samples s b else is_register_bit e s b && W s b) (listed-same d e choice h s)
      ∙ ap (λ x. if is_listed d s then x else is_register_bit e s b && W s b) (ap (λ inputs. sampled inputs samples s b) h.inputs)
      ∙ ap (λ t. if is_listed d s then sampled d.inputs.items samples s b else t && W s b) (register-same d e choice h s b below)
      ∙ ap (λ x. if is_listed d s then sampled d.inputs.items samples s b else is_register_bit d s b && x) (agree.same s b below);
}

-- ---- the cycle
pub cycle-freed : (d e : Design) (choice : Choice) → Beside d e choice → (samples : List Bits) (state state' V W next next' : Valuation)
    → AgreeBelow (length d.signals.items) state' state → AgreeBelow (length d.signals.items) W V → AgreeBelow (length d.signals.items) next' next
    → ((s b : ℕ) → length d.signals.items ≤ s → V s b ≡ false) → ((s b : ℕ) → length d.signals.items ≤ s → next s b ≡ false)
    → Cycle e samples state' choice W next' → Cycle d samples state choice V next
cycle-freed d e choice h samples state state' V W next next' at_state agree at_next zero_V zero_next cycle = record {
  input = λ s b listed.
      sym (agree.same s b (h.listed s listed)) ∙ cycle.input s b (listed-same d e choice h s ∙ listed) ∙ ap (λ inputs. sampled inputs samples s b) h.inputs;
  reset = λ block r s b member is active drives register.
      let below : s < length d.signals.items = h.register s b register in
      let (other, in_e, alike) = zip-member (ClockedAlike d.signals.items e.signals.items choice) d.clocked.items e.clocked.items block h.clocked member in
      sym (agree.same s b below)
      ∙ cycle.reset other r s b in_e (alike.reset ∙ is) (alike.active V W agree ∙ active) (alike.drives s b below ∙ drives) (register-same d e choice h s b below ∙ register)
      ∙ (alike.resets r (before d samples state) (before e samples state') is (before-alike d e choice h samples state state' at_state)).same s b below;
  register = λ s b register kept.
      let below : s < length d.signals.items = h.register s b register in
      sym (agree.same s b below)
      ∙ cycle.register s b (register-same d e choice h s b below ∙ register) (ap not (reset-same d e choice h V W agree s b below) ∙ kept) ∙ at_state.same s b below;
  driver = λ driver s b member drives.
      let below : s < length d.signals.items = h.driven driver s b member drives in
      let (other, in_e, alike) = zip-member (DriverAlike d.signals.items e.signals.items choice) d.drivers.items e.drivers.items driver h.drivers member in
      sym (agree.same s b below) ∙ cycle.driver other s b in_e (alike.drives s b below ∙ drives) ∙ (alike.driven V W agree).same s b below;
  other = λ s b none. others s b none (cases_lt s (length d.signals.items));
  next_clocked = λ block s b member inactive drives register.
      let below : s < length d.signals.items = h.register s b register in
      let (other, in_e, alike) = zip-member (ClockedAlike d.signals.items e.signals.items choice) d.clocked.items e.clocked.items block h.clocked member in
      sym (at_next.same s b below)
      ∙ cycle.next_clocked other s b in_e (ap not (alike.active V W agree) ∙ inactive) (alike.drives s b below ∙ drives) (register-same d e choice h s b below ∙ register)
      ∙ (alike.leaves V W agree).same s b below;
  next_reset = λ s b register is.
      let below : s < length d.signals.items = h.register s b register in
      sym (at_next.same s b below)
      ∙ cycle.next_reset s b (register-same d e choice h s b below ∙ register) (reset-same d e choice h V W agree s b below ∙ is) ∙ agree.same s b below;
  next_kept = λ s b register unclocked.
      let below : s < length d.signals.items = h.register s b register in
      sym (at_next.same s b below)
      ∙ cycle.next_kept s b (register-same d e choice h s b below ∙ register) (ap not (clocked-same d e choice h s b below) ∙ unclocked) ∙ at_state.same s b below;
  next_other = λ s b none. next_others s b none (cases_lt s (length d.signals.items));
}
  where
    others : (s b : ℕ) → not (is_listed d s || is_register_bit d s b || is_driven d s b) ≡ true → (s < length d.signals.items) ⊎ (length d.signals.items ≤ s) → V s b ≡ false
    others s b none (inl below) =
        sym (agree.same s b below)
        ∙ cycle.other s b (ap (λ t. not (t || is_register_bit e s b || is_driven e s b)) (listed-same d e choice h s)
        ∙ ap (λ t. not (is_listed d s || t || is_driven e s b)) (register-same d e choice h s b below)
        ∙ ap (λ t. not (is_listed d s || is_register_bit d s b || t)) (driven-same d e choice h s b below) ∙ none)
    others s b none (inr above) = zero_V s b above

    next_others : (s b : ℕ) → not (is_register_bit d s b) ≡ true → (s < length d.signals.items) ⊎ (length d.signals.items ≤ s) → next s b ≡ false
    next_others s b none (inl below) = sym (at_next.same s b below) ∙ cycle.next_other s b (ap not (register-same d e choice h s b below) ∙ none)
    next_others s b none (inr above) = zero_next s b above

-- the design's own bits of a cycle are a cycle
pub cycle-old : (d e : Design) (choice : Choice) → Beside d e choice → (samples : List Bits) (state state' W next' : Valuation)
    → AgreeBelow (length d.signals.items) state' state → Cycle e samples state' choice W next' → Cycle d samples state choice (old_bits d W) (old_bits d next')
cycle-old d e choice h samples state state' W next' at_state cycle =
    cycle-freed d e choice h samples state state' (old_bits d W) W (old_bits d next') next' at_state (old-agrees d W) (old-agrees d next')
    (old-zero d W) (old-zero d next') cycle
