-- The bodies of the clocked blocks, one after another, in the words of the states.
use Rattle.std.proofs.Common.{ℕ, ◌+◌, ◌≡◌, ◌<◌, ◌≤◌, Bool, true, false, not, ◌&&◌, length, refl, ap, sym, ◌∙◌, arith, ◌⊎◌, inl, inr, Some}
use Rattle.std.specs.Prelude.{if◌then◌else◌, slice_get}
use Rattle.std.proofs.lemmas.Bool.{and_parts, and_from, cases_Bool, cases_order}
use Rattle.std.proofs.lemmas.Option.{slice_get_within}
use Rattle.design_core.specs.declared.driver.Clocked.{Clocked}
use Rattle.design_core.specs.declared.design.Design.{Design}
use Rattle.design_core.specs.Valuation.{Valuation}
use Rattle.design_core.specs.After.{Choice, Updates, after}
use Rattle.design_core.specs.Drives.{block_drives, is_register_bit}
use Rattle.design_core.specs.Cycle.{left, left_from, is_active}
use Rattle.design_core.specs.WellFormed.{clocked_fits, reset_fits, statement_fits, IsWellFormed}
use Rattle.design_core.specs.DrivenOnce.{IsDrivenOnce}
use Rattle.design_core.proofs.Widened.{list_all-member}
use Rattle.design_core.proofs.CycleLaws.{Contains-at, Contains-place}
use Rattle.design_core.proofs.StatementAgrees.{after-agrees_later}
use Rattle.std.specs.Option.{option_map_or}
use Rattle.loc_base.proofs.ShelfOptions.{Some-same}
use Rattle.cycle_sim.specs.Masks.{is_own}
use Rattle.cycle_sim.specs.Blocks.{WithBody, AreRun}
use Rattle.cycle_sim.proofs.ConstantReads.{left-alike}
use Rattle.cycle_sim.proofs.Resets.{if-on, if-off}
use Rattle.cycle_sim.proofs.StatementNow.{now-alike}

-- some block before i, without an active reset, drives a bit
abbrev Quiet : Design → Valuation → ℕ → ℕ → ℕ → Type 0
Quiet d V i s b = (j : ℕ) (block : Clocked) → j < i → slice_get d.clocked.items j ≡ Some block → is_active V block ≡ false
    → ¬ (block_drives d.signals.items s b block ≡ true)

-- the states after the blocks before i
pub record RunSoFar (d : Design) (choice : Choice) (V S : Valuation) (i : ℕ) : Type 0 where
  pub done : (j : ℕ) (block : Clocked) (s b : ℕ) → j < i → slice_get d.clocked.items j ≡ Some block
      → is_active V block ≡ false → is_own d block s b ≡ true
      → S s b ≡ left_from d.signals.items choice block V block.body s b
  pub kept : (s b : ℕ) → is_register_bit d s b ≡ true → Quiet d V i s b → S s b ≡ V s b

pub run-begin : (d : Design) (choice : Choice) (V S : Valuation) → ((s b : ℕ) → is_register_bit d s b ≡ true → S s b ≡ V s b)
    → RunSoFar d choice V S 0
run-begin d choice V S same =
    record { done = λ j block s b low at inactive own. absurd (omega (arith, low)); kept = λ s b register quiet. same s b register }

pub run-next : (d : Design) (choice : Choice) (V S S' : Valuation) (i : ℕ) (block : Clocked) → IsWellFormed d → IsDrivenOnce d
    → slice_get d.clocked.items i ≡ Some block
    → RunSoFar d choice V S i → WithBody d choice block V S S' → RunSoFar d choice V S' (i + 1)
run-next d choice V S S' i block well once at before r =
    record {
      done = λ j other s b low there inactive own. by_place j other s b low there inactive own (cases_order j i);
      kept = λ s b register quiet.
          r.state s b register
          ∙ unless s b (cases_Bool (not (is_active V block) && block_drives d.signals.items s b block)) quiet
          ∙ before.kept s b register (λ j other low there. quiet j other (omega (arith, low)) there);
    }
  where
    not-true : (x : Bool) → not x ≡ true → x ≡ false
    not-true true e = cc
    not-true false e = refl

    unless : (s b : ℕ)
        → ((not (is_active V block) && block_drives d.signals.items s b block) ≡ true) ⊎
        ((not (is_active V block) && block_drives d.signals.items s b block) ≡ false)
        → Quiet d V (i + 1) s b
        → (if not (is_active V block) && block_drives d.signals.items s b block then left block
        (after d.signals.items choice block.body (record { now = V; later = S })) s b else S s b) ≡ S s b
    unless s b (inr off) quiet = if-off (not (is_active V block) && block_drives d.signals.items s b block)
        (left block (after d.signals.items choice block.body (record { now = V; later = S })) s b) (S s b) off
    unless s b (inl on) quiet =
        let both = and_parts (not (is_active V block)) (block_drives d.signals.items s b block) on in
        absurd (quiet i block (omega arith) at (not-true (is_active V block) both.0) both.1)

    -- the bits of the block itself
    own_bit : (s b : ℕ) → is_active V block ≡ false → is_own d block s b ≡ true
        → S' s b ≡ left_from d.signals.items choice block V block.body s b
    own_bit s b inactive own =
        let both = and_parts (is_register_bit d s b) (block_drives d.signals.items s b block) own in
        let fits : clocked_fits d block ≡ true =
        list_all-member (clocked_fits d) d.clocked.items block well.clocked (Contains-at d.clocked.items i block at) in
        let body : statement_fits d.signals.items d.places.items block.body
        ≡ true = (and_parts (statement_fits d.signals.items d.places.items block.body)
        (option_map_or (reset_fits d) block.reset true) fits).0 in
        let m : Updates = record { now = V; later = S } in
        let n : Updates = record { now = V; later = V } in
        let same : S s b ≡ V s b = before.kept s b both.0
        (λ j other low there inactive' drives. absurd
        (omega (arith, low, once.blocks j i other block s b there at both.0 drives both.1))) in
        r.state s b both.0
        ∙ if-on (not (is_active V block) && block_drives d.signals.items s b block)
        (left block (after d.signals.items choice block.body m) s b) (S s b)
        (and_from (not (is_active V block)) (block_drives d.signals.items s b block) (ap not inactive) both.1)
        ∙ left-alike block (after d.signals.items choice block.body m) (after d.signals.items choice block.body n) s b
        (now-alike d.signals.items d.places.items choice block.body V S V s b body)
        (after-agrees_later d.signals.items d.places.items choice block.body m n s b body (record { same = λ s b read. refl }) same)

    by_place : (j : ℕ) (other : Clocked) (s b : ℕ) → j < i + 1 → slice_get d.clocked.items j ≡ Some other
        → is_active V other ≡ false → is_own d other s b ≡ true
        → (j ≡ i) ⊎ ((j < i) ⊎ (i < j)) → S' s b ≡ left_from d.signals.items choice other V other.body s b
    by_place j other s b low there inactive own (inl same) =
        let is : block ≡ other = Some-same (sym at ∙ ap (slice_get d.clocked.items) (sym same) ∙ there) in
        own_bit s b (ap (is_active V) is ∙ inactive) (ap (λ (x : Clocked). is_own d x s b) is ∙ own)
        ∙ ap (λ (x : Clocked). left_from d.signals.items choice x V x.body s b) is
    by_place j other s b low there inactive own (inr (inr high)) = absurd (omega (arith, low, high))
    by_place j other s b low there inactive own (inr (inl earlier)) =
        let both = and_parts (is_register_bit d s b) (block_drives d.signals.items s b other) own in
        r.state s b both.0
        ∙ elsewhere (cases_Bool (not (is_active V block) && block_drives d.signals.items s b block)) both.0 both.1
        ∙ before.done j other s b earlier there inactive own
      where
        elsewhere : ((not (is_active V block) && block_drives d.signals.items s b block) ≡ true) ⊎
            ((not (is_active V block) && block_drives d.signals.items s b block) ≡ false)
            → is_register_bit d s b ≡ true → block_drives d.signals.items s b other ≡ true
            → (if not (is_active V block) && block_drives d.signals.items s b block then left block
            (after d.signals.items choice block.body (record { now = V; later = S })) s b else S s b) ≡ S s b
        elsewhere (inr off) register drives = if-off (not (is_active V block) && block_drives d.signals.items s b block)
            (left block (after d.signals.items choice block.body (record { now = V; later = S })) s b) (S s b) off
        elsewhere (inl on) register drives =
            let mine = and_parts (not (is_active V block)) (block_drives d.signals.items s b block) on in
            absurd (omega (arith, earlier, once.blocks j i other block s b there at register drives mine.1))

pub run-end : (d : Design) (choice : Choice) (V S : Valuation) (i : ℕ) → length d.clocked.items ≤ i → RunSoFar d choice V S i
    → AreRun d choice V S
run-end d choice V S i past all =
    record {
      clocked = λ block s b member inactive own.
          let (j, there) = Contains-place d.clocked.items block member in
          all.done j block s b (omega (arith, past, slice_get_within d.clocked.items j block there)) there inactive own;
      kept = λ s b register quiet. all.kept s b register (λ j block low there. quiet block (Contains-at d.clocked.items j block there));
    }
