-- A design that is read, of assignments to whole nets alone, is a network.
use Rattle.std.proofs.Common.{◌≡◌, ℕ, ◌==◌, Bool, true, false, not, List, [], ◌∷◌, length, sym, refl, ◌∙◌, arith}
use Rattle.std.specs.Prelude.{Contains}
use Rattle.std.specs.List.{list_all}
use Rattle.std.proofs.lemmas.Grind.{common_steps}
use Rattle.loc_base.proofs.ShelfBools.{not-true}
use Rattle.loc_base.proofs.ShelfLists.{list_any-found, list_any-member}
use Rattle.design_core.specs.declared.design.Design.{Design}
use Rattle.design_core.specs.DrivenOnce.{IsDrivenOnce}
use Rattle.design_core.specs.Drives.{driver_drives, is_driven, is_listed, is_reg}
use Rattle.plain_list.specs.Assignments.{is_whole, IsOfAssignments}

-- an input of the list is listed
input-listed : (d : Design) (s : ℕ) → Contains d.inputs.items s → is_listed d s ≡ true
input-listed d s there = list_any-member (λ input. input == s) d.inputs.items s there (grind (arith, common_steps))

-- and no driver drives it
input-free : (d : Design) → IsDrivenOnce d → (s b : ℕ) → Contains d.inputs.items s → (driven : Bool) → is_driven d s b ≡ driven
    → is_driven d s b ≡ false
input-free d once s b there false is = is
input-free d once s b there true is =
    let (driver, member, drives) = list_any-found (driver_drives d.signals.items s b) d.drivers.items is in
    let free : is_listed d s ≡ false = not-true (is_listed d s) (once.inputs driver s b member drives) in
    let wrong : true ≡ false = sym (input-listed d s there) ∙ free in cc

none-left : {X : Type 0} (xs : List X) → length xs ≡ 0 → xs ≡ []
none-left [] none = refl
none-left (x ∷ xs) none = absurd (omega (arith, none))

pub of-assignments : (d : Design) → IsDrivenOnce d → list_all is_whole d.drivers.items ≡ true → length d.clocked.items ≡ 0
    → list_all (λ signal. not (is_reg signal.kind)) d.signals.items ≡ true → IsOfAssignments d
of-assignments d once whole unclocked none = record {
  whole = whole;
  clocked = none-left d.clocked.items unclocked;
  no_registers = none;
  one_driver = once.drivers;
  inputs = λ s b there. input-free d once s b there (is_driven d s b) refl;
}
