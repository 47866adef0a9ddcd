-- The steps of computing a cycle on words.
use Rattle.std.proofs.Common.{◌≡◌, ℕ, zero, suc, ◌+◌, ◌<◌, ◌≤◌, List, [], ◌∷◌, length, drop, ap, ◌∙◌, sym, refl}
use Rattle.std.specs.Prelude.{Bool, true, false, not, ◌&&◌, if◌then◌else◌, slice_get, Some, None}
use Rattle.std.specs.Option.{option_map_or}
use Rattle.std.proofs.Math.Path.{fun_ext}
use Rattle.std.proofs.lemmas.Bool.{both_ways}
use Rattle.std.proofs.lemmas.Option.{slice_get_past}
use Rattle.loc_base.proofs.ShelfBools.{suc-add_one}
pub use Rattle.loc_base.proofs.ShelfLists.{slice_get-some as slice-at}
use Rattle.design_core.specs.declared.driver.Driver.{Driver}
use Rattle.design_core.specs.declared.driver.Reset.{Reset}
use Rattle.design_core.specs.declared.driver.Clocked.{Clocked}
use Rattle.design_core.specs.declared.design.Design.{Design}
use Rattle.plain_sim.specs.declared.cycle.region.Region.TheVariants as region
use Rattle.design_core.specs.Valuation.{Valuation}
use Rattle.design_core.specs.Constant.{zeros}
use Rattle.design_core.specs.After.{Choice}
use Rattle.design_core.specs.Drives.{driver_drives, block_drives, is_register_bit}
use Rattle.design_core.specs.Cycle.{driven, left_from, is_active, is_reset}
use Rattle.plain_sim.specs.EvaluateCycle.{is_in, blended}
use Rattle.design_core.specs.Steps.{with_reset, with_driver, with_body, with_bodies, kept, computed_next}

-- ---- places of lists
pub drop-some : {X : Type 0} (xs : List X) (i : ℕ) (x : X) → slice_get xs i ≡ Some x → drop i xs ≡ x ∷ drop (i + 1) xs
drop-some [] i x e = cc
drop-some (y ∷ xs) zero x e = cc
drop-some (y ∷ xs) (suc i) x e = drop-some xs i x e ∙ ap (λ n. x ∷ drop n (y ∷ xs)) (suc-add_one i)

-- ---- a choice by three tests
pub if-all : (x y z a e : Bool) → x ≡ true → y ≡ true → z ≡ true → (if x && (y && z) then a else e) ≡ a
if-all true true true a e p q r = refl
if-all true true false a e p q r = absurd (both_ways false refl r)
if-all true false z a e p q r = absurd (both_ways false refl q)
if-all false y z a e p q r = absurd (both_ways false refl p)

pub if-first : (x y z a e : Bool) → x ≡ false → (if x && (y && z) then a else e) ≡ e
if-first true y z a e p = cc
if-first false y z a e p = refl

pub if-second : (x y z a e : Bool) → y ≡ false → (if x && (y && z) then a else e) ≡ e
if-second true true z a e p = cc
if-second true false z a e p = refl
if-second false y z a e p = refl

pub if-both : (x y z a e : Bool) → (x && z) ≡ false → (if x && (y && z) then a else e) ≡ e
if-both true true true a e p = cc
if-both true true false a e p = refl
if-both true false z a e p = refl
if-both false y z a e p = refl

if-true : (x y z a e : Bool) → x ≡ true → (if y && z then a else e) ≡ (if x && (y && z) then a else e)
if-true true y z a e p = refl
if-true false y z a e p = absurd (both_ways false refl p)

-- ---- one block's reset
pub reset-none : (E : Valuation) (block : Clocked) → block.reset ≡ None → is_active E block ≡ false
reset-none E block e = ap (λ o. option_map_or (λ (r : Reset). if r.level then E r.signal 0 else not (E r.signal 0)) o false) e

pub reset-quiet : (d : Design) (choice : Choice) (E W : Valuation) (block : Clocked) → is_active E block ≡ false → W ≡ with_reset d choice E block W
reset-quiet d choice E W block quiet =
    fun_ext (λ s. fun_ext (λ b. sym (if-first (is_active E block) (is_register_bit d s b) (block_drives d.signals.items s b block)
    (option_map_or (λ r. left_from d.signals.items choice block E r.values s b) block.reset false) (W s b) quiet)))

pub reset-is : (d : Design) (choice : Choice) (E U W L now : Valuation) (i : ℕ) (block : Clocked) (r : Reset) → slice_get d.clocked.items i ≡ Some block → block.reset ≡ Some r
    → is_active E block ≡ true → L ≡ left_from d.signals.items choice block E r.values → now ≡ blended (is_in d U (region.Block i)) L W
    → now ≡ with_reset d choice E block W
reset-is d choice E U W L now i block r at is active left taken =
    taken
    ∙ fun_ext (λ s. fun_ext (λ b.
    ap (λ o. if option_map_or (λ block. is_register_bit d s b && block_drives d.signals.items s b block) o false then L s b else W s b) at
    ∙ ap (λ X. if is_register_bit d s b && block_drives d.signals.items s b block then X s b else W s b) left
    ∙ ap (λ o. if is_register_bit d s b && block_drives d.signals.items s b block then option_map_or (λ r. left_from d.signals.items choice block E r.values s b) o false else W s b) (sym is)
    ∙ if-true (is_active E block) (is_register_bit d s b) (block_drives d.signals.items s b block)
    (option_map_or (λ r. left_from d.signals.items choice block E r.values s b) block.reset false) (W s b) active))

-- ---- one driver
pub driver-none : (d : Design) (choice : Choice) (V : Valuation) (i : ℕ) → length d.drivers.items ≤ i → V ≡ with_driver d choice i V
driver-none d choice V i past =
    fun_ext (λ s. fun_ext (λ b. sym (ap (λ o. option_map_or (λ driver. if driver_drives d.signals.items s b driver then driven d.signals.items choice V driver s b else V s b) o (V s b))
    (slice_get_past d.drivers.items i past))))

pub driver-is : (d : Design) (choice : Choice) (U V L now : Valuation) (i : ℕ) (driver : Driver) → slice_get d.drivers.items i ≡ Some driver
    → L ≡ driven d.signals.items choice V driver → now ≡ blended (is_in d U (region.Driver i)) L V → now ≡ with_driver d choice i V
driver-is d choice U V L now i driver at gives taken =
    taken
    ∙ fun_ext (λ s. fun_ext (λ b.
    ap (λ o. if option_map_or (driver_drives d.signals.items s b) o false then L s b else V s b) at
    ∙ ap (λ X. if driver_drives d.signals.items s b driver then X s b else V s b) gives
    ∙ sym (ap (λ o. option_map_or (λ driver. if driver_drives d.signals.items s b driver then driven d.signals.items choice V driver s b else V s b) o (V s b)) at)))

-- ---- one block's body
pub body-active : (d : Design) (choice : Choice) (V next : Valuation) (block : Clocked) → is_active V block ≡ true → next ≡ with_body d choice V block next
body-active d choice V next block active =
    fun_ext (λ s. fun_ext (λ b. sym (if-first (not (is_active V block)) (is_register_bit d s b) (block_drives d.signals.items s b block)
    (left_from d.signals.items choice block V block.body s b) (next s b) (ap not active))))

pub body-is : (d : Design) (choice : Choice) (U V old L next : Valuation) (i : ℕ) (block : Clocked) → slice_get d.clocked.items i ≡ Some block
    → is_active V block ≡ false → L ≡ left_from d.signals.items choice block V block.body → next ≡ blended (is_in d U (region.Block i)) L old
    → next ≡ with_body d choice V block old
body-is d choice U V old L next i block at quiet left taken =
    taken
    ∙ fun_ext (λ s. fun_ext (λ b.
    ap (λ o. if option_map_or (λ block. is_register_bit d s b && block_drives d.signals.items s b block) o false then L s b else old s b) at
    ∙ ap (λ X. if is_register_bit d s b && block_drives d.signals.items s b block then X s b else old s b) left
    ∙ if-true (not (is_active V block)) (is_register_bit d s b) (block_drives d.signals.items s b block)
    (left_from d.signals.items choice block V block.body s b) (old s b) (ap not quiet)))

-- ---- the next states
pub kept-bit : (t x : Bool) → (if t then x else false) ≡ (t && x)
kept-bit true x = refl
kept-bit false x = refl

pub next-is : (d : Design) (choice : Choice) (U state V Z first bodies last : Valuation) → Z ≡ zeros → first ≡ blended (is_in d U region.Registers) state Z
    → bodies ≡ with_bodies d choice V d.clocked.items first → last ≡ blended (is_in d V region.Reset) V bodies
    → last ≡ computed_next d state choice V
next-is d choice U state V Z first bodies last z begun run taken =
    let first_is : first ≡ kept d state =
    begun ∙ fun_ext (λ s. fun_ext (λ b. ap (λ Y. if is_register_bit d s b then state s b else Y s b) z ∙ kept-bit (is_register_bit d s b) (state s b))) in
    taken
    ∙ fun_ext (λ s. fun_ext (λ b. ap (λ X. if is_register_bit d s b && is_reset d V s b then V s b else X s b) (run ∙ ap (with_bodies d choice V d.clocked.items) first_is)))
