-- What drivers and clocked blocks give, on words, and their equations.
use Rattle.std.proofs.Common.{◌≡◌, ℕ, ◌+◌, ◌<◌, List, length, get_or, ap, ◌∙◌, sym, refl, subst, arith, ◌⊎◌, inl, inr}
use Rattle.std.specs.Prelude.{Bool, true, false, not, ◌&&◌, ◌↔◌, if◌then◌else◌, IsTrue, slice_get, Option, Some, None}
use Rattle.std.specs.Option.{option_map_or}
use Rattle.std.proofs.Math.Path.{fun_ext}
use Rattle.std.proofs.lemmas.Bool.{cases_order}
use Rattle.loc_base.specs.declared.bits.Bits.{Bits}
use Rattle.design_core.specs.declared.signal.Signal.{Signal}
use Rattle.design_core.specs.declared.statement.Stmt.{Stmt}
use Rattle.design_core.specs.declared.driver.Driver.{Driver}
use Rattle.design_core.specs.declared.driver.Driver.TheVariants.{Cont, Comb}
use Rattle.design_core.specs.declared.driver.Reset.{Reset}
use Rattle.design_core.specs.declared.driver.Clocked.{Clocked}
use Rattle.design_core.specs.declared.design.Design.{Design}
use Rattle.plain_sim.specs.declared.cycle.region.Region.TheVariants as region
use Rattle.design_core.specs.Valuation.{Valuation}
use Rattle.design_core.specs.Constant.{zeros}
use Rattle.design_core.specs.After.{Choice, Updates, after}
use Rattle.design_core.specs.Drives.{driver_drives, block_drives, block_assigns_later, is_register_bit, is_listed}
use Rattle.design_core.specs.Cycle.{sampled, before, without, driven, left_from, is_active}
use Rattle.design_core.specs.Reads.{AgreeOn}
use Rattle.plain_sim.specs.EvaluateCycle.{is_in, blended, driven_from, DriverHolds, ResetHolds, BodyHolds}
use Rattle.plain_values.proofs.EvaluateWords.{slice_get_at}

pub Some-same : {X : Type 0} (x y : X) → Some x ≡ Some y → x ≡ y
Some-same x y e = cc

-- ---- drivers
without-bit : (t x : Bool) → (if t then false else x) ≡ (not t && x)
without-bit true x = refl
without-bit false x = refl

without-blended : (d : Design) (U V Z : Valuation) (i : ℕ) (driver : Driver) → slice_get d.drivers.items i ≡ Some driver → Z ≡ zeros
    → blended (is_in d U (region.Driver i)) Z V ≡ without d.signals.items driver V
without-blended d U V Z i driver at z =
    fun_ext (λ s. fun_ext (λ b.
    ap (λ o. if option_map_or (driver_drives d.signals.items s b) o false then Z s b else V s b) at
    ∙ ap (λ Y. if driver_drives d.signals.items s b driver then Y s b else V s b) z
    ∙ without-bit (driver_drives d.signals.items s b driver) (V s b)))

driven-from : (signals : List Signal) (choice : Choice) (V : Valuation) (driver : Driver) → driven_from signals choice V (without signals driver V) driver ≡ driven signals choice V driver
driven-from signals choice V (Cont target computed place span) = refl
driven-from signals choice V (Comb body span) = refl

pub driven-is : (d : Design) (choice : Choice) (U V Z rest : Valuation) (i : ℕ) (one driver : Driver) → i < length d.drivers.items → one ≡ get_or d.drivers.items i one
    → slice_get d.drivers.items i ≡ Some driver → Z ≡ zeros → rest ≡ blended (is_in d U (region.Driver i)) Z V
    → driven_from d.signals.items choice V rest one ≡ driven d.signals.items choice V driver
driven-is d choice U V Z rest i one driver within is at z begun =
    let same : one ≡ driver = Some-same one driver (sym (slice_get_at d.drivers.items i one within is) ∙ at) in
    ap (λ r. driven_from d.signals.items choice V r one) (begun ∙ without-blended d U V Z i driver at z)
    ∙ ap (λ x. driven_from d.signals.items choice V (without d.signals.items driver V) x) same
    ∙ driven-from d.signals.items choice V driver

-- ---- clocked blocks
pub left-is : (d : Design) (choice : Choice) (U V now later left : Valuation) (i : ℕ) (block : Clocked) (statement : Stmt)
    → slice_get d.clocked.items i ≡ Some block
    → record { now = now; later = later } ≡ after d.signals.items choice statement (record { now = V; later = V })
    → left ≡ blended (is_in d U (region.Later i)) later now
    → left ≡ left_from d.signals.items choice block V statement
left-is d choice U V now later left i block statement at run kept =
    let m : Updates = after d.signals.items choice statement (record { now = V; later = V }) in
    let run_now : now ≡ m.now = ap (λ (u : Updates). u.now) run in
    let run_later : later ≡ m.later = ap (λ (u : Updates). u.later) run in
    kept
    ∙ fun_ext (λ s. fun_ext (λ b.
    ap (λ o. if option_map_or (block_assigns_later s) o false then later s b else now s b) at
    ∙ ap (λ W. if block_assigns_later s block then W s b else now s b) run_later
    ∙ ap (λ W. if block_assigns_later s block then m.later s b else W s b) run_now))

-- ---- the equations
agree-test : (p q : ℕ → ℕ → Bool) (V W : Valuation) → ((s b : ℕ) → p s b ≡ q s b) → AgreeOn p V W → AgreeOn q V W
agree-test p q V W same h = record { same = λ s b passes. h.same s b (same s b ∙ passes) }

agree-value : (p : ℕ → ℕ → Bool) (V W X : Valuation) → W ≡ X → AgreeOn p V W → AgreeOn p V X
agree-value p V W X same h = subst (AgreeOn p V) same h

pub driver-holds : (d : Design) (choice : Choice) (V L : Valuation) (i : ℕ) (answer : Bool) → i < length d.drivers.items
    → ((driver : Driver) → slice_get d.drivers.items i ≡ Some driver → L ≡ driven d.signals.items choice V driver)
    → (IsTrue answer ↔ AgreeOn (is_in d V (region.Driver i)) V L) → (IsTrue answer ↔ DriverHolds d choice V i)
driver-holds d choice V L i answer within gives same = (to, λ holds. same.1 (from holds (slice_get d.drivers.items i) refl))
  where
    tests : (driver : Driver) → slice_get d.drivers.items i ≡ Some driver → (s b : ℕ) → is_in d V (region.Driver i) s b ≡ driver_drives d.signals.items s b driver
    tests driver at s b = ap (λ o. option_map_or (driver_drives d.signals.items s b) o false) at

    to : IsTrue answer → DriverHolds d choice V i
    to holds driver at =
        agree-value (λ s b. driver_drives d.signals.items s b driver) V L (driven d.signals.items choice V driver) (gives driver at)
        (agree-test (is_in d V (region.Driver i)) (λ s b. driver_drives d.signals.items s b driver) V L (tests driver at) (same.0 holds))

    from : DriverHolds d choice V i → (o : Option Driver) → slice_get d.drivers.items i ≡ o → AgreeOn (is_in d V (region.Driver i)) V L
    from holds None at = record { same = λ s b passes. absurd (none s b passes (ap (λ o. option_map_or (driver_drives d.signals.items s b) o false) at)) }
      where
        none : (s b : ℕ) → is_in d V (region.Driver i) s b ≡ true → is_in d V (region.Driver i) s b ≡ false → ⊥
        none s b p q = cc
    from holds (Some driver) at =
        agree-test (λ s b. driver_drives d.signals.items s b driver) (is_in d V (region.Driver i)) V L (λ s b. sym (tests driver at s b))
        (agree-value (λ s b. driver_drives d.signals.items s b driver) V (driven d.signals.items choice V driver) L (sym (gives driver at)) (holds driver at))

block-tests : (d : Design) (V : Valuation) (i : ℕ) (block : Clocked) → slice_get d.clocked.items i ≡ Some block
    → (s b : ℕ) → is_in d V (region.Block i) s b ≡ (is_register_bit d s b && block_drives d.signals.items s b block)
block-tests d V i block at s b = ap (λ o. option_map_or (λ block. is_register_bit d s b && block_drives d.signals.items s b block) o false) at

pub reset-holds : (d : Design) (choice : Choice) (E V L : Valuation) (i : ℕ) (answer : Bool) (block : Clocked) (r : Reset)
    → slice_get d.clocked.items i ≡ Some block → block.reset ≡ Some r → is_active V block ≡ true
    → L ≡ left_from d.signals.items choice block E r.values
    → (IsTrue answer ↔ AgreeOn (is_in d V (region.Block i)) V L) → (IsTrue answer ↔ ResetHolds d choice E V i)
reset-holds d choice E V L i answer block r at reset active gives same = (to, from)
  where
    test : ℕ → ℕ → Bool
    test s b = is_register_bit d s b && block_drives d.signals.items s b block

    to : IsTrue answer → ResetHolds d choice E V i
    to holds other o there resets runs =
        let P : Clocked → Type 0 = λ x. (q : Reset) → x.reset ≡ Some q → AgreeOn (λ s b. is_register_bit d s b && block_drives d.signals.items s b x) V (left_from d.signals.items choice x E q.values) in
        subst P (Some-same block other (sym at ∙ there)) (λ q is. by_reset q (Some-same r q (sym reset ∙ is))) o resets
      where
        by_reset : (q : Reset) → r ≡ q → AgreeOn test V (left_from d.signals.items choice block E q.values)
        by_reset q e =
            subst (λ (x : Reset). AgreeOn test V (left_from d.signals.items choice block E x.values)) e
            (agree-value test V L (left_from d.signals.items choice block E r.values) gives
            (agree-test (is_in d V (region.Block i)) test V L (block-tests d V i block at) (same.0 holds)))

    from : ResetHolds d choice E V i → IsTrue answer
    from holds =
        same.1
        (agree-test test (is_in d V (region.Block i)) V L (λ s b. sym (block-tests d V i block at s b))
        (agree-value test V (left_from d.signals.items choice block E r.values) L (sym gives) (holds block r at reset active)))

pub body-holds : (d : Design) (choice : Choice) (V next L : Valuation) (i : ℕ) (answer : Bool) (block : Clocked)
    → slice_get d.clocked.items i ≡ Some block → not (is_active V block) ≡ true
    → L ≡ left_from d.signals.items choice block V block.body
    → (IsTrue answer ↔ AgreeOn (is_in d V (region.Block i)) next L) → (IsTrue answer ↔ BodyHolds d choice V next i)
body-holds d choice V next L i answer block at quiet gives same = (to, from)
  where
    test : ℕ → ℕ → Bool
    test s b = is_register_bit d s b && block_drives d.signals.items s b block

    to : IsTrue answer → BodyHolds d choice V next i
    to holds other there runs =
        subst (λ (x : Clocked). AgreeOn (λ s b. is_register_bit d s b && block_drives d.signals.items s b x) next (left_from d.signals.items choice x V x.body))
        (Some-same block other (sym at ∙ there))
        (agree-value test next L (left_from d.signals.items choice block V block.body) gives
        (agree-test (is_in d V (region.Block i)) test next L (block-tests d V i block at) (same.0 holds)))

    from : BodyHolds d choice V next i → IsTrue answer
    from holds =
        same.1
        (agree-test test (is_in d V (region.Block i)) next L (λ s b. sym (block-tests d V i block at s b))
        (agree-value test next (left_from d.signals.items choice block V block.body) L (sym gives) (holds block at quiet)))

-- a fact of the first numbers and the next one
pub numbers-next : (P : ℕ → Type 0) (k : ℕ) → ((i : ℕ) → i < k → P i) → P k → (i : ℕ) → i < k + 1 → P i
numbers-next P k before here i h = at (cases_order i k)
  where
    at : (i ≡ k) ⊎ ((i < k) ⊎ (k < i)) → P i
    at (inl e) = subst P (sym e) here
    at (inr (inl low)) = before i low
    at (inr (inr high)) = absurd (omega (arith, h, high))

-- ---- the words before anything is computed
pub before-is : (d : Design) (samples : List Bits) (state U U' Z S begun left : Valuation) → Z ≡ zeros → S ≡ sampled d.inputs.items samples
    → begun ≡ blended (is_in d U region.Registers) state Z → left ≡ blended (is_in d U' region.Listed) S begun → left ≡ before d samples state
before-is d samples state U U' Z S begun left z sampled_is first second =
    second
    ∙ fun_ext (λ s. fun_ext (λ b.
    ap (λ W. if is_listed d s then W s b else begun s b) sampled_is
    ∙ ap (λ W. if is_listed d s then sampled d.inputs.items samples s b else W s b) first
    ∙ ap (λ W. if is_listed d s then sampled d.inputs.items samples s b else (if is_register_bit d s b then state s b else W s b)) z
    ∙ ap (λ x. if is_listed d s then sampled d.inputs.items samples s b else x) (with-bit (is_register_bit d s b) (state s b))))
  where
    with-bit : (t x : Bool) → (if t then x else false) ≡ (t && x)
    with-bit true x = refl
    with-bit false x = refl
