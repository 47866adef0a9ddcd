-- Rows with an entry for each signal.
use Rattle.std.proofs.Common.{ℕ, ◌≡◌, ◌<◌, ◌≤◌, ◌+◌, ◌-◌, ◌^◌, ◌%◌, List, [], ◌∷◌, ◌++◌, length, get_or, take, replicate, Bool, false, not, refl, sym, ◌∙◌, ap, ap₂, arith, length-append, ◌⊎◌, inl, inr, bit_and, Some}
use Rattle.std.specs.Prelude.{◌&&◌, ◌||◌, slice_get, IsTrue}
use Rattle.std.specs.Int.{bit_not, w128}
use Rattle.std.specs.List.{list_all, list_any}
use Rattle.std.specs.Option.{option_map_or}
use Rattle.std.proofs.lemmas.Bool.{cases_lt, lt-ltb}
use Rattle.std.proofs.lemmas.Nat.{pow_pos, and_le_l}
use Rattle.std.proofs.Math.Nat.{mod-eq_of_lt}
use Rattle.std.proofs.lemmas.List.{get_or_append_left, get_or-replicate}
use Rattle.std.proofs.Math.Seq.{get_or-append_seam}
use Rattle.loc_base.proofs.ShelfLists.{slice_get-at}
use Rattle.design_core.specs.declared.signal.Signal.{Signal}
use Rattle.design_core.specs.declared.signal.SignalKind.{SignalKind}
use Rattle.design_core.specs.declared.signal.SignalKind.TheVariants as kind
use Rattle.design_core.specs.declared.design.Design.{Design}
use Rattle.design_core.specs.declared.driver.Driver.{Driver}
use Rattle.design_core.specs.Valuation.{bit, number, width_at}
use Rattle.design_core.specs.Drives.{driver_drives, is_driven, is_reg, is_register_bit}
use Rattle.design_core.specs.WellFormed.{signal_fits}
use Rattle.design_core.proofs.NumberLaws.{number-same, number-bit, number-below}
use Rattle.design_bits.specs.Masks.{Adds}
use Rattle.design_bits.proofs.Masks.{bit-and, bit-not, bit-ones, bit-zero}
use Rattle.design_bits.proofs.Added.{adds-none, adds-more, adds-all}
use Rattle.synth_parts.proofs.Base.{bit-number, signal-at, width-bounds}
use Rattle.v_synth.specs.Clocked.{register_mask}
use Rattle.v_synth.specs.Rows.{IsRow}

-- ---- numbers of bits

-- a number below 2 ^ width is that of its bits
pub number-is : (w v : ℕ) (f : ℕ → Bool) → v < 2 ^ w → ((b : ℕ) → b < w → bit v b ≡ f b) → v ≡ number w f
number-is w v f below same =
    let low : v % 2 ^ w ≡ v = mod-eq_of_lt below in
    sym low ∙ sym (number-bit w v) ∙ number-same w (bit v) f same

-- bits that are in both of two numbers
pub number-both : (w m : ℕ) (f g : ℕ → Bool) → w ≤ 128 → ((b : ℕ) → b < 128 → bit m b ≡ g b) → bit_and (number w f) m ≡ number w (λ b. f b && g b)
number-both w m f g most is =
    number-is w (bit_and (number w f) m) (λ b. f b && g b) (omega (arith, and_le_l (number w f) m, number-below w f))
    (λ b low. bit-and (number w f) m b ∙ ap₂ (λ x y. x && y) (bit-number w f b low) (is b (omega (arith, low, most))))

-- ---- registers

-- the bits of a mask that are not those of another
pub mask-not : (w driven : ℕ) (f : ℕ → Bool) → w ≤ 128 → driven < 2 ^ 128 → ((b : ℕ) → b < 128 → bit driven b ≡ f b)
    → bit_and (2 ^ w - 1) (bit_not w128 driven) ≡ number w (λ b. not (f b))
mask-not w driven f most fits is =
    number-is w (bit_and (2 ^ w - 1) (bit_not w128 driven)) (λ b. not (f b)) (omega (arith, and_le_l (2 ^ w - 1) (bit_not w128 driven), pow_pos w))
    (λ b low.
    bit-and (2 ^ w - 1) (bit_not w128 driven) b
    ∙ ap₂ (λ x y. x && y) (bit-ones w b ∙ lt-ltb b w low) (bit-not driven b fits (omega (arith, low, most)) ∙ ap not (is b (omega (arith, low, most)))))

pub registers-kind : (w driven x : ℕ) (k : SignalKind) (f : ℕ → Bool) → w ≤ 128 → driven < 2 ^ 128 → ((b : ℕ) → b < 128 → bit driven b ≡ f b) → k ≡ kind.Reg
    → x ≡ 2 ^ w - 1 → bit_and x (bit_not w128 driven) ≡ number w (λ b. is_reg k && not (f b))
registers-kind w driven x k f most fits is reg all =
    ap (λ y. bit_and y (bit_not w128 driven)) all ∙ mask-not w driven f most fits is ∙ ap (λ t. number w (λ b. is_reg t && not (f b))) (sym reg)

pub registers-other : (w : ℕ) (k : SignalKind) (f : ℕ → Bool) → is_reg k ≡ false → 0 ≡ number w (λ b. is_reg k && not (f b))
registers-other w k f other = number-is w 0 (λ b. is_reg k && not (f b)) (pow_pos w) (λ b low. bit-zero b ∙ ap (λ t. t && not (f b)) (sym other))

pub ruleset kind_steps = (registers-kind, registers-other)

-- ---- rows that grow

-- the entries so far
pub record RowSoFar (f : ℕ → ℕ) (row : List ℕ) (s : ℕ) : Type 0 where
  pub long : length row ≡ s
  pub each : (t : ℕ) → t < s → get_or row t 0 ≡ f t

pub row-none : (f : ℕ → ℕ) → RowSoFar f [] 0
row-none f = record { long = refl; each = λ t low. absurd (omega (arith, low)) }

pub row-push : (f : ℕ → ℕ) (row : List ℕ) (s x : ℕ) → RowSoFar f row s → x ≡ f s → RowSoFar f (row ++ x ∷ []) (s + 1)
row-push f row s x so_far is =
    record { long = omega (arith, length-append row (x ∷ []), so_far.long); each = λ t low. at t (cases_lt t s) low }
  where
    at : (t : ℕ) → (t < s) ⊎ (s ≤ t) → t < s + 1 → get_or (row ++ x ∷ []) t 0 ≡ f t
    at t (inl below) low = get_or_append_left row (x ∷ []) 0 t (omega (arith, below, so_far.long)) ∙ so_far.each t below
    at t (inr past) low =
        let same : s ≡ t = omega (arith, past, low) in
        ap (λ k. get_or (row ++ x ∷ []) k 0) (sym (so_far.long ∙ same)) ∙ get_or-append_seam row x [] 0 ∙ is ∙ ap f same

pub row-all : (f : ℕ → ℕ) (row : List ℕ) (s n : ℕ) → RowSoFar f row s → s ≡ n → IsRow f n row
row-all f row s n so_far end = record { long = so_far.long ∙ end; each = λ t low. so_far.each t (omega (arith, low, end)) }

-- ---- the bits that drivers drive

pub driven-none : (d : Design) (n : ℕ) → Adds (replicate n 0) (replicate n 0) (λ s b. list_any (driver_drives d.signals.items s b) (take 0 d.drivers.items))
driven-none d n = adds-none (replicate n 0) (λ s b. list_any (driver_drives d.signals.items s b) (take 0 d.drivers.items)) (λ s b _ _. refl)

pub driven-next : (d : Design) (a b c : List ℕ) (i : ℕ) (driver : Driver) → i < length d.drivers.items → driver ≡ get_or d.drivers.items i driver
    → Adds a b (λ s k. list_any (driver_drives d.signals.items s k) (take i d.drivers.items)) → Adds b c (λ s k. driver_drives d.signals.items s k driver)
    → Adds a c (λ s k. list_any (driver_drives d.signals.items s k) (take (i + 1) d.drivers.items))
driven-next d a b c i driver within is before one = adds-more a b c (λ y s k. driver_drives d.signals.items s k y) d.drivers.items i driver within is before one

pub driven-end : (d : Design) (a b : List ℕ) (i : ℕ) → length d.drivers.items ≤ i
    → Adds a b (λ s k. list_any (driver_drives d.signals.items s k) (take i d.drivers.items)) → Adds a b (is_driven d)
driven-end d a b i past before = adds-all a b (λ y s k. driver_drives d.signals.items s k y) d.drivers.items i past before

pub ruleset driven_steps = (driven-none, driven-next, driven-end)

-- a set of no bits
abbrev zeros : ℕ → List ℕ
zeros n = replicate n 0

-- a set to which bits were added from nothing
pub added-bits : (n : ℕ) (set : List ℕ) (test : ℕ → ℕ → Bool) (s b : ℕ) → Adds (zeros n) set test → s < n → b < 128 → length set ≡ n → bit (get_or set s 0) b ≡ test s b
added-bits n set test s b added within low long =
    added.bits s b (omega (arith, within, long, added.long)) low ∙ ap (λ x. bit x b || test s b) (get_or-replicate n s 0 0 within) ∙ ap (λ x. x || test s b) (bit-zero b)

-- ---- the registers of each signal

signal-is : (signals : List Signal) (s : ℕ) (signal : Signal) → slice_get signals s ≡ Some signal → width_at signals s ≡ signal.width
signal-is signals s signal at = ap (λ o. option_map_or (λ x. x.width) o 0) at

pub register-is : (d : Design) (s : ℕ) (signal : Signal) → s < length d.signals.items → signal ≡ get_or d.signals.items s signal
    → number signal.width (λ b. is_reg signal.kind && not (is_driven d s b)) ≡ register_mask d s
register-is d s signal within is =
    let at = slice_get-at d.signals.items s signal within is in
    ap (λ w. number w (λ b. is_reg signal.kind && not (is_driven d s b))) (sym (signal-is d.signals.items s signal at))
    ∙ number-same (width_at d.signals.items s) (λ b. is_reg signal.kind && not (is_driven d s b)) (is_register_bit d s)
    (λ b _. ap (λ o. option_map_or (λ x. is_reg x.kind) o false && not (is_driven d s b)) (sym at))

pub signal-wide : (signals : List Signal) (s : ℕ) (signal : Signal) → IsTrue (list_all signal_fits signals) → s < length signals → signal ≡ get_or signals s signal → (1 ≤ signal.width) × (signal.width ≤ 128)
signal-wide signals s signal fit within is =
    let at = slice_get-at signals s signal within is in
    let wide = width-bounds (width_at signals s) (signal-at signals s fit (lt-ltb s (length signals) within)).0 in
    let same = signal-is signals s signal at in (omega (arith, wide.0, same), omega (arith, wide.1, same))

pub ruleset registers_steps = (register-is, signal-wide, added-bits, row-none, row-push, row-all)
