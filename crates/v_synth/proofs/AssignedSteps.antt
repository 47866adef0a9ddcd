-- What a clocked block assigns, marked and taken back, and the signals that it drives.
use Rattle.std.proofs.Common.{ℕ, ◌≡◌, ◌<◌, ◌^◌, List, length, get_or, replicate, Bool, true, false, refl, sym, ◌∙◌, ap, ap₂, subst, arith, All, Contains, bit_and, ◌⊎◌, inl, inr}
use Rattle.std.specs.Prelude.{◌||◌, slice_index, IsTrue, if◌then◌else◌}
use Rattle.std.specs.List.{list_all}
use Rattle.std.specs.List.Sorted.{IsStrictlyIncreasing}
use Rattle.std.proofs.lemmas.Bool.{cases_eq, lt-ltb}
use Rattle.std.proofs.lemmas.Nat.{and_le_r}
use Rattle.std.proofs.lemmas.List.{length-replicate, get_or-replicate, get_or_default}
use Rattle.design_core.specs.declared.design.Design.{Design}
use Rattle.design_core.specs.declared.driver.Clocked.{Clocked}
use Rattle.design_core.specs.Valuation.{bit, width_at}
use Rattle.design_core.specs.Drives.{is_register_bit, block_drives, block_assigns_later}
use Rattle.design_core.specs.WellFormed.{signal_fits}
use Rattle.design_bits.specs.Masks.{Adds}
use Rattle.design_bits.proofs.Masks.{bit-zero}
use Rattle.node_map.specs.Entries.{Tracked}
use Rattle.node_map.specs.declared.pair.Pair.{Pair}
use Rattle.synth_parts.proofs.Base.{signal-at, width-bounds}
use Rattle.v_synth.specs.Clocked.{register_mask, own_mask}
use Rattle.v_synth.specs.Owned.{AreOwn, AreBlank, AreDriven, HasBegun}
use Rattle.v_synth.specs.Rows.{IsRow, Marked}
use Rattle.v_synth.proofs.RowSteps.{number-both}

-- ---- nothing is assigned

pub blank-none : (n : ℕ) → AreBlank n (replicate n 0) (replicate n false)
blank-none n =
    record {
      masks = length-replicate n 0;
      marks = length-replicate n false;
      none = λ s within. get_or-replicate n s 0 0 within;
      unmarked = λ s within. get_or-replicate n s false false within;
    }

pub begun-none : (both : Pair) (from : List ℕ)
    → both ≡ record { current = record { now = from; base = from }; later = record { now = from; base = from } } → HasBegun (length from) both
begun-none both from is =
    subst (HasBegun (length from)) (sym is) (record { each = refl; base = refl; same = refl })

pub ruleset blank_steps = (blank-none, begun-none)

-- ---- what a block assigns

pub own-is : (d : Design) (block : Clocked) (registers before drives : List ℕ) (unmarked later : List Bool) → IsTrue (list_all signal_fits d.signals.items)
    → IsRow (register_mask d) (length d.signals.items) registers → AreBlank (length d.signals.items) before unmarked
    → Adds before drives (λ s b. block_drives d.signals.items s b block) → Marked true unmarked later (λ s. block_assigns_later s block)
    → AreOwn d block registers drives later
own-is d block registers before drives unmarked later fit r blank added m =
    record {
      each = r.long;
      masks = added.long ∙ blank.masks;
      marks = m.long ∙ blank.marks;
      mask = λ s within.
          let w = width-bounds (width_at d.signals.items s) (signal-at d.signals.items s fit (lt-ltb s (length d.signals.items) within)).0 in
          ap (λ x. bit_and x (get_or drives s 0)) (r.each s within)
          ∙ number-both (width_at d.signals.items s) (get_or drives s 0) (is_register_bit d s) (λ b. block_drives d.signals.items s b block) w.1
          (λ b low.
          added.bits s b (omega (arith, within, blank.masks)) low
          ∙ ap (λ x. bit x b || block_drives d.signals.items s b block) (blank.none s within)
          ∙ ap (λ x. x || block_drives d.signals.items s b block) (bit-zero b));
      mark = λ s within. m.each s (omega (arith, within, blank.marks)) ∙ marked s (block_assigns_later s block) (blank.unmarked s within);
    }
  where
    marked : (s : ℕ) (t : Bool) → get_or unmarked s false ≡ false → (if t then true else get_or unmarked s false) ≡ t
    marked s true off = refl
    marked s false off = off

-- the marks are taken back
pub blank-again : (d : Design) (block : Clocked) (registers drives after : List ℕ) (later unmarked : List Bool) → AreOwn d block registers drives later
    → length after ≡ length drives → ((s : ℕ) → slice_index after s ≡ 0) → Marked false later unmarked (λ s. block_assigns_later s block)
    → AreBlank (length d.signals.items) after unmarked
blank-again d block registers drives after later unmarked own long none m =
    record {
      masks = long ∙ own.masks;
      marks = m.long ∙ own.marks;
      none = λ s within. none s;
      unmarked = λ s within. m.each s (omega (arith, within, own.marks)) ∙ taken s (block_assigns_later s block) (own.mark s within);
    }
  where
    taken : (s : ℕ) (t : Bool) → get_or later s false ≡ t → (if t then false else get_or later s false) ≡ false
    taken s true is = refl
    taken s false is = is

pub ruleset assigns_steps = (own-is, blank-again)

-- both maps are as they were
pub begun-again : (n : ℕ) (both after : Pair) → HasBegun n both
    → after ≡ record { current = record { now = both.current.base; base = both.current.base }; later = record { now = both.later.base; base = both.later.base } }
    → after ≡ both
begun-again n both after begun is =
    let back : (map : Tracked) → map.base ≡ map.now → record { now = map.base; base = map.base } ≡ map =
    λ map same. ap (λ x. record { now = x; base = map.base }) same in
    is
    ∙ ap₂ (λ x y. record { current = x; later = y }) (back both.current begun.base)
    (back both.later (ap (λ (map : Tracked). map.base) begun.same ∙ begun.base ∙ ap (λ (map : Tracked). map.now) (sym begun.same)))

pub ruleset run_steps = (begun-again)

-- ---- the signals that a block drives

pub driven-are : (d : Design) (block : Clocked) (registers drives all driven : List ℕ) (later : List Bool) → AreOwn d block registers drives later
    → All (λ s. s < length drives) all → ((s : ℕ) → ¬ (slice_index drives s ≡ 0) → Contains all s)
    → IsStrictlyIncreasing driven → ((s : ℕ) → Contains all s → Contains driven s) → ((s : ℕ) → Contains driven s → Contains all s)
    → AreDriven d block driven
driven-are d block registers drives all driven later own within covers rises keeps adds_none =
    record {
      rises = rises;
      within = λ k x below. there (get_or driven k x) (adds_none (get_or driven k x) (k, below, same driven k x below));
      others = λ s below none. at s below none (cases_eq (slice_index drives s) 0);
    }
  where
    and_none : (x : ℕ) → bit_and x 0 ≡ 0
    and_none x = omega (arith, and_le_r x 0)

    same : (xs : List ℕ) (k x : ℕ) → k < length xs → get_or xs k (get_or xs k x) ≡ get_or xs k x
    same xs k x below = get_or_default xs k (get_or xs k x) x below

    there : (s : ℕ) → Contains all s → s < length d.signals.items
    there s (k, below, is) = omega (arith, subst (λ t. t < length drives) is (within k s below), own.masks)

    at : (s : ℕ) → s < length d.signals.items → ¬ Contains driven s → (slice_index drives s ≡ 0) ⊎ (slice_index drives s ≡ 0 → ⊥) → own_mask d block s ≡ 0
    at s below none (inl is) = sym (own.mask s below) ∙ ap (bit_and (get_or registers s 0)) is ∙ and_none (get_or registers s 0)
    at s below none (inr some) = absurd (none (keeps s (covers s some)))

pub numbers-fit : (d : Design) (drives all : List ℕ) → length drives ≡ length d.signals.items → length d.signals.items < 2 ^ 32 → All (λ s. s < length drives) all
    → All (λ s. s < 2 ^ 32) all
numbers-fit d drives all long few within = λ k x below. omega (arith, within k x below, long, few)

pub ruleset driven_steps = (driven-are, numbers-fit)
