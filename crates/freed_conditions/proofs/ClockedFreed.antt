-- The clocked blocks of a freed design, one for each of the design: they drive its bits alike, and leave the same values.
use Rattle.std.proofs.Common.{ℕ, ◌≡◌, ◌<◌, true, false, not, ◌&&◌, ◌||◌, List, [], ◌∷◌, ◌++◌, length, refl, ap, ◌∙◌, sym, subst, Option, Some, None}
use Rattle.std.specs.Prelude.{◌==◌, if◌then◌else◌}
use Rattle.std.specs.Option.{option_map_or}
use Rattle.std.specs.List.{AllZip, list_all}
use Rattle.std.proofs.lemmas.Bool.{and_parts}
use Rattle.design_core.specs.declared.signal.Signal.{Signal}
use Rattle.design_core.specs.declared.place.Place.{Place}
use Rattle.design_core.specs.declared.statement.Stmt.{Stmt}
use Rattle.design_core.specs.declared.driver.Reset.{Reset}
use Rattle.design_core.specs.declared.driver.Clocked.{Clocked}
use Rattle.design_core.specs.declared.design.Design.{Design}
use Rattle.design_core.specs.Valuation.{Valuation, width_at}
use Rattle.design_core.specs.After.{Choice, Updates, after}
use Rattle.design_core.specs.Drives.{statement_drives, assigns_later, block_drives, block_assigns_later, is_listed}
use Rattle.design_core.specs.Cycle.{left, left_from, is_active}
use Rattle.design_core.specs.WellFormed.{is_reset_values, statement_fits, reset_fits, clocked_fits}
use Rattle.freed_conditions.specs.Kept.{Next, behind}
use Rattle.freed_conditions.specs.Widths.{widths, widths_of_clocked}
use Rattle.freed_conditions.specs.Freed.{freed}
use Rattle.freed_conditions.specs.IsFreed.{freed_clocked}
use Rattle.freed_conditions.specs.Alike.{AgreeBelow, Alike, Room}
use Rattle.freed_conditions.proofs.Rooms.{room-left, room-right}
use Rattle.freed_conditions.proofs.AfterFreed.{after-follows}
use Rattle.freed_conditions.proofs.DrivesFreed.{drives-freed, later-freed}
use Rattle.freed_conditions.proofs.ResetValues.{reset-freed, reset-widths}

-- a clocked block of the freed design, over more signals, beside that of the design
pub record ClockedAlike (signals more : List Signal) (choice : Choice) (own other : Clocked) : Type 0 where
  pub reset : other.reset ≡ own.reset
  pub drives : (s b : ℕ) → s < length signals → block_drives more s b other ≡ block_drives signals s b own
  pub active : (V W : Valuation) → AgreeBelow (length signals) W V → is_active W other ≡ is_active V own
  pub leaves : (V W : Valuation) → AgreeBelow (length signals) W V
      → AgreeBelow (length signals) (left_from more choice other W other.body) (left_from signals choice own V own.body)
  pub resets : (r : Reset) (V W : Valuation) → own.reset ≡ Some r → AgreeBelow (length signals) W V
      → AgreeBelow (length signals) (left_from more choice other W r.values) (left_from signals choice own V r.values)

-- what a block leaves, by its later updates or at once
left-alike : (count : ℕ) (own other : Clocked) (m m' : Updates) → ((s : ℕ) → s < count → block_assigns_later s other ≡ block_assigns_later s own)
    → Alike count m' m → AgreeBelow count (left other m') (left own m)
left-alike count own other m m' later agree = record {
  same = λ s b below.
      ap (λ t. if t then m'.later s b else m'.now s b) (later s below)
      ∙ ap (λ x. if block_assigns_later s own then x else m'.now s b) (agree.later.same s b below)
      ∙ ap (λ x. if block_assigns_later s own then m.later s b else x) (agree.now.same s b below);
}

-- a reset's values over more signals
pub record ResetIs (d : Design) (block : Clocked) (r : Reset) : Type 0 where
  pub below : r.signal < length d.signals.items
  pub values : is_reset_values r.values ≡ true
  pub fits : statement_fits d.signals.items d.places.items r.values ≡ true

values-alike : (signals hidden : List Signal) (places : List Place) (choice : Choice) (n : Next) (values : Stmt) (ws : List ℕ) → is_reset_values values ≡ true
    → statement_fits signals places values ≡ true → Room signals hidden choice.frees n ws → (m m' : Updates) → Alike (length signals) m' m
    → Alike (length signals) (after (signals ++ hidden) choice values m') (after signals choice values m)
values-alike signals hidden places choice n values ws is fits room m m' agree =
    let none : Room signals hidden choice.frees n (widths values) =
    subst (Room signals hidden choice.frees n) (sym (reset-widths values is)) (room-left signals hidden choice.frees n [] ws room) in
    subst (λ s. Alike (length signals) (after (signals ++ hidden) choice s m') (after signals choice values m)) (reset-freed n values is)
    (after-follows signals hidden places choice values fits n m m' none agree)

clocked-alike : (d : Design) (hidden : List Signal) (choice : Choice) (n : Next) (block : Clocked)
    → statement_fits d.signals.items d.places.items block.body ≡ true → Room d.signals.items hidden choice.frees n (widths block.body)
    → ((r : Reset) → block.reset ≡ Some r → ResetIs d block r)
    → ClockedAlike d.signals.items (d.signals.items ++ hidden) choice block (record { reset = block.reset; body = freed n block.body })
clocked-alike d hidden choice n block fits room resets =
    let signals : List Signal = d.signals.items in
    let places : List Place = d.places.items in
    let other : Clocked = record { reset = block.reset; body = freed n block.body } in
    let later : (s : ℕ) → s < length signals → block_assigns_later s other ≡ block_assigns_later s block =
    λ s below. ap (λ x. x || option_map_or (λ r. assigns_later s r.values) block.reset false) (later-freed signals places n block.body s fits room.behind) in
    record {
      reset = refl;
      drives = λ s b below.
          ap (λ x. x || option_map_or (λ r. statement_drives (signals ++ hidden) s b r.values) block.reset false) (drives-freed signals hidden places n block.body s b fits room.behind below)
          ∙ ap (λ x. statement_drives signals s b block.body || x) (reset_drives s b below block.reset resets);
      active = λ V W agree. is_at V W agree block.reset resets;
      leaves = λ V W agree. left-alike (length signals) block other (after signals choice block.body (record { now = V; later = V })) (after (signals ++ hidden) choice (freed n block.body) (record { now = W; later = W })) later
          (after-follows signals hidden places choice block.body fits n (record { now = V; later = V }) (record { now = W; later = W }) room (record { now = agree; later = agree }));
      resets = λ r V W is agree. let known = resets r is in
          left-alike (length signals) block other (after signals choice r.values (record { now = V; later = V })) (after (signals ++ hidden) choice r.values (record { now = W; later = W })) later
          (values-alike signals hidden places choice n r.values (widths block.body) known.values known.fits room (record { now = V; later = V }) (record { now = W; later = W }) (record { now = agree; later = agree }));
    }
  where
    reset_drives : (s b : ℕ) → s < length d.signals.items → (o : Option Reset) → ((r : Reset) → o ≡ Some r → ResetIs d block r)
        → option_map_or (λ (r : Reset). statement_drives (d.signals.items ++ hidden) s b r.values) o false ≡ option_map_or (λ (r : Reset). statement_drives d.signals.items s b r.values) o false
    reset_drives s b below None is = refl
    reset_drives s b below (Some r) is =
        let known = is r refl in
        ap (statement_drives (d.signals.items ++ hidden) s b) (sym (reset-freed n r.values known.values))
        ∙ drives-freed d.signals.items hidden d.places.items n r.values s b known.fits room.behind below

    is_at : (V W : Valuation) → AgreeBelow (length d.signals.items) W V → (o : Option Reset) → ((r : Reset) → o ≡ Some r → ResetIs d block r)
        → option_map_or (λ (r : Reset). if r.level then W r.signal 0 else not (W r.signal 0)) o false ≡ option_map_or (λ (r : Reset). if r.level then V r.signal 0 else not (V r.signal 0)) o false
    is_at V W agree None is = refl
    is_at V W agree (Some r) is = ap (λ x. if r.level then x else not x) (agree.same r.signal 0 (is r refl).below)

-- what the well-formedness of a block says of its reset
pub reset-is : (d : Design) (block : Clocked) (r : Reset) → ((s : ℕ) → is_listed d s ≡ true → s < length d.signals.items)
    → clocked_fits d block ≡ true → block.reset ≡ Some r → ResetIs d block r
reset-is d block r listed fits e =
    let fit = and_parts (statement_fits d.signals.items d.places.items block.body) (option_map_or (reset_fits d) block.reset true) fits in
    let here : reset_fits d r ≡ true = sym (ap (λ o. option_map_or (reset_fits d) o true) e) ∙ fit.1 in
    let parts = and_parts (is_listed d r.signal && (width_at d.signals.items r.signal == 1) && is_reset_values r.values)
    (statement_fits d.signals.items d.places.items r.values) here in
    let more = and_parts (is_listed d r.signal && (width_at d.signals.items r.signal == 1)) (is_reset_values r.values) parts.0 in
    record { below = listed r.signal (and_parts (is_listed d r.signal) (width_at d.signals.items r.signal == 1) more.0).0; values = more.1; fits = parts.1 }

pub blocks-alike : (d : Design) (hidden : List Signal) (choice : Choice) (n : Next) (blocks : List Clocked) → ((s : ℕ) → is_listed d s ≡ true → s < length d.signals.items)
    → list_all (clocked_fits d) blocks ≡ true → Room d.signals.items hidden choice.frees n (widths_of_clocked blocks)
    → AllZip (ClockedAlike d.signals.items (d.signals.items ++ hidden) choice) blocks (freed_clocked n blocks)
blocks-alike d hidden choice n [] listed fits room = tt
blocks-alike d hidden choice n (block ∷ rest) listed fits room =
    let fit = and_parts (clocked_fits d block) (list_all (clocked_fits d) rest) fits in
    let own = and_parts (statement_fits d.signals.items d.places.items block.body) (option_map_or (reset_fits d) block.reset true) fit.0 in (
      clocked-alike d hidden choice n block own.0 (room-left d.signals.items hidden choice.frees n (widths block.body) (widths_of_clocked rest) room)
          (λ r e. reset-is d block r listed fit.0 e),
      blocks-alike d hidden choice (behind (widths block.body) n) rest listed fit.1 (room-right d.signals.items hidden choice.frees n (widths block.body) (widths_of_clocked rest) room),
    )
