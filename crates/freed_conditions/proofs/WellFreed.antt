-- A freed design is well formed where the design is.
use Rattle.std.proofs.Common.{ℕ, zero, suc, ◌+◌, ◌-◌, ◌≡◌, ◌<◌, ◌≤◌, Bool, true, false, ◌&&◌, List, [], ◌∷◌, ◌++◌, length, refl, ap, ◌∙◌, sym, subst, arith, length-append, ◌⊎◌, inl, inr, Option, Some, None}
use Rattle.std.specs.Prelude.{◌==◌, ◌≢◌, pos, int_lt, ◌-ℤ◌, nat_le, slice_get, if◌then◌else◌, sum_by, AllPairs}
use Rattle.std.specs.Option.{option_map_or}
use Rattle.std.specs.List.{AllZip, list_any, list_all}
use Rattle.std.proofs.lemmas.Bool.{and_parts, and_from, le-ltb, leb-true, eq-eqb, cases_lt}
use Rattle.std.proofs.lemmas.Int.{ints}
use Rattle.std.proofs.lemmas.List.{append-nil}
use Rattle.std.proofs.lemmas.List.Folds.{list_all-append}
use Rattle.std.proofs.lemmas.List.Sums.{sum_by-cons}
use Rattle.loc_base.proofs.ShelfLists.{AllZip-length}
use Rattle.std.proofs.lemmas.Option.{slice_get_within}
use Rattle.loc_base.specs.Bits.{width_of}
use Rattle.design_core.specs.declared.signal.Signal.{Signal}
use Rattle.design_core.specs.declared.place.Place.{Place}
use Rattle.design_core.specs.declared.expression.Typed.{Typed}
use Rattle.design_core.specs.declared.statement.Part.{Part}
use Rattle.design_core.specs.declared.statement.Stmt.{Stmt}
use Rattle.design_core.specs.declared.driver.Driver.{Driver}
use Rattle.design_core.specs.declared.driver.Driver.TheVariants.{Cont, Comb}
use Rattle.design_core.specs.declared.driver.Reset.{Reset}
use Rattle.design_core.specs.declared.driver.Clocked.{Clocked}
use Rattle.design_core.specs.declared.design.Design.{Design}
use Rattle.design_core.specs.Valuation.{width_at, distance_of}
use Rattle.design_core.specs.Store.{parts_width}
use Rattle.design_core.specs.Drives.{is_listed}
use Rattle.design_core.specs.WellFormed.{is_width, spans, signal_fits, is_signal, is_input, input_fits, place_fits, assignment_fits, statement_fits, driver_fits, is_reset_values, reset_fits, clocked_fits, times_in, times_in_driver, times_in_clocked, times_in_design, IsWellFormed}
use Rattle.freed_conditions.specs.Kept.{Next, behind}
use Rattle.freed_conditions.specs.Widths.{widths, widths_of_drivers, widths_of_clocked, widths_of_connections}
use Rattle.freed_conditions.specs.Freed.{freed}
use Rattle.freed_conditions.specs.IsFreed.{freed_drivers, connected, freed_clocked, begins, condition_widths, connection_widths, IsKeptIn, IsConditionOf, IsConnectionOf, IsFreed}
use Rattle.freed_conditions.specs.Alike.{Fitted}
use Rattle.freed_conditions.proofs.SignalsMore.{slice_get-left, slice_get-behind, width_at-more}
use Rattle.freed_conditions.proofs.FitsMore.{and_map, is_signal-more, assignment_fits-more}
use Rattle.freed_conditions.proofs.FitsFreed.{fitted-left, fitted-right, freed-fits}
use Rattle.freed_conditions.proofs.ResetValues.{reset-freed, reset-widths}
use Rattle.freed_conditions.proofs.TimesFreed.{counted, counted-before, counted-at, counted-none, counted-sum, counted-append, counted-one, times-freed}
use Rattle.freed_conditions.proofs.WidthsFit.{all-append, widths-fit, drivers-widths, place-below, times-none}
use Rattle.freed_conditions.proofs.Beside.{listed-below}

-- ---- signals
minus_zero : (n : ℕ) → pos n -ℤ pos 0 ≡ pos n
minus_zero n = omega (arith, ints)

range-spans : (bits : ℕ) → 1 ≤ bits → spans bits (distance_of (pos (bits - 1)) (pos 0) (pos (bits - 1))) ≡ true
range-spans bits least =
    let low : int_lt (pos (bits - 1)) (pos 0) ≡ false = le-ltb (bits - 1) 0 (omega arith) in
    ap (λ t. spans bits (if t then pos 0 -ℤ pos (bits - 1) else pos (bits - 1) -ℤ pos 0)) low
    ∙ ap (spans bits) (minus_zero (bits - 1)) ∙ eq-eqb ((bits - 1) + 1) bits (omega arith)

net-fits : (bits : ℕ) (s : Signal) → IsKeptIn bits s → is_width bits ≡ true → signal_fits s ≡ true
net-fits bits s h wide =
    let least : 1 ≤ bits = leb-true 1 bits (and_parts (nat_le 1 bits) (nat_le bits 128) wide).0 in
    let range : spans s.width (distance_of s.left s.right s.left) ≡ true =
    ap (λ w. spans w (distance_of s.left s.right s.left)) h.width ∙ ap (λ l. spans bits (distance_of l s.right l)) h.left
    ∙ ap (λ r. spans bits (distance_of (pos (bits - 1)) r (pos (bits - 1)))) h.right ∙ range-spans bits least in
    and_from (is_width s.width && spans s.width (distance_of s.left s.right s.left)) (width_of s.start == s.width)
    (and_from (is_width s.width) (spans s.width (distance_of s.left s.right s.left)) (ap is_width h.width ∙ wide) range)
    (eq-eqb (width_of s.start) s.width (h.start_width ∙ sym h.width))

nets-fit : (ws : List ℕ) (hidden : List Signal) → AllZip IsKeptIn ws hidden → list_all is_width ws ≡ true → list_all signal_fits hidden ≡ true
nets-fit [] [] all wide = refl
nets-fit [] (s ∷ hidden) all wide = absurd all
nets-fit (w ∷ ws) [] all wide = absurd all
nets-fit (w ∷ ws) (s ∷ hidden) all wide =
    let fit = and_parts (is_width w) (list_all is_width ws) wide in
    and_from (signal_fits s) (list_all signal_fits hidden) (net-fits w s all.0 fit.0) (nets-fit ws hidden all.1 fit.1)

-- an element of two lists, by the first's
pub zip-get : {X Y : Type 0} (R : X → Y → Type 0) (xs : List X) (ys : List Y) (i : ℕ) (x : X) → AllZip R xs ys → slice_get xs i ≡ Some x
    → (y : Y) × (slice_get ys i ≡ Some y) × R x y
zip-get R [] ys i x all at = cc
zip-get R (a ∷ xs) [] i x all at = absurd all
zip-get R (a ∷ xs) (b ∷ ys) zero x all at = let same : a ≡ x = cc in (b, refl, subst (λ z. R z b) same all.0)
zip-get R (a ∷ xs) (b ∷ ys) (suc i) x all at = zip-get R xs ys i x all.1 at

inputs-fit : (signals hidden : List Signal) (inputs : List ℕ) → list_all (input_fits signals) inputs ≡ true → list_all (input_fits (signals ++ hidden)) inputs ≡ true
inputs-fit signals hidden [] fits = refl
inputs-fit signals hidden (i ∷ inputs) fits =
    and_map (input_fits signals i) (list_all (input_fits signals) inputs) (input_fits (signals ++ hidden) i) (list_all (input_fits (signals ++ hidden)) inputs)
    (at (slice_get signals i) refl) (inputs-fit signals hidden inputs) fits
  where
    at : (o : Option Signal) → slice_get signals i ≡ o → input_fits signals i ≡ true → input_fits (signals ++ hidden) i ≡ true
    at None is fit =
        let fails : input_fits signals i ≡ false = ap (λ o. option_map_or (λ (s : Signal). is_input s.kind) o false) is in cc
    at (Some s) is fit =
        ap (λ o. option_map_or (λ (s : Signal). is_input s.kind) o false) (slice_get-left signals hidden i s is)
        ∙ sym (ap (λ o. option_map_or (λ (s : Signal). is_input s.kind) o false) is) ∙ fit

outputs-fit : (signals hidden : List Signal) (outputs : List ℕ) → list_all (is_signal signals) outputs ≡ true → list_all (is_signal (signals ++ hidden)) outputs ≡ true
outputs-fit signals hidden [] fits = refl
outputs-fit signals hidden (o ∷ outputs) fits =
    and_map (is_signal signals o) (list_all (is_signal signals) outputs) (is_signal (signals ++ hidden) o) (list_all (is_signal (signals ++ hidden)) outputs)
    (is_signal-more signals hidden o) (outputs-fit signals hidden outputs) fits

-- ---- places
wide-places : (Is : ℕ → Place → Type 0) (ws : List ℕ) (places : List Place) → ((w : ℕ) (p : Place) → Is w p → p.width ≡ w) → AllZip Is ws places → list_all is_width ws ≡ true
    → list_all (λ (p : Place). is_width p.width) places ≡ true
wide-places Is [] [] width all wide = refl
wide-places Is [] (p ∷ places) width all wide = absurd all
wide-places Is (w ∷ ws) [] width all wide = absurd all
wide-places Is (w ∷ ws) (p ∷ places) width all wide =
    let fit = and_parts (is_width w) (list_all is_width ws) wide in
    and_from (is_width p.width) (list_all (λ (q : Place). is_width q.width) places) (ap is_width (width w p all.0) ∙ fit.0) (wide-places Is ws places width all.1 fit.1)

-- ---- drivers
-- an assignment that had no place
new-fits : (signals hidden : List Signal) (places : List Place) (parts : List Part) (e : Typed) (q : ℕ) → assignment_fits signals parts e ≡ true
    → place_fits places (parts_width signals parts) q ≡ true
    → (assignment_fits (signals ++ hidden) parts e && place_fits places (parts_width (signals ++ hidden) parts) q) ≡ true
new-fits signals hidden places parts e q fits place =
    subst (λ (P : List Place). (assignment_fits (signals ++ hidden) parts e && place_fits P (parts_width (signals ++ hidden) parts) q) ≡ true) (append-nil places)
    (assignment_fits-more signals hidden places [] parts e q (and_from (assignment_fits signals parts e) (place_fits places (parts_width signals parts) q) fits place))

drivers-fit : (signals hidden : List Signal) (places more : List Place) (n : Next) (q : ℕ) (drivers : List Driver) → list_all (driver_fits signals places) drivers ≡ true
    → Fitted (signals ++ hidden) (places ++ more) n (widths_of_drivers drivers)
    → ((i w : ℕ) → slice_get (widths_of_connections signals drivers) i ≡ Some w → place_fits (places ++ more) w (q + i) ≡ true)
    → list_all (driver_fits (signals ++ hidden) (places ++ more)) (connected q (freed_drivers n drivers)) ≡ true
drivers-fit signals hidden places more n q [] fits h ports = refl
drivers-fit signals hidden places more n q (Cont target e None span ∷ rest) fits h ports =
    let S = signals ++ hidden in
    let P = places ++ more in
    let fit = and_parts (driver_fits signals places (Cont target e None span)) (list_all (driver_fits signals places) rest) fits in
    let own = and_parts (assignment_fits signals target.parts e) true fit.0 in
    let here : q ≡ q + 0 = omega arith in
    and_from (driver_fits S P (Cont target e (Some q) span)) (list_all (driver_fits S P) (connected (q + 1) (freed_drivers n rest)))
    (new-fits signals hidden P target.parts e q own.0 (ap (place_fits P (parts_width signals target.parts)) here ∙ ports 0 (parts_width signals target.parts) refl))
    (drivers-fit signals hidden places more n (q + 1) rest fit.1 h
    (λ i w at. let moved : (q + 1) + i ≡ q + suc i = omega arith in ap (place_fits P w) moved ∙ ports (suc i) w at))
drivers-fit signals hidden places more n q (Cont target e (Some p) span ∷ rest) fits h ports =
    let S = signals ++ hidden in
    let P = places ++ more in
    and_map (driver_fits signals places (Cont target e (Some p) span)) (list_all (driver_fits signals places) rest)
    (driver_fits S P (Cont target e (Some p) span)) (list_all (driver_fits S P) (connected q (freed_drivers n rest)))
    (assignment_fits-more signals hidden places more target.parts e p) (λ fit. drivers-fit signals hidden places more n q rest fit h ports) fits
drivers-fit signals hidden places more n q (Comb body span ∷ rest) fits h ports =
    let S = signals ++ hidden in
    let P = places ++ more in
    and_map (statement_fits signals places body) (list_all (driver_fits signals places) rest)
    (statement_fits S P (freed n body)) (list_all (driver_fits S P) (connected q (freed_drivers (behind (widths body) n) rest)))
    (λ fit. freed-fits signals hidden places more n body fit (fitted-left S P n (widths body) (widths_of_drivers rest) h))
    (λ fit. drivers-fit signals hidden places more (behind (widths body) n) q rest fit (fitted-right S P n (widths body) (widths_of_drivers rest) h) ports) fits

-- ---- clocked blocks
-- a freed statement in the freed design
freed-fits-in : (d e : Design) (f : IsFreed d e) (n : Next) (statement : Stmt) → statement_fits d.signals.items d.places.items statement ≡ true
    → Fitted e.signals.items e.places.items n (widths statement) → statement_fits e.signals.items e.places.items (freed n statement) ≡ true
freed-fits-in d e f n statement fits h =
    let more : List Place = f.conditions ++ f.connections in
    let here : Fitted (d.signals.items ++ f.hidden) (d.places.items ++ more) n (widths statement) =
    subst (λ (S : List Signal). Fitted S (d.places.items ++ more) n (widths statement)) f.signals
    (subst (λ (P : List Place). Fitted e.signals.items P n (widths statement)) f.places h) in
    subst (λ (S : List Signal). statement_fits S e.places.items (freed n statement) ≡ true) (sym f.signals)
    (subst (λ (P : List Place). statement_fits (d.signals.items ++ f.hidden) P (freed n statement) ≡ true) (sym f.places)
    (freed-fits d.signals.items f.hidden d.places.items more n statement fits here))

-- the empty list has no element
nowhere : (xs : List ℕ) (i w : ℕ) → xs ≡ [] → slice_get xs i ≡ Some w → ⊥
nowhere [] i w is at = cc
nowhere (x ∷ xs) i w is at = cc

reset-fits : (d e : Design) → IsWellFormed d → IsFreed d e → (n : Next) (r : Reset) → reset_fits d r ≡ true → reset_fits e r ≡ true
reset-fits d e well f n r fits =
    let parts = and_parts (is_listed d r.signal && (width_at d.signals.items r.signal == 1) && is_reset_values r.values)
    (statement_fits d.signals.items d.places.items r.values) fits in
    let more = and_parts (is_listed d r.signal && (width_at d.signals.items r.signal == 1)) (is_reset_values r.values) parts.0 in
    let own = and_parts (is_listed d r.signal) (width_at d.signals.items r.signal == 1) more.0 in
    let none : Fitted e.signals.items e.places.items n (widths r.values) =
    subst (Fitted e.signals.items e.places.items n) (sym (reset-widths r.values more.1)) (record { nets = λ i w at. absurd (nowhere [] i w refl at); places = λ i w at. absurd (nowhere [] i w refl at) }) in
    and_from (is_listed e r.signal && (width_at e.signals.items r.signal == 1) && is_reset_values r.values) (statement_fits e.signals.items e.places.items r.values)
    (and_from (is_listed e r.signal && (width_at e.signals.items r.signal == 1)) (is_reset_values r.values)
    (and_from (is_listed e r.signal) (width_at e.signals.items r.signal == 1) (ap (list_any (λ input. input == r.signal)) f.inputs ∙ own.0)
    (ap (λ (S : List Signal). width_at S r.signal == 1) f.signals
    ∙ ap (λ w. w == 1) (width_at-more d.signals.items f.hidden r.signal (listed-below d well r.signal own.0)) ∙ own.1)) more.1)
    (ap (statement_fits e.signals.items e.places.items) (sym (reset-freed n r.values more.1)) ∙ freed-fits-in d e f n r.values parts.1 none)

blocks-fit : (d e : Design) → IsWellFormed d → IsFreed d e → (n : Next) (blocks : List Clocked) → list_all (clocked_fits d) blocks ≡ true
    → Fitted e.signals.items e.places.items n (widths_of_clocked blocks) → list_all (clocked_fits e) (freed_clocked n blocks) ≡ true
blocks-fit d e well f n [] fits h = refl
blocks-fit d e well f n (block ∷ rest) fits h =
    let other : Clocked = record { reset = block.reset; body = freed n block.body } in
    and_map (clocked_fits d block) (list_all (clocked_fits d) rest) (clocked_fits e other) (list_all (clocked_fits e) (freed_clocked (behind (widths block.body) n) rest))
    (and_map (statement_fits d.signals.items d.places.items block.body) (option_map_or (reset_fits d) block.reset true)
    (statement_fits e.signals.items e.places.items (freed n block.body)) (option_map_or (reset_fits e) block.reset true)
    (λ fit. freed-fits-in d e f n block.body fit (fitted-left e.signals.items e.places.items n (widths block.body) (widths_of_clocked rest) h))
    (resets block.reset))
    (λ fit. blocks-fit d e well f (behind (widths block.body) n) rest fit (fitted-right e.signals.items e.places.items n (widths block.body) (widths_of_clocked rest) h)) fits
  where
    resets : (o : Option Reset) → option_map_or (reset_fits d) o true ≡ true → option_map_or (reset_fits e) o true ≡ true
    resets None fit = refl
    resets (Some r) fit = reset-fits d e well f n r fit

-- ---- each place once
drivers-times : (signals : List Signal) (p : ℕ) (n : Next) (q : ℕ) (drivers : List Driver)
    → sum_by (times_in_driver p) (connected q (freed_drivers n drivers))
    ≡ sum_by (times_in_driver p) drivers + (counted n.place (length (widths_of_drivers drivers)) p + counted q (length (widths_of_connections signals drivers)) p)
drivers-times signals p n q [] = omega (arith, counted-none n.place p, counted-none q p)
drivers-times signals p n q (Cont target e None span ∷ rest) =
    omega (
      arith,
      sum_by-cons (times_in_driver p) (Cont target e (Some q) span) (connected (q + 1) (freed_drivers n rest)),
      sum_by-cons (times_in_driver p) (Cont target e None span) rest,
      drivers-times signals p n (q + 1) rest,
      counted-one q p,
      counted-append q (parts_width signals target.parts ∷ []) (widths_of_connections signals rest) p,
    )
drivers-times signals p n q (Cont target e (Some own) span ∷ rest) =
    omega (
      arith,
      sum_by-cons (times_in_driver p) (Cont target e (Some own) span) (connected q (freed_drivers n rest)),
      sum_by-cons (times_in_driver p) (Cont target e (Some own) span) rest,
      drivers-times signals p n q rest,
    )
drivers-times signals p n q (Comb body span ∷ rest) =
    omega (
      arith,
      sum_by-cons (times_in_driver p) (Comb (freed n body) span) (connected q (freed_drivers (behind (widths body) n) rest)),
      sum_by-cons (times_in_driver p) (Comb body span) rest,
      drivers-times signals p (behind (widths body) n) q rest,
      times-freed p n body,
      counted-append n.place (widths body) (widths_of_drivers rest) p,
    )

clocked-times : (p : ℕ) (n : Next) (blocks : List Clocked)
    → sum_by (times_in_clocked p) (freed_clocked n blocks) ≡ sum_by (times_in_clocked p) blocks + counted n.place (length (widths_of_clocked blocks)) p
clocked-times p n [] = omega (arith, counted-none n.place p)
clocked-times p n (block ∷ rest) =
    omega (
      arith,
      sum_by-cons (times_in_clocked p) (record { reset = block.reset; body = freed n block.body }) (freed_clocked (behind (widths block.body) n) rest),
      sum_by-cons (times_in_clocked p) block rest,
      clocked-times p (behind (widths block.body) n) rest,
      times-freed p n block.body,
      counted-append n.place (widths block.body) (widths_of_clocked rest) p,
    )

drivers-none : (signals : List Signal) (places : List Place) (p : ℕ) (drivers : List Driver) → length places ≤ p → list_all (driver_fits signals places) drivers ≡ true
    → sum_by (times_in_driver p) drivers ≡ 0
drivers-none signals places p [] above fits = refl
drivers-none signals places p (driver ∷ rest) above fits =
    let fit = and_parts (driver_fits signals places driver) (list_all (driver_fits signals places) rest) fits in
    omega (arith, sum_by-cons (times_in_driver p) driver rest, one driver fit.0, drivers-none signals places p rest above fit.1)
  where
    one : (driver : Driver) → driver_fits signals places driver ≡ true → times_in_driver p driver ≡ 0
    one (Cont target e None _) fit = refl
    one (Cont target e (Some q) _) fit =
        place-below places (parts_width signals target.parts) p q (and_parts (assignment_fits signals target.parts e) (place_fits places (parts_width signals target.parts) q) fit).1 above
    one (Comb body _) fit = times-none signals places p body above fit

clocked-none : (d : Design) (p : ℕ) (blocks : List Clocked) → length d.places.items ≤ p → list_all (clocked_fits d) blocks ≡ true → sum_by (times_in_clocked p) blocks ≡ 0
clocked-none d p [] above fits = refl
clocked-none d p (block ∷ rest) above fits =
    let fit = and_parts (clocked_fits d block) (list_all (clocked_fits d) rest) fits in
    let own = and_parts (statement_fits d.signals.items d.places.items block.body) (option_map_or (reset_fits d) block.reset true) fit.0 in
    omega (arith, sum_by-cons (times_in_clocked p) block rest, times-none d.signals.items d.places.items p block.body above own.0, resets block.reset own.1, clocked-none d p rest above fit.1)
  where
    resets : (o : Option Reset) → option_map_or (reset_fits d) o true ≡ true → option_map_or (λ (r : Reset). times_in p r.values) o 0 ≡ 0
    resets None fit = refl
    resets (Some r) fit =
        times-none d.signals.items d.places.items p r.values above
        (and_parts (is_listed d r.signal && (width_at d.signals.items r.signal == 1) && is_reset_values r.values) (statement_fits d.signals.items d.places.items r.values) fit).1

-- ---- the design
-- each condition has its net and its place
fitted-whole : (d e : Design) → IsFreed d e → Fitted e.signals.items e.places.items (begins d) (condition_widths d)
fitted-whole d e f = record {
  nets = λ i w at.
      let (s, there, kept) = zip-get IsKeptIn (condition_widths d) f.hidden i w f.are_kept_in at in
      let here : slice_get e.signals.items (length d.signals.items + i) ≡ Some s =
      ap (λ (S : List Signal). slice_get S (length d.signals.items + i)) f.signals ∙ slice_get-behind d.signals.items f.hidden i ∙ there in
      (slice_get_within e.signals.items (length d.signals.items + i) s here, ap (λ o. option_map_or (λ (signal : Signal). signal.width) o 0) here ∙ kept.width);
  places = λ i w at.
      let (p, there, condition) = zip-get IsConditionOf (condition_widths d) f.conditions i w f.are_conditions at in
      let here : slice_get e.places.items (length d.places.items + i) ≡ Some p =
      ap (λ (P : List Place). slice_get P (length d.places.items + i)) f.places ∙ slice_get-behind d.places.items (f.conditions ++ f.connections) i
      ∙ slice_get-left f.conditions f.connections i p there in
      ap (λ o. option_map_or (λ (place : Place). place.width == w) o false) here ∙ eq-eqb p.width w condition.width;
}

-- and each connection its place
ports-fit : (d e : Design) → IsFreed d e → (i w : ℕ) → slice_get (connection_widths d) i ≡ Some w
    → place_fits e.places.items w ((length d.places.items + length (condition_widths d)) + i) ≡ true
ports-fit d e f i w at =
    let (p, there, connection) = zip-get IsConnectionOf (connection_widths d) f.connections i w f.are_connections at in
    let many : length (condition_widths d) ≡ length f.conditions = AllZip-length IsConditionOf (condition_widths d) f.conditions f.are_conditions in
    let moved : (length d.places.items + length (condition_widths d)) + i ≡ length d.places.items + (length f.conditions + i) = omega (arith, many) in
    let here : slice_get e.places.items ((length d.places.items + length (condition_widths d)) + i) ≡ Some p =
    ap (slice_get e.places.items) moved ∙ ap (λ (P : List Place). slice_get P (length d.places.items + (length f.conditions + i))) f.places
    ∙ slice_get-behind d.places.items (f.conditions ++ f.connections) (length f.conditions + i) ∙ slice_get-behind f.conditions f.connections i ∙ there in
    ap (λ o. option_map_or (λ (place : Place). place.width == w) o false) here ∙ eq-eqb p.width w connection.width

clocked-widths : (d : Design) (blocks : List Clocked) → list_all (clocked_fits d) blocks ≡ true → list_all is_width (widths_of_clocked blocks) ≡ true
clocked-widths d [] fits = refl
clocked-widths d (block ∷ rest) fits =
    let fit = and_parts (clocked_fits d block) (list_all (clocked_fits d) rest) fits in
    let own = and_parts (statement_fits d.signals.items d.places.items block.body) (option_map_or (reset_fits d) block.reset true) fit.0 in
    all-append (widths block.body) (widths_of_clocked rest) (widths-fit d.signals.items d.places.items block.body own.0) (clocked-widths d rest fit.1)

-- how often a place stands in the freed design
times-whole : (d e : Design) → IsFreed d e → (p : ℕ)
    → times_in_design e p ≡ times_in_design d p + counted (length d.places.items) (length (condition_widths d) + length (connection_widths d)) p
times-whole d e f p =
    let wd : List ℕ = widths_of_drivers d.drivers.items in
    let wc : List ℕ = widths_of_clocked d.clocked.items in
    let q : ℕ = length d.places.items + length (condition_widths d) in
    let one : sum_by (times_in_driver p) e.drivers.items ≡ sum_by (times_in_driver p) d.drivers.items + (counted (length d.places.items) (length wd) p + counted q (length (connection_widths d)) p) =
    ap (sum_by (times_in_driver p)) f.drivers ∙ drivers-times d.signals.items p (begins d) q d.drivers.items in
    let other : sum_by (times_in_clocked p) e.clocked.items ≡ sum_by (times_in_clocked p) d.clocked.items + counted (length d.places.items + length wd) (length wc) p =
    ap (sum_by (times_in_clocked p)) f.clocked ∙ clocked-times p (behind wd (begins d)) d.clocked.items in
    omega (arith, one, other, counted-append (length d.places.items) wd wc p, counted-sum (length d.places.items) (length (condition_widths d)) (length (connection_widths d)) p)

places-many : (d e : Design) → IsFreed d e → length e.places.items ≡ length d.places.items + (length (condition_widths d) + length (connection_widths d))
places-many d e f =
    ap (λ (P : List Place). length P) f.places
    ∙ omega (
      arith,
      length-append d.places.items (f.conditions ++ f.connections),
      length-append f.conditions f.connections,
      AllZip-length IsConditionOf (condition_widths d) f.conditions f.are_conditions,
      AllZip-length IsConnectionOf (connection_widths d) f.connections f.are_connections,
    )

once : (d e : Design) → IsWellFormed d → IsFreed d e → (p : ℕ) → p < length e.places.items → times_in_design e p ≡ 1
once d e well f p below = at (cases_lt p (length d.places.items))
  where
    at : (p < length d.places.items) ⊎ (length d.places.items ≤ p) → times_in_design e p ≡ 1
    at (inl own) =
        omega (arith, times-whole d e f p, well.each_place_once p own, counted-before (length d.places.items) (length (condition_widths d) + length (connection_widths d)) p own)
    at (inr new) =
        let within : p < length d.places.items + (length (condition_widths d) + length (connection_widths d)) = omega (arith, below, places-many d e f) in
        omega (
          arith,
          times-whole d e f p,
          drivers-none d.signals.items d.places.items p d.drivers.items new well.drivers,
          clocked-none d p d.clocked.items new well.clocked,
          counted-at (length d.places.items) (length (condition_widths d) + length (connection_widths d)) p new within,
        )

pub well-freed : (d e : Design) → IsWellFormed d → IsFreed d e → IsWellFormed e
well-freed d e well f =
    let S : List Signal = d.signals.items ++ f.hidden in
    let more : List Place = f.conditions ++ f.connections in
    let P : List Place = d.places.items ++ more in
    let q : ℕ = length d.places.items + length (condition_widths d) in
    let wide = drivers-widths d.signals.items d.places.items d.drivers.items well.drivers in
    let conditions_wide : list_all is_width (condition_widths d) ≡ true =
    all-append (widths_of_drivers d.drivers.items) (widths_of_clocked d.clocked.items) wide.0 (clocked-widths d d.clocked.items well.clocked) in
    let whole : Fitted e.signals.items e.places.items (begins d) (condition_widths d) = fitted-whole d e f in
    let in_lists : Fitted S P (begins d) (condition_widths d) =
    subst (λ (s : List Signal). Fitted s P (begins d) (condition_widths d)) f.signals (subst (λ (ps : List Place). Fitted e.signals.items ps (begins d) (condition_widths d)) f.places whole) in
    let width_of_place : Place → Bool = λ p. is_width p.width in
    record {
      signals = ap (list_all signal_fits) f.signals ∙ list_all-append signal_fits d.signals.items f.hidden
          ∙ and_from (list_all signal_fits d.signals.items) (list_all signal_fits f.hidden) well.signals (nets-fit (condition_widths d) f.hidden f.are_kept_in conditions_wide);
      inputs = ap (list_all (input_fits e.signals.items)) f.inputs ∙ ap (λ (s : List Signal). list_all (input_fits s) d.inputs.items) f.signals
          ∙ inputs-fit d.signals.items f.hidden d.inputs.items well.inputs;
      inputs_distinct = subst (AllPairs (λ one other. one ≢ other)) (sym f.inputs) well.inputs_distinct;
      outputs = ap (list_all (is_signal e.signals.items)) f.outputs ∙ ap (λ (s : List Signal). list_all (is_signal s) d.outputs.items) f.signals
          ∙ outputs-fit d.signals.items f.hidden d.outputs.items well.outputs;
      outputs_distinct = subst (AllPairs (λ one other. one ≢ other)) (sym f.outputs) well.outputs_distinct;
      places = ap (list_all width_of_place) f.places ∙ list_all-append width_of_place d.places.items more
          ∙ and_from (list_all width_of_place d.places.items) (list_all width_of_place more) well.places
          (list_all-append width_of_place f.conditions f.connections
          ∙ and_from (list_all width_of_place f.conditions) (list_all width_of_place f.connections)
          (wide-places IsConditionOf (condition_widths d) f.conditions (λ w p is. is.width) f.are_conditions conditions_wide)
          (wide-places IsConnectionOf (connection_widths d) f.connections (λ w p is. is.width) f.are_connections wide.1));
      drivers = ap (list_all (driver_fits e.signals.items e.places.items)) f.drivers
          ∙ ap (λ (s : List Signal). list_all (driver_fits s e.places.items) (connected q (freed_drivers (begins d) d.drivers.items))) f.signals
          ∙ ap (λ (ps : List Place). list_all (driver_fits S ps) (connected q (freed_drivers (begins d) d.drivers.items))) f.places
          ∙ drivers-fit d.signals.items f.hidden d.places.items more (begins d) q d.drivers.items well.drivers
          (fitted-left S P (begins d) (widths_of_drivers d.drivers.items) (widths_of_clocked d.clocked.items) in_lists)
          (λ i w at. sym (ap (λ (ps : List Place). place_fits ps w (q + i)) f.places) ∙ ports-fit d e f i w at);
      clocked = ap (list_all (clocked_fits e)) f.clocked
          ∙ blocks-fit d e well f (behind (widths_of_drivers d.drivers.items) (begins d)) d.clocked.items well.clocked
          (fitted-right e.signals.items e.places.items (begins d) (widths_of_drivers d.drivers.items) (widths_of_clocked d.clocked.items) whole);
      each_place_once = once d e well f;
    }
