-- The lines of traces, one trace after another.
use Rattle.std.proofs.Common.{ℕ, ◌+◌, ◌≡◌, ◌≤◌, List, [], ◌∷◌, ◌++◌, length, drop, ap, sym, refl, subst, ◌∙◌, Result, Err, Some, Option}
use Rattle.std.specs.Prelude.{slice_get}
use Rattle.std.proofs.lemmas.Grind.{flat_map-append}
use Rattle.std.proofs.lemmas.List.{append_assoc, drop_all}
use Rattle.std.proofs.lemmas.Option.{slice_get_within, get_or_from_slice_get}
use Rattle.loc_base.proofs.ShelfLists.{drop-at}
use Rattle.design_core.specs.declared.design.Design.{Design}
use Rattle.design_core.specs.declared.trace.Trace.{Trace}
use Rattle.design_core.specs.Valuation.{Valuation}
use Rattle.design_core.specs.Run.{IsRun}
use Rattle.io_ports.specs.Sink.{SinkAppends}
use Rattle.io_ports.specs.declared.errors.SinkFault.{SinkFault}
use Rattle.sim_lines.specs.Lines.{AreLines, AreLinesOf, IsEnd, Line, cycle_lines, end_line, line_text, text_of, no_place, no_values}
use Rattle.sim_lines.specs.Shows.{Shows}
use Rattle.sim_lines.proofs.ShowsLaws.{shows-none, shows-one, shows-stopped, shows-then}

pub append-none : {X : Type 0} (xs : List X) → xs ++ [] ≡ xs
append-none [] = refl
append-none (x ∷ xs) = ap (λ zs. x ∷ zs) (append-none xs)

-- ---- one trace
-- a trace that stops among its cycles
pub cycles-stopped : (X Y : Type 0) (d : Design) (number : ℕ) (trace : Trace) (lines : List Line) (old new : List ℕ) (e : SinkFault) → AreLinesOf d number trace lines
    → ((run : List Valuation) → IsRun d trace no_place no_values run → Shows {X = X} (cycle_lines d number 0 run) old new (Err e)) → Shows {X = Y} lines old new (Err e)
cycles-stopped X Y d number trace lines old new e are shows =
    subst (λ ls. Shows {X = Y} ls old new (Err e)) (sym are.are)
    (shows-stopped X Y (cycle_lines d number 0 are.run) (end_line d number are.end ∷ []) old new e (shows are.run are.is_run))

-- one whose cycles are printed
pub trace-ended : (Y : Type 0) (d : Design) (number : ℕ) (trace : Trace) (lines : List Line) (old now new : List ℕ) (r : Result Y SinkFault)
    → AreLinesOf d number trace lines
    → ((run : List Valuation) → IsRun d trace no_place no_values run → now ≡ old ++ text_of (cycle_lines d number 0 run))
    → ((end : Option (ℕ × ℕ)) → IsEnd d trace end → SinkAppends (line_text (end_line d number end)) now new r) → Shows lines old new r
trace-ended Y d number trace lines old now new r are cycles end =
    subst (λ ls. Shows ls old new r) (sym are.are)
    (shows-then Y (cycle_lines d number 0 are.run) (end_line d number are.end ∷ []) old now new r (cycles are.run are.is_run)
    (shows-one Y (end_line d number are.end) now new r (end are.end are.is_end)))

-- ---- all traces
-- the lines of so many traces were printed
pub record Printed (d : Design) (traces : List Trace) (lines : List Line) (j : ℕ) (old now : List ℕ) : Type 0 where
  pub front : List Line
  pub rest : List Line
  pub whole : lines ≡ front ++ rest
  pub left : AreLines d (j + 1) (drop j traces) rest
  pub printed : now ≡ old ++ text_of front

pub printed-none : (d : Design) (traces : List Trace) (lines : List Line) (old : List ℕ) → AreLines d 1 traces lines → Printed d traces lines 0 old old
printed-none d traces lines old are = record { front = []; rest = lines; whole = refl; left = are; printed = shows-none old }

pub drop-next : {X : Type 0} (xs : List X) (j : ℕ) (x : X) → slice_get xs j ≡ Some x → drop j xs ≡ x ∷ drop (j + 1) xs
drop-next xs j x at = drop-at xs j x (slice_get_within xs j x at) (sym (get_or_from_slice_get xs j x x at))

pub printed-next : (d : Design) (traces : List Trace) (lines : List Line) (j : ℕ) (trace : Trace) (old now new : List ℕ)
    → slice_get traces j ≡ Some trace → Printed d traces lines j old now
    → ((own : List Line) → AreLinesOf d (j + 1) trace own → new ≡ now ++ text_of own) → Printed d traces lines (j + 1) old new
printed-next d traces lines j trace old now new at before shows =
    with_own (subst (λ ts. AreLines d (j + 1) ts before.rest) (drop-next traces j trace at) before.left)
  where
    with_own : AreLines d (j + 1) (trace ∷ drop (j + 1) traces) before.rest → Printed d traces lines (j + 1) old new
    with_own (first, rest, own, more, whole) = record {
      front = before.front ++ first;
      rest = rest;
      whole = before.whole ∙ ap (λ ls. before.front ++ ls) whole ∙ sym (append_assoc before.front first rest);
      left = more;
      printed = shown (shows first own);
    }
      where
        shown : new ≡ now ++ text_of first → new ≡ old ++ text_of (before.front ++ first)
        shown is = is ∙ ap (λ t. t ++ text_of first) before.printed ∙ append_assoc old (text_of before.front) (text_of first) ∙ ap (λ t. old ++ t) (sym (flat_map-append line_text before.front first))

-- a trace that stops
pub printed-stopped : (X Y : Type 0) (d : Design) (traces : List Trace) (lines : List Line) (j : ℕ) (trace : Trace) (old now new : List ℕ) (e : SinkFault)
    → slice_get traces j ≡ Some trace → Printed d traces lines j old now
    → ((own : List Line) → AreLinesOf d (j + 1) trace own → Shows {X = X} own now new (Err e)) → Shows {X = Y} lines old new (Err e)
printed-stopped X Y d traces lines j trace old now new e at before shows =
    with_own (subst (λ ts. AreLines d (j + 1) ts before.rest) (drop-next traces j trace at) before.left)
  where
    with_own : AreLines d (j + 1) (trace ∷ drop (j + 1) traces) before.rest → Shows {X = Y} lines old new (Err e)
    with_own (first, rest, own, more, whole) =
        let some : Shows {X = X} (before.front ++ first) old new (Err e) = shows-then X before.front first old now new (Err e) before.printed (shows first own) in
        let all : before.front ++ first ++ rest ≡ lines = append_assoc before.front first rest ∙ sym (before.whole ∙ ap (λ ls. before.front ++ ls) whole) in
        subst (λ ls. Shows {X = Y} ls old new (Err e)) all (shows-stopped X Y (before.front ++ first) rest old new e some)

-- all of them were
pub printed-all : (d : Design) (traces : List Trace) (lines : List Line) (j : ℕ) (old now : List ℕ) → length traces ≤ j → Printed d traces lines j old now
    → now ≡ old ++ text_of lines
printed-all d traces lines j old now all p = p.printed ∙ ap (λ ls. old ++ text_of ls) (sym (append-none p.front) ∙ ap (λ ls. p.front ++ ls) (sym nothing) ∙ sym p.whole)
  where
    nothing : p.rest ≡ []
    nothing = subst (λ ts. AreLines d (j + 1) ts p.rest) (drop_all j traces all) p.left
