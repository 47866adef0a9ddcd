-- Whether all traces are right, by their lines, one trace after another.
use Rattle.std.proofs.Common.{ℕ, ◌+◌, ◌≡◌, ◌≤◌, Bool, true, false, List, [], ◌∷◌, ◌++◌, length, drop, ap, sym, refl, subst, ◌∙◌, Some, None, Option}
use Rattle.std.specs.Prelude.{◌&&◌, ◌||◌, not, is_some, slice_get}
use Rattle.std.specs.List.{list_any}
use Rattle.std.specs.Option.{option_map}
use Rattle.std.proofs.lemmas.List.{append_assoc, drop_all}
use Rattle.design_core.specs.declared.design.Design.{Design}
use Rattle.design_core.specs.declared.trace.Trace.{Trace}
use Rattle.design_core.specs.Valuation.{Valuation}
use Rattle.cycle_sim.specs.Simulated.{IsSimulable}
use Rattle.sim_lines.specs.declared.lines.Wrong.{Wrong}
use Rattle.sim_lines.specs.Lines.{AreLines, AreLinesOf, IsEnd, Line, are_right, cycle_lines, end_line, is_miss}
use Rattle.sim_lines.specs.Running.{place_of}
use Rattle.sim_lines.proofs.EndLaws.{end-unique}
use Rattle.sim_lines.proofs.TraceLaws.{append-none, drop-next}

-- ---- lines behind others
either-behind : (b p q r : Bool) → p ≡ (q || r) → (b || p) ≡ ((b || q) || r)
either-behind true p q r is = refl
either-behind false p q r is = is

any-behind : (xs ys : List Line) → list_any is_miss (xs ++ ys) ≡ (list_any is_miss xs || list_any is_miss ys)
any-behind [] ys = refl
any-behind (x ∷ xs) ys =
    either-behind (is_miss x) (list_any is_miss (xs ++ ys)) (list_any is_miss xs) (list_any is_miss ys) (any-behind xs ys)

not-either : (a b : Bool) → not (a || b) ≡ (not a && not b)
not-either true b = refl
not-either false b = refl

right-behind : (xs ys : List Line) → are_right (xs ++ ys) ≡ (are_right xs && are_right ys)
right-behind xs ys = ap not (any-behind xs ys) ∙ not-either (list_any is_miss xs) (list_any is_miss ys)

-- ---- one trace
cycles-right : (d : Design) (number t : ℕ) (run : List Valuation) → are_right (cycle_lines d number t run) ≡ true
cycles-right d number t [] = refl
cycles-right d number t (V ∷ run) = cycles-right d number (t + 1) run

-- its last line says it
abbrev is_met : Option (ℕ × ℕ) → Bool
is_met None = true
is_met (Some place) = false

end-right : (d : Design) (number : ℕ) (end : Option (ℕ × ℕ)) → are_right (end_line d number end ∷ []) ≡ is_met end
end-right d number None = refl
end-right d number (Some (t, i)) = refl

pub met-by : (miss : Option Wrong) (right : Bool) → is_some miss ≡ not right → right ≡ is_met (option_map place_of miss)
met-by None true e = refl
met-by None false e = cc
met-by (Some w) true e = e
met-by (Some w) false e = refl

pub trace-right : (d : Design) (order : List ℕ) → IsSimulable d order → (number : ℕ) (trace : Trace) (lines : List Line) (miss : Option Wrong)
    → AreLinesOf d number trace lines → IsEnd d trace (option_map place_of miss) → are_right lines ≡ is_met (option_map place_of miss)
trace-right d order k number trace lines miss are is =
    ap are_right are.are ∙ right-behind (cycle_lines d number 0 are.run) (end_line d number are.end ∷ [])
    ∙ ap (λ b. b && are_right (end_line d number are.end ∷ [])) (cycles-right d number 0 are.run) ∙ end-right d number are.end
    ∙ ap is_met (end-unique d order k trace are.end (option_map place_of miss) are.is_end is)

-- ---- all traces
-- so many traces were gone over, and whether all of them are right is known
pub record RightTo (d : Design) (traces : List Trace) (lines : List Line) (j : ℕ) (right : Bool) : Type 0 where
  pub front : List Line
  pub rest : List Line
  pub whole : lines ≡ front ++ rest
  pub left : AreLines d (j + 1) (drop j traces) rest
  pub is : right ≡ are_right front

pub right-none : (d : Design) (traces : List Trace) (lines : List Line) → AreLines d 1 traces lines → RightTo d traces lines 0 true
right-none d traces lines are = record { front = []; rest = lines; whole = refl; left = are; is = refl }

pub right-next : (d : Design) (traces : List Trace) (lines : List Line) (j : ℕ) (trace : Trace) (right own : Bool)
    → slice_get traces j ≡ Some trace → RightTo d traces lines j right
    → ((first : List Line) → AreLinesOf d (j + 1) trace first → own ≡ are_right first) → RightTo d traces lines (j + 1) (right && own)
right-next d traces lines j trace right own at before says =
    with_own (subst (λ ts. AreLines d (j + 1) ts before.rest) (drop-next traces j trace at) before.left)
  where
    with_own : AreLines d (j + 1) (trace ∷ drop (j + 1) traces) before.rest → RightTo d traces lines (j + 1) (right && own)
    with_own (first, rest, of, more, whole) = record {
      front = before.front ++ first;
      rest = rest;
      whole = before.whole ∙ ap (λ ls. before.front ++ ls) whole ∙ sym (append_assoc before.front first rest);
      left = more;
      is = ap (λ b. b && own) before.is ∙ ap (λ b. are_right before.front && b) (says first of) ∙ sym (right-behind before.front first);
    }

pub right-all : (d : Design) (traces : List Trace) (lines : List Line) (j : ℕ) (right : Bool) → length traces ≤ j → RightTo d traces lines j right
    → right ≡ are_right lines
right-all d traces lines j right all p = p.is ∙ ap are_right (sym (append-none p.front) ∙ ap (λ ls. p.front ++ ls) (sym nothing) ∙ sym p.whole)
  where
    nothing : p.rest ≡ []
    nothing = subst (λ ts. AreLines d (j + 1) ts p.rest) (drop_all j traces all) p.left
