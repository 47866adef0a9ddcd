-- A line is a change.
use Rattle.std.proofs.Common.{◌≡◌, ℕ, Bool, true, false, List, ap, sym, ◌∙◌, refl, Some, None, Option, option_map}
use Rattle.std.specs.Prelude.{◌==◌, if◌then◌else◌, option_and_then}
use Rattle.design_core.specs.After.{Choice}
use Rattle.design_core.specs.Reads.{IsOrder}
use Rattle.design_core.specs.Valuation.{Valuation}
use Rattle.design_core.specs.WellFormed.{IsWellFormed}
use Rattle.changes.specs.Changes.{change_of, differing}
use Rattle.changes.specs.Execution.{Execution, computes_at, executed}
use Rattle.changes.specs.Reached.{reached}
use Rattle.changes.proofs.ExecutionLaws.{reached-computes}
use Rattle.change_lines.specs.Lines.{ChangeLine, Site, change_at, change_line, differing_line}

told : (t : Bool) (line : ChangeLine) (takes : ℕ) → line.takes ≡ takes
    → option_map (λ (line : ChangeLine). line.takes) (if t then None else Some line) ≡ (if t then None else Some takes)
told true line takes same = refl
told false line takes same = ap Some same

taken : (s : Site) (p takes : ℕ) (o : Option Execution)
    → option_map (λ (line : ChangeLine). line.takes) (option_and_then (differing_line s p takes) o)
    ≡ option_and_then (differing takes) (option_map (computes_at s.design p) o)
taken s p takes None = refl
taken s p takes (Some e) = told (computes_at s.design p e == takes) (change_line s p e takes) takes refl

pub line-is_change : (s : Site) (order : List ℕ) (A : Choice) (V : Valuation) (p : ℕ) → IsWellFormed s.design → IsOrder s.design order
    → option_map (λ (line : ChangeLine). line.takes) (change_at s A V p) ≡ change_of true (A.chosen p) (reached s.design A V p)
line-is_change s order A V p well ordered =
    taken s p (A.chosen p) (executed s.design A V p)
    ∙ ap (option_and_then (differing (A.chosen p))) (sym (reached-computes s.design order A V p well ordered))
