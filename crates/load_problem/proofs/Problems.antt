-- What was read is a problem that can be asked.
use Rattle.std.proofs.Common.{ℕ, suc, ◌*◌, ◌^◌, ◌<◌, ◌≤◌, List, [], ◌∷◌, length, arith}
use Rattle.std.specs.Prelude.{All}
use Rattle.design_core.specs.declared.design.Design.{Design}
use Rattle.design_core.specs.declared.trace.Trace.{Trace}
use Rattle.front_end.specs.Means.{IsReady}
use Rattle.suspect_map.specs.declared.group.Group.{Group}
use Rattle.suspect_map.specs.Groups.{AreWithin}
use Rattle.unroller.specs.Unrolls.{cycles_of}
use Rattle.debug_core.specs.Problems.{IsProblem}
use Rattle.load_texts.specs.Means.{IsReadOf, most_cycles}

-- the cycles of traces that were read
cycles-bound : (d : Design) (traces : List Trace) → All (IsReadOf d) traces → cycles_of traces ≤ most_cycles * length traces
cycles-bound d [] all = omega arith
cycles-bound d (trace ∷ traces) all =
    omega (arith, (all 0 trace (omega arith)).few, cycles-bound d traces (λ i x low. all (suc i) x (omega (arith, low))))

few-cycles : (d : Design) (traces : List Trace) → All (IsReadOf d) traces → length traces ≤ 256 → cycles_of traces < 2 ^ 32
few-cycles d traces all few = omega (arith, cycles-bound d traces all)

pub is-problem : (d : Design) (order : List ℕ) (traces : List Trace) (groups : List Group) (size : ℕ) → IsReady d order
    → AreWithin (length d.places.items) groups → All (IsReadOf d) traces → length traces ≤ 256 → size ≤ 8
    → IsProblem (record { design = d; order = order; traces = traces; groups = groups; k = size })
is-problem d order traces groups size ready within read few small = record {
  well_formed = ready.well_formed;
  once = ready.once;
  ordered = ready.ordered;
  few_signals = ready.signals;
  traces = λ i x low. (read i x low).fits;
  few_cycles = few-cycles d traces read few;
  groups = within;
  size = small;
}
