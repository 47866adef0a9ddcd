-- The whole form, as the code makes it.
use Rattle.std.proofs.Common.{◌≡◌, ℕ, ◌+◌, ◌-◌, ◌<◌, ◌≤◌, Bool, List, length, ◌∙◌, ap, ap₂, arith}
use Rattle.std.proofs.Math.Path.{fun_ext}
use Rattle.card_counter.specs.Places.{starts}
use Rattle.design_core.specs.declared.trace.Trace.{Trace}
use Rattle.suspect_map.specs.declared.group.Group.{Group}
use Rattle.gate_base.specs.declared.error.MakeErr.{MakeErr}
use Rattle.gate_base.specs.declared.error.MakeErr.TheVariants.{Limit, NoMemory}
use Rattle.gate_base.specs.Arena.{UnlessNoMemory}
use Rattle.gate_base.specs.Nodes.{counted, sources_in}
use Rattle.gate_base.proofs.Counts.{length-counted, sources_in-empty}
use Rattle.bit_circuit.specs.Circuits.{BitNet}
use Rattle.unroller.specs.Limits.{unroll_err, IsRefused}
use Rattle.unroller.specs.Reads.{AreKept}
use Rattle.unroller.specs.Unrolls.{Unrolling, is_grouped, base_of, traces_unrolled, unrolled_before, unrolled_of, variables_of, AreTraces}
use Rattle.unroller.proofs.TraceSteps.{base-traces, sources-traces}
use Rattle.unroller.proofs.Kept.{traces-follow, before-follows}

module _ (circuit : BitNet) (traces : List Trace) (groups : List Group) (k : ℕ) where
  pub base-unrolled : (unrolled_of circuit traces groups k).base ≡ base_of groups k
  unfolding unrolled_of
  base-unrolled = base-traces circuit (is_grouped groups) traces (unrolled_before circuit (base_of groups k))

  pub sources-unrolled : sources_in (unrolled_of circuit traces groups k).definitions ≡ 0
  unfolding unrolled_of
  sources-unrolled =
      sources-traces circuit (is_grouped groups) traces (unrolled_before circuit (base_of groups k)) ∙ sources_in-empty

  pub kept-unrolled : AreTraces circuit traces 0 → AreKept (unrolled_of circuit traces groups k)
  unfolding unrolled_of
  kept-unrolled fit =
      (traces-follow circuit (is_grouped groups) traces (unrolled_before circuit (base_of groups k)) fit.each
      (before-follows circuit (base_of groups k))).kept

  -- what the code makes is the form
  pub unrolled-is : (before : ℕ) (grouped : ℕ → Bool) (w u : Unrolling) → w ≡ traces_unrolled circuit grouped u traces
      → u ≡ unrolled_before circuit (before + 1) → ((p : ℕ) → grouped p ≡ is_grouped groups p)
      → before ≡ length groups + starts k (length groups + 1)
      → w ≡ unrolled_of circuit traces groups k
  unfolding unrolled_of
  unrolled-is before grouped w u is begins same count =
      is ∙ ap₂ (λ g v. traces_unrolled circuit g v traces) (fun_ext same) begins
      ∙ ap (λ b. traces_unrolled circuit (is_grouped groups) (unrolled_before circuit (b + 1)) traces) count

  pub variables-unrolled : variables_of (unrolled_of circuit traces groups k)
      ≡ length groups + starts k (length groups + 1) + counted (unrolled_of circuit traces groups k).definitions
  variables-unrolled =
      omega (arith, base-unrolled, sources-unrolled, length-counted (unrolled_of circuit traces groups k).definitions)

  -- too many variables before the definitions
  pub too-many : 4000000 < length groups + starts k (length groups + 1)
      → 4000000 < variables_of (unrolled_of circuit traces groups k)
  too-many more = omega (arith, more, variables-unrolled)

  -- a refusal of the arena's
  pub refused-unrolled : (e : MakeErr) (before limit : ℕ) (w : Unrolling) → before ≤ 4000000
      → before ≡ length groups + starts k (length groups + 1) → limit ≡ 4000000 - before
      → w ≡ unrolled_of circuit traces groups k → UnlessNoMemory e (limit < counted w.definitions)
      → IsRefused (unroll_err e) (4000000 < variables_of (unrolled_of circuit traces groups k))
  refused-unrolled Limit before limit w few count room is cause =
      omega (arith, few, count, room, cause, ap (λ u. counted u.definitions) is, variables-unrolled)
  refused-unrolled NoMemory before limit w few count room is cause = tt

pub ruleset whole = (base-unrolled, too-many)
