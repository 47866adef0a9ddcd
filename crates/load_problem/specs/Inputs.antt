-- What was read.
use Rattle.std.specs.Prelude.{ℕ, ◌<◌, ◌≤◌, ◌^◌, length}
use Rattle.debug_core.specs.Problems.{Problem}
use Rattle.load_problem.specs.declared.inputs.Inputs.{Inputs}

-- the problem of inputs, by the greatest size of a set
abbrev pub problem_in : Inputs → ℕ → Problem
problem_in inputs size = record {
  design = inputs.ordered.design;
  order = inputs.ordered.order;
  traces = inputs.traces.items;
  groups = inputs.groups;
  k = size;
}

-- there are numbers of 32 bits for their traces and for their design's outputs
pub record HaveNumbers (inputs : Inputs) : Type 0 where
  pub traces : length inputs.traces.items ≤ 256
  pub outputs : length inputs.ordered.design.outputs.items < 2 ^ 32
