-- Which design a text means, and what is known of a design that is read.
use Rattle.std.specs.Prelude.{ℕ, ◌≡◌, ◌≢◌, ◌<◌, ◌≤◌, ◌^◌, List, length, IfErr, Result}
use Rattle.design_core.specs.declared.design.Design.{Design}
use Rattle.design_core.specs.WellFormed.{IsWellFormed}
use Rattle.design_core.specs.DrivenOnce.{IsDrivenOnce}
use Rattle.design_core.specs.Reads.{IsOrder}
use Rattle.design_core.specs.Order.{IsLeastOrder}
use Rattle.refusal.specs.declared.code.Code.{Code}
use Rattle.refusal.specs.declared.refusal.Refusal.{Refusal}
use Rattle.refusal.specs.Codes.{code_status}
use Rattle.front_end.specs.declared.reader.Ordered.{Ordered}
use Rattle.front_end.specs.By.{By}

-- which design a text means, by what it is read by
abbrev pub Meaning : Type 1
Meaning = List ℕ → By → Design → Type 0

-- and why it means none, by the code
abbrev pub Refusing : Type 1
Refusing = List ℕ → By → Code → Type 0

-- a design with the order of its drivers, the least one, so that it has one cycle for all samples, states and choices; its signals
-- and places are no more than a design may have, and its outputs have numbers
pub record IsReady (d : Design) (order : List ℕ) : Type 0 where
  pub well_formed : IsWellFormed d
  pub once : IsDrivenOnce d
  pub ordered : IsOrder d order
  pub least : IsLeastOrder d order
  pub signals : length d.signals.items ≤ 1048576
  pub places : length d.places.items ≤ 65536
  pub outputs : length d.outputs.items < 2 ^ 32

-- a refusal that is no want of memory has a cause
abbrev pub Refuses : (Code → Type 0) → Refusal → Type 0
Refuses R refusal = code_status refusal.code ≢ 7 → R refusal.code

-- a design was read, or memory was wanted
abbrev pub IsRead : Result Ordered Refusal → Type 0
IsRead result = IfErr result (λ refusal. code_status refusal.code ≡ 7)
