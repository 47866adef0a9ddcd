use Rattle.std.proofs.Common.{◌≡◌, ℕ, ◌≤◌, ◌^◌, false, get_or, length, take}
use Rattle.form_laws.specs.Models.{freed_by}
use Rattle.form_values.proofs.places.freed.Given as goal

abbrev pub invariant-loop-i : goal.invariant-loop-i
invariant-loop-i l = record {
  few : length l.table ≤ 2 ^ 32;
  places : (p : ℕ) → get_or l.table p false ≡ freed_by l.groups (take l.i l.members) p;
}
