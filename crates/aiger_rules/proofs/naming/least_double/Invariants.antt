use Rattle.std.proofs.Common.{◌≡◌, ℕ, List, take, true}
use Rattle.std.specs.Prelude.{slice_index}
use Rattle.loc_base.specs.NameTable.{has_number}
use Rattle.aiger_rules.specs.Naming.{is_among, is_double, IsLeastOf, IsLineOf}
use Rattle.aiger_rules.proofs.naming.least_double.Given as goal

abbrev pub invariant-loop-place : goal.invariant-loop-place
invariant-loop-place l = record {
  met : (name : List ℕ) → has_number l.shared name ≡ true → has_number l.met name ≡ is_among (take l.place l.names) name;
  least : IsLeastOf (IsLineOf (is_double l.names) (slice_index l.lines) l.place) l.least;
}
