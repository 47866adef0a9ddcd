use Rattle.std.proofs.Common.{◌≡◌, ◌≤◌, true}
use Rattle.front_cert.specs.Reaches.{AllShown}
use Rattle.front_cert.proofs.missing.first_unseen.Given as goal

abbrev pub invariant-loop-x : goal.invariant-loop-x
invariant-loop-x l = record {
  size : l.seen.alone ≡ true;
  some : 1 ≤ l.x;
  before : AllShown l.members l.seen l.x;
}
