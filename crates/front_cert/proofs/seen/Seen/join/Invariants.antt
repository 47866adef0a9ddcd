use Rattle.std.proofs.Common.{◌≡◌, ◌≤◌, ◌<◌, ◌||◌, ℕ, false, length, get_or, min}
use Rattle.front_cert.proofs.seen.Seen.join.Given as goal

abbrev pub invariant-loop-x : goal.invariant-loop-x
invariant-loop-x l = record {
  alone : l.self.alone ≡ (l.fn.self.alone || l.other.alone);
  above : l.self.above ≡ min l.fn.self.above l.other.above;
  room : length l.self.only.items ≡ length l.fn.self.only.items;
  before : (y : ℕ) → y < l.x → get_or l.self.only.items y false ≡ (get_or l.fn.self.only.items y false || get_or l.other.only.items y false);
  later : (y : ℕ) → l.x ≤ y → y < length l.fn.self.only.items → get_or l.self.only.items y false ≡ get_or l.fn.self.only.items y false;
}
