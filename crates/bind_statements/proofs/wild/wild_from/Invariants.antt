use Rattle.std.proofs.Common.{◌≡◌, ◌%◌, ◌^◌, ◌<◌, drop}
use Rattle.v_binding.specs.Cases.{wild_from}
use Rattle.bind_statements.proofs.wild.wild_from.Given as goal

abbrev pub invariant-loop-byte : goal.invariant-loop-byte
invariant-loop-byte l = record {
  below : l.wild < 2 ^ 128;
  same : wild_from l.base l.wild (drop l.byte-index l.digits) % 2 ^ 128 ≡ wild_from l.base l.start l.digits % 2 ^ 128;
}
