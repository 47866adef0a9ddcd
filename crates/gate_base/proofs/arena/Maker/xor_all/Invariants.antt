use Rattle.std.proofs.Common.{◌≡◌, drop, false}
use Rattle.gate_base.specs.declared.literal.Literal.TheVariants.{Known}
use Rattle.gate_base.specs.Nodes.{xor_all_made}
use Rattle.gate_base.proofs.arena.Maker.xor_all.Given as goal

abbrev pub invariant-loop-literal : goal.invariant-loop-literal
invariant-loop-literal l = record {
  limit : l.self.limit ≡ l.fn.self.limit;
  rest : xor_all_made l.fn.self.nodes (Known false) l.literals ≡ xor_all_made l.self.nodes l.so_far (drop l.literal-index l.literals);
}
