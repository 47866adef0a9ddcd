use Rattle.std.proofs.Common.{◌≡◌, drop, true}
use Rattle.gate_base.specs.declared.literal.Literal.TheVariants.{Known}
use Rattle.gate_base.specs.Nodes.{and_all_made}
use Rattle.gate_base.proofs.arena.Maker.and_all.Given as goal

abbrev pub invariant-loop-literal : goal.invariant-loop-literal
invariant-loop-literal l = record {
  limit : l.self.limit ≡ l.fn.self.limit;
  rest : and_all_made l.fn.self.nodes (Known true) l.literals ≡ and_all_made l.self.nodes l.so_far (drop l.literal-index l.literals);
}
