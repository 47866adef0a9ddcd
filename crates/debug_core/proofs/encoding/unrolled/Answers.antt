use Rattle.std.proofs.Common.{subst, sym}
use Rattle.bit_circuit.specs.Circuits.{BitNet}
use Rattle.unroller.specs.Unrolls.{AreTraces}
use Rattle.debug_core.specs.Problems.{problem_of}
use Rattle.debug_core.proofs.Encoded.{are-traces}
use Rattle.debug_core.proofs.encoding.unrolled.Goals as goal

pub unroll-requires : goal.unroll-requires
unroll-requires c =
    let p = problem_of c.args.question.now in
    subst (λ (circuit : BitNet). AreTraces circuit p.traces 0) (sym c.in_ok-circuit.ensures.ok)
    (are-traces p c.requires c.in_ok-net.net c.nodes-nodes.ensures.net c.in_ok-net.ensures.net)
