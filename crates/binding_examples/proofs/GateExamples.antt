-- Gates (IEEE 1364-2005, 7.1 to 7.3): what each gives, with outputs first and inputs behind them.
use Rattle.std.proofs.Common.{◌≡◌, ℕ, List, [], ◌∷◌, refl}
use Rattle.std.specs.Prelude.{false, Some, None, codes}
use Rattle.v_syntax.specs.declared.item.GateKind.{GateKind}
use Rattle.v_syntax.specs.declared.item.GateKind.TheVariants as gate
use Rattle.v_syntax.specs.Tree.{Tree}
use Rattle.v_syntax.specs.ItemTree.{PlainGate}
use Rattle.design_core.specs.declared.expression.BinaryOp.{BinaryOp}
use Rattle.design_core.specs.declared.expression.BinaryOp.TheVariants as binary_op
use Rattle.design_core.specs.declared.expression.UnaryOp.TheVariants as unary_op
use Rattle.design_core.specs.declared.expression.Typed.{Typed}
use Rattle.design_core.specs.declared.expression.Node.TheVariants as node
use Rattle.design_core.specs.declared.statement.Part.TheVariants as part
use Rattle.design_core.specs.declared.driver.Driver.{Driver}
use Rattle.design_core.specs.declared.driver.Driver.TheVariants as driver
use Rattle.v_sizes.specs.Sized.{sized}
use Rattle.v_binding.specs.declared.error.BindErr.TheVariants as fault
use Rattle.v_binding.specs.Gates.{gate_of}
use Rattle.binding_examples.proofs.Scene.{at, span, names, frame, home, nothing_yet, named, drivers_of, refused}

-- KIND (TERMINALS);
abbrev made : GateKind → List Tree → List Driver
made kind terminals = drivers_of (gate_of frame home names kind (record { site = at 0; name = None; terminals = terminals }) nothing_yet)

abbrev y : Tree
y = named 1 (codes "y")

abbrev a : Tree
a = named 2 (codes "a")

abbrev b : Tree
b = named 3 (codes "b")

-- the output of a gate: to the signal of that number, as the place of that number
abbrev output : ℕ → Typed → ℕ → Driver
output signal value place = driver.Cont (record { parts = part.Whole signal ∷ [] }) value (Some place) (span 0)

abbrev bit_of : ℕ → Typed
bit_of signal = sized 1 false (node.Slice signal 0 1)

abbrev joined : BinaryOp → Typed
joined op = sized 1 false (node.Binary op (bit_of 2) (bit_of 3))

abbrev negated : Typed → Typed
negated e = sized 1 false (node.Unary unary_op.Not e)

pub an_and_gate : made gate.And (y ∷ a ∷ b ∷ []) ≡ output 5 (joined binary_op.And) 0 ∷ []
an_and_gate = refl

pub an_or_gate : made gate.Or (y ∷ a ∷ b ∷ []) ≡ output 5 (joined binary_op.Or) 0 ∷ []
an_or_gate = refl

pub an_xor_gate : made gate.Xor (y ∷ a ∷ b ∷ []) ≡ output 5 (joined binary_op.Xor) 0 ∷ []
an_xor_gate = refl

pub a_nand_gate : made gate.Nand (y ∷ a ∷ b ∷ []) ≡ output 5 (negated (joined binary_op.And)) 0 ∷ []
a_nand_gate = refl

pub a_nor_gate : made gate.Nor (y ∷ a ∷ b ∷ []) ≡ output 5 (negated (joined binary_op.Or)) 0 ∷ []
a_nor_gate = refl

pub an_xnor_gate : made gate.Xnor (y ∷ a ∷ b ∷ []) ≡ output 5 (negated (joined binary_op.Xor)) 0 ∷ []
an_xnor_gate = refl

-- buf and not have their input last
pub a_buffer : made gate.Buf (y ∷ a ∷ []) ≡ output 5 (bit_of 2) 0 ∷ []
a_buffer = refl

pub a_not_gate : made gate.Not (y ∷ a ∷ []) ≡ output 5 (negated (bit_of 2)) 0 ∷ []
a_not_gate = refl

pub a_buffer_may_have_two_outputs : made gate.Buf (y ∷ named 4 (codes "a") ∷ b ∷ []) ≡ output 5 (bit_of 3) 0 ∷ output 2 (bit_of 3) 1 ∷ []
a_buffer_may_have_two_outputs = refl

-- an and gate takes bit 0 of a wide input, and a wide output is filled with zeros
pub a_gate_reads_bit_0 : made gate.And (y ∷ named 4 (codes "w") ∷ a ∷ []) ≡ output 5 (sized 1 false (node.Binary binary_op.And (bit_of 6) (bit_of 2))) 0 ∷ []
a_gate_reads_bit_0 = refl

pub a_wide_output_is_filled_with_zeros : made gate.Buf (named 4 (codes "w") ∷ a ∷ []) ≡ output 6 (sized 4 false (node.Resize (bit_of 2))) 0 ∷ []
a_wide_output_is_filled_with_zeros = refl

pub a_gate_has_two_terminals :
    refused (gate_of frame home names gate.And (record { site = at 0; name = None; terminals = y ∷ [] }) nothing_yet) ≡ Some (fault.PortName (span 0))
a_gate_has_two_terminals = refl
