-- How the fields of a circuit stand for what contracts see of it; only private contracts cite it.
use Rattle.std.specs.Prelude.{ℕ, ◌≡◌, ◌<◌, ◌≤◌, List, [], length, get_or, slice_get, Some}
use Rattle.gate_base.specs.declared.literal.Literal.{Literal}
use Rattle.design_core.specs.declared.expression.BinaryOp.{BinaryOp}
use Rattle.design_core.specs.declared.expression.BinaryOp.TheVariants as binary_op
use Rattle.bit_circuit.specs.declared.circuit.Circuit.TheInside.{Inside}
use Rattle.bit_circuit.specs.Circuits.{BitNet}

abbrev pub net_of : Inside → BitNet
net_of a = record { nodes = a.nodes.items; outputs = a.outputs; next = a.next; start = a.start.items }

-- which widths of words an operator takes
abbrev pub AreTaken : BinaryOp → ℕ → ℕ → Type 0
AreTaken binary_op.Multiply m n = m ≡ n
AreTaken binary_op.Less m n = m ≡ n
AreTaken binary_op.LessEqual m n = m ≡ n
AreTaken binary_op.Greater m n = m ≡ n
AreTaken binary_op.GreaterEqual m n = m ≡ n
AreTaken _ m n = Unit {0}

-- words of 1 to 128 bits
abbrev pub AreWords : List (List Literal) → Type 0
AreWords words = (i : ℕ) → i < length words → (1 ≤ length (get_or words i [])) × (length (get_or words i []) ≤ 128)

-- numbers below a bound
abbrev pub AreNumbers : ℕ → List ℕ → Type 0
AreNumbers bound numbers = (i n : ℕ) → slice_get numbers i ≡ Some n → n < bound
