-- Which nodes each operation adds: bits of an input, of a state or of a place, else AND nodes alone.
use Rattle.std.proofs.Common.{◌≡◌, ℕ, zero, suc, ◌+◌, Bool, true, false, ◌&&◌, if◌then◌else◌, List, [], ◌∷◌, ◌++◌, length, map, take, drop, refl, sym, ◌∙◌, ap, arith, append_assoc, append-nil}
use Rattle.gate_base.specs.declared.literal.Literal.{Literal}
use Rattle.gate_base.specs.declared.literal.Literal.TheVariants.{Known}
use Rattle.gate_base.specs.declared.node.Node.{Node}
use Rattle.gate_base.specs.declared.node.Node.TheVariants as gate
use Rattle.gate_base.specs.Literals.{opposite}
use Rattle.gate_base.specs.Nodes.{pushed, input_made, state_made, free_made, sources_in, AddsAnds}
use Rattle.gate_base.proofs.Counts.{sources_in-append, adds-none, adds-then, and-adds, or-adds, and_all-adds, or_all-adds, xor_all-adds}
use Rattle.design_core.specs.declared.expression.UnaryOp.{UnaryOp}
use Rattle.design_core.specs.declared.expression.UnaryOp.TheVariants as unary_op
use Rattle.design_core.specs.declared.expression.BinaryOp.{BinaryOp}
use Rattle.design_core.specs.declared.expression.BinaryOp.TheVariants as binary_op
use Rattle.bit_words.specs.declared.bitwise.Bitwise.TheVariants as bitwise
use Rattle.bit_words.specs.declared.shift.Direction.TheVariants.{Left, Right}
use Rattle.bit_words.specs.Add.{zeros}
use Rattle.bit_words.specs.Less.{less_made, with_top}
use Rattle.bit_words.proofs.AddSteps.{sum-adds}
use Rattle.bit_words.proofs.BitwiseSteps.{bitwise-adds}
use Rattle.bit_words.proofs.ChooseSteps.{choice-adds}
use Rattle.bit_words.proofs.EqualSteps.{equal-adds}
use Rattle.bit_words.proofs.IndexSteps.{match-adds}
use Rattle.bit_words.proofs.LessSteps.{carries-adds}
use Rattle.bit_words.proofs.MultiplySteps.{rows_added-adds}
use Rattle.bit_words.proofs.ShiftSteps.{stages-adds}
use Rattle.word_net.specs.declared.node.Operation.{Operation}
use Rattle.word_net.specs.declared.node.Operation.TheVariants.{Const, Input, State, Free, Unary, Binary, Choose, Join, Repeat, Resize, Slice, Pick, Is, Put, PutPick, Blend}
use Rattle.word_net.specs.Nets.{is_source}
use Rattle.bit_circuit.specs.Indexes.{name_of}
use Rattle.bit_circuit.specs.Sources.{inputs_made, states_made, frees_made}
use Rattle.bit_circuit.specs.Wires.{sign_bit}
use Rattle.bit_circuit.specs.Nodes.{unary_made, binary_made, both_true_made, one_true_made, truth_made, bits_at, first_bit, operation_made}
use Rattle.bit_circuit.proofs.SelectSteps.{picks-adds, puts-adds}

-- ---- bits of inputs, states and places

abbrev pub input_nodes : ℕ → ℕ → ℕ → List Node
input_nodes input b zero = []
input_nodes input b (suc n) = gate.Input input b ∷ input_nodes input (b + 1) n

abbrev pub state_nodes : ℕ → ℕ → ℕ → List Node
state_nodes state b zero = []
state_nodes state b (suc n) = gate.State state b ∷ state_nodes state (b + 1) n

abbrev pub free_nodes : ℕ → ℕ → List Literal → List Node
free_nodes place b [] = []
free_nodes place b (x ∷ xs) = gate.Free 0 place b x ∷ free_nodes place (b + 1) xs

inputs-added : (n : ℕ) (nodes : List Node) (bits : List Literal) (input b : ℕ)
    → (inputs_made nodes bits input b n).nodes ≡ nodes ++ input_nodes input b n
unfolding inputs_made input_made pushed
inputs-added zero nodes bits input b = sym (append-nil nodes)
inputs-added (suc n) nodes bits input b =
    let m = input_made nodes input b in
    inputs-added n m.nodes (bits ++ m.bit ∷ []) input (b + 1)
    ∙ append_assoc nodes (gate.Input input b ∷ []) (input_nodes input (b + 1) n)

states-added : (n : ℕ) (nodes : List Node) (bits : List Literal) (state b : ℕ)
    → (states_made nodes bits state b n).nodes ≡ nodes ++ state_nodes state b n
unfolding states_made state_made pushed
states-added zero nodes bits state b = sym (append-nil nodes)
states-added (suc n) nodes bits state b =
    let m = state_made nodes state b in
    states-added n m.nodes (bits ++ m.bit ∷ []) state (b + 1)
    ∙ append_assoc nodes (gate.State state b ∷ []) (state_nodes state (b + 1) n)

frees-added : (xs : List Literal) (nodes : List Node) (bits : List Literal) (place b : ℕ)
    → (frees_made nodes bits place b xs).nodes ≡ nodes ++ free_nodes place b xs
unfolding frees_made free_made pushed
frees-added [] nodes bits place b = sym (append-nil nodes)
frees-added (x ∷ xs) nodes bits place b =
    let m = free_made nodes 0 place b x in
    frees-added xs m.nodes (bits ++ m.bit ∷ []) place (b + 1)
    ∙ append_assoc nodes (gate.Free 0 place b x ∷ []) (free_nodes place (b + 1) xs)

-- ---- operators

less-adds : (signed : Bool) (nodes : List Node) (xs ys : List Literal)
    → AddsAnds nodes (less_made signed nodes xs ys).nodes
unfolding less_made
less-adds signed nodes xs ys =
    carries-adds nodes (Known true) (with_top signed xs) (map opposite (with_top signed ys))

unary-adds : (op : UnaryOp) (nodes : List Node) (xs : List Literal) → AddsAnds nodes (unary_made op nodes xs).nodes
unfolding unary_made
unary-adds unary_op.Plus nodes xs = adds-none nodes
unary-adds unary_op.Minus nodes xs = sum-adds nodes [] (zeros (length xs)) (map opposite xs) (Known true)
unary-adds unary_op.LogicalNot nodes xs = or_all-adds nodes (Known false) xs
unary-adds unary_op.Not nodes xs = adds-none nodes
unary-adds unary_op.ReduceAnd nodes xs = and_all-adds nodes (Known true) xs
unary-adds unary_op.ReduceNand nodes xs = and_all-adds nodes (Known true) xs
unary-adds unary_op.ReduceOr nodes xs = or_all-adds nodes (Known false) xs
unary-adds unary_op.ReduceNor nodes xs = or_all-adds nodes (Known false) xs
unary-adds unary_op.ReduceXor nodes xs = xor_all-adds nodes (Known false) xs
unary-adds unary_op.ReduceXnor nodes xs = xor_all-adds nodes (Known false) xs

both_true-adds : (nodes : List Node) (xs ys : List Literal) → AddsAnds nodes (both_true_made nodes xs ys).nodes
unfolding both_true_made
both_true-adds nodes xs ys =
    let a = truth_made nodes xs in
    let b = truth_made a.nodes ys in
    adds-then (or_all-adds nodes (Known false) xs)
    (adds-then (or_all-adds a.nodes (Known false) ys) (and-adds b.nodes a.bit b.bit))

one_true-adds : (nodes : List Node) (xs ys : List Literal) → AddsAnds nodes (one_true_made nodes xs ys).nodes
unfolding one_true_made
one_true-adds nodes xs ys =
    let a = truth_made nodes xs in
    let b = truth_made a.nodes ys in
    adds-then (or_all-adds nodes (Known false) xs)
    (adds-then (or_all-adds a.nodes (Known false) ys) (or-adds b.nodes a.bit b.bit))

binary-adds : (op : BinaryOp) (s t : Bool) (nodes : List Node) (xs ys : List Literal)
    → AddsAnds nodes (binary_made op s t nodes xs ys).nodes
unfolding binary_made
binary-adds binary_op.Add s t nodes xs ys = sum-adds nodes [] xs ys (Known false)
binary-adds binary_op.Subtract s t nodes xs ys = sum-adds nodes [] xs (map opposite ys) (Known true)
binary-adds binary_op.Multiply s t nodes xs ys = rows_added-adds nodes (zeros (length xs)) xs 0 ys
binary-adds binary_op.And s t nodes xs ys = bitwise-adds bitwise.And nodes [] xs ys
binary-adds binary_op.Or s t nodes xs ys = bitwise-adds bitwise.Or nodes [] xs ys
binary-adds binary_op.Xor s t nodes xs ys = bitwise-adds bitwise.Xor nodes [] xs ys
binary-adds binary_op.Xnor s t nodes xs ys = bitwise-adds bitwise.Xnor nodes [] xs ys
binary-adds binary_op.ShiftLeft s t nodes xs ys = stages-adds nodes Left (Known false) 1 ys xs
binary-adds binary_op.ShiftRight s t nodes xs ys = stages-adds nodes Right (Known false) 1 ys xs
binary-adds binary_op.ArithmeticShiftLeft s t nodes xs ys = stages-adds nodes Left (Known false) 1 ys xs
binary-adds binary_op.ArithmeticShiftRight s t nodes xs ys = stages-adds nodes Right (sign_bit s xs) 1 ys xs
binary-adds binary_op.Less s t nodes xs ys = less-adds (s && t) nodes xs ys
binary-adds binary_op.LessEqual s t nodes xs ys = less-adds (s && t) nodes ys xs
binary-adds binary_op.Greater s t nodes xs ys = less-adds (s && t) nodes ys xs
binary-adds binary_op.GreaterEqual s t nodes xs ys = less-adds (s && t) nodes xs ys
binary-adds binary_op.Equal s t nodes xs ys = equal-adds nodes (Known true) xs ys
binary-adds binary_op.NotEqual s t nodes xs ys = equal-adds nodes (Known true) xs ys
binary-adds binary_op.LogicalAnd s t nodes xs ys = both_true-adds nodes xs ys
binary-adds binary_op.LogicalOr s t nodes xs ys = one_true-adds nodes xs ys

-- ---- what an operation adds

-- the nodes grow by these
abbrev Adds : List Node → List Node → List Node → Type 0
Adds before after more = after ≡ before ++ more

-- the nodes that an operation adds to those that are there, in a node of a width
abbrev pub AddsFor : List (List Literal) → ℕ → Operation → List Node → List Node → Type 0
AddsFor words width (Input input) before after = Adds before after (input_nodes input 0 width)
AddsFor words width (State state) before after = Adds before after (state_nodes state 0 width)
AddsFor words width (Free place computed) before after =
    Adds before after (free_nodes place 0 (take width (bits_at words computed)))
AddsFor words width (Const value) before after = AddsAnds before after
AddsFor words width (Unary op arg) before after = AddsAnds before after
AddsFor words width (Binary op left right) before after = AddsAnds before after
AddsFor words width (Choose test one other) before after = AddsAnds before after
AddsFor words width (Join high low) before after = AddsAnds before after
AddsFor words width (Repeat times part) before after = AddsAnds before after
AddsFor words width (Resize arg) before after = AddsAnds before after
AddsFor words width (Slice from_word from) before after = AddsAnds before after
AddsFor words width (Pick from_word select) before after = AddsAnds before after
AddsFor words width (Is index value) before after = AddsAnds before after
AddsFor words width (Put old from size value offset) before after = AddsAnds before after
AddsFor words width (PutPick old select value offset) before after = AddsAnds before after
AddsFor words width (Blend mask one other) before after = AddsAnds before after

pub operation-adds : (nodes : List Node) (words : List (List Literal)) (width : ℕ) (operation : Operation)
    → AddsFor words width operation nodes (operation_made nodes words width operation).nodes
unfolding operation_made
operation-adds nodes words width (Const value) = adds-none nodes
operation-adds nodes words width (Input input) = inputs-added width nodes [] input 0
operation-adds nodes words width (State state) = states-added width nodes [] state 0
operation-adds nodes words width (Free place computed) =
    frees-added (take width (bits_at words computed)) nodes [] place 0
operation-adds nodes words width (Unary op arg) = unary-adds op nodes (bits_at words arg)
operation-adds nodes words width (Binary op left right) =
    binary-adds op left.signed right.signed nodes (bits_at words left) (bits_at words right)
operation-adds nodes words width (Choose test one other) =
    choice-adds nodes [] (first_bit (bits_at words test)) (bits_at words one) (bits_at words other)
operation-adds nodes words width (Join high low) = adds-none nodes
operation-adds nodes words width (Repeat times part) = adds-none nodes
operation-adds nodes words width (Resize arg) = adds-none nodes
operation-adds nodes words width (Slice from_word from) = adds-none nodes
operation-adds nodes words width (Pick from_word select) =
    picks-adds nodes [] (bits_at words select.index) (bits_at words from_word) select select.offsets
operation-adds nodes words width (Is index value) =
    match-adds nodes (bits_at words index) (name_of index.signed index.width value)
operation-adds nodes words width (Put old from size value offset) = adds-none nodes
operation-adds nodes words width (PutPick old select value offset) =
    puts-adds nodes [] (bits_at words select.index) (drop offset (bits_at words value)) select 0 (bits_at words old)
operation-adds nodes words width (Blend mask one other) = adds-none nodes

-- ---- so many bits of inputs and states

inputs-many : (n input b : ℕ) → sources_in (input_nodes input b n) ≡ n
unfolding sources_in
inputs-many zero input b = refl
inputs-many (suc n) input b = omega (arith, inputs-many n input (b + 1))

states-many : (n state b : ℕ) → sources_in (state_nodes state b n) ≡ n
unfolding sources_in
states-many zero state b = refl
states-many (suc n) state b = omega (arith, states-many n state (b + 1))

frees-many : (xs : List Literal) (place b : ℕ) → sources_in (free_nodes place b xs) ≡ 0
unfolding sources_in
frees-many [] place b = refl
frees-many (x ∷ xs) place b = frees-many xs place (b + 1)

adds-many : (before after : List Node) (more : List Node) (n : ℕ) → after ≡ before ++ more → sources_in more ≡ n
    → sources_in after ≡ sources_in before + n
adds-many before after more n is many = ap sources_in is ∙ omega (arith, sources_in-append before more, many)

ands-many : (before after : List Node) → AddsAnds before after → sources_in after ≡ sources_in before + 0
ands-many before after adds = adds-many before after adds.more 0 adds.is adds.no_sources

many : (before after : List Node) (words : List (List Literal)) (width : ℕ) (operation : Operation)
    → AddsFor words width operation before after
    → sources_in after ≡ sources_in before + (if is_source operation then width else 0)
many before after words width (Const value) adds = ands-many before after adds
many before after words width (Input input) adds =
    adds-many before after (input_nodes input 0 width) width adds (inputs-many width input 0)
many before after words width (State state) adds =
    adds-many before after (state_nodes state 0 width) width adds (states-many width state 0)
many before after words width (Free place computed) adds =
    adds-many before after (free_nodes place 0 (take width (bits_at words computed))) 0 adds
    (frees-many (take width (bits_at words computed)) place 0)
many before after words width (Unary op arg) adds = ands-many before after adds
many before after words width (Binary op left right) adds = ands-many before after adds
many before after words width (Choose test one other) adds = ands-many before after adds
many before after words width (Join high low) adds = ands-many before after adds
many before after words width (Repeat times part) adds = ands-many before after adds
many before after words width (Resize arg) adds = ands-many before after adds
many before after words width (Slice from_word from) adds = ands-many before after adds
many before after words width (Pick from_word select) adds = ands-many before after adds
many before after words width (Is index value) adds = ands-many before after adds
many before after words width (Put old from size value offset) adds = ands-many before after adds
many before after words width (PutPick old select value offset) adds = ands-many before after adds
many before after words width (Blend mask one other) adds = ands-many before after adds

pub operation-sources : (nodes : List Node) (words : List (List Literal)) (width : ℕ) (operation : Operation)
    → sources_in (operation_made nodes words width operation).nodes
    ≡ sources_in nodes + (if is_source operation then width else 0)
operation-sources nodes words width operation =
    many nodes (operation_made nodes words width operation).nodes words width operation
    (operation-adds nodes words width operation)
