-- What the literals of a node mean: the bits of its value.
use Rattle.std.proofs.Common.{◌≡◌, ℕ, ◌^◌, ◌≤◌, leb, if◌then◌else◌, List, [], length, refl, sym, ◌∙◌, ap, subst, arith, zero-add}
use Rattle.std.proofs.lemmas.Grind.{common_steps}
use Rattle.gate_base.specs.declared.literal.Literal.{Literal}
use Rattle.gate_base.specs.declared.node.Node.{Node}
use Rattle.gate_base.specs.Meaning.{Source, Means}
use Rattle.design_core.specs.Operator.{is_true}
use Rattle.bit_words.specs.Bits.{number_of}
use Rattle.bit_words.specs.Choose.{choice_made}
use Rattle.bit_words.specs.Index.{NameFits}
use Rattle.bit_words.proofs.Meaning.{means-as}
use Rattle.bit_words.proofs.WordLaws.{choice-law}
use Rattle.bit_words.proofs.ShiftLaws.{top-law}
use Rattle.bit_words.proofs.IndexLaws.{match-means}
use Rattle.word_net.specs.declared.node.Operand.{Operand}
use Rattle.word_net.specs.declared.node.Operation.{Operation}
use Rattle.word_net.specs.declared.node.Operation.TheVariants.{Const, Input, State, Free, Unary, Binary, Choose, Join, Repeat, Resize, Slice, Pick, Is, Put, PutPick, Blend}
use Rattle.word_net.specs.Values.{Source as WordSource, read, operation_value}
use Rattle.word_net.specs.Fits.{OperandFits, OfWidth, OperationFits}
use Rattle.bit_circuit.specs.Indexes.{name_of}
use Rattle.bit_circuit.specs.Nodes.{first_bit, bits_at, operation_made}
use Rattle.bit_circuit.specs.Meaning.{bits_of, IsOfWidth, IsOf, GivesOf, AreOf}
use Rattle.bit_circuit.proofs.Lengths.{length-choice}
use Rattle.bit_circuit.proofs.UnaryLaws.{one-gives, unary-means, as-width}
use Rattle.bit_circuit.proofs.BinaryLaws.{gives-of, of-width, binary-means}
use Rattle.bit_circuit.proofs.WireLaws.{wires, constant-of, join-of, repeat-of, resize-of, slice-of, put-of, blend-of}
use Rattle.bit_circuit.proofs.SourceLaws.{input-gives, state-gives, free-gives}
use Rattle.bit_circuit.proofs.IndexLaws.{name-means, name-fits}
use Rattle.bit_circuit.proofs.PickLaws.{of-below, pick-gives, put-gives}

one-true : (n : ℕ) → leb (2 ^ 0) n ≡ is_true n
one-true n = grind (arith, common_steps)

-- the literal of a word of one bit says whether it is true
first-means : {e : Source} {nodes : List Node} {xs : List Literal} {t : ℕ} → IsOf e nodes xs 1 t → Means e nodes (first_bit xs) (is_true t)
first-means x = means-as (one-true (number_of x.is.bits) ∙ ap is_true x.is.number) (top-law 0 x.is.means (sym x.wide))

choice-gives : {e : Source} {nodes : List Node} {xs ys test : List Literal} {width a b t : ℕ} → IsOf e nodes test 1 t → IsOf e nodes xs width a → IsOf e nodes ys width b
    → GivesOf e nodes (choice_made nodes [] (first_bit test) xs ys) width (if is_true t then a else b)
choice-gives {nodes = nodes} {xs = xs} {ys = ys} {test = test} c x y =
    let same = x.wide ∙ sym y.wide in
    gives-of (length-choice nodes [] (first_bit test) xs ys (omega (arith, same)) ∙ zero-add (length xs) ∙ x.wide) refl (choice-law x.is y.is same (first-means c))

module _ (e : WordSource) {nodes : List Node} {words : List (List Literal)} {widths known : List ℕ} (are : AreOf (bits_of e) nodes words widths known) where
  operand : (o : Operand) → OperandFits widths o → IsOf (bits_of e) nodes (bits_at words o) o.width (read known o)
  operand o fits = are.is o.node o.width fits

  some_bits : (o : Operand) → OperandFits widths o → 1 ≤ o.width
  some_bits o fits = are.some o.node o.width fits

  of_width : (o : Operand) (width : ℕ) → OfWidth widths o width → IsOf (bits_of e) nodes (bits_at words o) width (read known o)
  of_width o width fits = of-width fits.wide (operand o fits.there)

  pub operation-means : (width : ℕ) (operation : Operation) → OperationFits widths width operation → IsOfWidth e width operation
      → GivesOf (bits_of e) nodes (operation_made nodes words width operation) width (operation_value e known width operation)
  unfolding operation_made
  operation-means width (Const value) fits given = wires (constant-of (bits_of e) nodes width value fits)
  operation-means width (Input input) fits given = input-gives e nodes input width given
  operation-means width (State state) fits given = state-gives e nodes state width given
  operation-means width (Free place computed) fits given = free-gives e place width fits.1 (operand computed fits.0)
  operation-means width (Unary op arg) fits given = unary-means op fits.1 (operand arg fits.0)
  operation-means width (Binary op left right) fits given =
      binary-means op left.signed right.signed fits.2 (some_bits left fits.0) (some_bits right fits.1) (operand left fits.0) (operand right fits.1)
  operation-means width (Choose test one other) fits given = choice-gives (of_width test 1 fits.0) (of_width one width fits.1) (of_width other width fits.2)
  operation-means width (Join high low) fits given = as-width fits.2 (wires (join-of (operand high fits.0) (operand low fits.1)))
  operation-means width (Repeat times part) fits given = as-width fits.1 (wires (repeat-of times (operand part fits.0)))
  operation-means width (Resize arg) fits given = wires (resize-of arg.signed width (some_bits arg fits) (operand arg fits))
  operation-means width (Slice from_word from) fits given = wires (slice-of from width fits.1 (operand from_word fits.0))
  operation-means width (Pick from_word select) fits given =
      let g = pick-gives select (some_bits select.index fits.1.index) (operand select.index fits.1.index) (operand from_word fits.0) in
      subst (λ n. GivesOf (bits_of e) nodes (operation_made nodes words width (Pick from_word select)) n (operation_value e known n (Pick from_word select))) fits.2 g
  operation-means width (Is index value) fits given =
      let x = operand index fits.0 in
      let some = some_bits index fits.0 in
      let fit = subst (λ w. NameFits w (name_of index.signed index.width value)) (sym x.wide) (name-fits index.signed index.width value some) in
      as-width (sym fits.1) (one-gives (name-means index.signed index.width (read known index) value some (of-below x)) (match-means (name_of index.signed index.width value) x.is fit))
  operation-means width (Put old from size value offset) fits given =
      wires (put-of from size offset fits.2 fits.3 (of_width old width fits.0) (operand value fits.1))
  operation-means width (PutPick old select value offset) fits given =
      let x = operand old fits.0.there in
      let g = put-gives select offset (some_bits select.index fits.2.index) fits.3 (operand select.index fits.2.index) x (operand value fits.1) in
      subst (λ n. GivesOf (bits_of e) nodes (operation_made nodes words width (PutPick old select value offset)) n (operation_value e known n (PutPick old select value offset))) fits.0.wide g
  operation-means width (Blend mask one other) fits given = wires (blend-of mask (of_width one width fits.0) (of_width other width fits.1))
