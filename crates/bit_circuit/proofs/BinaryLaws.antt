-- What binary operators on words mean.
use Rattle.std.proofs.Common.{◌≡◌, ℕ, ◌+◌, ◌-◌, ◌*◌, ◌/◌, ◌%◌, ◌^◌, ◌==◌, ◌≤◌, Bool, true, false, ◌&&◌, ◌||◌, if◌then◌else◌, List, [], length, map, refl, sym, ◌∙◌, ap, ap₂, subst, arith, zero-add}
use Rattle.std.specs.Prelude.{IsTrue, int_lt}
use Rattle.std.proofs.lemmas.Grind.{common_steps}
use Rattle.std.proofs.lemmas.List.{length-map}
use Rattle.loc_base.specs.Word.{is_negative, shifted_signed}
use Rattle.gate_base.specs.declared.literal.Literal.{Literal}
use Rattle.gate_base.specs.declared.literal.Literal.TheVariants.{Known}
use Rattle.gate_base.specs.declared.node.Node.{Node}
use Rattle.gate_base.specs.Literals.{opposite}
use Rattle.gate_base.specs.Nodes.{Word}
use Rattle.gate_base.specs.Meaning.{Source, Means, Gives}
use Rattle.gate_base.proofs.Meaning.{known-means, keep, grown-then, and-means, or-means}
use Rattle.design_core.specs.declared.expression.BinaryOp.{BinaryOp}
use Rattle.design_core.specs.declared.expression.BinaryOp.TheVariants as binary_op
use Rattle.design_core.specs.Operator.{is_true, is_less, binary}
use Rattle.design_core.specs.WellFormed.{binary_fits, same_widths, compared_widths}
use Rattle.bit_words.specs.declared.bitwise.Bitwise.{Bitwise}
use Rattle.bit_words.specs.declared.bitwise.Bitwise.TheVariants as bitwise
use Rattle.bit_words.specs.declared.shift.Direction.{Direction}
use Rattle.bit_words.specs.declared.shift.Direction.TheVariants.{Left, Right}
use Rattle.bit_words.specs.Bits.{integer_of, IsWord, GivesWord}
use Rattle.bit_words.specs.Add.{sum_made, difference_made}
use Rattle.bit_words.specs.Bitwise.{bitwise_made, bitwise_number}
use Rattle.bit_words.specs.Equal.{equal_made}
use Rattle.bit_words.specs.Less.{less_made}
use Rattle.bit_words.specs.Multiply.{product_made}
use Rattle.bit_words.specs.Shift.{shift_made, shifted_number, MayFill}
use Rattle.bit_words.proofs.WordLaws.{sum-law, bitwise-law, equal-law, less-law, difference-law}
use Rattle.bit_words.proofs.ProductLaws.{keep_word, product-law}
use Rattle.bit_words.proofs.ShiftLaws.{shift-law, top-word}
use Rattle.bit_circuit.specs.Wires.{sign_bit}
use Rattle.bit_circuit.specs.Nodes.{both_true_made, one_true_made, binary_made}
use Rattle.bit_circuit.specs.Meaning.{IsOf, GivesOf}
use Rattle.bit_circuit.proofs.Lengths.{length-sum, length-bitwise, length-product, length-shift}
use Rattle.bit_circuit.proofs.UnaryLaws.{one-gives, opposite-gives, truth-means, as-value, as-width}

pub gives-of : {e : Source} {nodes : List Node} {w : Word} {width m n : ℕ} → length w.bits ≡ width → m ≡ n → GivesWord e nodes w m → GivesOf e nodes w width n
gives-of wide is g = record { grown = g.grown; is = record { wide = wide; is = record { bits = g.is.bits; means = g.is.means; number = g.is.number ∙ is } } }

-- both operands have the width of the result
record AreSame (width left right : ℕ) : Type 0 where
  left_is : left ≡ width
  right_is : right ≡ width

same-from : (width left right : ℕ) → IsTrue (same_widths width left right) → AreSame width left right
same-from width left right is = record { left_is = one width left right is; right_is = other width left right is }
  where
    one : (width left right : ℕ) → IsTrue (same_widths width left right) → left ≡ width
    one width left right is = grind (arith, common_steps)

    other : (width left right : ℕ) → IsTrue (same_widths width left right) → right ≡ width
    other width left right is = grind (arith, common_steps)

-- the operands of a comparison have one width
record AreCompared (width left right : ℕ) : Type 0 where
  one_is : 1 ≡ width
  same : left ≡ right

compared-from : (width left right : ℕ) → IsTrue (compared_widths width left right) → AreCompared width left right
compared-from width left right is = record { one_is = one width left right is; same = other width left right is }
  where
    one : (width left right : ℕ) → IsTrue (compared_widths width left right) → 1 ≡ width
    one width left right is = grind (arith, common_steps)

    other : (width left right : ℕ) → IsTrue (compared_widths width left right) → left ≡ right
    other width left right is = grind (arith, common_steps)

equal-width : (m n : ℕ) → IsTrue (m == n) → n ≡ m
equal-width m n is = grind (arith, common_steps)

at_most : (m n : ℕ) → m ≡ n → m ≤ n
at_most m n is = omega (arith, is)

module _ {e : Source} {nodes : List Node} {xs ys : List Literal} {width a b : ℕ} (x : IsOf e nodes xs width a) (y : IsOf e nodes ys width b) where
  same : length xs ≡ length ys
  same = x.wide ∙ sym y.wide

  sum-gives : GivesOf e nodes (sum_made nodes [] xs ys (Known false)) width ((a + b) % 2 ^ width)
  sum-gives =
      gives-of (length-sum nodes [] xs ys (Known false) (at_most (length xs) (length ys) same) ∙ zero-add (length xs) ∙ x.wide)
      (ap₂ (λ n w. n % 2 ^ w) (no_carry (a + b)) x.wide)
      (sum-law x.is y.is same (known-means e nodes false))
    where
      no_carry : (n : ℕ) → n + 0 ≡ n
      no_carry n = omega arith

  difference-gives : GivesOf e nodes (difference_made nodes [] xs ys) width ((a + (2 ^ width - b)) % 2 ^ width)
  difference-gives =
      let turned = length-map ys opposite in
      gives-of (length-sum nodes [] xs (map opposite ys) (Known true) (omega (arith, same, turned)) ∙ zero-add (length xs) ∙ x.wide)
      (ap (λ w. (a + (2 ^ w - b)) % 2 ^ w) x.wide)
      (difference-law x.is y.is same)

  product-gives : GivesOf e nodes (product_made nodes xs ys) width (a * b % 2 ^ width)
  product-gives =
      gives-of (length-product nodes xs ys ∙ x.wide) (ap (λ w. a * b % 2 ^ w) x.wide) (product-law x.is y.is same)

  bitwise-gives : (operator : Bitwise) → GivesOf e nodes (bitwise_made operator nodes [] xs ys) width (bitwise_number operator width a b)
  bitwise-gives operator =
      gives-of (length-bitwise operator nodes [] xs ys (at_most (length xs) (length ys) same) ∙ zero-add (length xs) ∙ x.wide)
      (ap (λ w. bitwise_number operator w a b) x.wide)
      (bitwise-law x.is y.is same operator)

  less-gives : (signed : Bool) → 1 ≤ width → Gives e nodes (less_made signed nodes xs ys) (is_less signed width a b)
  less-gives signed some =
      subst (λ w. Gives e nodes (less_made signed nodes xs ys) (int_lt (integer_of signed w a) (integer_of signed w b))) x.wide
      (less-law x.is y.is same signed (rw x.wide some))

  equal-gives : Gives e nodes (equal_made nodes (Known true) xs ys) (a == b)
  equal-gives = equal-law x.is y.is same

shift-gives : (direction : Direction) {e : Source} {nodes : List Node} {fill : Literal} {xs ys : List Literal} {f : Bool} {width a b : ℕ}
    → MayFill direction f → Means e nodes fill f → IsOf e nodes xs width a → IsWord e nodes ys b
    → GivesOf e nodes (shift_made nodes direction fill xs ys) width (shifted_number direction f width a b)
shift-gives direction {nodes = nodes} {fill = fill} {xs = xs} {ys = ys} {f = f} {a = a} {b = b} may mf x y =
    gives-of (length-shift nodes direction fill xs ys ∙ x.wide) (ap (λ w. shifted_number direction f w a b) x.wide) (shift-law direction may mf x.is y)

-- what comes in at the left of a word shifted to the right by sign
pub sign-means : (signed : Bool) {e : Source} {nodes : List Node} {xs : List Literal} {width a : ℕ} → IsOf e nodes xs width a → 1 ≤ width
    → Means e nodes (sign_bit signed xs) (signed && is_negative width a)
sign-means true {e} {nodes} {xs} {width} {a} x some =
    subst (λ w. Means e nodes (sign_bit true xs) (is_negative w a)) x.wide (top-word x.is (rw x.wide some))
sign-means false {e} {nodes} x some = known-means e nodes false

signed-shift : (signed : Bool) (width a b : ℕ) → shifted_number Right (signed && is_negative width a) width a b ≡ (if signed then shifted_signed width a b else a / 2 ^ b)
signed-shift true width a b = refl
signed-shift false width a b = refl

truths : {e : Source} {nodes : List Node} {xs ys : List Literal} {a b : ℕ} → IsWord e nodes xs a → IsWord e nodes ys b
    → Gives e nodes (both_true_made nodes xs ys) (is_true a && is_true b)
unfolding both_true_made
truths x y =
    let p = truth-means x in
    let q = truth-means (keep_word p.grown y) in
    let r = and-means (keep q.grown p.means) q.means in
    record { grown = grown-then p.grown (grown-then q.grown r.grown); means = r.means }

one-truth : {e : Source} {nodes : List Node} {xs ys : List Literal} {a b : ℕ} → IsWord e nodes xs a → IsWord e nodes ys b
    → Gives e nodes (one_true_made nodes xs ys) (is_true a || is_true b)
unfolding one_true_made
one-truth x y =
    let p = truth-means x in
    let q = truth-means (keep_word p.grown y) in
    let r = or-means (keep q.grown p.means) q.means in
    record { grown = grown-then p.grown (grown-then q.grown r.grown); means = r.means }

-- operands of one width
pub of-width : {e : Source} {nodes : List Node} {xs : List Literal} {m n a : ℕ} → m ≡ n → IsOf e nodes xs m a → IsOf e nodes xs n a
of-width is x = record { wide = x.wide ∙ is; is = x.is }

-- an operator whose operands have the width of the result
arithmetic : {e : Source} {nodes : List Node} {ys : List Literal} {w : Word} {width left right b value : ℕ}
    → AreSame width left right → (IsOf e nodes ys left b → GivesOf e nodes w left value) → IsOf e nodes ys right b
    → GivesOf e nodes w width value
arithmetic are law y = as-width are.left_is (law (of-width (are.right_is ∙ sym are.left_is) y))

pub binary-means : (op : BinaryOp) (s t : Bool) {e : Source} {nodes : List Node} {xs ys : List Literal} {width left right a b : ℕ}
    → IsTrue (binary_fits op width left right) → 1 ≤ left → 1 ≤ right → IsOf e nodes xs left a → IsOf e nodes ys right b
    → GivesOf e nodes (binary_made op s t nodes xs ys) width (binary op left s t a b)
unfolding binary_made
binary-means binary_op.Add s t {width = w} {left = l} {right = r} fits some others x y = arithmetic (same-from w l r fits) (λ q. sum-gives x q) y
binary-means binary_op.Subtract s t {width = w} {left = l} {right = r} fits some others x y = arithmetic (same-from w l r fits) (λ q. difference-gives x q) y
binary-means binary_op.Multiply s t {width = w} {left = l} {right = r} fits some others x y = arithmetic (same-from w l r fits) (λ q. product-gives x q) y
binary-means binary_op.And s t {width = w} {left = l} {right = r} fits some others x y = arithmetic (same-from w l r fits) (λ q. bitwise-gives x q bitwise.And) y
binary-means binary_op.Or s t {width = w} {left = l} {right = r} fits some others x y = arithmetic (same-from w l r fits) (λ q. bitwise-gives x q bitwise.Or) y
binary-means binary_op.Xor s t {width = w} {left = l} {right = r} fits some others x y = arithmetic (same-from w l r fits) (λ q. bitwise-gives x q bitwise.Xor) y
binary-means binary_op.Xnor s t {width = w} {left = l} {right = r} fits some others x y = arithmetic (same-from w l r fits) (λ q. bitwise-gives x q bitwise.Xnor) y
binary-means binary_op.ShiftLeft s t {e} {nodes} {width = w} {left = l} fits some others x y = as-width (equal-width w l fits) (shift-gives Left refl (known-means e nodes false) x y.is)
binary-means binary_op.ShiftRight s t {e} {nodes} {width = w} {left = l} fits some others x y = as-width (equal-width w l fits) (shift-gives Right tt (known-means e nodes false) x y.is)
binary-means binary_op.ArithmeticShiftLeft s t {e} {nodes} {width = w} {left = l} fits some others x y = as-width (equal-width w l fits) (shift-gives Left refl (known-means e nodes false) x y.is)
binary-means binary_op.ArithmeticShiftRight s t {width = w} {left = l} {a = a} {b = b} fits some others x y =
    as-width (equal-width w l fits) (as-value (signed-shift s l a b) (shift-gives Right tt (sign-means s x some) x y.is))
binary-means binary_op.Less s t {width = w} {left = l} {right = r} fits some others x y =
    let are = compared-from w l r fits in as-width are.one_is (one-gives refl (less-gives x (of-width (sym are.same) y) (s && t) some))
binary-means binary_op.LessEqual s t {width = w} {left = l} {right = r} fits some others x y =
    let are = compared-from w l r fits in as-width are.one_is (opposite-gives refl (less-gives (of-width (sym are.same) y) x (s && t) some))
binary-means binary_op.Greater s t {width = w} {left = l} {right = r} fits some others x y =
    let are = compared-from w l r fits in as-width are.one_is (one-gives refl (less-gives (of-width (sym are.same) y) x (s && t) some))
binary-means binary_op.GreaterEqual s t {width = w} {left = l} {right = r} fits some others x y =
    let are = compared-from w l r fits in as-width are.one_is (opposite-gives refl (less-gives x (of-width (sym are.same) y) (s && t) some))
binary-means binary_op.Equal s t {width = w} {left = l} {right = r} fits some others x y =
    let are = compared-from w l r fits in as-width are.one_is (one-gives refl (equal-gives x (of-width (sym are.same) y)))
binary-means binary_op.NotEqual s t {width = w} {left = l} {right = r} fits some others x y =
    let are = compared-from w l r fits in as-width are.one_is (opposite-gives refl (equal-gives x (of-width (sym are.same) y)))
binary-means binary_op.LogicalAnd s t {width = w} fits some others x y = as-width (equal-width w 1 fits) (one-gives refl (truths x.is y.is))
binary-means binary_op.LogicalOr s t {width = w} fits some others x y = as-width (equal-width w 1 fits) (one-gives refl (one-truth x.is y.is))
