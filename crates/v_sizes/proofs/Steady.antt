-- What is a constant has one value, whatever the signals' bits are.
use Rattle.std.proofs.Common.{◌≡◌, ℕ, zero, suc, ◌+◌, ◌*◌, ◌%◌, ◌^◌, Bool, true, false, ◌&&◌, List, [], ◌∷◌, Option, Some, None, refl, ap, sym, ◌∙◌, ◌<◌, arith}
use Rattle.std.specs.Prelude.{if◌then◌else◌, max, ℤ, pos, ◌+ℤ◌}
use Rattle.std.specs.List.{list_all}
use Rattle.std.proofs.lemmas.Bool.{and_parts, eqb-true}
use Rattle.std.proofs.lemmas.Int.{ints}
use Rattle.loc_base.specs.Word.{extended}
use Rattle.v_syntax.specs.declared.operator.Unary.{Unary}
use Rattle.v_syntax.specs.declared.operator.SystemFunction.{SystemFunction}
use Rattle.v_syntax.specs.declared.operator.SystemFunction.TheVariants as function
use Rattle.design_core.specs.Valuation.{Valuation}
use Rattle.design_core.specs.Constant.{zeros}
use Rattle.design_core.specs.Operator.{is_true, integer_of, repeated}
use Rattle.design_core.specs.Operator as operator
use Rattle.loc_base.specs.Bits.{width_of, value_of}
use Rattle.v_sizes.specs.Operations.{class_of, Class, by_context, shift, comparison, logical, quotient, remainder, power, unary_of, keeps_width, quotient_of, remainder_of, power_of, ceiling_of_logarithm}
use Rattle.v_syntax.specs.Tree.{Tree, Trees, no_tree, tree, Selections, no_select, select}
use Rattle.v_syntax.specs.Tree as written
use Rattle.design_core.specs.Valuation.{number, bit, word_at, distance_of, place_within, bit_or_zero}
use Rattle.design_core.proofs.NumberLaws.{number-zero, number-suc, number-same}
use Rattle.v_sizes.specs.declared.meaning.Meaning.{Meaning}
use Rattle.v_sizes.specs.declared.meaning.Meaning.TheVariants as meaning
use Rattle.v_sizes.specs.Look.{Look}
use Rattle.v_sizes.specs.Literal.{literal_width, literal_signed, literal_value, limited}
use Rattle.v_sizes.specs.Selected.{base_index, part_offset, part_number, bit_at_index, descends}
use Rattle.v_sizes.proofs.Parts.{distance-step, none-within}
use Rattle.v_sizes.specs.Selected.{part_distance, bits_within}
use Rattle.v_sizes.specs.Sizing.{Word, Chosen, one_bit, some_bits, chosen_width, chosen_value, is_chosen_by_constants, has_no_bit, names_no_bit, is_none, word_bits, word_sizing, meaning_sizing, name_sizing, sizing, sizings, chosen_of}
use Rattle.v_sizes.specs.Sizing.{Sizing, own, integer, known, by_itself, called, unary_sizing, class_sizing, conditional, joined, joined_value, joined_width, are_constant, replicated, times_of}

abbrev pub IsSteady : Sizing → Type 0
IsSteady e = e.constant ≡ true → (V : Valuation) (size : ℕ) (signed : Bool) → e.value V size signed ≡ e.value zeros size signed

own-steady : (e : Sizing) → IsSteady e → e.constant ≡ true → (V : Valuation) → own e V ≡ own e zeros
own-steady e steady constant V = steady constant V e.width e.signed

pub integer-zeros : (e : Sizing) → IsSteady e → e.constant ≡ true → (V : Valuation) → integer e V ≡ integer e zeros
integer-zeros e steady constant V = ap (integer_of e.signed e.width) (own-steady e steady constant V)

pub integer-steady : (e : Sizing) → IsSteady e → e.constant ≡ true → (V : Valuation) → integer e V ≡ known e
integer-steady e steady constant V =
    ap (integer_of e.signed e.width) (own-steady e steady constant V) ∙ sym (ap (λ holds. if holds then integer e zeros else pos 0) constant)

by_itself-steady : (width : ℕ) (signed constant : Bool) (value_in : Valuation → ℕ) → (constant ≡ true → (V : Valuation) → value_in V ≡ value_in zeros)
    → IsSteady (by_itself width signed constant value_in)
by_itself-steady width signed constant value_in same is V size as_signed = ap (extended as_signed width size) (same is V)

either-steady : (holds : Bool) (one other : Sizing) → IsSteady one → IsSteady other → IsSteady (if holds then one else other)
either-steady true one other first second = first
either-steady false one other first second = second

pub called-steady : (name : SystemFunction) (argument : Sizing) → IsSteady argument → IsSteady (called name argument)
called-steady function.Signed argument steady = by_itself-steady argument.width true argument.constant (own argument) (own-steady argument steady)
called-steady function.Unsigned argument steady = by_itself-steady argument.width false argument.constant (own argument) (own-steady argument steady)
called-steady function.Clog2 argument steady =
    by_itself-steady 32 true argument.constant (λ V. ceiling_of_logarithm (own argument V)) (λ is V. ap ceiling_of_logarithm (own-steady argument steady is V))

pub unary-steady : (op : Unary) (e : Sizing) → IsSteady e → IsSteady (unary_sizing op e)
unary-steady op e steady =
    either-steady (keeps_width op)
    (record { width = e.width; signed = e.signed; constant = e.constant; value = λ V size signed. operator.unary (unary_of op) size (e.value V size signed) })
    (by_itself 1 false e.constant (λ V. operator.unary (unary_of op) e.width (own e V)))
    (λ is V size signed. ap (operator.unary (unary_of op) size) (steady is V size signed))
    (by_itself-steady 1 false e.constant (λ V. operator.unary (unary_of op) e.width (own e V)) (λ is V. ap (operator.unary (unary_of op) e.width) (own-steady e steady is V)))

-- the same of a function of two numbers
both : {A B C : Type 0} (f : A → B → C) {a a' : A} {b b' : B} → a ≡ a' → b ≡ b' → f a b ≡ f a' b'
both f {a} {a'} {b} {b'} first second = ap (λ x. f x b) first ∙ ap (f a') second

pub class-steady : (c : Class) (left right : Sizing) → IsSteady left → IsSteady right → IsSteady (class_sizing c left right)
class-steady (by_context op) left right first second is V size signed =
    let parts = and_parts left.constant right.constant is in
    both (operator.binary op size signed signed) (first parts.0 V size signed) (second parts.1 V size signed)
class-steady (shift op) left right first second is V size signed =
    let parts = and_parts left.constant right.constant is in
    both (operator.binary op size signed right.signed) (first parts.0 V size signed) (own-steady right second parts.1 V)
class-steady (comparison op) left right first second is V size signed =
    let parts = and_parts left.constant right.constant is in
    let w = max left.width right.width in
    let s = left.signed && right.signed in
    ap (extended signed 1 size) (both (operator.binary op w s s) (first parts.0 V w s) (second parts.1 V w s))
class-steady (logical op) left right first second is V size signed =
    let parts = and_parts left.constant right.constant is in
    ap (extended signed 1 size) (both (operator.binary op left.width left.signed right.signed) (own-steady left first parts.0 V) (own-steady right second parts.1 V))
class-steady quotient left right first second is V size signed =
    let parts = and_parts left.constant right.constant is in
    both (λ a b. quotient_of size (integer_of signed size a) (integer_of signed size b)) (first parts.0 V size signed) (second parts.1 V size signed)
class-steady remainder left right first second is V size signed =
    let parts = and_parts left.constant right.constant is in
    both (λ a b. remainder_of size (integer_of signed size a) (integer_of signed size b)) (first parts.0 V size signed) (second parts.1 V size signed)
class-steady power left right first second is V size signed =
    let parts = and_parts left.constant right.constant is in
    both (power_of size) (first parts.0 V size signed) (integer-zeros right second parts.1 V)

choice : {A : Type 0} {c c' : Bool} {a a' b b' : A} → c ≡ c' → a ≡ a' → b ≡ b' → (if c then a else b) ≡ (if c' then a' else b')
choice {A} {c} {c'} {a} {a'} {b} {b'} test one other = ap (λ x. if x then a else b) test ∙ both (λ x y. if c' then x else y) one other

pub conditional-steady : (condition on_true on_false : Sizing) → IsSteady condition → IsSteady on_true → IsSteady on_false
    → IsSteady (conditional condition on_true on_false)
conditional-steady condition on_true on_false test one other is V size signed =
    let parts = and_parts (condition.constant && on_true.constant) on_false.constant is in
    let two = and_parts condition.constant on_true.constant parts.0 in
    choice (ap is_true (own-steady condition test two.0 V)) (one two.1 V size signed) (other parts.1 V size signed)

-- each part of a list is steady
pub data AllSteady : List Sizing → Type 0 where
  none : AllSteady []
  more : {e : Sizing} {rest : List Sizing} → IsSteady e → AllSteady rest → AllSteady (e ∷ rest)

joined_value-steady : (parts : List Sizing) → AllSteady parts → are_constant parts ≡ true → (V : Valuation) (before : ℕ)
    → joined_value before parts V ≡ joined_value before parts zeros
joined_value-steady [] steady is V before = refl
joined_value-steady (e ∷ rest) (more first others) is V before =
    let split = and_parts e.constant (are_constant rest) is in
    ap (λ value. joined_value (before * 2 ^ e.width + value) rest V) (own-steady e first split.0 V)
    ∙ joined_value-steady rest others split.1 V (before * 2 ^ e.width + own e zeros)

pub joined-steady : (parts : List Sizing) → AllSteady parts → IsSteady (joined parts)
joined-steady parts steady is V size signed =
    ap (λ value. extended signed (joined parts).width size (value % 2 ^ limited (joined_width parts))) (joined_value-steady parts steady is V 0)

pub replicated-steady : (count : Sizing) (parts : List Sizing) → AllSteady parts → IsSteady (replicated count parts)
replicated-steady count parts steady is V size signed =
    ap (λ value. extended signed (replicated count parts).width size (repeated (times_of (known count)) (joined_width parts) value % 2 ^ limited (times_of (known count) * joined_width parts)))
    (joined_value-steady parts steady is V 0)

-- ---- names
-- the expressions of a select are steady
abbrev pub ChosenSteady : Chosen → Type 0
ChosenSteady (one_bit index) = IsSteady index
ChosenSteady (some_bits _ one other) = IsSteady one × IsSteady other

pub data AllChosenSteady : List Chosen → Type 0 where
  no_more : AllChosenSteady []
  one_more : {chosen : Chosen} {rest : List Chosen} → ChosenSteady chosen → AllChosenSteady rest → AllChosenSteady (chosen ∷ rest)

-- the same bits by constants
chosen_value-steady : (w : Word) (chosen : List Chosen) → AllChosenSteady chosen → list_all is_chosen_by_constants chosen ≡ true → (V : Valuation)
    → chosen_value w chosen V ≡ chosen_value w chosen zeros
chosen_value-steady w [] steady is V = refl
chosen_value-steady w (one_bit index ∷ rest) (one_more first others) is V =
    let parts = and_parts index.constant (list_all is_chosen_by_constants rest) is in
    ap (λ at. if bit_at_index w.bits w.width w.left w.right at then 1 else 0) (integer-zeros index first parts.0 V)
chosen_value-steady w (some_bits kind one other ∷ rest) (one_more first others) is V =
    let parts = and_parts (one.constant && other.constant) (list_all is_chosen_by_constants rest) is in
    let two = and_parts one.constant other.constant parts.0 in
    let count = chosen_width (some_bits kind one other) in
    ap (λ at. part_number w.bits w.width w.left w.right at count (part_offset kind (descends w.left w.right) count))
    (both (base_index kind) (integer-zeros one first.0 two.0 V) (integer-zeros other first.1 two.1 V))

-- ---- bits that aren't there
pub number-none : (width : ℕ) → number width (λ b. false) ≡ 0
number-none zero = number-zero (λ b. false)
number-none (suc width) = number-suc width (λ b. false) ∙ ap (λ n. n + 0) (number-none width)

no_bit : (place : Option ℕ) → bit_or_zero (λ b. false) place ≡ false
no_bit None = refl
no_bit (Some p) = refl

-- a word of zeros has the value 0, and so has each select of it
pub zero_word : (width : ℕ) (left right : ℤ) (chosen : List Chosen) (V : Valuation)
    → chosen_value (record { width = width; left = left; right = right; bits = λ b. false }) chosen V ≡ 0
zero_word width left right [] V = number-none width
zero_word width left right (one_bit index ∷ rest) V =
    ap (λ set. if set then 1 else 0) (no_bit (place_within width (distance_of left right (integer index V))))
zero_word width left right (some_bits kind one other ∷ rest) V =
    let count = chosen_width (some_bits kind one other) in
    number-same count (λ b. bit_at_index (λ b. false) width left right (base_index kind (integer one V) (integer other V) +ℤ part_offset kind (descends left right) count b)) (λ b. false)
    (λ b below. no_bit (place_within width (distance_of left right (base_index kind (integer one V) (integer other V) +ℤ part_offset kind (descends left right) count b))))
    ∙ number-none count

-- ---- names
plain-steady : (width : ℕ) (signed : Bool) (w : Word) (chosen : List Chosen) → AllChosenSteady chosen
    → IsSteady (word_sizing width signed (list_all is_chosen_by_constants chosen) (λ _. w) chosen)
plain-steady width signed w [] steady is V size as_signed = refl
plain-steady width signed w (c ∷ rest) steady is V size as_signed =
    ap (extended as_signed (chosen_width c) size) (chosen_value-steady w (c ∷ rest) steady is V)

-- what is no constant is steady
variable-steady : (width : ℕ) (signed : Bool) (word : Valuation → Word) (chosen : List Chosen) → IsSteady (word_sizing width signed false word chosen)
variable-steady width signed word [] is V size as_signed = let e : false ≡ true = is in cc
variable-steady width signed word (c ∷ rest) is V size as_signed = let e : false ≡ true = is in cc

-- a word of an array: of an address that is none of its addresses it reads as 0
beyond-steady : (width : ℕ) (signed : Bool) (first count : ℕ) (low left right : ℤ) (index : Sizing) (rest : List Chosen)
    → IsSteady index → index.constant ≡ true → word_at first count low (known index) ≡ None
    → (V : Valuation) (size : ℕ) (as_signed : Bool)
    → (word_sizing width signed true (λ U. record { width = width; left = left; right = right; bits = word_bits U (word_at first count low (integer index U)) }) rest).value V size as_signed
    ≡ (word_sizing width signed true (λ U. record { width = width; left = left; right = right; bits = word_bits U (word_at first count low (integer index U)) }) rest).value zeros size as_signed
beyond-steady width signed first count low left right index rest steady is missing V size as_signed = same rest
  where
    there : (U : Valuation) → word_at first count low (integer index U) ≡ None
    there U = ap (word_at first count low) (integer-steady index steady is U) ∙ missing

    zero-of : (U : Valuation) (chosen : List Chosen)
        → chosen_value (record { width = width; left = left; right = right; bits = word_bits U (word_at first count low (integer index U)) }) chosen U ≡ 0
    zero-of U chosen =
        ap (λ o. chosen_value (record { width = width; left = left; right = right; bits = word_bits U o }) chosen U) (there U) ∙ zero_word width left right chosen U

    same : (chosen : List Chosen)
        → (word_sizing width signed true (λ U. record { width = width; left = left; right = right; bits = word_bits U (word_at first count low (integer index U)) }) chosen).value V size as_signed
        ≡ (word_sizing width signed true (λ U. record { width = width; left = left; right = right; bits = word_bits U (word_at first count low (integer index U)) }) chosen).value zeros size as_signed
    same [] = ap (extended as_signed width size) (zero-of V [] ∙ sym (zero-of zeros []))
    same (c ∷ cs) = ap (extended as_signed (chosen_width c) size) (zero-of V (c ∷ cs) ∙ sym (zero-of zeros (c ∷ cs)))

-- bits that no word has
out_of_word : (w : Word) (distance : ℤ) (b count : ℕ) → bits_within w.width count distance ≡ 0 → b < count
    → bit_or_zero w.bits (place_within w.width (distance +ℤ pos b)) ≡ false
out_of_word w distance b count missing below = ap (bit_or_zero w.bits) (none-within w.width count distance missing b below)

pub no_bit-value : (w : Word) (c : Chosen) (rest : List Chosen) → ChosenSteady c → is_chosen_by_constants c ≡ true → has_no_bit w.width w.left w.right c ≡ true
    → (V : Valuation) → chosen_value w (c ∷ rest) V ≡ 0
no_bit-value w (one_bit index) rest steady is missing V =
    ap (λ at. if bit_at_index w.bits w.width w.left w.right at then 1 else 0) (integer-steady index steady is V)
    ∙ ap (λ set. if set then 1 else 0)
    (ap (λ d. bit_or_zero w.bits (place_within w.width d)) (omega (arith, ints))
    ∙ out_of_word w (distance_of w.left w.right (known index)) 0 1 (eqb-true (bits_within w.width 1 (distance_of w.left w.right (known index))) 0 missing) (omega arith)
    )
no_bit-value w (some_bits k one other) rest steady is missing V =
    let two = and_parts one.constant other.constant is in
    let count = chosen_width (some_bits k one other) in
    ap (λ at. part_number w.bits w.width w.left w.right at count (part_offset k (descends w.left w.right) count))
    (both (base_index k) (integer-steady one steady.0 two.0 V) (integer-steady other steady.1 two.1 V))
    ∙ number-same count
    (λ b. bit_at_index w.bits w.width w.left w.right (base_index k (known one) (known other) +ℤ part_offset k (descends w.left w.right) count b)) (λ b. false)
    (λ b below. ap (λ d. bit_or_zero w.bits (place_within w.width d)) (distance-step w.left w.right k (known one) (known other) count b below)
    ∙ out_of_word w (part_distance w.left w.right k (known one) (known other) count) b count
    (eqb-true (bits_within w.width count (part_distance w.left w.right k (known one) (known other) count)) 0 missing) below)
    ∙ number-none count

-- ---- expressions
pub none-of : (o : Option ℕ) → is_none o ≡ true → o ≡ None
none-of None h = refl
none-of (Some x) h = cc

array-steady : (width : ℕ) (signed : Bool) (first count : ℕ) (low left right : ℤ) (index : Sizing) (rest : List Chosen)
    → IsSteady index → AllChosenSteady rest → (fixed : Bool) → index.constant ≡ fixed
    → IsSteady (word_sizing width signed (if fixed then is_none (word_at first count low (known index)) else names_no_bit width left right rest)
    (λ U. record { width = width; left = left; right = right; bits = word_bits U (word_at first count low (integer index U)) }) rest)
array-steady width signed first count low left right index [] steady others true fixed is V size as_signed =
    beyond-steady width signed first count low left right index [] steady fixed (none-of (word_at first count low (known index)) is) V size as_signed
array-steady width signed first count low left right index (c ∷ rest) steady others true fixed is V size as_signed =
    beyond-steady width signed first count low left right index (c ∷ rest) steady fixed (none-of (word_at first count low (known index)) is) V size as_signed
array-steady width signed first count low left right index [] steady others false fixed is V size as_signed = let e : false ≡ true = is in cc
array-steady width signed first count low left right index (c ∷ rest) steady (one_more chosen others) false fixed is V size as_signed =
    let parts = and_parts (is_chosen_by_constants c) (has_no_bit width left right c) is in
    ap (extended as_signed (chosen_width c) size)
    (no_bit-value (record { width = width; left = left; right = right; bits = word_bits V (word_at first count low (integer index V)) }) c rest chosen parts.0 parts.1 V
    ∙ sym (no_bit-value (record { width = width; left = left; right = right; bits = word_bits zeros (word_at first count low (integer index zeros)) }) c rest chosen parts.0 parts.1 zeros)
    )

meaning-steady : (m : Meaning) (chosen : List Chosen) → AllChosenSteady chosen → IsSteady (meaning_sizing m chosen)
meaning-steady (meaning.Constant value left right) chosen steady =
    plain-steady (width_of value.bits) value.signed (record { width = width_of value.bits; left = left; right = right; bits = bit (value_of value.bits) }) chosen steady
meaning-steady (meaning.Signal signal width signed left right) chosen steady =
    variable-steady width signed (λ V. record { width = width; left = left; right = right; bits = V signal }) chosen
meaning-steady (meaning.Array first count low width signed left right) [] steady = λ is V size as_signed. let e : false ≡ true = is in cc
meaning-steady (meaning.Array first count low width signed left right) (some_bits k one other ∷ rest) steady = λ is V size as_signed. let e : false ≡ true = is in cc
meaning-steady (meaning.Array first count low width signed left right) (one_bit index ∷ rest) (one_more chosen others) =
    array-steady width signed first count low left right index rest chosen others index.constant refl

name-steady : (m : Option Meaning) (chosen : List Chosen) → AllChosenSteady chosen → IsSteady (name_sizing m chosen)
name-steady None chosen steady = λ is V size as_signed. let e : false ≡ true = is in cc
name-steady (Some m) chosen steady = meaning-steady m chosen steady

mutual
  pub sizing-steady : (look : Look) (e : Tree) → IsSteady (sizing look e)
  sizing-steady look (written.number _ text) = by_itself-steady (literal_width text) (literal_signed text) true (λ V. literal_value text) (λ is V. refl)
  sizing-steady look (written.wild _ text) = by_itself-steady (literal_width text) (literal_signed text) true (λ V. literal_value text) (λ is V. refl)
  sizing-steady look (written.name _ text selects) = name-steady (look text) (chosen_of look selects) (chosen-steady look selects)
  sizing-steady look (written.parens _ inner) = sizing-steady look inner
  sizing-steady look (written.concat _ parts) = joined-steady (sizings look parts) (sizings-steady look parts)
  sizing-steady look (written.repeat _ count parts) = replicated-steady (sizing look count) (sizings look parts) (sizings-steady look parts)
  sizing-steady look (written.system _ name argument) = called-steady name (sizing look argument) (sizing-steady look argument)
  sizing-steady look (written.unary _ op operand) = unary-steady op (sizing look operand) (sizing-steady look operand)
  sizing-steady look (written.binary _ op left right) =
      class-steady (class_of op) (sizing look left) (sizing look right) (sizing-steady look left) (sizing-steady look right)
  sizing-steady look (written.conditional _ condition on_true on_false) =
      conditional-steady (sizing look condition) (sizing look on_true) (sizing look on_false)
      (sizing-steady look condition) (sizing-steady look on_true) (sizing-steady look on_false)

  sizings-steady : (look : Look) (parts : Trees) → AllSteady (sizings look parts)
  sizings-steady look no_tree = none
  sizings-steady look (tree one rest) = more (sizing-steady look one) (sizings-steady look rest)

  chosen-steady : (look : Look) (selects : Selections) → AllChosenSteady (chosen_of look selects)
  chosen-steady look no_select = no_more
  chosen-steady look (select (written.bit _ index) rest) = one_more (sizing-steady look index) (chosen-steady look rest)
  chosen-steady look (select (written.part _ kind one other) rest) =
      one_more (sizing-steady look one, sizing-steady look other) (chosen-steady look rest)
