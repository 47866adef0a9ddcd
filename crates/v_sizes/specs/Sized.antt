-- The sized expression of an expression in its context (IEEE 1364-2005, 5.4 and 5.5). Parentheses make no node; a node of
-- another width, or of another sign where the sign counts, stands below a `Resize`; what reads no signal is a `Const`.
-- A constant select within its word is a `Slice`, a bare name `Whole`, any other select a `Pick`.
use Rattle.std.specs.Prelude.{ℕ, zero, suc, ◌+◌, ◌-◌, ◌==◌, Bool, false, ◌&&◌, if◌then◌else◌, max, nat_le, ℤ, pos, negsuc, List, [], ◌∷◌, ◌++◌, Option, Some, None}
use Rattle.v_syntax.specs.declared.expression.PartKind.{PartKind}
use Rattle.v_syntax.specs.declared.expression.PartKind.TheVariants as kind
use Rattle.v_syntax.specs.Tree.{Tree, Trees, no_tree, tree, Selections, no_select, select}
use Rattle.v_syntax.specs.Tree as written
use Rattle.design_core.specs.declared.expression.Typed.{Typed}
use Rattle.design_core.specs.declared.expression.Node.{Node}
use Rattle.design_core.specs.declared.expression.Node.TheVariants as node
use Rattle.design_core.specs.Constant.{zeros}
use Rattle.design_core.specs.Valuation.{distance_of, word_at}
use Rattle.design_core.specs.WellFormed.{same_sign}
use Rattle.v_sizes.specs.declared.meaning.Meaning.{Meaning}
use Rattle.v_sizes.specs.declared.meaning.Meaning.TheVariants as meaning
use Rattle.v_sizes.specs.Look.{Look}
use Rattle.v_sizes.specs.Word.{word}
use Rattle.v_sizes.specs.Selected.{part_offset, part_distance, descends, bits_below, bits_within, start_within}
use Rattle.v_sizes.specs.Operations.{unary_of, by_context, shift, comparison, logical, quotient, remainder, power, class_of, keeps_width}
use Rattle.v_sizes.specs.Sizing.{Sizing, sizing, sizings, some_bits, chosen_width, joined_width, known, times_of}

abbrev pub sized : ℕ → Bool → Node → Typed
sized width signed n = record { width = width; signed = signed; node = n }

-- a constant of a width and a sign
abbrev pub constant : ℕ → Bool → ℕ → Typed
constant width signed number = sized width signed (node.Const (word width number))

-- an expression with a sign, and with a width to which its sign extends it
abbrev pub with_sign : Bool → Typed → Typed
with_sign signed e = if same_sign signed e.signed then e else sized e.width signed (node.Resize e)

abbrev pub with_width : ℕ → Typed → Typed
with_width width e = if e.width == width then e else sized width e.signed (node.Resize e)

-- a node that has its width by itself, in a context
abbrev pub carried : ℕ → Bool → ℕ → Node → Typed
carried size signed own n = with_width size (sized own signed n)

-- ---- selects
-- the offsets of the first `count` bits
unfoldable pub offsets_to : (ℕ → ℤ) → ℕ → List ℤ
offsets_to offset zero = []
offsets_to offset (suc count) = offsets_to offset count ++ offset count ∷ []

-- where `count` bits begin, the first of them so far from bit 0 of a word, if the word has them all
abbrev pub start_of : ℕ → ℕ → ℤ → Option ℕ
start_of width count (pos from) = if nat_le (from + count) width then Some from else None
start_of width count (negsuc _) = None

-- a select of a signal: a slice where its place is known and within, else by its index
abbrev pub signal_part : ℕ → Option ℕ → ℕ → Typed → (ℕ → ℤ) → Node
signal_part signal (Some from) count index offset = node.Slice signal from count
signal_part signal None count index offset = node.Pick signal index (offsets_to offset count)

-- what belongs to the index from which the bits of a part are counted: the right bound, or the index that is written
abbrev pub base_of : {A : Type 0} → PartKind → A → A → A
base_of kind.Range one other = other
base_of kind.Up one other = one
base_of kind.Down one other = one

-- a select with its sized expressions
pub data Select : Type 0 where
  bit_select : Sizing → Typed → Select
  part_select : PartKind → Sizing → Typed → Sizing → Typed → Select

-- a signal of a width and a range with its select, if there is one; `all` is all of it
abbrev pub signal_node : ℕ → ℕ → ℤ → ℤ → Node → List Select → Node
signal_node signal width left right all [] = all
signal_node signal width left right all (bit_select index sized_index ∷ _) =
    signal_part signal (if index.constant then start_of width 1 (distance_of left right (known index)) else None) 1 sized_index (λ _. pos 0)
signal_node signal width left right all (part_select kind one sized_one other sized_other ∷ _) =
    let count = chosen_width (some_bits kind one other) in
    signal_part signal
    (if (base_of kind one other).constant then start_of width count (part_distance left right kind (known one) (known other) count) else None)
    count (base_of kind sized_one sized_other) (part_offset kind (descends left right) count)

-- zeros, where there are any, before a list of parts
abbrev pub zeros_before : ℕ → List Typed → List Typed
zeros_before count parts = if count == 0 then parts else constant count false 0 ∷ parts

-- some bits of the word of an array at a variable address, with zeros where it has none
abbrev pub word_part : ℕ → ℕ → ℤ → Typed → ℕ → ℕ → ℤ → Node
word_part first count low index width size distance =
    let within = bits_within width size distance in
    let read = node.Word first count low index (start_within distance) within in
    if within == size then read
    else node.Join (zeros_before (size - (bits_below size distance + within)) (sized within false read ∷ zeros_before (bits_below size distance) []))

-- the word at a variable address with its select, which is constant
abbrev pub word_node : ℕ → ℕ → ℤ → ℕ → ℤ → ℤ → Typed → List Select → Node
word_node first count low width left right index [] = node.Word first count low index 0 width
word_node first count low width left right index (bit_select place _ ∷ _) = word_part first count low index width 1 (distance_of left right (known place))
word_node first count low width left right index (part_select kind one _ other _ ∷ _) =
    let size = chosen_width (some_bits kind one other) in
    word_part first count low index width size (part_distance left right kind (known one) (known other) size)

-- a name with its selects. A word of an array at a constant address is a signal
abbrev pub meaning_node : Meaning → List Select → Node
meaning_node (meaning.Constant value _ _) selects = node.Const value.bits
meaning_node (meaning.Signal signal width _ left right) selects = signal_node signal width left right (node.Whole signal) selects
meaning_node (meaning.Array first count low width _ left right) (bit_select index sized_index ∷ rest) =
    elim (if index.constant then word_at first count low (known index) else None) [
      | Some signal ↦ signal_node signal width left right (node.Slice signal 0 width) rest
      | None ↦ word_node first count low width left right sized_index rest
    ]
meaning_node (meaning.Array first _ _ _ _ _ _) [] = node.Whole first
meaning_node (meaning.Array first _ _ _ _ _ _) (part_select _ _ _ _ _ ∷ _) = node.Whole first

abbrev pub name_node : Option Meaning → List Select → Node
name_node None selects = node.Whole 0
name_node (Some m) selects = meaning_node m selects

-- ---- expressions
-- an expression is a constant where it reads no signal, else what its parts make
abbrev pub folded : Sizing → ℕ → Bool → Typed → Typed
folded e size signed shape = if e.constant then constant size signed (e.value zeros size signed) else shape

abbrev mutual
  -- the sized expression in a context of a width and a sign
  pub typed : Look → Tree → ℕ → Bool → Typed
  typed look (written.number s text) size signed = constant size signed ((sizing look (written.number s text)).value zeros size signed)
  typed look (written.wild s text) size signed = constant size signed ((sizing look (written.wild s text)).value zeros size signed)
  typed look (written.name s text selects) size signed =
      let e = sizing look (written.name s text selects) in
      folded e size signed (carried size signed e.width (name_node (look text) (selects_of look selects)))
  typed look (written.parens _ inner) size signed = typed look inner size signed
  typed look (written.concat s parts) size signed =
      let e = sizing look (written.concat s parts) in
      folded e size signed (carried size signed e.width (node.Join (typed_parts look parts)))
  typed look (written.repeat s count parts) size signed =
      let e = sizing look (written.repeat s count parts) in
      folded e size signed
      (carried size signed e.width
      (node.Repeat (times_of (known (sizing look count))) (sized (joined_width (sizings look parts)) false (node.Join (typed_parts look parts))))
      )
  typed look (written.system s name argument) size signed =
      folded (sizing look (written.system s name argument)) size signed
      (with_width size (with_sign signed (typed look argument (sizing look argument).width (sizing look argument).signed)))
  typed look (written.unary s op operand) size signed =
      folded (sizing look (written.unary s op operand)) size signed
      (if keeps_width op
      then sized size signed (node.Unary (unary_of op) (typed look operand size signed))
      else carried size signed 1 (node.Unary (unary_of op) (typed look operand (sizing look operand).width (sizing look operand).signed))
      )
  typed look (written.binary s op left right) size signed =
      let one = sizing look left in
      let other = sizing look right in
      folded (sizing look (written.binary s op left right)) size signed
      (elim (class_of op) [
        | by_context made ↦ sized size signed (node.Binary made (typed look left size signed) (typed look right size signed))
        | shift made ↦ sized size signed (node.Binary made (typed look left size signed) (typed look right other.width other.signed))
        | comparison made ↦
            let w = max one.width other.width in
            let both = one.signed && other.signed in
            carried size signed 1 (node.Binary made (typed look left w both) (typed look right w both))
        | logical made ↦
            carried size signed 1 (node.Binary made (typed look left one.width one.signed) (typed look right other.width other.signed))
        | quotient ↦ constant size signed 0
        | remainder ↦ constant size signed 0
        | power ↦ constant size signed 0
      ]
      )
  typed look (written.conditional s condition on_true on_false) size signed =
      folded (sizing look (written.conditional s condition on_true on_false)) size signed
      (sized size signed
      (node.Choose (typed look condition (sizing look condition).width (sizing look condition).signed)
      (typed look on_true size signed) (typed look on_false size signed)
      )
      )

  -- each part by itself
  pub typed_parts : Look → Trees → List Typed
  typed_parts look no_tree = []
  typed_parts look (tree one rest) = typed look one (sizing look one).width (sizing look one).signed ∷ typed_parts look rest

  pub selects_of : Look → Selections → List Select
  selects_of look no_select = []
  selects_of look (select (written.bit _ index) rest) =
      bit_select (sizing look index) (typed look index (sizing look index).width (sizing look index).signed) ∷ selects_of look rest
  selects_of look (select (written.part _ kind one other) rest) =
      part_select kind (sizing look one) (typed look one (sizing look one).width (sizing look one).signed)
      (sizing look other) (typed look other (sizing look other).width (sizing look other).signed) ∷ selects_of look rest
