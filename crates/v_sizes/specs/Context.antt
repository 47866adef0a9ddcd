-- Scopes that stand for something, contexts that an expression can stand in, and what the public calls give.
use Rattle.std.specs.Prelude.{ℕ, ◌≡◌, ◌≤◌, ◌<◌, ⊤, ◌+◌, Bool, true, false, not, ◌&&◌, max, ℤ, List, Option, Some, slice_get}
use Rattle.loc_base.specs.Bits.{width_of}
use Rattle.v_syntax.specs.Tree.{Tree}
use Rattle.design_core.specs.declared.signal.Signal.{Signal}
use Rattle.design_core.specs.declared.expression.Typed.{Typed}
use Rattle.design_core.specs.Constant.{zeros}
use Rattle.design_core.specs.Valuation.{distance_of}
use Rattle.design_core.specs.WellFormed.{spans}
use Rattle.v_sizes.specs.declared.error.WidthErr.{WidthErr}
use Rattle.v_sizes.specs.declared.meaning.Const.{Const}
use Rattle.v_sizes.specs.declared.meaning.Meaning.{Meaning}
use Rattle.v_sizes.specs.declared.meaning.Meaning.TheVariants as meaning
use Rattle.v_sizes.specs.Look.{Look}
use Rattle.v_sizes.specs.Sizing.{sizing}
use Rattle.v_sizes.specs.Word.{word}
use Rattle.v_sizes.specs.Refusals.{refusal}
use Rattle.v_sizes.specs.Sized.{typed}

-- a width of 1 to 128 bits, and a range of that many indexes
pub record HasRange (width : ℕ) (left right : ℤ) : Type 0 where
  pub least : 1 ≤ width
  pub most : width ≤ 128
  pub range : spans width (distance_of left right left) ≡ true

-- what a name can stand for
abbrev pub IsMeaning : Meaning → Type 0
IsMeaning (meaning.Constant value left right) = HasRange (width_of value.bits) left right
IsMeaning (meaning.Signal _ width _ left right) = HasRange width left right
IsMeaning (meaning.Array first count _ width _ left right) = HasRange width left right × (1 ≤ count) × (first + count ≤ 4294967295)

-- every name of a scope stands for something
abbrev pub IsScope : Look → Type 0
IsScope look = (name : List ℕ) (m : Meaning) → look name ≡ Some m → IsMeaning m

-- a signal is of a width and a range
pub record IsOf (width : ℕ) (left right : ℤ) (signal : Signal) : Type 0 where
  pub of_width : signal.width ≡ width
  pub of_left : signal.left ≡ left
  pub of_right : signal.right ≡ right

-- the signal of a number is there, and of a width and a range
pub record IsThere (signals : List Signal) (width : ℕ) (left right : ℤ) (number : ℕ) : Type 0 where
  pub signal : Signal
  pub there : slice_get signals number ≡ Some signal
  pub is : IsOf width left right signal

-- what a name stands for is among the signals of a design
abbrev pub IsAmong : List Signal → Meaning → Type 0
IsAmong signals (meaning.Constant _ _ _) = ⊤
IsAmong signals (meaning.Signal signal width _ left right) = IsThere signals width left right signal
IsAmong signals (meaning.Array first count _ width _ left right) = (k : ℕ) → k < count → IsThere signals width left right (first + k)

-- the names of a scope stand for signals of a design
abbrev pub IsScopeOf : List Signal → Look → Type 0
IsScopeOf signals look = (name : List ℕ) (m : Meaning) → look name ≡ Some m → IsAmong signals m

-- a context that an expression can stand in: not narrower than it
pub record IsContext (look : Look) (e : Tree) (width : ℕ) : Type 0 where
  pub wide : (sizing look e).width ≤ width
  pub most : width ≤ 128

-- the width and the sign that an assignment of a width gives an expression (5.4.1, 5.5.2); `unsigned` where what stands beside it,
-- as another expression of a case, makes it so
abbrev pub context_width : Look → Tree → ℕ → ℕ
context_width look e context = max context (sizing look e).width

abbrev pub context_sign : Look → Tree → Bool → Bool
context_sign look e unsigned = (sizing look e).signed && not unsigned

abbrev pub typed_in : Look → Tree → ℕ → Bool → Typed
typed_in look e context unsigned = typed look e (context_width look e context) (context_sign look e unsigned)

abbrev pub refusal_in : Look → Tree → ℕ → Bool → Option WidthErr
refusal_in look e context unsigned = refusal look false e (context_width look e context) (context_sign look e unsigned)

-- what a constant is in an assignment of a width, 0 for none: the word of its value, and its own sign
abbrev pub constant_of : Look → Tree → ℕ → Const
constant_of look e context =
    record { bits = word (context_width look e context) ((sizing look e).value zeros (context_width look e context) (sizing look e).signed); signed = (sizing look e).signed }

-- why a constant is refused there
abbrev pub constant_refusal_in : Look → Tree → ℕ → Option WidthErr
constant_refusal_in look e context = refusal look true e (context_width look e context) (sizing look e).signed
