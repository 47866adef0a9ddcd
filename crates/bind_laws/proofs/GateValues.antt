-- What a gate gives fits: bit 0 of each input, the operator between them, and the value for a left side.
use Rattle.std.proofs.Common.{◌≡◌, ℕ, ◌+◌, ◌≤◌, Bool, true, false, List, [], ◌∷◌, length, Option, Some, None, refl, sym, ◌∙◌, subst, arith, lit≤}
use Rattle.std.specs.Prelude.{◌==◌, if◌then◌else◌, nat_lt, ℤ, Ok}
use Rattle.std.specs.Option.{option_map_or}
use Rattle.std.proofs.lemmas.Bool.{and_parts, and_from, eqb-true, eq-eqb, leb-true, le-leb, ltb-false}
use Rattle.loc_base.specs.Bits.{value_of}
use Rattle.loc_base.proofs.ShelfOptions.{Some-same}
use Rattle.design_core.specs.declared.signal.Signal.{Signal}
use Rattle.design_core.specs.declared.expression.UnaryOp.TheVariants as unary_op
use Rattle.design_core.specs.declared.expression.Typed.{Typed}
use Rattle.design_core.specs.declared.expression.Node.{Node, Row_of-Typed, end_of-Typed, more_of-Typed}
use Rattle.design_core.specs.declared.expression.Node.TheVariants as node
use Rattle.design_core.specs.Operator as operator
use Rattle.design_core.specs.Valuation.{width_at}
use Rattle.design_core.specs.WellFormed.{slice_fits, binary_fits, signs_fit, node_fits, parts_fit, typed_fits}
use Rattle.design_core.proofs.ExpressionSteps.{fits_pick, fits_word, fits_unary, fits_binary, fits_resize}
use Rattle.v_syntax.specs.declared.item.GateKind.{GateKind}
use Rattle.v_syntax.specs.declared.item.GateKind.TheVariants as gate
use Rattle.v_syntax.specs.Tree.{Tree}
use Rattle.v_syntax.specs.Tree as written
use Rattle.v_sizes.specs.Sized.{sized, constant, with_width}
use Rattle.v_sizes.proofs.Meant.{Within, is-width}
use Rattle.v_binding.specs.Steps.{each}
use Rattle.v_binding.specs.Names.{Names, look_in}
use Rattle.v_binding.specs.Expressions.{by_itself}
use Rattle.v_binding.specs.Gates.{first_offset, low_node, low_last, constant_bit, cut, low_bit, joins, negates, both, negated, input_at, value_of_gate, for_width}
use Rattle.bind_laws.specs.Fit.{NamesFit}
use Rattle.bind_laws.proofs.Lists.{Ok-same, between}
use Rattle.bind_laws.proofs.Expressions.{IsSized, sized_in-fits}
use Rattle.bind_laws.proofs.NamedNodes.{is_part, are_parts, is_named, by_itself-named}
use Rattle.bind_laws.proofs.Lefts.{within-is, constant-fits}

one_bit : Within 1
one_bit = record { least = lit≤ tt; most = lit≤ tt }

-- an expression of one bit that fits
pub record IsBit (signals : List Signal) (e : Typed) : Type 0 where
  pub of_width : e.width ≡ 1
  pub fits : typed_fits signals e ≡ true

-- ---- bit 0
first-length : (offsets : List ℤ) → 1 ≤ length offsets → length (first_offset offsets) ≡ 1
first-length [] some = absurd (omega (arith, some))
first-length (k ∷ ks) some = refl

narrow-slice : (signals : List Signal) (s from size : ℕ) → slice_fits signals s from size ≡ true
    → slice_fits signals s from 1 ≡ true
narrow-slice signals s from size fits =
    let f = and_parts _ _ fits in
    let g = and_parts _ _ f.0 in
    let wide : from + size ≤ width_at signals s = leb-true (from + size) (width_at signals s) f.1 in
    let some = within-is size g.1 in
    and_from _ _ (and_from _ _ g.0 refl) (le-leb (from + 1) (width_at signals s) (omega (arith, wide, some.least)))

low-part : (signals : List Signal) (n : Node) (width : ℕ) (signed : Bool) → is_part n ≡ true
    → node_fits signals width signed n ≡ true → node_fits signals 1 false (low_node n) ≡ true
low-part signals (node.Const w) width signed is fits = constant-fits signals 1 false (value_of w) one_bit
low-part signals (node.Whole s) width signed is fits =
    let f = and_parts _ _ fits in
    let g = and_parts _ _ f.0 in
    let wide = eqb-true (width_at signals s) width f.1 in
    let within = within-is width g.0 in
    and_from _ _ (and_from _ _ (and_from _ _ g.1 refl) (le-leb (0 + 1) (width_at signals s) (omega (arith, wide, within.least)))) refl
low-part signals (node.Slice s from size) width signed is fits =
    and_from _ _ (narrow-slice signals s from size (and_parts _ _ fits).0) refl
low-part signals (node.Pick' s _ (more_of-Typed index_width index_signed index end_of-Typed) offsets) width signed is fits =
    let f = and_parts _ _ fits in
    let g = and_parts _ _ f.0 in
    let h = and_parts _ _ g.0 in
    let within = within-is width h.0 in
    let long = eqb-true (length offsets) width g.1 in
    fits_pick signals false 1 s (sized index_width index_signed index) (first_offset offsets)
    ∙ and_from _ _ (and_from _ _ (and_from _ _ refl h.1) (eq-eqb (length (first_offset offsets)) 1 (first-length offsets (omega (arith, long, within.least))))) f.1
low-part signals (node.Word' first count low _ (more_of-Typed index_width index_signed index end_of-Typed) from size) width signed is fits =
    let f = and_parts _ _ fits in
    let g = and_parts _ _ f.0 in
    let h = and_parts _ _ g.0 in
    let k = and_parts _ _ h.0 in
    fits_word signals false 1 first count low (sized index_width index_signed index) from 1
    ∙ and_from _ _ (and_from _ _ (and_from _ _ (and_from _ _ k.0 (narrow-slice signals first from size k.1)) h.1) refl) f.1
low-part signals (node.Unary' _ _ _) width signed is fits = cc
low-part signals (node.Binary' _ _ _ _ _) width signed is fits = cc
low-part signals (node.Choose' _ _ _ _ _ _) width signed is fits = cc
low-part signals (node.Join' _ _) width signed is fits = cc
low-part signals (node.Repeat' _ _ _) width signed is fits = cc
low-part signals (node.Resize' _ _) width signed is fits = cc

low-last : {shape : _} (signals : List Signal) (row : Row_of-Typed shape) → are_parts row ≡ true
    → parts_fit signals row ≡ true → node_fits signals 1 false (low_last row) ≡ true
low-last signals end_of-Typed are fit = constant-fits signals 1 false 0 one_bit
low-last signals (more_of-Typed width signed one end_of-Typed) are fit = low-part signals one width signed (and_parts _ _ are).0 (and_parts _ _ fit).0
low-last signals (more_of-Typed w s before (more_of-Typed width signed one rest)) are fit =
    low-last signals (more_of-Typed width signed one rest) (and_parts _ _ are).1 (and_parts _ _ fit).1

low-named : (signals : List Signal) (n : Node) (width : ℕ) (signed : Bool) → is_named n ≡ true
    → node_fits signals width signed n ≡ true → node_fits signals 1 false (low_node n) ≡ true
low-named signals (node.Join' _ row) width signed named fits = low-last signals row named (and_parts _ _ fits).1
low-named signals (node.Const w) width signed named fits = low-part signals (node.Const w) width signed refl fits
low-named signals (node.Whole s) width signed named fits = low-part signals (node.Whole s) width signed refl fits
low-named signals (node.Slice s from size) width signed named fits = low-part signals (node.Slice s from size) width signed refl fits
low-named signals (node.Pick' s tag row offsets) width signed named fits = low-part signals (node.Pick' s tag row offsets) width signed refl fits
low-named signals (node.Word' first count low tag row from size) width signed named fits = low-part signals (node.Word' first count low tag row from size) width signed refl fits
low-named signals (node.Unary' _ _ _) width signed named fits = cc
low-named signals (node.Binary' _ _ _ _ _) width signed named fits = cc
low-named signals (node.Choose' _ _ _ _ _ _) width signed named fits = cc
low-named signals (node.Repeat' _ _ _) width signed named fits = cc
low-named signals (node.Resize' _ _) width signed named fits = cc

-- what is cut to its lowest bit
narrowed : (signals : List Signal) (e : Typed) → typed_fits signals e ≡ true → IsBit signals (with_width 1 e)
narrowed signals e fits = by (e.width == 1) refl
  where
    by : (same : Bool) → (e.width == 1) ≡ same → IsBit signals (if same then e else sized 1 e.signed (node.Resize e))
    by true is = record { of_width = eqb-true e.width 1 is; fits = fits }
    by false is = record { of_width = refl; fits = fits_resize signals e.signed 1 e ∙ and_from _ _ refl fits }

a-constant : (signals : List Signal) (number : ℕ) → IsBit signals (constant 1 false number)
a-constant signals number = record { of_width = refl; fits = constant-fits signals 1 false number one_bit }

cut-bit : (signals : List Signal) (e : Typed) → typed_fits signals e ≡ true → IsBit signals (cut e)
cut-bit signals e fits = by (constant_bit e)
  where
    by : (o : Option ℕ) → IsBit signals (option_map_or (λ a. constant 1 false a) o (with_width 1 e))
    by None = narrowed signals e fits
    by (Some a) = a-constant signals a

low-bit : (signals : List Signal) (names : Names) (e : Tree) (x : Typed) → IsSized signals names e 0 false x
    → IsBit signals (low_bit e x)
low-bit signals names (written.name site text selects) x s =
    record {
      of_width = refl;
      fits = low-named signals x.node x.width x.signed (subst (λ (t : Typed). is_named t.node ≡ true) (sym s.is) (by_itself-named (look_in names) site text selects)) s.fits;
    }
low-bit signals names (written.number _ _) x s = cut-bit signals x s.fits
low-bit signals names (written.wild _ _) x s = cut-bit signals x s.fits
low-bit signals names (written.parens _ _) x s = cut-bit signals x s.fits
low-bit signals names (written.concat _ _) x s = cut-bit signals x s.fits
low-bit signals names (written.repeat _ _ _) x s = cut-bit signals x s.fits
low-bit signals names (written.system _ _ _) x s = cut-bit signals x s.fits
low-bit signals names (written.unary _ _ _) x s = cut-bit signals x s.fits
low-bit signals names (written.binary _ _ _ _) x s = cut-bit signals x s.fits
low-bit signals names (written.conditional _ _ _ _) x s = cut-bit signals x s.fits

-- ---- the operator between inputs
joins-fit : (kind : GateKind)
    → (binary_fits (joins kind) 1 1 1 ≡ true) × ((one other : Bool) → signs_fit (joins kind) false one other ≡ true)
joins-fit gate.And = (refl, λ _ _. refl)
joins-fit gate.Nand = (refl, λ _ _. refl)
joins-fit gate.Or = (refl, λ _ _. refl)
joins-fit gate.Nor = (refl, λ _ _. refl)
joins-fit gate.Xor = (refl, λ _ _. refl)
joins-fit gate.Xnor = (refl, λ _ _. refl)
joins-fit gate.Buf = (refl, λ _ _. refl)
joins-fit gate.Not = (refl, λ _ _. refl)

joined-bit : (signals : List Signal) (kind : GateKind) (one other : Typed) → IsBit signals one → IsBit signals other
    → IsBit signals (sized 1 false (node.Binary (joins kind) one other))
joined-bit signals kind one other first second = record {
  of_width = refl;
  fits = fits_binary signals false 1 (joins kind) one other
      ∙ and_from _ _ (and_from _ _ (and_from _ _ (and_from _ _ refl
      (subst (λ w. binary_fits (joins kind) 1 w other.width ≡ true) (sym first.of_width)
      (subst (λ w. binary_fits (joins kind) 1 1 w ≡ true) (sym second.of_width) (joins-fit kind).0)))
      ((joins-fit kind).1 one.signed other.signed)) first.fits) second.fits;
}

both-bit : (signals : List Signal) (kind : GateKind) (one other : Typed) → IsBit signals one → IsBit signals other
    → IsBit signals (both (joins kind) one other)
both-bit signals kind one other first second = by (constant_bit one) (constant_bit other)
  where
    joined : Typed
    joined = sized 1 false (node.Binary (joins kind) one other)

    by : (a b : Option ℕ) → IsBit signals (elim a [
      | Some m ↦ option_map_or (λ n. constant 1 false (operator.binary (joins kind) 1 false false m n)) b joined
      | None ↦ joined
    ])
    by None b = joined-bit signals kind one other first second
    by (Some m) None = joined-bit signals kind one other first second
    by (Some m) (Some n) = a-constant signals (operator.binary (joins kind) 1 false false m n)

negated-bit : (signals : List Signal) (negates : Bool) (e : Typed) → IsBit signals e → IsBit signals (negated negates e)
negated-bit signals false e bit = bit
negated-bit signals true e bit = by (constant_bit e)
  where
    by : (o : Option ℕ) → IsBit signals (elim o [
      | Some a ↦ constant 1 false (operator.unary unary_op.Not 1 a)
      | None ↦ sized 1 false (node.Unary unary_op.Not e)
    ])
    by (Some a) = a-constant signals (operator.unary unary_op.Not 1 a)
    by None = record {
      of_width = refl;
      fits = fits_unary signals false 1 unary_op.Not e ∙ and_from _ _ (and_from _ _ refl (eq-eqb 1 e.width (sym bit.of_width))) bit.fits;
    }

-- ---- inputs
abbrev AreBits : List Signal → Option Typed → Type 0
AreBits signals before = (e : Typed) → before ≡ Some e → IsBit signals e

with-input : (signals : List Signal) (kind : GateKind) (x : Typed) (before : Option Typed) → IsBit signals x
    → AreBits signals before
    → IsBit signals (option_map_or (λ one. both (joins kind) one x) before x)
with-input signals kind x None bit bits = bit
with-input signals kind x (Some one) bit bits = both-bit signals kind one x (bits one refl) bit

pub inputs-bits : (signals : List Signal) (names : Names) (kind : GateKind) (es : List Tree)
    (before after : Option Typed) → NamesFit signals names → AreBits signals before
    → each (input_at names kind) es before ≡ Ok after → AreBits signals after
inputs-bits signals names kind [] before after fit bits is = subst (AreBits signals) (Ok-same is) bits
inputs-bits signals names kind (e ∷ es) before after fit bits is =
    between (input_at names kind e before) (each (input_at names kind) es) after (AreBits signals after) is λ more first rest.
    inputs-bits signals names kind es more after fit
    (between (by_itself names e) (λ x. Ok (Some (option_map_or (λ one. both (joins kind) one (low_bit e x)) before (low_bit e x)))) more (AreBits signals more) first λ x sizes made.
    subst (AreBits signals) (Ok-same made) (one-bit x (sized_in-fits signals names e 0 false x fit (lit≤ tt) sizes)))
    rest
  where
    one-bit : (x : Typed) → IsSized signals names e 0 false x
        → AreBits signals (Some (option_map_or (λ one. both (joins kind) one (low_bit e x)) before (low_bit e x)))
    one-bit x s y is = subst (IsBit signals) (Some-same is) (with-input signals kind (low_bit e x) before (low-bit signals names e x s) bits)

pub no-inputs : (signals : List Signal) → AreBits signals None
no-inputs signals e is = cc

pub gate-bit : (signals : List Signal) (kind : GateKind) (inputs : Option Typed) → AreBits signals inputs
    → IsBit signals (value_of_gate kind inputs)
gate-bit signals kind None bits = negated-bit signals (negates kind) (constant 1 false 0) (a-constant signals 0)
gate-bit signals kind (Some e) bits = negated-bit signals (negates kind) e (bits e refl)

-- ---- the value for a left side
pub record IsFor (signals : List Signal) (width : ℕ) (e : Typed) : Type 0 where
  pub wide : width ≤ e.width
  pub fits : typed_fits signals e ≡ true

pub for_width-fits : (signals : List Signal) (width : ℕ) (e : Typed) → Within width → IsBit signals e
    → IsFor signals width (for_width width e)
for_width-fits signals width e within bit = by (constant_bit e) (nat_lt 1 width) refl
  where
    by : (o : Option ℕ) (wider : Bool) → nat_lt 1 width ≡ wider → IsFor signals width (elim o [
      | Some a ↦ constant width false a
      | None ↦ if wider then sized width false (node.Resize e) else e
    ])
    by (Some a) wider is = record { wide = omega arith; fits = constant-fits signals width false a within }
    by None true is = record { wide = omega arith; fits = fits_resize signals false width e ∙ and_from _ _ (is-width width within) bit.fits }
    by None false is = record { wide = omega (arith, ltb-false 1 width is, bit.of_width); fits = bit.fits }
