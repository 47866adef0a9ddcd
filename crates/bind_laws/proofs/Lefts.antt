-- A left side is of parts of the signals, and as wide as they are together.
use Rattle.std.proofs.Common.{◌≡◌, ℕ, zero, suc, ◌+◌, Bool, true, false, List, [], ◌∷◌, ◌++◌, length, length-append, Option, Some, None, refl, sym, ◌∙◌, subst, arith, lit≤, ◌<◌}
use Rattle.std.specs.Prelude.{if◌then◌else◌, min, ℤ, Result, Ok, Err}
use Rattle.std.specs.List.{list_all}
use Rattle.std.proofs.lemmas.Bool.{and_parts, and_from, eqb-true, eq-eqb, leb-true, lt-ltb}
use Rattle.std.proofs.lemmas.List.Folds.{list_all-append}
use Rattle.std.proofs.lemmas.Option.{slice_get_within}
use Rattle.loc_base.proofs.ShelfOptions.{Some-same}
use Rattle.loc_base.specs.Bits.{width_of}
use Rattle.loc_base.specs.declared.span.Span.{Span}
use Rattle.design_core.specs.declared.signal.Signal.{Signal}
use Rattle.design_core.specs.declared.expression.Typed.{Typed}
use Rattle.design_core.specs.declared.expression.Node.{Node, Row_of-Typed, end_of-Typed, more_of-Typed}
use Rattle.design_core.specs.declared.expression.Node.TheVariants as node
use Rattle.design_core.specs.declared.statement.Part.{Part}
use Rattle.design_core.specs.Valuation.{width_at}
use Rattle.design_core.specs.Store.{part_width, parts_width}
use Rattle.design_core.specs.WellFormed.{is_width, is_signal, node_fits, parts_fit, typed_fits, part_fits, joined_width}
use Rattle.v_syntax.specs.declared.site.Site.{Site}
use Rattle.v_syntax.specs.Tree.{Selections}
use Rattle.v_syntax.specs.Tree as written
use Rattle.v_syntax.specs.PartTree.{PlainLeft, name_left, concat_left, Lefts, no_left, left}
use Rattle.v_sizes.specs.declared.meaning.Meaning.TheVariants as meaning
use Rattle.v_sizes.specs.Word.{word}
use Rattle.v_sizes.specs.Operations.{word_of, is_below_0, magnitude}
use Rattle.v_sizes.specs.Selected.{descends}
use Rattle.v_sizes.specs.Sized.{constant, offsets_to}
use Rattle.v_sizes.specs.Refusals.{is_bad_width}
use Rattle.v_sizes.specs.Context.{IsThere}
use Rattle.v_sizes.proofs.Meant.{Within, is-width, limited-within}
use Rattle.v_sizes.proofs.Accepted.{good-width}
use Rattle.v_binding.specs.declared.error.BindErr.{BindErr}
use Rattle.v_binding.specs.declared.error.BindErr.TheVariants as fault
use Rattle.v_binding.specs.declared.left.Left.{Left}
use Rattle.v_binding.specs.declared.left.Ranged.{Ranged}
use Rattle.v_binding.specs.declared.known.Use.{Use}
use Rattle.v_binding.specs.declared.known.Use.TheVariants.{Stands as stands, AtTurn as at_turn, Outside as outside}
use Rattle.v_binding.specs.Steps.{◌>>=◌}
use Rattle.v_binding.specs.Names.{Names, find, look_in}
use Rattle.v_binding.specs.Expressions.{by_itself}
use Rattle.v_binding.specs.Lefts.{is_constant, indexes_at, no_left_side, ranged_of, beyond_offset, beyond, part_of, row_parts, parts_of, name_parts, nothing_named, beside, of_width, target, targets}
use Rattle.bind_laws.specs.Fit.{UseFits, NamesFit, LeftFits}
use Rattle.bind_laws.proofs.Lists.{Ok-same, Err-Ok, between}
use Rattle.bind_laws.proofs.Names.{find-every}
use Rattle.bind_laws.proofs.Expressions.{sized_in-fits}
use Rattle.bind_laws.proofs.NamedNodes.{is_part, are_parts, is_named, by_itself-named}

-- a width of 1 to 128 bits
pub within-is : (w : ℕ) → is_width w ≡ true → Within w
within-is w is =
    let f = and_parts _ _ is in
    record { least = leb-true 1 w f.0; most = leb-true w 128 f.1 }

pub word-width : (width number : ℕ) → Within width → width_of (word width number) ≡ width
unfolding word
word-width width number within = limited-within width within

pub constant-fits : (signals : List Signal) (width : ℕ) (signed : Bool) (number : ℕ) → Within width
    → typed_fits signals (constant width signed number) ≡ true
constant-fits signals width signed number within =
    and_from _ _ (is-width width within) (eq-eqb (width_of (word width number)) width (word-width width number within))

-- ---- a part of a name
-- a part that fits, of a width
pub record PartIs (signals : List Signal) (p : Part) (width : ℕ) : Type 0 where
  pub fits : part_fits signals p ≡ true
  pub of_width : part_width signals p ≡ width

offsets-length : (offset : ℕ → ℤ) (count : ℕ) → length (offsets_to offset count) ≡ count
unfolding offsets_to
offsets-length offset zero = refl
offsets-length offset (suc count) = omega (arith, length-append (offsets_to offset count) (offset count ∷ []), offsets-length offset count)

beyond-is : (signals : List Signal) (r : Ranged) (count : ℕ) → is_signal signals r.signal ≡ true → Within count
    → PartIs signals (beyond r count) count
beyond-is signals r count there within =
    let offset = beyond_offset (descends r.left r.right) in
    let number = word_of 32 (is_below_0 r.left) (magnitude r.left) in
    record {
      fits = and_from _ _ (and_from _ _ there (subst (λ n. is_width n ≡ true) (sym (offsets-length offset count)) (is-width count within)))
          (constant-fits signals 32 true number (record { least = lit≤ tt; most = lit≤ tt }));
      of_width = offsets-length offset count;
    }

part-is : (signals : List Signal) (r : Ranged) (n : Node) (width : ℕ) (signed : Bool)
    → is_signal signals r.signal ≡ true → is_part n ≡ true
    → node_fits signals width signed n ≡ true → PartIs signals (part_of r n) width
part-is signals r (node.Const w) width signed there is fits =
    let f = and_parts _ _ fits in
    let wide = eqb-true (width_of w) width f.1 in
    subst (λ n. PartIs signals (beyond r (width_of w)) n) wide
    (beyond-is signals r (width_of w) there (subst Within (sym wide) (within-is width f.0)))
part-is signals r (node.Whole s) width signed there is fits =
    let f = and_parts _ _ fits in
    let g = and_parts _ _ f.0 in
    record { fits = g.1; of_width = eqb-true (width_at signals s) width f.1 }
part-is signals r (node.Slice s from size) width signed there is fits =
    let f = and_parts _ _ fits in
    record { fits = f.0; of_width = eqb-true size width f.1 }
part-is signals r (node.Pick' s _ (more_of-Typed index_width index_signed index end_of-Typed) offsets) width signed there is fits =
    let f = and_parts _ _ fits in
    let g = and_parts _ _ f.0 in
    let h = and_parts _ _ g.0 in
    let long = eqb-true (length offsets) width g.1 in
    record { fits = and_from _ _ (and_from _ _ h.1 (subst (λ n. is_width n ≡ true) (sym long) h.0)) f.1; of_width = long }
part-is signals r (node.Word' first count low _ (more_of-Typed index_width index_signed index end_of-Typed) from size) width signed there is fits =
    let f = and_parts _ _ fits in
    let g = and_parts _ _ f.0 in
    record { fits = and_from _ _ g.0 f.1; of_width = eqb-true size width g.1 }
part-is signals r (node.Unary' _ _ _) width signed there is fits = cc
part-is signals r (node.Binary' _ _ _ _ _) width signed there is fits = cc
part-is signals r (node.Choose' _ _ _ _ _ _) width signed there is fits = cc
part-is signals r (node.Join' _ _) width signed there is fits = cc
part-is signals r (node.Repeat' _ _ _) width signed there is fits = cc
part-is signals r (node.Resize' _ _) width signed there is fits = cc

-- parts that fit, of a width together
pub record PartsAre (signals : List Signal) (parts : List Part) (width : ℕ) : Type 0 where
  pub fit : list_all (part_fits signals) parts ≡ true
  pub of_width : parts_width signals parts ≡ width

one-part : (signals : List Signal) (p : Part) (width : ℕ) → PartIs signals p width → PartsAre signals (p ∷ []) width
one-part signals p width is = record { fit = and_from _ _ is.fits refl; of_width = omega (arith, is.of_width) }

row-are : {shape : _} (signals : List Signal) (r : Ranged) (row : Row_of-Typed shape)
    → is_signal signals r.signal ≡ true → are_parts row ≡ true
    → parts_fit signals row ≡ true → PartsAre signals (row_parts r row) (joined_width row)
row-are signals r end_of-Typed there are fit = record { fit = refl; of_width = refl }
row-are signals r (more_of-Typed width signed one rest) there are fit =
    let a = and_parts _ _ are in
    let f = and_parts _ _ fit in
    let first = part-is signals r one width signed there a.0 f.0 in
    let more = row-are signals r rest there a.1 f.1 in
    record { fit = and_from _ _ first.fits more.fit; of_width = omega (arith, first.of_width, more.of_width) }

parts-are : (signals : List Signal) (r : Ranged) (n : Node) (width : ℕ) (signed : Bool)
    → is_signal signals r.signal ≡ true → is_named n ≡ true
    → node_fits signals width signed n ≡ true → PartsAre signals (parts_of r n) width
parts-are signals r (node.Join' _ row) width signed there named fits =
    let f = and_parts _ _ fits in
    let g = and_parts _ _ f.0 in
    subst (PartsAre signals (row_parts r row)) (eqb-true (joined_width row) width g.1) (row-are signals r row there named f.1)
parts-are signals r (node.Const w) width signed there named fits = one-part signals _ width (part-is signals r (node.Const w) width signed there refl fits)
parts-are signals r (node.Whole s) width signed there named fits = one-part signals _ width (part-is signals r (node.Whole s) width signed there refl fits)
parts-are signals r (node.Slice s from size) width signed there named fits =
    one-part signals _ width (part-is signals r (node.Slice s from size) width signed there refl fits)
parts-are signals r (node.Pick' s tag row offsets) width signed there named fits =
    one-part signals _ width (part-is signals r (node.Pick' s tag row offsets) width signed there refl fits)
parts-are signals r (node.Word' first count low tag row from size) width signed there named fits =
    one-part signals _ width (part-is signals r (node.Word' first count low tag row from size) width signed there refl fits)
parts-are signals r (node.Unary' _ _ _) width signed there named fits = cc
parts-are signals r (node.Binary' _ _ _ _ _) width signed there named fits = cc
parts-are signals r (node.Choose' _ _ _ _ _ _) width signed there named fits = cc
parts-are signals r (node.Repeat' _ _ _) width signed there named fits = cc
parts-are signals r (node.Resize' _ _) width signed there named fits = cc

-- a node that fits is of 1 to 128 bits, where a name is one
named-width : (signals : List Signal) (n : Node) (width : ℕ) (signed : Bool) → is_named n ≡ true
    → node_fits signals width signed n ≡ true → is_width width ≡ true
named-width signals (node.Join' _ row) width signed named fits = (and_parts _ _ (and_parts _ _ fits).0).0
named-width signals (node.Const w) width signed named fits = (and_parts _ _ fits).0
named-width signals (node.Whole s) width signed named fits = (and_parts _ _ (and_parts _ _ fits).0).0
named-width signals (node.Slice s from size) width signed named fits =
    let f = and_parts _ _ fits in
    subst (λ n. is_width n ≡ true) (eqb-true size width f.1) (and_parts _ _ (and_parts _ _ f.0).0).1
named-width signals (node.Pick' s _ (more_of-Typed _ _ _ end_of-Typed) offsets) width signed named fits = (and_parts _ _ (and_parts _ _ (and_parts _ _ fits).0).0).0
named-width signals (node.Word' first count low _ (more_of-Typed _ _ _ end_of-Typed) from size) width signed named fits =
    let f = and_parts _ _ (and_parts _ _ fits).0 in
    let s = and_parts _ _ (and_parts _ _ f.0).0 in
    subst (λ n. is_width n ≡ true) (eqb-true size width f.1) (and_parts _ _ (and_parts _ _ s.1).0).1
named-width signals (node.Unary' _ _ _) width signed named fits = cc
named-width signals (node.Binary' _ _ _ _ _) width signed named fits = cc
named-width signals (node.Choose' _ _ _ _ _ _) width signed named fits = cc
named-width signals (node.Repeat' _ _ _) width signed named fits = cc
named-width signals (node.Resize' _ _) width signed named fits = cc

-- ---- names
number-there : (signals : List Signal) (width : ℕ) (first last : ℤ) (number : ℕ)
    → IsThere signals width first last number → is_signal signals number ≡ true
number-there signals width first last number is = lt-ltb number (length signals) (slice_get_within signals number is.signal is.there)

ranged-there : (signals : List Signal) (o : Option Use) (r : Ranged) → ((u : Use) → o ≡ Some u → UseFits signals u)
    → ranged_of o ≡ Some r → is_signal signals r.signal ≡ true
ranged-there signals None r fit is = cc
ranged-there signals (Some (at_turn _)) r fit is = cc
ranged-there signals (Some outside) r fit is = cc
ranged-there signals (Some (stands (meaning.Constant _ _ _))) r fit is = cc
ranged-there signals (Some (stands (meaning.Signal signal width signed high low))) r fit is =
    subst (λ (x : Ranged). is_signal signals x.signal ≡ true) (Some-same is)
    (number-there signals width high low signal (fit (stands (meaning.Signal signal width signed high low)) refl).1)
ranged-there signals (Some (stands (meaning.Array first count address width signed high low))) r fit is =
    let u = fit (stands (meaning.Array first count address width signed high low)) refl in
    let some : 0 < count = omega (arith, u.0.1) in
    let plain : first + 0 ≡ first = omega arith in
    subst (λ (x : Ranged). is_signal signals x.signal ≡ true) (Some-same is)
    (subst (λ n. is_signal signals n ≡ true) plain (number-there signals width high low (first + 0) (u.1 0 some)))

of-parts : (signals : List Signal) (l : Left) → PartsAre signals l.parts l.width → is_width l.width ≡ true
    → LeftFits signals l
of-parts signals l are width = record { parts = are.fit; of_width = are.of_width; width = width }

name-fits : (signals : List Signal) (names : Names) (site : Site) (text : List ℕ) (selects : Selections) (l : Left)
    → NamesFit signals names
    → target names (name_left site text selects) ≡ Ok l → LeftFits signals l
name-fits signals names site text selects l fit is = by (ranged_of (find names text)) refl is
  where
    named : Ranged → Result Left BindErr
    named r = by_itself names (written.name site text selects) >>= λ e. Ok (name_parts r e)

    by : (o : Option Ranged) → ranged_of (find names text) ≡ o
        → ◌≡◌ {A = Result Left BindErr} (elim o [
          | Some r ↦ named r
          | None ↦ indexes_at names (is_constant (look_in names text)) selects >>= λ _. Err (no_left_side site.span (find names text) selects)
        ]) (Ok l)
        → LeftFits signals l
    by None found is = between (indexes_at names (is_constant (look_in names text)) selects) (λ _. Err (no_left_side site.span (find names text) selects)) l (LeftFits signals l) is λ _ _ refused. Err-Ok refused
    by (Some r) found is =
        between (by_itself names (written.name site text selects)) (λ e. Ok (name_parts r e)) l (LeftFits signals l) is λ e sizes made.
        let x = sized_in-fits signals names (written.name site text selects) 0 false e fit (lit≤ tt) sizes in
        let named = subst (λ (t : Typed). is_named t.node ≡ true) (sym x.is) (by_itself-named (look_in names) site text selects) in
        let there = ranged-there signals (find names text) r (λ u at. find-every (UseFits signals) names text u fit at) found in
        subst (LeftFits signals) (Ok-same made)
        (of-parts signals (name_parts r e) (parts-are signals r e.node e.width e.signed there named x.fits) (named-width signals e.node e.width e.signed named x.fits))

-- ---- concatenations
-- parts gathered so far: a width above 128 counts as 129
pub record Gathered (signals : List Signal) (l : Left) : Type 0 where
  pub parts : list_all (part_fits signals) l.parts ≡ true
  pub of_width : l.width ≡ min 129 (parts_width signals l.parts)

width-append : (signals : List Signal) (xs ys : List Part)
    → parts_width signals (xs ++ ys) ≡ parts_width signals xs + parts_width signals ys
width-append signals [] ys = omega arith
width-append signals (x ∷ xs) ys = omega (arith, width-append signals xs ys)

beside-gathered : (signals : List Signal) (done one : Left) → Gathered signals done → LeftFits signals one
    → Gathered signals (beside done one)
beside-gathered signals done one before fits = record {
  parts = list_all-append (part_fits signals) done.parts one.parts ∙ and_from _ _ before.parts fits.parts;
  of_width = omega (arith, before.of_width, fits.of_width, width-append signals done.parts one.parts);
}

concat-fits : (signals : List Signal) (span : Span) (all l : Left) → Gathered signals all → of_width span all ≡ Ok l
    → LeftFits signals l
concat-fits signals span all l gathered is = by (is_bad_width all.width) refl is
  where
    by : (bad : Bool) → is_bad_width all.width ≡ bad
        → ◌≡◌ {A = Result Left BindErr} (if bad then Err (fault.Range span) else Ok all) (Ok l) → LeftFits signals l
    by true width is = Err-Ok is
    by false width is =
        let within = good-width all.width width in
        subst (LeftFits signals) (Ok-same is)
        (record { parts = gathered.parts; of_width = omega (arith, gathered.of_width, within.most); width = is-width all.width within })

mutual
  pub target-fits : (signals : List Signal) (names : Names) (x : PlainLeft) (l : Left) → NamesFit signals names
      → target names x ≡ Ok l → LeftFits signals l
  target-fits signals names (name_left site text selects) l fit is = name-fits signals names site text selects l fit is
  target-fits signals names (concat_left site parts) l fit is =
      between (targets names parts nothing_named) (of_width site.span) l (LeftFits signals l) is λ all gathers whole.
      concat-fits signals site.span all l (targets-gather signals names parts nothing_named all fit (record { parts = refl; of_width = refl }) gathers) whole

  targets-gather : (signals : List Signal) (names : Names) (xs : Lefts) (done l : Left) → NamesFit signals names
      → Gathered signals done
      → targets names xs done ≡ Ok l → Gathered signals l
  targets-gather signals names no_left done l fit before is = subst (Gathered signals) (Ok-same is) before
  targets-gather signals names (left x xs) done l fit before is =
      between (target names x) (λ one. targets names xs (beside done one)) l (Gathered signals l) is λ one first rest.
      targets-gather signals names xs (beside done one) l fit (beside-gathered signals done one before (target-fits signals names x one fit first)) rest
