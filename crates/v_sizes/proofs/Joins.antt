-- What the nodes of concatenations, replications and words of arrays mean, and that they fit.
use Rattle.std.proofs.Common.{◌≡◌, ℕ, ◌+◌, ◌*◌, ◌^◌, Bool, true, ◌&&◌, List, [], ◌∷◌, refl, ap, sym, ◌∙◌}
use Rattle.std.specs.Prelude.{if◌then◌else◌, ◌==◌}
use Rattle.std.specs.List.{list_all}
use Rattle.std.proofs.lemmas.Bool.{eq-eqb, and_from}
use Rattle.std.proofs.lemmas.List.Sums.{sum_by-cons}
use Rattle.design_core.specs.declared.signal.Signal.{Signal}
use Rattle.design_core.specs.declared.expression.Typed.{Typed}
use Rattle.design_core.specs.declared.expression.Node.{Row_of-Typed, end_of-Typed, more_of-Typed, items-the_row-Typed, items_hidden-the_row-Typed-1}
use Rattle.design_core.specs.declared.expression.Node.TheVariants as node
use Rattle.design_core.specs.declared.expression.Node.TheBlock.{hidden-the_row-Typed-1}
use Rattle.design_core.specs.Valuation.{Valuation}
use Rattle.design_core.specs.Operator.{repeated, is_true}
use Rattle.design_core.specs.Value.{value, node_value, joined}
use Rattle.design_core.specs.WellFormed.{is_width, typed_fits, node_fits, joined_width, parts_fit}
use Rattle.design_core.proofs.ExpressionSteps.{value_repeat, fits_repeat, value_choose, fits_choose}
use Rattle.v_sizes.specs.Sizing.{Sizing, own, joined_value}
use Rattle.v_sizes.specs.Sizing as sizing
use Rattle.v_sizes.specs.Sized.{sized}
use Rattle.v_sizes.proofs.Meant.{Within, Meant, is-width}

-- sized expressions mean what these expressions do by themselves
pub data MeantAll (signals : List Signal) : List Typed → List Sizing → Type 0 where
  none : MeantAll signals [] []
  more : {t : Typed} {ts : List Typed} {e : Sizing} {es : List Sizing} → Meant signals t e.width e.signed (own e) → MeantAll signals ts es
      → MeantAll signals (t ∷ ts) (e ∷ es)

-- the parts of a concatenation as a list
abbrev joined_list : List Signal → Valuation → ℕ → List Typed → ℕ
joined_list signals V before [] = before
joined_list signals V before (t ∷ ts) = joined_list signals V (before * 2 ^ t.width + value signals V t) ts

abbrev sum_list : List Typed → ℕ
sum_list [] = 0
sum_list (t ∷ ts) = t.width + sum_list ts

joined-row : {shape : _} (signals : List Signal) (V : Valuation) (before : ℕ) (row : Row_of-Typed shape)
    → joined signals V before row ≡ joined_list signals V before (items-the_row-Typed shape row)
joined-row signals V before end_of-Typed = refl
joined-row signals V before (more_of-Typed width signed n rest) = joined-row signals V (before * 2 ^ width + node_value signals V width n) rest

width-row : {shape : _} (row : Row_of-Typed shape) → joined_width row ≡ sum_list (items-the_row-Typed shape row)
width-row end_of-Typed = refl
width-row (more_of-Typed width signed n rest) = ap (λ m. width + m) (width-row rest)

fits-row : {shape : _} (signals : List Signal) (row : Row_of-Typed shape) → parts_fit signals row ≡ list_all (typed_fits signals) (items-the_row-Typed shape row)
fits-row signals end_of-Typed = refl
fits-row signals (more_of-Typed width signed n rest) = ap (λ b. node_fits signals width signed n && b) (fits-row signals rest)

value_join : (signals : List Signal) (V : Valuation) (width : ℕ) (ts : List Typed) → node_value signals V width (node.Join ts) ≡ joined_list signals V 0 ts
value_join signals V width ts = joined-row signals V 0 (hidden-the_row-Typed-1 ts) ∙ ap (joined_list signals V 0) (items_hidden-the_row-Typed-1 ts)

fits_join : (signals : List Signal) (signed : Bool) (width : ℕ) (ts : List Typed)
    → node_fits signals width signed (node.Join ts) ≡ (is_width width && sum_list ts == width && list_all (typed_fits signals) ts)
fits_join signals signed width ts =
    ap (λ n. is_width width && n == width && parts_fit signals (hidden-the_row-Typed-1 ts)) (width-row (hidden-the_row-Typed-1 ts) ∙ ap sum_list (items_hidden-the_row-Typed-1 ts))
    ∙ ap (λ b. is_width width && sum_list ts == width && b) (fits-row signals (hidden-the_row-Typed-1 ts) ∙ ap (list_all (typed_fits signals)) (items_hidden-the_row-Typed-1 ts))

-- what is meant of each part is meant of all
joined-meant : (signals : List Signal) {ts : List Typed} {es : List Sizing} (V : Valuation) (before : ℕ) → MeantAll signals ts es
    → joined_list signals V before ts ≡ joined_value before es V
joined-meant signals V before none = refl
joined-meant signals V before (more {t = t} {ts = ts} {e = e} {es = es} first rest) =
    ap (λ w. joined_list signals V (before * 2 ^ w + value signals V t) ts) first.of_width
    ∙ ap (λ v. joined_list signals V (before * 2 ^ e.width + v) ts) (first.means V)
    ∙ joined-meant signals V (before * 2 ^ e.width + own e V) rest

sum-meant : (signals : List Signal) {ts : List Typed} {es : List Sizing} → MeantAll signals ts es → sum_list ts ≡ sizing.joined_width es
sum-meant signals none = refl
sum-meant signals (more {t = t} {ts = ts} {e = e} {es = es} first rest) = ap (λ w. w + sum_list ts) first.of_width ∙ ap (λ m. e.width + m) (sum-meant signals rest) ∙ sym (sum_by-cons (λ part. part.width) e es)

all-fit : (signals : List Signal) {ts : List Typed} {es : List Sizing} → MeantAll signals ts es → list_all (typed_fits signals) ts ≡ true
all-fit signals none = refl
all-fit signals (more first rest) = and_from _ _ first.fits (all-fit signals rest)

pub join-meant : (signals : List Signal) (ts : List Typed) (es : List Sizing) (signed : Bool) → Within (sizing.joined_width es) → MeantAll signals ts es
    → Meant signals (sized (sizing.joined_width es) signed (node.Join ts)) (sizing.joined_width es) signed (joined_value 0 es)
join-meant signals ts es signed within meant =
    let width = sizing.joined_width es in
    record {
      of_width = refl;
      of_sign = refl;
      means = λ V. value_join signals V width ts ∙ joined-meant signals V 0 meant;
      fits = fits_join signals signed width ts
          ∙ and_from _ _ (and_from _ _ (is-width width within) (eq-eqb (sum_list ts) width (sum-meant signals meant))) (all-fit signals meant);
    }

pub repeat-meant : (signals : List Signal) (t : Typed) (times own_width : ℕ) (signed before : Bool) (of : Valuation → ℕ) → Within (times * own_width)
    → Meant signals t own_width before of
    → Meant signals (sized (times * own_width) signed (node.Repeat times t)) (times * own_width) signed (λ V. repeated times own_width (of V))
repeat-meant signals t times own_width signed before of within meant =
    let width = times * own_width in
    record {
      of_width = refl;
      of_sign = refl;
      means = λ V.
          value_repeat signals V width times t ∙ ap (λ w. repeated times w (value signals V t)) meant.of_width ∙ ap (repeated times own_width) (meant.means V);
      fits = fits_repeat signals signed width times t
          ∙ and_from _ _ (and_from _ _ (is-width width within) (eq-eqb (times * t.width) width (ap (λ w. times * w) meant.of_width))) meant.fits;
    }

-- a condition and two arms of one width
pub choose-meant : (signals : List Signal) (condition on_true on_false : Typed) (own_width width : ℕ) (own_signed signed : Bool) (test one other : Valuation → ℕ)
    → Meant signals condition own_width own_signed test → Meant signals on_true width signed one → Meant signals on_false width signed other
    → Meant signals (sized width signed (node.Choose condition on_true on_false)) width signed (λ V. if is_true (test V) then one V else other V)
choose-meant signals condition on_true on_false own_width width own_signed signed test one other tested first second =
    record {
      of_width = refl;
      of_sign = refl;
      means = λ V.
          value_choose signals V width condition on_true on_false
          ∙ ap (λ v. if is_true v then value signals V on_true else value signals V on_false) (tested.means V)
          ∙ ap (λ v. if is_true (test V) then v else value signals V on_false) (first.means V)
          ∙ ap (λ v. if is_true (test V) then one V else v) (second.means V);
      fits = fits_choose signals signed width condition on_true on_false
          ∙ and_from _ _
          (and_from _ _ (and_from _ _ (and_from _ _ (eq-eqb width on_true.width (sym first.of_width)) (eq-eqb width on_false.width (sym second.of_width))) tested.fits) first.fits)
          second.fits;
    }
