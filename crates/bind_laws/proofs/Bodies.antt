-- A statement fits the signals and the places of a design that its names and its places are of, and each place that it makes stands
-- in it once.
use Rattle.std.proofs.Common.{◌≡◌, ℕ, ◌+◌, ◌<◌, ◌≤◌, Bool, true, false, List, [], ◌∷◌, ◌++◌, length, length-append, refl, sym, ◌∙◌, ap, subst, arith, lit≤}
use Rattle.std.specs.Prelude.{◌==◌, if◌then◌else◌, not, nat_lt, Result, Ok}
use Rattle.std.specs.List.{list_all}
use Rattle.std.specs.Option.{option_map_or}
use Rattle.std.proofs.lemmas.Bool.{and_from, eq-eqb, le-leb, true≢false, ltb-true, ltb-false}
use Rattle.design_core.specs.declared.signal.Signal.{Signal}
use Rattle.design_core.specs.declared.place.Place.{Place}
use Rattle.design_core.specs.declared.place.PlaceKind.{PlaceKind}
use Rattle.design_core.specs.declared.place.PlaceKind.TheVariants as place_kind
use Rattle.design_core.specs.declared.expression.Typed.{Typed}
use Rattle.design_core.specs.declared.statement.Label.{Label}
use Rattle.design_core.specs.declared.statement.Stmt.{Stmt}
use Rattle.design_core.specs.declared.statement.Stmt.TheVariants as stmt
use Rattle.design_core.specs.Store.{parts_width}
use Rattle.design_core.specs.WellFormed.{is_width, typed_fits, label_fits, assignment_fits, place_fits, statement_fits, times_in}
use Rattle.design_core.proofs.StatementSteps.{fits_if}
use Rattle.v_syntax.specs.declared.declaration.Identifier.{Identifier}
use Rattle.v_syntax.specs.declared.site.Site.{Site}
use Rattle.v_syntax.specs.declared.statement.AssignKind.{AssignKind}
use Rattle.v_syntax.specs.declared.statement.CaseKind.{CaseKind}
use Rattle.v_syntax.specs.Tree.{Tree}
use Rattle.v_syntax.specs.PartTree.{PlainLeft}
use Rattle.v_syntax.specs.StatementTree.{PlainStatement, empty, block, delayed, if_then, if_else, choice, loop, assignment}
use Rattle.v_hierarchy.specs.Unrolled.{Steps, nothing, still, run, branch, choose, repeated, StepList, no_step, step, Arms, no_arm, arm, default_arm, Turns, no_turn, turn}
use Rattle.v_sizes.proofs.Meant.{Within}
use Rattle.v_binding.specs.declared.error.BindErr.{BindErr}
use Rattle.v_binding.specs.declared.left.Left.{Left}
use Rattle.v_binding.specs.Steps.{◌>>=◌, each}
use Rattle.v_binding.specs.Names.{Names, turned}
use Rattle.v_binding.specs.Expressions.{sized_in, assigned, by_itself}
use Rattle.v_binding.specs.Lefts.{target}
use Rattle.v_binding.specs.Places.{Home, Placed, placed, place}
use Rattle.v_binding.specs.Cases.{Context, context_of, label_at, is_wild_case}
use Rattle.v_binding.specs.Statements.{is_later, set, set_of, Chosen, nothing_chosen, as_default, bound, bound_all, bound_turns, bound_arms}
use Rattle.bind_laws.specs.Fit.{NamesFit, LeftFits, StatementFits, StepsFit, ListFit, ArmsFit, TurnsFit, Begins}
use Rattle.bind_laws.specs.Whole.{below}
use Rattle.bind_laws.proofs.Lists.{list_all-push, begins-itself, begins-front, begins-at, Ok-same, between}
use Rattle.bind_laws.proofs.Expressions.{sized_in-fits, assigned-wide}
use Rattle.bind_laws.proofs.Lefts.{target-fits, within-is}
use Rattle.bind_laws.proofs.Statements.{all_fit, fits_block, total, times_block, total-push, all_fit-push, times_if, items_all_fit, fits_case, items_fit-push, total_items, times_case, total_items-push, below-push}
use Rattle.bind_laws.proofs.CaseContexts.{ArmsNarrow, context-holds, sized-width, labels-fit}

-- ---- an assignment
-- a left side with its right side
pub record Assigns (signals : List Signal) (l : Left) (e : Typed) : Type 0 where
  pub target : LeftFits signals l
  pub value : typed_fits signals e ≡ true
  pub wide : l.width ≤ e.width

pub assignment-fits : (signals : List Signal) (l : Left) (e : Typed) → Assigns signals l e
    → assignment_fits signals l.parts e ≡ true
assignment-fits signals l e a =
    let wide = sym a.target.of_width in
    and_from _ _
    (and_from _ _ (and_from _ _ a.target.parts (subst (λ w. is_width w ≡ true) wide a.target.width)) a.value)
    (le-leb (parts_width signals l.parts) e.width (subst (λ w. w ≤ e.width) wide a.wide))

-- the next place is of the left side's width
pub place-fits : (signals : List Signal) (final places : List Place) (k : PlaceKind) (home : Home) (site : Site)
    (copy : ℕ) (l : Left) → LeftFits signals l
    → Begins (places ++ place k home site copy l ∷ []) final
    → place_fits final (parts_width signals l.parts) (length places) ≡ true
place-fits signals final places k home site copy l fits begins =
    ap (λ o. option_map_or (λ (p : Place). p.width == parts_width signals l.parts) o false) (begins-at places (place k home site copy l) final begins)
    ∙ eq-eqb l.width (parts_width signals l.parts) (sym fits.of_width)

-- ---- what a statement keeps
-- places of 1 to 128 bits
abbrev pub all_wide : List Place → Bool
all_wide places = list_all (λ place. is_width place.width) places

-- a statement behind places, where all that it makes are among the last ones
pub record Binds (signals : List Signal) (final before : List Place) (x : Placed Stmt) : Type 0 where
  pub front : Begins before final
  pub widths : all_wide before ≡ true → all_wide x.places ≡ true
  pub fits : statement_fits signals final x.value ≡ true
  pub times : (p : ℕ) → times_in p x.value + below p (length before) ≡ below p (length x.places)

-- a block behind statements
pub record BindsAfter (signals : List Signal) (final : List Place) (done : List Stmt) (before : List Place) (x : Placed Stmt) : Type 0 where
  pub front : Begins before final
  pub widths : all_wide before ≡ true → all_wide x.places ≡ true
  pub fits : all_fit signals final done ≡ true → statement_fits signals final x.value ≡ true
  pub times : (p : ℕ) → times_in p x.value + below p (length before) ≡ total p done + below p (length x.places)

-- the arms of a case behind others
pub record ChoosesAfter (signals : List Signal) (final : List Place) (width : ℕ) (done : Chosen) (before : List Place) (x : Placed Chosen) : Type 0 where
  pub front : Begins before final
  pub widths : all_wide before ≡ true → all_wide x.places ≡ true
  pub items : items_all_fit signals final width done.items ≡ true
      → items_all_fit signals final width x.value.items ≡ true
  pub other : statement_fits signals final done.other ≡ true → statement_fits signals final x.value.other ≡ true
  pub times : (p : ℕ) → total_items p x.value.items + times_in p x.value.other + below p (length before)
      ≡ total_items p done.items + times_in p done.other + below p (length x.places)

nothing-binds : (signals : List Signal) (final places : List Place) → Begins places final
    → Binds signals final places (placed stmt.Nothing places)
nothing-binds signals final places begins = record { front = begins; widths = λ all. all; fits = refl; times = λ p. omega arith }

set-binds : (signals : List Signal) (final : List Place) (home : Home) (names : Names) (site : Site)
    (left : PlainLeft) (kind : AssignKind) (value : Tree) (places : List Place) (x : Placed Stmt)
    → NamesFit signals names → set home names site left kind value places ≡ Ok x → Begins x.places final
    → Binds signals final places x
set-binds signals final home names site left kind value places x fit is begins =
    between (target names left) (λ l. assigned names value l.width >>= λ e. Ok (made l e)) x (Binds signals final places x) is λ l first rest.
    between (assigned names value l.width) (λ e. Ok (made l e)) x (Binds signals final places x) rest λ e second last.
    let target = target-fits signals names left l fit first in
    let sized = sized_in-fits signals names value l.width false e fit (within-is l.width target.width).most second in
    let same_end = sym (Ok-same last) in
    subst (Binds signals final places) (Ok-same last)
    (ends l e target (record { target = target; value = sized.fits; wide = assigned-wide signals names value l.width false e sized }) (subst (λ (y : Placed Stmt). Begins y.places final) same_end begins))
  where
    made : Left → Typed → Placed Stmt
    made l e = placed (stmt.Set (length places) (record { parts = l.parts }) e (is_later kind)) (places ++ place place_kind.Step home site 0 l ∷ [])

    ends : (l : Left) (e : Typed) → LeftFits signals l → Assigns signals l e → Begins (made l e).places final
        → Binds signals final places (made l e)
    ends l e target assigns begins = record {
      front = begins-front places (place place_kind.Step home site 0 l ∷ []) final begins;
      widths = λ all. list_all-push (λ (p : Place). is_width p.width) places (place place_kind.Step home site 0 l) all target.width;
      fits = and_from _ _ (assignment-fits signals l e assigns) (place-fits signals final places place_kind.Step home site 0 l target begins);
      times = λ p. below-push p places (place place_kind.Step home site 0 l);
    }

none : (signals : List Signal) (final places : List Place) (x : Placed Stmt)
    → ◌≡◌ {A = Result (Placed Stmt) BindErr} (Ok (placed stmt.Nothing places)) (Ok x)
    → Begins x.places final → Binds signals final places x
none signals final places x is begins =
    subst (Binds signals final places) (Ok-same is) (nothing-binds signals final places (subst (λ (y : Placed Stmt). Begins y.places final) (sym (Ok-same is)) begins))

still-binds : (signals : List Signal) (final : List Place) (home : Home) (names : Names) (s : PlainStatement)
    (places : List Place) (x : Placed Stmt)
    → NamesFit signals names → set_of home names s places ≡ Ok x → Begins x.places final → Binds signals final places x
still-binds signals final home names (assignment site left kind delay value) places x fit is begins = set-binds signals final home names site left kind value places x fit is begins
still-binds signals final home names (empty _) places x fit is begins = none signals final places x is begins
still-binds signals final home names (block _ _ _) places x fit is begins = none signals final places x is begins
still-binds signals final home names (delayed _ _ _) places x fit is begins = none signals final places x is begins
still-binds signals final home names (if_then _ _ _) places x fit is begins = none signals final places x is begins
still-binds signals final home names (if_else _ _ _ _) places x fit is begins = none signals final places x is begins
still-binds signals final home names (choice _ _ _ _) places x fit is begins = none signals final places x is begins
still-binds signals final home names (loop _ _ _) places x fit is begins = none signals final places x is begins

-- a default
default-fits : (signals : List Signal) (final : List Place) (s : Stmt) → statement_fits signals final s ≡ true
    → statement_fits signals final (as_default s) ≡ true
default-fits signals final stmt.Nothing fits = fits_block signals final []
default-fits signals final (stmt.Block' tag row) fits = fits
default-fits signals final (stmt.If' _ _ _ _ _) fits = fits
default-fits signals final (stmt.Case' _ _ _ _ _ _) fits = fits
default-fits signals final (stmt.Set _ _ _ _) fits = fits

default-times : (p : ℕ) (s : Stmt) → times_in p (as_default s) ≡ times_in p s
default-times p stmt.Nothing = times_block p []
default-times p (stmt.Block' tag row) = refl
default-times p (stmt.If' _ _ _ _ _) = refl
default-times p (stmt.Case' _ _ _ _ _ _) = refl
default-times p (stmt.Set _ _ _ _) = refl

-- ---- steps of lists
-- one item more, and the default
abbrev and_item : Chosen → List Label → Stmt → Chosen
and_item done list body = record { items = done.items ++ record { labels = list; body = body } ∷ []; other = done.other }

abbrev and_default : Chosen → Stmt → Chosen
and_default done body = record { items = done.items; other = as_default body }

block-ends : (signals : List Signal) (final : List Place) (done : List Stmt) (places : List Place) (x : Placed Stmt)
    → ◌≡◌ {A = Result (Placed Stmt) BindErr} (Ok (placed (stmt.Block done) places)) (Ok x) → Begins x.places final
    → BindsAfter signals final done places x
block-ends signals final done places x is begins =
    subst (BindsAfter signals final done places) (Ok-same is)
    (record {
      front = subst (λ (y : Placed Stmt). Begins y.places final) (sym (Ok-same is)) begins;
      widths = λ all. all;
      fits = λ all. fits_block signals final done ∙ all;
      times = λ p. ap (λ n. n + below p (length places)) (times_block p done);
    })

one-more : (signals : List Signal) (final : List Place) (done : List Stmt) (places : List Place) (one x : Placed Stmt)
    → Binds signals final places one
    → BindsAfter signals final (done ++ one.value ∷ []) one.places x → BindsAfter signals final done places x
one-more signals final done places one x first more = record {
  front = first.front;
  widths = λ all. more.widths (first.widths all);
  fits = λ all. more.fits (all_fit-push signals final done one.value all first.fits);
  times = λ p. omega (arith, first.times p, more.times p, total-push p done one.value);
}

arms-end : (signals : List Signal) (final : List Place) (width : ℕ) (done : Chosen) (places : List Place)
    (x : Placed Chosen)
    → ◌≡◌ {A = Result (Placed Chosen) BindErr} (Ok (placed done places)) (Ok x) → Begins x.places final
    → ChoosesAfter signals final width done places x
arms-end signals final width done places x is begins =
    subst (ChoosesAfter signals final width done places) (Ok-same is)
    (record { front = subst (λ (y : Placed Chosen). Begins y.places final) (sym (Ok-same is)) begins; widths = λ all. all; items = λ all. all; other = λ fits. fits; times = λ p. refl })

item-more : (signals : List Signal) (final : List Place) (width : ℕ) (done : Chosen) (list : List Label)
    (places : List Place) (one : Placed Stmt) (x : Placed Chosen)
    → list_all (label_fits signals width) list ≡ true → Binds signals final places one
    → ChoosesAfter signals final width (and_item done list one.value) one.places x
    → ChoosesAfter signals final width done places x
item-more signals final width done list places one x labels first more = record {
  front = first.front;
  widths = λ all. more.widths (first.widths all);
  items = λ all. more.items (items_fit-push signals final width done.items (record { labels = list; body = one.value }) all (and_from _ _ labels first.fits));
  other = λ fits. more.other fits;
  times = λ p. omega (arith, first.times p, more.times p, total_items-push p done.items (record { labels = list; body = one.value }));
}

default-more : (signals : List Signal) (final : List Place) (width : ℕ) (done : Chosen) (places : List Place)
    (one : Placed Stmt) (x : Placed Chosen)
    → done.other ≡ stmt.Nothing → Binds signals final places one
    → ChoosesAfter signals final width (and_default done one.value) one.places x
    → ChoosesAfter signals final width done places x
default-more signals final width done places one x free first more = record {
  front = first.front;
  widths = λ all. more.widths (first.widths all);
  items = λ all. more.items all;
  other = λ fits. more.other (default-fits signals final one.value first.fits);
  times = λ p. omega (arith, first.times p, more.times p, default-times p one.value, ap (times_in p) free);
}

-- a case from its arms
case-binds : (signals : List Signal) (final : List Place) (home : Home) (names : Names) (kind : CaseKind)
    (subject : Tree) (arms : Arms) (places : List Place) (x : Placed Stmt)
    → NamesFit signals names → bound home names (choose kind subject arms) places ≡ Ok x → Begins x.places final
    → ((c : Context) (y : Placed Chosen) → Within c.width → ArmsNarrow names c.width arms → bound_arms home names c arms nothing_chosen places ≡ Ok y
    → Begins y.places final → ChoosesAfter signals final c.width nothing_chosen places y)
    → Binds signals final places x
case-binds signals final home names kind subject arms places x fit is begins bind =
    between (sized_in names subject c.width (not c.signed)) (λ e. bound_arms home names c arms nothing_chosen places >>= λ y. Ok (made e y)) x (Binds signals final places x) is
    λ e first is.
    between (bound_arms home names c arms nothing_chosen places) (λ y. Ok (made e y)) x (Binds signals final places x) is
    λ y second last.
    let holds = context-holds signals names subject arms fit in
    let chosen = bind c y holds.within holds.labels second (subst (λ (z : Placed Stmt). Begins z.places final) (sym (Ok-same last)) begins) in
    let s = sized_in-fits signals names subject c.width (not c.signed) e fit holds.within.most first in
    let wide = sized-width signals names subject c.width (not c.signed) e holds.narrow s in
    subst (Binds signals final places) (Ok-same last)
    (record {
      front = chosen.front;
      widths = chosen.widths;
      fits = fits_case signals final e y.value.items y.value.other (is_wild_case kind)
          ∙ and_from _ _ (and_from _ _ s.fits (subst (λ w. items_all_fit signals final w y.value.items ≡ true) (sym wide) (chosen.items refl))) (chosen.other refl);
      times = λ p. omega (arith, times_case p e y.value.items y.value.other (is_wild_case kind), chosen.times p);
    })
  where
    c : Context
    c = context_of names subject arms

    made : Typed → Placed Chosen → Placed Stmt
    made e y = placed (stmt.Case e y.value.items y.value.other (is_wild_case kind)) y.places

mutual
  pub bound-binds : (signals : List Signal) (final : List Place) (home : Home) (names : Names) (s : Steps)
      (places : List Place) (x : Placed Stmt)
      → NamesFit signals names → StepsFit s → bound home names s places ≡ Ok x → Begins x.places final
      → Binds signals final places x
  bound-binds signals final home names nothing places x fit turns is begins = none signals final places x is begins
  bound-binds signals final home names (still s) places x fit turns is begins = still-binds signals final home names s places x fit is begins
  bound-binds signals final home names (run list) places x fit turns is begins =
      let all = all-bind signals final home names list [] places x fit turns is begins in
      record { front = all.front; widths = all.widths; fits = all.fits refl; times = λ p. omega (arith, all.times p) }
  bound-binds signals final home names (branch condition on_true on_false) places x fit turns is begins =
      between (by_itself names condition) (λ cond. bound home names on_true places >>= λ one. bound home names on_false one.places >>= λ rest. Ok (placed (stmt.If cond one.value rest.value) rest.places)) x (Binds signals final places x) is
      λ cond first is.
      between (bound home names on_true places) (λ one. bound home names on_false one.places >>= λ rest. Ok (placed (stmt.If cond one.value rest.value) rest.places)) x (Binds signals final places x) is
      λ one second is.
      between (bound home names on_false one.places) (λ rest. Ok (placed (stmt.If cond one.value rest.value) rest.places)) x (Binds signals final places x) is
      λ rest third last.
      let begins_rest = subst (λ (y : Placed Stmt). Begins y.places final) (sym (Ok-same last)) begins in
      let other = bound-binds signals final home names on_false one.places rest fit turns.1 third begins_rest in
      let this = bound-binds signals final home names on_true places one fit turns.0 second other.front in
      let c = sized_in-fits signals names condition 0 false cond fit (lit≤ tt) first in
      subst (Binds signals final places) (Ok-same last)
      (record {
        front = this.front;
        widths = λ all. other.widths (this.widths all);
        fits = fits_if signals final cond one.value rest.value ∙ and_from _ _ (and_from _ _ c.fits this.fits) other.fits;
        times = λ p. omega (arith, times_if p cond one.value rest.value, this.times p, other.times p);
      })
  bound-binds signals final home names (choose kind subject arms) places x fit turns is begins =
      case-binds signals final home names kind subject arms places x fit is begins
      (λ c y within narrow is begins. arms-bind signals final home names c false arms nothing_chosen places y fit within narrow turns (λ _. refl) is begins)
  bound-binds signals final home names (repeated variable turns) places x fit fits is begins =
      let all = turns-bind signals final home names variable turns [] places x fit fits is begins in
      record { front = all.front; widths = all.widths; fits = all.fits refl; times = λ p. omega (arith, all.times p) }

  all-bind : (signals : List Signal) (final : List Place) (home : Home) (names : Names) (xs : StepList)
      (done : List Stmt) (places : List Place) (x : Placed Stmt)
      → NamesFit signals names → ListFit xs → bound_all home names xs done places ≡ Ok x → Begins x.places final
      → BindsAfter signals final done places x
  all-bind signals final home names no_step done places x fit turns is begins = block-ends signals final done places x is begins
  all-bind signals final home names (step s xs) done places x fit turns is begins =
      between (bound home names s places) (λ one. bound_all home names xs (done ++ one.value ∷ []) one.places) x (BindsAfter signals final done places x) is λ one first rest.
      let more = all-bind signals final home names xs (done ++ one.value ∷ []) one.places x fit turns.1 rest begins in
      one-more signals final done places one x (bound-binds signals final home names s places one fit turns.0 first more.front) more

  turns-bind : (signals : List Signal) (final : List Place) (home : Home) (names : Names) (variable : Identifier)
      (xs : Turns) (done : List Stmt) (places : List Place) (x : Placed Stmt)
      → NamesFit signals names → TurnsFit xs → bound_turns home names variable xs done places ≡ Ok x
      → Begins x.places final → BindsAfter signals final done places x
  turns-bind signals final home names variable no_turn done places x fit turns is begins = block-ends signals final done places x is begins
  turns-bind signals final home names variable (turn value s xs) done places x fit turns is begins =
      between (bound home (turned variable value names) s places) (λ one. bound_turns home names variable xs (done ++ one.value ∷ []) one.places) x (BindsAfter signals final done places x) is λ one first rest.
      let more = turns-bind signals final home names variable xs (done ++ one.value ∷ []) one.places x fit turns.2 rest begins in
      one-more signals final done places one x (bound-binds signals final home (turned variable value names) s places one (turns.0, fit) turns.1 first more.front) more

  arms-bind : (signals : List Signal) (final : List Place) (home : Home) (names : Names) (c : Context) (had : Bool)
      (arms : Arms) (done : Chosen) (places : List Place) (x : Placed Chosen)
      → NamesFit signals names → Within c.width → ArmsNarrow names c.width arms → ArmsFit had arms
      → (had ≡ false → done.other ≡ stmt.Nothing)
      → bound_arms home names c arms done places ≡ Ok x → Begins x.places final
      → ChoosesAfter signals final c.width done places x
  arms-bind signals final home names c had no_arm done places x fit within narrow turns free is begins = arms-end signals final c.width done places x is begins
  arms-bind signals final home names c had (arm labels s xs) done places x fit within narrow turns free is begins =
      between (each (label_at names c) labels []) (λ list. bound home names s places >>= λ one. bound_arms home names c xs (and_item done list one.value) one.places) x (ChoosesAfter signals final c.width done places x) is
      λ list first is.
      between (bound home names s places) (λ one. bound_arms home names c xs (and_item done list one.value) one.places) x (ChoosesAfter signals final c.width done places x) is
      λ one second rest.
      let more = arms-bind signals final home names c had xs (and_item done list one.value) one.places x fit within narrow.1 turns.1 free rest begins in
      item-more signals final c.width done list places one x (labels-fit signals names c labels [] list fit within narrow.0 first refl)
      (bound-binds signals final home names s places one fit turns.0 second more.front) more
  arms-bind signals final home names c had (default_arm s xs) done places x fit within narrow turns free is begins =
      between (bound home names s places) (λ one. bound_arms home names c xs (and_default done one.value) one.places) x (ChoosesAfter signals final c.width done places x) is
      λ one first rest.
      let more = arms-bind signals final home names c true xs (and_default done one.value) one.places x fit within narrow turns.2 (λ yes. absurd (true≢false yes)) rest begins in
      default-more signals final c.width done places one x (free turns.0) (bound-binds signals final home names s places one fit turns.1 first more.front) more

-- a statement by itself
counted-new : (m n p t : ℕ) → t + below p m ≡ below p n → m ≤ p → p < n → t ≡ 1
counted-new m n p t is old new = by (nat_lt p m) refl (nat_lt p n) refl is
  where
    by : (a : Bool) → nat_lt p m ≡ a → (b : Bool) → nat_lt p n ≡ b → t + (if a then 1 else 0) ≡ (if b then 1 else 0)
        → t ≡ 1
    by true first b second is = absurd (omega (arith, ltb-true p m first, old))
    by false first true second is = omega (arith, is)
    by false first false second is = absurd (omega (arith, ltb-false p n second, new))

counted-old : (m n p t : ℕ) → t + below p m ≡ below p n → m ≤ n → p < m → t ≡ 0
counted-old m n p t is long old = by (nat_lt p m) refl (nat_lt p n) refl is
  where
    by : (a : Bool) → nat_lt p m ≡ a → (b : Bool) → nat_lt p n ≡ b → t + (if a then 1 else 0) ≡ (if b then 1 else 0)
        → t ≡ 0
    by true first true second is = omega (arith, is)
    by true first false second is = absurd (omega (arith, ltb-false p n second, old, long))
    by false first b second is = absurd (omega (arith, ltb-false p m first, old))

pub body-fits : (signals : List Signal) (home : Home) (names : Names) (s : Steps) (before : List Place)
    (x : Placed Stmt) → NamesFit signals names → StepsFit s
    → bound home names s before ≡ Ok x → StatementFits signals before x
body-fits signals home names s before x fit text is =
    let b = bound-binds signals x.places home names s before x fit text is (begins-itself x.places) in
    let whole : length x.places ≡ length before + length b.front.rest = ap length b.front.is ∙ length-append before b.front.rest in
    record {
      front = b.front;
      fits = b.fits;
      new = λ p old new. counted-new (length before) (length x.places) p (times_in p x.value) (b.times p) old new;
      old = λ p less. counted-old (length before) (length x.places) p (times_in p x.value) (b.times p) (omega (arith, whole)) less;
    }
