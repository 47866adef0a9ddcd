-- Expressions that can be left sides.
use Rattle.std.proofs.Common.{◌≡◌, ℕ, ◌+◌, ◌<◌, Bool, true, false, List, ◌∷◌, length, map, drop, get_or, Option, Some, None, refl, ap, sym, ◌∙◌}
use Rattle.std.proofs.lemmas.List.{at_drop_more}
use Rattle.std.specs.Prelude.{is_some, Result, Ok, Err}
use Rattle.std.specs.Option.{option_map_or}
use Rattle.v_syntax.specs.declared.site.Site.{Site}
use Rattle.v_syntax.specs.declared.expression.Expr.{Expr}
use Rattle.v_syntax.specs.Tree.{Tree, Trees, no_tree, tree, tree_of, trees_of}
use Rattle.v_syntax.specs.Tree as written
use Rattle.v_syntax.specs.PartTree.{PlainLeft, name_left, concat_left, Lefts, no_left, left}
use Rattle.v_hierarchy.specs.Constants.{site_of}
use Rattle.v_binding.specs.declared.error.BindErr.{BindErr}
use Rattle.v_binding.specs.declared.error.BindErr.TheVariants as fault
use Rattle.v_binding.specs.declared.left.Left.{Left}
use Rattle.v_binding.specs.Steps.{◌>>=◌}
use Rattle.v_binding.specs.Names.{Names}
use Rattle.v_binding.specs.Lefts.{nothing_named, beside, of_width, target, targets, as_left, as_lefts}
use Rattle.bind_scopes.specs.Written.{target_in, output}
use Rattle.bind_scopes.specs.TreeTargets.{target_of_tree, targets_of_trees}

-- ---- whether all can be
pub lefts-next : (one : Tree) (rest : Trees) → is_some (as_left one) ≡ true → is_some (as_lefts (tree one rest)) ≡ is_some (as_lefts rest)
lefts-next one rest is = go (as_left one) (as_lefts rest) is
  where
    go : (x : Option PlainLeft) (xs : Option Lefts) → is_some x ≡ true
        → is_some (option_map_or (λ x. option_map_or (λ xs. Some (left x xs)) xs None) x None) ≡ is_some xs
    go None xs is = cc
    go (Some x) None is = refl
    go (Some x) (Some xs) is = refl

pub lefts-stop : (one : Tree) (rest : Trees) → is_some (as_left one) ≡ false → is_some (as_lefts (tree one rest)) ≡ false
lefts-stop one rest is = go (as_left one) is
  where
    go : (x : Option PlainLeft) → is_some x ≡ false
        → is_some (option_map_or (λ x. option_map_or (λ xs. Some (left x xs)) (as_lefts rest) None) x None) ≡ false
    go None is = refl
    go (Some x) is = cc

pub concat-left : (s : Site) (parts : Trees) → is_some (as_left (written.concat s parts)) ≡ is_some (as_lefts parts)
concat-left s parts = go (as_lefts parts)
  where
    go : (xs : Option Lefts) → is_some (option_map_or (λ list. Some (concat_left s list)) xs None) ≡ is_some xs
    go None = refl
    go (Some xs) = refl

-- behind one that can be
pub lefts-behind : (list : List Expr) (i : ℕ) (e : Expr) (b : Bool) → i < length list → e ≡ get_or list i e → b ≡ is_some (as_left (tree_of e)) → b ≡ true
    → is_some (as_lefts (trees_of (map tree_of (drop i list)))) ≡ is_some (as_lefts (trees_of (map tree_of list)))
    → is_some (as_lefts (trees_of (map tree_of (drop (i + 1) list)))) ≡ is_some (as_lefts (trees_of (map tree_of list)))
lefts-behind list i e b within is of_e holds before =
    let all : List Expr → Bool = λ xs. is_some (as_lefts (trees_of (map tree_of xs))) in
    sym (at_drop_more all list i e within ∙ ap (λ x. all (x ∷ drop (i + 1) list)) (sym is)
    ∙ lefts-next (tree_of e) (trees_of (map tree_of (drop (i + 1) list))) (sym of_e ∙ holds))
    ∙ before

pub ruleset form_steps = (lefts-next, lefts-stop, concat-left)

-- ---- what is bound of a tree that is a left side
same-then : (f g : Left → Result Left BindErr) (h : Left → Left) → ((d : Left) → f d ≡ g d) → (r : Result Left BindErr)
    → (r >>= λ y. f (h y)) ≡ (r >>= λ y. g (h y))
same-then f g h same (Ok y) = same (h y)
same-then f g h same (Err e) = refl

concat-then : (names : Names) (s : Site) (parts : Trees) (l : PlainLeft) (xs : Option Lefts)
    → ((ls : Lefts) → as_lefts parts ≡ Some ls → targets names ls nothing_named ≡ targets_of_trees names parts nothing_named) → as_lefts parts ≡ xs
    → option_map_or (λ list. Some (concat_left s list)) xs None ≡ Some l → target names l ≡ target_of_tree names (written.concat s parts)
concat-then names s parts l None inside lefts is = cc
concat-then names s parts l (Some xs) inside lefts is =
    let same : concat_left s xs ≡ l = cc in
    ap (target names) (sym same) ∙ ap (λ (r : Result Left BindErr). r >>= λ all. of_width s.span all) (inside xs lefts)

more-then : (names : Names) (one : Tree) (rest : Trees) (ls : Lefts) (done : Left) (x : Option PlainLeft) (xs : Option Lefts)
    → ((l : PlainLeft) → as_left one ≡ Some l → target names l ≡ target_of_tree names one)
    → ((ys : Lefts) (d : Left) → as_lefts rest ≡ Some ys → targets names ys d ≡ targets_of_trees names rest d) → as_left one ≡ x → as_lefts rest ≡ xs
    → option_map_or (λ y. option_map_or (λ ys. Some (left y ys)) xs None) x None ≡ Some ls
    → targets names ls done ≡ targets_of_trees names (tree one rest) done
more-then names one rest ls done None xs here there first later is = cc
more-then names one rest ls done (Some x) None here there first later is = cc
more-then names one rest ls done (Some x) (Some xs) here there first later is =
    let same : left x xs ≡ ls = cc in
    ap (λ ys. targets names ys done) (sym same)
    ∙ ap (λ (r : Result Left BindErr). r >>= λ y. targets names xs (beside done y)) (here x first)
    ∙ same-then (targets names xs) (targets_of_trees names rest) (λ y. beside done y) (λ d. there xs d later) (target_of_tree names one)

mutual
  same-target : (names : Names) (e : Tree) (l : PlainLeft) → as_left e ≡ Some l → target names l ≡ target_of_tree names e
  same-target names (written.number s text) l is = cc
  same-target names (written.wild s text) l is = cc
  same-target names (written.name s text selects) l is =
      let same : name_left s text selects ≡ l = cc in ap (target names) (sym same)
  same-target names (written.parens s inner) l is = cc
  same-target names (written.concat s parts) l is =
      concat-then names s parts l (as_lefts parts) (λ ls e. same-targets names parts ls nothing_named e) refl is
  same-target names (written.repeat s count parts) l is = cc
  same-target names (written.system s function argument) l is = cc
  same-target names (written.unary s op operand) l is = cc
  same-target names (written.binary s op one other) l is = cc
  same-target names (written.conditional s test one other) l is = cc

  same-targets : (names : Names) (es : Trees) (ls : Lefts) (done : Left) → as_lefts es ≡ Some ls → targets names ls done ≡ targets_of_trees names es done
  same-targets names no_tree ls done is = let same : no_left ≡ ls = cc in ap (λ xs. targets names xs done) (sym same)
  same-targets names (tree one rest) ls done is =
      more-then names one rest ls done (as_left one) (as_lefts rest) (λ l e. same-target names one l e) (λ ys d e. same-targets names rest ys d e) refl refl is

-- ---- what is bound of an expression
abbrev left_if : Names → Option PlainLeft → Result (Option Left) BindErr
left_if names None = Ok None
left_if names (Some l) = target names l >>= λ x. Ok (Some x)

abbrev left_or : Names → BindErr → Option PlainLeft → Result Left BindErr
left_or names e None = Err e
left_or names e (Some l) = target names l

left_if-left : (names : Names) (e : Tree) (l : Option PlainLeft) → as_left e ≡ l → is_some l ≡ true → left_if names l ≡ (target_of_tree names e >>= λ x. Ok (Some x))
left_if-left names e None same is = cc
left_if-left names e (Some l) same is = ap (λ (r : Result Left BindErr). r >>= λ x. Ok (Some x)) (same-target names e l same)

pub target_in-left : (names : Names) (e : Tree) → is_some (as_left e) ≡ true → target_in names e ≡ (target_of_tree names e >>= λ x. Ok (Some x))
target_in-left names e is = left_if-left names e (as_left e) refl is

left_if-none : (names : Names) (l : Option PlainLeft) → is_some l ≡ false → left_if names l ≡ Ok None
left_if-none names None is = refl
left_if-none names (Some l) is = cc

pub target_in-none : (names : Names) (e : Tree) → is_some (as_left e) ≡ false → target_in names e ≡ Ok None
target_in-none names e is = left_if-none names (as_left e) is

left_or-left : (names : Names) (e : Tree) (wrong : BindErr) (l : Option PlainLeft) → as_left e ≡ l → is_some l ≡ true → left_or names wrong l ≡ target_of_tree names e
left_or-left names e wrong None same is = cc
left_or-left names e wrong (Some l) same is = same-target names e l same

pub output-left : (names : Names) (e : Tree) → is_some (as_left e) ≡ true → output names e ≡ target_of_tree names e
output-left names e is = left_or-left names e (fault.PortName (site_of e).span) (as_left e) refl is

left_or-none : (names : Names) (wrong : BindErr) (l : Option PlainLeft) → is_some l ≡ false → left_or names wrong l ≡ Err wrong
left_or-none names wrong None is = refl
left_or-none names wrong (Some l) is = cc

pub output-none : (names : Names) (e : Tree) → is_some (as_left e) ≡ false → output names e ≡ Err (fault.PortName (site_of e).span)
output-none names e is = left_or-none names (fault.PortName (site_of e).span) (as_left e) is

pub ruleset written_lefts = (target_in-left, target_in-none, output-left, output-none)
