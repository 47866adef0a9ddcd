-- The context of a case is at least as wide as each of its expressions, and its labels are of its width.
use Rattle.std.proofs.Common.{◌≡◌, ℕ, ◌≤◌, Bool, true, List, [], ◌∷◌, ◌++◌, refl, ◌∙◌, subst, arith}
use Rattle.std.specs.Prelude.{⊤, not, Ok}
use Rattle.std.specs.List.{list_all}
use Rattle.std.proofs.lemmas.Bool.{and_parts, and_from, eq-eqb}
use Rattle.std.proofs.Math.Nat.{max-eq_left, le-max_left, le-max_right}
use Rattle.loc_base.specs.Bits.{width_of}
use Rattle.design_core.specs.declared.signal.Signal.{Signal}
use Rattle.design_core.specs.declared.expression.Typed.{Typed}
use Rattle.design_core.specs.declared.statement.Label.{Label}
use Rattle.design_core.specs.WellFormed.{label_fits}
use Rattle.v_syntax.specs.Tree.{Tree}
use Rattle.v_sizes.specs.Word.{word}
use Rattle.v_sizes.specs.Sizing.{sizing}
use Rattle.v_sizes.proofs.Meant.{Within}
use Rattle.v_sizes.proofs.Accepted.{max-within}
use Rattle.v_hierarchy.specs.Unrolled.{Arms, no_arm, arm, default_arm}
use Rattle.v_binding.specs.Steps.{each, through}
use Rattle.v_binding.specs.Names.{Names, look_in}
use Rattle.v_binding.specs.Expressions.{sized_in}
use Rattle.v_binding.specs.Cases.{Context, with_label, with_arms, context_of, wild_bits, label_at}
use Rattle.bind_laws.specs.Every.{Every}
use Rattle.bind_laws.specs.Fit.{NamesFit}
use Rattle.bind_laws.proofs.Lists.{Ok-same, between}
use Rattle.bind_laws.proofs.Expressions.{own_width, own-within, IsSized, sized_in-fits}
use Rattle.bind_laws.proofs.Lefts.{word-width}

-- labels that are no wider than a context
abbrev pub AreNarrow : Names → ℕ → List Tree → Type 0
AreNarrow names width labels = Every (λ e. own_width names e ≤ width) labels

abbrev pub ArmsNarrow : Names → ℕ → Arms → Type 0
ArmsNarrow names width no_arm = ⊤
ArmsNarrow names width (arm labels _ rest) = AreNarrow names width labels × ArmsNarrow names width rest
ArmsNarrow names width (default_arm _ rest) = ArmsNarrow names width rest

-- what gathering of widths gives
pub record Widens (signals : List Signal) (before after : ℕ) : Type 0 where
  pub wider : before ≤ after
  pub within : Within after

narrower : (names : Names) (labels : List Tree) (a b : ℕ) → a ≤ b → AreNarrow names a labels → AreNarrow names b labels
narrower names [] a b less all = tt
narrower names (e ∷ es) a b less all = (omega (arith, less, all.0), narrower names es a b less all.1)

labels-narrow : (signals : List Signal) (names : Names) (labels : List Tree) (c : Context) → NamesFit signals names
    → Within c.width
    → Widens signals c.width (through (with_label names) labels c).width × AreNarrow names (through (with_label names) labels c).width labels
labels-narrow signals names [] c fit within = (record { wider = omega arith; within = within }, tt)
labels-narrow signals names (e ∷ es) c fit within =
    let next = with_label names e c in
    let more = labels-narrow signals names es next fit (max-within c.width (own_width names e) within (own-within signals names e fit)) in
    let first : c.width ≤ next.width = le-max_left c.width (own_width names e) in
    let own : own_width names e ≤ next.width = le-max_right c.width (own_width names e) in
    (record { wider = omega (arith, more.0.wider, first); within = more.0.within }, (omega (arith, more.0.wider, own), more.1))

arms-narrow : (signals : List Signal) (names : Names) (arms : Arms) (c : Context) → NamesFit signals names
    → Within c.width
    → Widens signals c.width (with_arms names arms c).width × ArmsNarrow names (with_arms names arms c).width arms
arms-narrow signals names no_arm c fit within = (record { wider = omega arith; within = within }, tt)
arms-narrow signals names (arm labels x rest) c fit within =
    let first = labels-narrow signals names labels c fit within in
    let more = arms-narrow signals names rest (through (with_label names) labels c) fit first.0.within in (
      record { wider = omega (arith, first.0.wider, more.0.wider); within = more.0.within },
      (narrower names labels (through (with_label names) labels c).width (with_arms names (arm labels x rest) c).width more.0.wider first.1, more.1),
    )
arms-narrow signals names (default_arm x rest) c fit within = arms-narrow signals names rest c fit within

abbrev start_of : Names → Tree → Context
start_of names subject = record { width = (sizing (look_in names) subject).width; signed = (sizing (look_in names) subject).signed }

-- the context of a case, its subject and its labels
pub record Holds (signals : List Signal) (names : Names) (subject : Tree) (arms : Arms) : Type 0 where
  pub within : Within (context_of names subject arms).width
  pub narrow : own_width names subject ≤ (context_of names subject arms).width
  pub labels : ArmsNarrow names (context_of names subject arms).width arms

pub context-holds : (signals : List Signal) (names : Names) (subject : Tree) (arms : Arms) → NamesFit signals names
    → Holds signals names subject arms
context-holds signals names subject arms fit =
    let start : Within (own_width names subject) = own-within signals names subject fit in
    let all = arms-narrow signals names arms (start_of names subject) fit start in
    record { within = all.0.within; narrow = all.0.wider; labels = all.1 }

-- an expression that is no wider than its context is of the context's width
pub sized-width : (signals : List Signal) (names : Names) (e : Tree) (width : ℕ) (unsigned : Bool) (x : Typed)
    → own_width names e ≤ width
    → IsSized signals names e width unsigned x → x.width ≡ width
sized-width signals names e width unsigned x narrow sized = sized.of_width ∙ max-eq_left narrow

label-fits : (signals : List Signal) (names : Names) (c : Context) (e : Tree) (done after : List Label)
    → NamesFit signals names → Within c.width
    → own_width names e ≤ c.width → label_at names c e done ≡ Ok after
    → list_all (label_fits signals c.width) done ≡ true → list_all (label_fits signals c.width) after ≡ true
label-fits signals names c e done after fit within narrow is before =
    between (sized_in names e c.width (not c.signed)) (λ value. Ok (done ++ label value ∷ [])) after (list_all (label_fits signals c.width) after ≡ true) is λ value sizes made.
    let x = sized_in-fits signals names e c.width (not c.signed) value fit within.most sizes in
    let one : label_fits signals c.width (label value) ≡ true =
    and_from _ _ (and_from _ _ x.fits (eq-eqb value.width c.width (sized-width signals names e c.width (not c.signed) value narrow x)))
    (eq-eqb (width_of (word c.width (wild_bits c e))) c.width (word-width c.width (wild_bits c e) within)) in
    subst (λ ls. list_all (label_fits signals c.width) ls ≡ true) (Ok-same made) (pushed done before (label value) one)
  where
    label : Typed → Label
    label value = record { value = value; wild = word c.width (wild_bits c e) }

    pushed : (xs : List Label) → list_all (label_fits signals c.width) xs ≡ true → (x : Label)
        → label_fits signals c.width x ≡ true
        → list_all (label_fits signals c.width) (xs ++ x ∷ []) ≡ true
    pushed [] all x one = and_from _ _ one refl
    pushed (y ∷ ys) all x one = let f = and_parts _ _ all in and_from _ _ f.0 (pushed ys f.1 x one)

pub labels-fit : (signals : List Signal) (names : Names) (c : Context) (labels : List Tree) (done after : List Label)
    → NamesFit signals names → Within c.width
    → AreNarrow names c.width labels → each (label_at names c) labels done ≡ Ok after
    → list_all (label_fits signals c.width) done ≡ true → list_all (label_fits signals c.width) after ≡ true
labels-fit signals names c [] done after fit within narrow is before = subst (λ ls. list_all (label_fits signals c.width) ls ≡ true) (Ok-same is) before
labels-fit signals names c (e ∷ es) done after fit within narrow is before =
    between (label_at names c e done) (each (label_at names c) es) after (list_all (label_fits signals c.width) after ≡ true) is λ more first rest.
    labels-fit signals names c es more after fit within narrow.1 rest (label-fits signals names c e done more fit within narrow.0 first before)
