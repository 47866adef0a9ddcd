-- Continuous assignments, values of declarations, initial blocks and gates keep what is bound well formed.
use Rattle.std.proofs.Common.{◌≡◌, ℕ, false, List, [], ◌∷◌, ◌++◌, length, Option, Some, None, refl, sym, ◌∙◌, ap, subst}
use Rattle.std.specs.Prelude.{Result, Ok, Err}
use Rattle.std.specs.Option.{option_map_or}
use Rattle.loc_base.specs.declared.span.Span.{Span}
use Rattle.design_core.specs.declared.signal.Signal.{Signal}
use Rattle.design_core.specs.declared.expression.Typed.{Typed}
use Rattle.design_core.specs.declared.place.PlaceKind.TheVariants as place_kind
use Rattle.design_core.specs.Valuation.{width_at}
use Rattle.v_syntax.specs.declared.item.GateKind.{GateKind}
use Rattle.v_syntax.specs.declared.item.NetKind.{NetKind}
use Rattle.v_syntax.specs.declared.item.NetKind.TheVariants as net_kind
use Rattle.v_syntax.specs.declared.site.Site.{Site}
use Rattle.v_syntax.specs.Tree.{Tree, no_select}
use Rattle.v_syntax.specs.PartTree.{PlainRange, PlainLeft, name_left, concat_left}
use Rattle.v_syntax.specs.StatementTree.{PlainStatement, empty, block, delayed, if_then, if_else, choice, loop, assignment, Statements, no_statement, statement}
use Rattle.v_syntax.specs.ItemTree.{PlainDeclarator, PlainAssignment, PlainGate}
use Rattle.v_sizes.specs.declared.meaning.Const.{Const}
use Rattle.v_sizes.specs.declared.meaning.Meaning.TheVariants as meaning
use Rattle.v_sizes.specs.Context.{IsThere}
use Rattle.v_sizes.proofs.Meant.{Within}
use Rattle.v_hierarchy.specs.Constants.{site_of}
use Rattle.v_binding.specs.declared.error.BindErr.{BindErr}
use Rattle.v_binding.specs.declared.error.BindErr.TheVariants as fault
use Rattle.v_binding.specs.declared.known.Use.{Use}
use Rattle.v_binding.specs.declared.known.Use.TheVariants.{Stands as stands, AtTurn as at_turn, Outside as outside}
use Rattle.v_binding.specs.Steps.{◌>>=◌, each}
use Rattle.v_binding.specs.Names.{Names, find}
use Rattle.v_binding.specs.Expressions.{assigned, constant_at}
use Rattle.v_binding.specs.Addresses.{Addresses, addresses_at, counted}
use Rattle.v_binding.specs.Lefts.{target, as_left}
use Rattle.v_binding.specs.Places.{Home}
use Rattle.v_binding.specs.Starts.{start, initially}
use Rattle.v_binding.specs.Bound.{Bound, with_words, with_declared, with_initial}
use Rattle.v_binding.specs.Blocks.{Frame}
use Rattle.v_binding.specs.Assignments.{driven_at, continuous, assignment_of, array_of, width_of as own_width_of, number_of, start_at, value_at, declarator_of, initial_fault, initial_at, initial_block, initial_all}
use Rattle.v_binding.specs.Gates.{Output, terminals_fit, outputs_of, inputs_of, output_at, input_at, outputs_driven, value_of_gate, for_width, gate_home, gate_of}
use Rattle.bind_laws.specs.Every.{Every}
use Rattle.bind_laws.specs.Fit.{UseFits, NamesFit, LeftFits}
use Rattle.bind_laws.specs.Whole.{Whole, StartFits}
use Rattle.bind_laws.specs.Scopes.{NamesSignal, HasSignal}
use Rattle.bind_laws.proofs.Lists.{Ok-same, Err-Ok, between, Every-push}
use Rattle.bind_laws.proofs.Names.{find-every}
use Rattle.bind_laws.proofs.Expressions.{sized_in-fits, assigned-wide}
use Rattle.bind_laws.proofs.Lefts.{word-width, within-is, target-fits}
use Rattle.bind_laws.proofs.GateValues.{IsBit, inputs-bits, no-inputs, gate-bit, for_width-fits}
use Rattle.bind_laws.proofs.Goes.{Goes, goes-nowhere, goes-on, declared-more, initial-more, words-more, driven_at-goes}

-- ---- continuous assignments
pub continuous-goes : (w : Whole) (f : Frame) (home : Home) (names : Names) (site : Site) (left : PlainLeft)
    (value : Tree) (b c : Bound) → NamesFit w.signals names
    → continuous f home names site left value b ≡ Ok c → Goes w b c
continuous-goes w f home names site left value b c fit is =
    between (target names left) (λ l. assigned names value l.width >>= λ e. Ok (driven_at f home place_kind.Assign site 0 site.span l e b)) c (Goes w b c) is λ l first is.
    between (assigned names value l.width) (λ e. Ok (driven_at f home place_kind.Assign site 0 site.span l e b)) c (Goes w b c) is λ e second last.
    let target = target-fits w.signals names left l fit first in
    let sized = sized_in-fits w.signals names value l.width false e fit (within-is l.width target.width).most second in
    subst (Goes w b) (Ok-same last)
    (driven_at-goes w f home place_kind.Assign site 0 site.span l e b (record { target = target; value = sized.fits; wide = assigned-wide w.signals names value l.width false e sized }))

pub assignment-goes : (w : Whole) (f : Frame) (home : Home) (names : Names) (a : PlainAssignment) (b c : Bound)
    → NamesFit w.signals names
    → assignment_of f home names a b ≡ Ok c → Goes w b c
assignment-goes w f home names a b c fit is = continuous-goes w f home names a.site a.target a.value b c fit is

-- ---- start values
pub there-width : (signals : List Signal) (width : ℕ) (left right : _) (number : ℕ)
    → IsThere signals width left right number → width_at signals number ≡ width
there-width signals width left right number is =
    ap (λ o. option_map_or (λ (s : Signal). s.width) o 0) is.there ∙ is.is.of_width

start-fits : (w : Whole) (names : Names) (name : List ℕ) (c : Const) → NamesFit w.signals names
    → NamesSignal (find names name)
    → StartFits w (start (number_of (find names name)) (own_width_of (find names name)) c)
start-fits w names name c fit named =
    let found = find-every (UseFits w.signals) names name (stands (meaning.Signal named.signal named.width named.signed named.left named.right)) fit named.is in
    let within : Within named.width = record { least = found.0.least; most = found.0.most } in
    subst (λ o. StartFits w (start (number_of o) (own_width_of o) c)) (sym named.is)
    (word-width named.width _ within ∙ sym (there-width w.signals named.width named.left named.right named.signal found.1))

pub start-goes : (w : Whole) (names : Names) (name : List ℕ) (value : Tree) (b c : Bound) → NamesFit w.signals names
    → NamesSignal (find names name)
    → start_at names name value b ≡ Ok c → Goes w b c
start-goes w names name value b c fit named is =
    let own = find names name in
    between (constant_at names value (own_width_of own)) (λ k. Ok (with_declared (start (number_of own) (own_width_of own) k) b)) c (Goes w b c) is λ k first last.
    subst (Goes w b) (Ok-same last)
    (λ begins. record { front = begins; keeps = λ before. declared-more w (start (number_of own) (own_width_of own) k) b (start-fits w names name k fit named) before })

-- ---- declarations
array-goes : (w : Whole) (names : Names) (d : PlainDeclarator) (b c : Bound) → array_of names d b ≡ Ok c → Goes w b c
array-goes w names d b c is = by d.range is
  where
    counts : PlainRange → Addresses → Result Bound BindErr
    counts r a = counted d.site.span b.words a >>= λ words. Ok (with_words words b)

    by : (o : Option PlainRange) → ◌≡◌ {A = Result Bound BindErr} (elim o [
      | None ↦ Ok b
      | Some r ↦ addresses_at names d.site.span r >>= λ a. counted d.site.span b.words a >>= λ words. Ok (with_words words b)
    ]) (Ok c) → Goes w b c
    by None is = subst (Goes w b) (Ok-same is) (goes-nowhere w b)
    by (Some r) is =
        between (addresses_at names d.site.span r) (counts r) c (Goes w b c) is λ a first is.
        between (counted d.site.span b.words a) (λ words. Ok (with_words words b)) c (Goes w b c) is λ words second last.
        subst (Goes w b) (Ok-same last) (λ begins. record { front = begins; keeps = λ before. words-more w words b before })

value-goes : (w : Whole) (f : Frame) (home : Home) (names : Names) (kind : NetKind) (d : PlainDeclarator)
    (value : Tree) (b c : Bound) → NamesFit w.signals names
    → HasSignal names kind (record { site = d.site; name = d.name; range = d.range; value = Some value })
    → value_at f home names kind d value b ≡ Ok c → Goes w b c
value-goes w f home names net_kind.Wire d value b c fit has is = continuous-goes w f home names d.site (name_left d.name.site d.name.name no_select) value b c fit is
value-goes w f home names net_kind.Reg d value b c fit has is = start-goes w names d.name.name value b c fit has is

pub declarator-goes : (w : Whole) (f : Frame) (home : Home) (names : Names) (kind : NetKind) (d : PlainDeclarator)
    (b c : Bound) → NamesFit w.signals names → HasSignal names kind d
    → declarator_of f home names kind d b ≡ Ok c → Goes w b c
declarator-goes w f home names kind d b c fit has is =
    between (array_of names d b) rest c (Goes w b c) is λ more first second.
    goes-on w b more c (array-goes w names d b more first) (by d.value has more second)
  where
    rest : Bound → Result Bound BindErr
    rest more = elim d.value [
      | None ↦ Ok more
      | Some value ↦ value_at f home names kind d value more
    ]

    by : (o : Option Tree)
        → HasSignal names kind (record { site = d.site; name = d.name; range = d.range; value = o }) → (more : Bound)
        → ◌≡◌ {A = Result Bound BindErr} (elim o [
          | None ↦ Ok more
          | Some value ↦ value_at f home names kind d value more
        ]) (Ok c) → Goes w more c
    by None has more is = subst (Goes w more) (Ok-same is) (goes-nowhere w more)
    by (Some value) has more is = value-goes w f home names kind d value more c fit has is

-- ---- initial blocks
signal-named : (span : Span) (o : Option Use) → initial_fault span o ≡ None → NamesSignal o
signal-named span None is = cc
signal-named span (Some (at_turn _)) is = cc
signal-named span (Some outside) is = cc
signal-named span (Some (stands (meaning.Constant _ _ _))) is = cc
signal-named span (Some (stands (meaning.Signal signal width signed left right))) is =
    record { signal = signal; width = width; signed = signed; left = left; right = right; is = refl }
signal-named span (Some (stands (meaning.Array _ _ _ _ _ _ _))) is = cc

initial-goes : (w : Whole) (names : Names) (site : Site) (name : List ℕ) (value : Tree) (b c : Bound)
    → NamesFit w.signals names
    → initial_at names site name value b ≡ Ok c → Goes w b c
initial-goes w names site name value b c fit is = by (initial_fault site.span own) refl is
  where
    own : Option Use
    own = find names name

    made : Const → Bound
    made k = with_initial (initially site.span (start (number_of own) (own_width_of own) k)) b

    by : (o : Option BindErr) → initial_fault site.span own ≡ o → ◌≡◌ {A = Result Bound BindErr} (elim o [
      | Some wrong ↦ Err wrong
      | None ↦ constant_at names value (own_width_of own) >>= λ k. Ok (made k)
    ]) (Ok c) → Goes w b c
    by (Some wrong) free is = Err-Ok is
    by None free is =
        between (constant_at names value (own_width_of own)) (λ k. Ok (made k)) c (Goes w b c) is λ k first last.
        subst (Goes w b) (Ok-same last)
        (λ begins. record {
          front = begins;
          keeps = λ before. initial-more w (initially site.span (start (number_of own) (own_width_of own) k)) b
              (start-fits w names name k fit (signal-named site.span own free)) before;
        })

same-goes : (w : Whole) (b c : Bound) → ◌≡◌ {A = Result Bound BindErr} (Ok b) (Ok c) → Goes w b c
same-goes w b c is = subst (Goes w b) (Ok-same is) (goes-nowhere w b)

mutual
  pub initial_block-goes : (w : Whole) (names : Names) (s : PlainStatement) (b c : Bound) → NamesFit w.signals names
      → initial_block names s b ≡ Ok c → Goes w b c
  initial_block-goes w names (block _ _ body) b c fit is = initial_all-goes w names body b c fit is
  initial_block-goes w names (assignment _ (name_left site name _) _ _ value) b c fit is = initial-goes w names site name value b c fit is
  initial_block-goes w names (assignment _ (concat_left _ _) _ _ _) b c fit is = same-goes w b c is
  initial_block-goes w names (empty _) b c fit is = same-goes w b c is
  initial_block-goes w names (delayed _ _ _) b c fit is = same-goes w b c is
  initial_block-goes w names (if_then _ _ _) b c fit is = same-goes w b c is
  initial_block-goes w names (if_else _ _ _ _) b c fit is = same-goes w b c is
  initial_block-goes w names (choice _ _ _ _) b c fit is = same-goes w b c is
  initial_block-goes w names (loop _ _ _) b c fit is = same-goes w b c is

  initial_all-goes : (w : Whole) (names : Names) (xs : Statements) (b c : Bound) → NamesFit w.signals names
      → initial_all names xs b ≡ Ok c → Goes w b c
  initial_all-goes w names no_statement b c fit is = same-goes w b c is
  initial_all-goes w names (statement x xs) b c fit is =
      between (initial_block names x b) (initial_all names xs) c (Goes w b c) is λ more first rest.
      goes-on w b more c (initial_block-goes w names x b more fit first) (initial_all-goes w names xs more c fit rest)

-- ---- gates
abbrev OutputsFit : Whole → List Output → Type 0
OutputsFit w os = Every (λ (o : Output). LeftFits w.signals o.left) os

outputs-fit : (w : Whole) (names : Names) (es : List Tree) (before after : List Output) → NamesFit w.signals names
    → OutputsFit w before
    → each (output_at names) es before ≡ Ok after → OutputsFit w after
outputs-fit w names [] before after fit fits is = subst (λ os. OutputsFit w os) (Ok-same is) fits
outputs-fit w names (e ∷ es) before after fit fits is =
    between (output_at names e before) (each (output_at names) es) after (OutputsFit w after) is λ more first rest.
    outputs-fit w names es more after fit (by (as_left e) more first) rest
  where
    by : (o : Option PlainLeft) (more : List Output) → ◌≡◌ {A = Result (List Output) BindErr} (elim o [
      | None ↦ Err (fault.PortName (site_of e).span)
      | Some l ↦ target names l >>= λ x. Ok (before ++ record { site = site_of e; left = x } ∷ [])
    ]) (Ok more) → OutputsFit w more
    by None more is = Err-Ok is
    by (Some l) more is =
        between (target names l) (λ x. Ok (before ++ record { site = site_of e; left = x } ∷ [])) more (OutputsFit w more) is λ x first last.
        subst (λ os. OutputsFit w os) (Ok-same last)
        (Every-push (λ (o : Output). LeftFits w.signals o.left) before (record { site = site_of e; left = x }) fits (target-fits w.signals names l x fit first))

outputs-go : (w : Whole) (f : Frame) (home : Home) (span : Span) (copy : ℕ) (e : Typed) (os : List Output) (b : Bound)
    → IsBit w.signals e → OutputsFit w os
    → Goes w b (outputs_driven f home span copy e os b)
outputs-go w f home span copy e [] b bit fits = goes-nowhere w b
outputs-go w f home span copy e (o ∷ os) b bit fits =
    let value = for_width-fits w.signals o.left.width e (within-is o.left.width fits.0.width) bit in
    let next = driven_at f home place_kind.Gate o.site copy span o.left (for_width o.left.width e) b in
    goes-on w b next (outputs_driven f home span copy e os next)
    (driven_at-goes w f home place_kind.Gate o.site copy span o.left (for_width o.left.width e) b (record { target = fits.0; value = value.fits; wide = value.wide }))
    (outputs-go w f home span copy e os next bit fits.1)

no-outputs : (w : Whole) → OutputsFit w []
no-outputs w = tt

pub gate-goes : (w : Whole) (f : Frame) (home : Home) (names : Names) (kind : GateKind) (g : PlainGate) (b c : Bound)
    → NamesFit w.signals names
    → gate_of f home names kind g b ≡ Ok c → Goes w b c
gate-goes w f home names kind g b c fit is =
    between (terminals_fit kind g) (λ _. each (output_at names) (outputs_of kind g.terminals) [] >>= after) c (Goes w b c) is λ _ _ is.
    between (each (output_at names) (outputs_of kind g.terminals) []) after c (Goes w b c) is λ outputs second is.
    between (each (input_at names kind) (inputs_of kind g.terminals) None) (λ inputs. Ok (made outputs inputs)) c (Goes w b c) is λ inputs third last.
    subst (Goes w b) (Ok-same last)
    (outputs-go w f (gate_home home g) g.site.span (length b.places) (value_of_gate kind inputs) outputs b
    (gate-bit w.signals kind inputs (inputs-bits w.signals names kind (inputs_of kind g.terminals) None inputs fit (no-inputs w.signals) third))
    (outputs-fit w names (outputs_of kind g.terminals) [] outputs fit (no-outputs w) second))
  where
    made : List Output → Option Typed → Bound
    made outputs inputs = outputs_driven f (gate_home home g) g.site.span (length b.places) (value_of_gate kind inputs) outputs b

    after : List Output → Result Bound BindErr
    after outputs = each (input_at names kind) (inputs_of kind g.terminals) None >>= λ inputs. Ok (made outputs inputs)
