-- Connections of module instances keep what is bound well formed.
use Rattle.std.proofs.Common.{◌≡◌, ℕ, ◌≤◌, Bool, true, false, List, [], ◌∷◌, length, Option, Some, None, refl, ◌∙◌, subst, arith}
use Rattle.std.specs.Prelude.{◌==◌, if◌then◌else◌, max, Result, Ok, Err}
use Rattle.std.specs.Option.{option_map_or}
use Rattle.std.proofs.Math.Nat.{max-le, le-max_left, le-max_right}
use Rattle.std.proofs.lemmas.Bool.{and_from, eq-eqb, eqb-true, lt-ltb}
use Rattle.std.proofs.lemmas.Option.{slice_get_within}
use Rattle.loc_base.specs.declared.span.Span.{Span}
use Rattle.design_core.specs.declared.signal.Signal.{Signal}
use Rattle.design_core.specs.declared.driver.Driver.{Driver}
use Rattle.design_core.specs.declared.driver.Driver.TheVariants as driver
use Rattle.design_core.specs.declared.expression.Typed.{Typed}
use Rattle.design_core.specs.declared.expression.Node.TheVariants as node
use Rattle.design_core.specs.declared.place.PlaceKind.TheVariants as place_kind
use Rattle.design_core.specs.declared.statement.Part.TheVariants as part
use Rattle.design_core.specs.Valuation.{width_at}
use Rattle.design_core.specs.WellFormed.{is_signal, typed_fits, driver_fits}
use Rattle.design_core.proofs.ExpressionSteps.{fits_resize}
use Rattle.v_syntax.specs.Tree.{Tree}
use Rattle.v_syntax.specs.PartTree.{PlainLeft}
use Rattle.v_syntax.specs.ItemTree.{PlainConnection, PlainConnections, ordered, named}
use Rattle.v_sizes.specs.Sized.{sized}
use Rattle.v_sizes.proofs.Meant.{Within, is-width}
use Rattle.v_hierarchy.specs.Constants.{site_of}
use Rattle.v_hierarchy.specs.Items.{Child}
use Rattle.v_binding.specs.declared.error.BindErr.{BindErr}
use Rattle.v_binding.specs.declared.error.BindErr.TheVariants as fault
use Rattle.v_binding.specs.declared.left.Left.{Left}
use Rattle.v_binding.specs.Steps.{◌>>=◌}
use Rattle.v_binding.specs.Names.{Names}
use Rattle.v_binding.specs.Expressions.{assigned}
use Rattle.v_binding.specs.Lefts.{target, as_left}
use Rattle.v_binding.specs.Places.{Home}
use Rattle.v_binding.specs.Bound.{Root, Bound, with_driver, with_root}
use Rattle.v_binding.specs.Clocks.{root_named}
use Rattle.v_binding.specs.Blocks.{Frame}
use Rattle.v_binding.specs.Assignments.{driven, driven_at}
use Rattle.v_binding.specs.Connections.{Socket, Wire, wire_at, wire_named, plain_name, handed_on, input_of, output_value, output_of, connection, by_order, by_name, connected, child_of}
use Rattle.bind_laws.specs.Every.{Every}
use Rattle.bind_laws.specs.Fit.{NamesFit, LeftFits}
use Rattle.bind_laws.specs.Whole.{Whole, RootFits}
use Rattle.bind_laws.specs.Scopes.{SocketFits}
use Rattle.bind_laws.proofs.Lists.{Ok-same, Err-Ok, between}
use Rattle.bind_laws.proofs.Expressions.{sized_in-fits, assigned-wide}
use Rattle.bind_laws.proofs.Lefts.{within-is, target-fits}
use Rattle.bind_laws.proofs.Bodies.{assignment-fits}
use Rattle.bind_laws.proofs.Goes.{Goes, goes-nowhere, goes-on, driver-more, root-more, driven-goes, driven_at-goes}
use Rattle.bind_laws.proofs.Drivers.{there-width}
use Rattle.bind_laws.proofs.Blocks.{named-fits}

-- ---- the signal of a port
pub socket-there : (signals : List Signal) (p : Socket) → SocketFits signals p → is_signal signals p.signal ≡ true
socket-there signals p fits = lt-ltb p.signal (length signals) (slice_get_within signals p.signal fits.there.signal fits.there.there)

pub socket-width : (signals : List Signal) (p : Socket) → SocketFits signals p → width_at signals p.signal ≡ p.width
socket-width signals p fits = there-width signals p.width fits.left fits.right p.signal fits.there

socket-within : (signals : List Signal) (p : Socket) → SocketFits signals p → Within p.width
socket-within signals p fits = record { least = fits.least; most = fits.most }

-- a port as a left side
whole_port : Socket → Left
whole_port p = record { parts = part.Whole p.signal ∷ []; width = p.width; named = p.signal }

port-left : (signals : List Signal) (p : Socket) → SocketFits signals p → LeftFits signals (whole_port p)
unfolding whole_port
port-left signals p fits = record {
  parts = and_from _ _ (socket-there signals p fits) refl;
  of_width = omega (arith, socket-width signals p fits);
  width = is-width p.width (socket-within signals p fits);
}

-- ---- inputs
input-driver : (w : Whole) (p : Socket) (e : Typed) (span : Span) → SocketFits w.signals p
    → typed_fits w.signals e ≡ true → p.width ≤ e.width
    → driver_fits w.signals w.places (driver.Cont (record { parts = part.Whole p.signal ∷ [] }) e None span) ≡ true
unfolding whole_port
input-driver w p e span fits value wide =
    and_from _ _ (assignment-fits w.signals (whole_port p) e (record { target = port-left w.signals p fits; value = value; wide = wide })) refl

handed-fits : (w : Whole) (names : Names) (b : Bound) (p : Socket) (e : Tree) (input : ℕ)
    → Every (λ (r : Root). RootFits w r.input) b.roots
    → handed_on names b p e ≡ Some input → RootFits w input
handed-fits w names b p e input roots is = by (p.width == 1) (plain_name e) is
  where
    by : (one : Bool) (o : Option (List ℕ))
        → (if one then option_map_or (root_named b.roots names) o None else None) ≡ Some input → RootFits w input
    by true None is = cc
    by true (Some text) is = named-fits w b.roots names text input roots is
    by false o is = cc

input-goes : (w : Whole) (f : Frame) (names : Names) (p : Socket) (x : Wire) (b c : Bound) → NamesFit w.signals names
    → SocketFits w.signals p
    → input_of f names p x b ≡ Ok c → Goes w b c
input-goes w f names p x b c fit fits is =
    between (assigned names x.value p.width) (λ e. driven_by e) c (Goes w b c) is λ e first last.
    let s = sized_in-fits w.signals names x.value p.width false e fit fits.most first in
    by e (input-driver w p e x.site.span fits s.fits (assigned-wide w.signals names x.value p.width false e s)) (handed_on names b p x.value) refl last
  where
    of : Typed → Driver
    of e = driver.Cont (record { parts = part.Whole p.signal ∷ [] }) e None x.site.span

    driven_by : Typed → Result Bound BindErr
    driven_by e = elim (handed_on names b p x.value) [
      | Some input ↦ Ok (with_root (record { signal = p.signal; input = input }) (with_driver (of e) b))
      | None ↦ Ok (driven f x.site.span (of e) b)
    ]

    by : (e : Typed) → driver_fits w.signals w.places (of e) ≡ true → (o : Option ℕ) → handed_on names b p x.value ≡ o
        → ◌≡◌ {A = Result Bound BindErr} (elim o [
          | Some input ↦ Ok (with_root (record { signal = p.signal; input = input }) (with_driver (of e) b))
          | None ↦ Ok (driven f x.site.span (of e) b)
        ]) (Ok c) → Goes w b c
    by e drives None at is = subst (Goes w b) (Ok-same is) (driven-goes w f x.site.span (of e) b drives (λ p. refl))
    by e drives (Some input) at is =
        subst (Goes w b) (Ok-same is)
        (λ begins. record {
          front = begins;
          keeps = λ before. root-more w (record { signal = p.signal; input = input }) (with_driver (of e) b)
              (handed-fits w names b p x.value input before.roots at)
              (driver-more w b.places (of e) b drives (λ p. omega arith) (λ all. all) before);
        })

-- ---- outputs
-- the value of an output for a left side
pub record Reaches (signals : List Signal) (width : ℕ) (e : Typed) : Type 0 where
  pub wide : width ≤ e.width
  pub fits : typed_fits signals e ≡ true

output-value : (signals : List Signal) (p : Socket) (width : ℕ) → SocketFits signals p → width ≤ 128
    → Reaches signals width (output_value p width)
output-value signals p width fits most = by (p.width == max width p.width) refl
  where
    whole : Typed
    whole = sized p.width p.signed (node.Whole p.signal)

    plain : typed_fits signals whole ≡ true
    plain = and_from _ _ (and_from _ _ (is-width p.width (socket-within signals p fits)) (socket-there signals p fits))
        (eq-eqb (width_at signals p.signal) p.width (socket-width signals p fits))

    by : (same : Bool) → (p.width == max width p.width) ≡ same
        → Reaches signals width (if same then whole else sized (max width p.width) p.signed (node.Resize whole))
    by true is = record { wide = omega (arith, eqb-true p.width (max width p.width) is, le-max_left width p.width); fits = plain }
    by false is = record {
      wide = le-max_left width p.width;
      fits = fits_resize signals p.signed (max width p.width) whole
          ∙ and_from _ _ (is-width (max width p.width) (record { least = omega (arith, fits.least, le-max_right width p.width); most = max-le most fits.most })) plain;
    }

output-goes : (w : Whole) (f : Frame) (home : Home) (names : Names) (copy : ℕ) (p : Socket) (x : Wire) (b c : Bound)
    → NamesFit w.signals names → SocketFits w.signals p
    → output_of f home names copy p x b ≡ Ok c → Goes w b c
output-goes w f home names copy p x b c fit fits is = by (as_left x.value) is
  where
    by : (o : Option PlainLeft) → ◌≡◌ {A = Result Bound BindErr} (elim o [
      | None ↦ Err (fault.PortName (site_of x.value).span)
      | Some left ↦ target names left >>= λ l. Ok (driven_at f home place_kind.PortOut x.site copy x.site.span l (output_value p l.width) b)
    ]) (Ok c) → Goes w b c
    by None is = Err-Ok is
    by (Some left) is =
        between (target names left) (λ l. Ok (driven_at f home place_kind.PortOut x.site copy x.site.span l (output_value p l.width) b)) c (Goes w b c) is λ l first last.
        let t = target-fits w.signals names left l fit first in
        let v = output-value w.signals p l.width fits (within-is l.width t.width).most in
        subst (Goes w b) (Ok-same last)
        (driven_at-goes w f home place_kind.PortOut x.site copy x.site.span l (output_value p l.width) b (record { target = t; value = v.fits; wide = v.wide }))

-- ---- all of an instance
connection-goes : (w : Whole) (f : Frame) (home : Home) (names : Names) (copy : ℕ) (p : Socket) (o : Option Wire)
    (b c : Bound) → NamesFit w.signals names → SocketFits w.signals p
    → connection f home names copy p o b ≡ Ok c → Goes w b c
connection-goes w f home names copy p None b c fit fits is = subst (Goes w b) (Ok-same is) (goes-nowhere w b)
connection-goes w f home names copy p (Some x) b c fit fits is = by p.input is
  where
    by : (input : Bool)
        → ◌≡◌ {A = Result Bound BindErr} (if input then input_of f names p x b else output_of f home names copy p x b)
        (Ok c) → Goes w b c
    by true is = input-goes w f names p x b c fit fits is
    by false is = output-goes w f home names copy p x b c fit fits is

order-goes : (w : Whole) (f : Frame) (home : Home) (names : Names) (copy : ℕ) (ps : List Socket)
    (values : List (Option Tree)) (b c : Bound) → NamesFit w.signals names → Every (SocketFits w.signals) ps
    → by_order f home names copy ps values b ≡ Ok c → Goes w b c
order-goes w f home names copy [] values b c fit fits is = subst (Goes w b) (Ok-same is) (goes-nowhere w b)
order-goes w f home names copy (p ∷ ps) [] b c fit fits is = subst (Goes w b) (Ok-same is) (goes-nowhere w b)
order-goes w f home names copy (p ∷ ps) (value ∷ values) b c fit fits is =
    let wire : Option Wire = option_map_or (λ e. Some (wire_at e)) value None in
    between (connection f home names copy p wire b) (by_order f home names copy ps values) c (Goes w b c) is λ more first rest.
    goes-on w b more c (connection-goes w f home names copy p wire b more fit fits.0 first) (order-goes w f home names copy ps values more c fit fits.1 rest)

name-goes : (w : Whole) (f : Frame) (home : Home) (names : Names) (copy : ℕ) (list : List PlainConnection)
    (ps : List Socket) (b c : Bound) → NamesFit w.signals names → Every (SocketFits w.signals) ps
    → by_name f home names copy list ps b ≡ Ok c → Goes w b c
name-goes w f home names copy list [] b c fit fits is = subst (Goes w b) (Ok-same is) (goes-nowhere w b)
name-goes w f home names copy list (p ∷ ps) b c fit fits is =
    between (connection f home names copy p (wire_named p.name list) b) (by_name f home names copy list ps) c (Goes w b c) is λ more first rest.
    goes-on w b more c (connection-goes w f home names copy p (wire_named p.name list) b more fit fits.0 first) (name-goes w f home names copy list ps more c fit fits.1 rest)

connected-goes : (w : Whole) (f : Frame) (home : Home) (names : Names) (copy : ℕ) (ps : List Socket)
    (x : PlainConnections) (b c : Bound) → NamesFit w.signals names → Every (SocketFits w.signals) ps
    → connected f home names copy ps x b ≡ Ok c → Goes w b c
connected-goes w f home names copy ps (ordered values) b c fit fits is = order-goes w f home names copy ps values b c fit fits is
connected-goes w f home names copy ps (named list) b c fit fits is = name-goes w f home names copy list ps b c fit fits is

pub child-goes : (w : Whole) (f : Frame) (home : Home) (names : Names) (ps : List Socket) (x : Child) (b c : Bound)
    → NamesFit w.signals names → Every (SocketFits w.signals) ps
    → child_of f home names ps x b ≡ Ok c → Goes w b c
child-goes w f home names ps x b c fit fits is =
    connected-goes w f (record { «module» = home.«module»; path = x.path; item = home.item }) names (length b.places) ps x.connections b c fit fits is
