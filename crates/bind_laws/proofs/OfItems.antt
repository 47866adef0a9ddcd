-- What items make is as a text means it.
use Rattle.std.proofs.Common.{◌≡◌, ℕ, Bool, true, false, List, [], ◌∷◌, ◌++◌, Option, Some, None, refl, sym, ◌∙◌, ap, subst}
use Rattle.std.specs.Prelude.{⊤, if◌then◌else◌, map, Result, Ok, Err}
use Rattle.std.proofs.lemmas.List.{append-nil, append_assoc}
use Rattle.loc_base.specs.declared.span.Span.{Span}
use Rattle.std.proofs.lemmas.Option.{none-some}
use Rattle.loc_base.proofs.ShelfOptions.{Some-same}
use Rattle.v_syntax.specs.declared.site.Site.{Site}
use Rattle.v_syntax.specs.declared.declaration.Identifier.{Identifier}
use Rattle.v_syntax.specs.StatementTree.{PlainHead}
use Rattle.v_syntax.specs.ItemTree.{PlainInstance, PlainItem, port_item, net_item, integer_item, genvar_item, parameter_item, assign_item, gate_item, always_item, initial_item, instance_item, generate_item, loop_item, if_item, if_else_item, PlainBlock, single, several, Items, no_items, more_items}
use Rattle.v_syntax.specs.ModuleTree.{PlainModule}
use Rattle.v_sizes.specs.declared.meaning.Const.{Const}
use Rattle.v_hierarchy.specs.declared.error.ElabErr.{ElabErr}
use Rattle.v_hierarchy.specs.declared.error.ElabErr.TheVariants as fault
use Rattle.v_hierarchy.specs.declared.left.Left.{Left}
use Rattle.v_hierarchy.specs.declared.signal.Signal.{Signal}
use Rattle.v_hierarchy.specs.Steps.{each, turned, placed}
use Rattle.v_hierarchy.specs.Constants.{bounds_if}
use Rattle.v_hierarchy.specs.Constants as whole
use Rattle.v_hierarchy.specs.Names.{Entry, integer, genvar, same_name, find, look_in}
use Rattle.v_hierarchy.specs.Parameters.{Given, given_at, kind_at}
use Rattle.v_hierarchy.specs.Headers.{directed_in, directed_in_all}
use Rattle.v_hierarchy.specs.Paths.{block_part, turn_part}
use Rattle.v_hierarchy.specs.Unrolled.{unrolled, at_turn, holds_at, begun, stepped, turns, most_turns}
use Rattle.v_hierarchy.specs.Instances.{children, made_by}
use Rattle.v_hierarchy.specs.Items.{Child, module_named, Copied, written, always, child, inner, turn, Copies, no_copy, copy, and_copy, Place, Met, frames, with_names, with_copy, ported, direction_of, net_of, named_as, outside_value, parameter_of, connections_fit, not_deeper, instance_of, unit_of, loop_genvar, turn_met, within, begins, scope_of, ends, chosen, block_of, turn_of, item, items, body_of}
use Rattle.bind_laws.specs.Every.{Every}
use Rattle.bind_laws.specs.OfText.{AreApart, DeclaratorOf, ItemOf, CopiesOf, CopiedOf}
use Rattle.bind_laws.specs.Written.{WrittenItem, WrittenBlock, WrittenItems, WrittenModule}
use Rattle.bind_laws.proofs.Steps.{Ok-same, Err-Ok, between, ended, each-keeps, turns-keep}
use Rattle.bind_laws.proofs.Grown.{IsPort, Grows, Declares, same-grows, then-grows}
use Rattle.bind_laws.proofs.Declaring.{every-weaker, every-append, every-map, directions-make, nets-make, integers-make, genvars-make, parameter-does, parameters-do, declarator-keeps}
use Rattle.bind_laws.proofs.Defaults.{unrolled-one}

-- ---- what was said of copies stays true in a scope that has more
item-keeps : (es after : List Entry) → Grows es after → (x : PlainItem) → ItemOf es x → ItemOf after x
item-keeps es after grows (net_item _ kind _ _ _ list) of = every-weaker (DeclaratorOf es kind) (DeclaratorOf after kind) (λ d one. declarator-keeps kind es after d grows one) list of
item-keeps es after grows (integer_item _ names) of =
    every-weaker (λ (name : Identifier). find name.name es ≡ Some integer) (λ name. find name.name after ≡ Some integer) (λ name one. grows.integers name.name one) names of
item-keeps es after grows (port_item _ _ _ _ _ _) of = tt
item-keeps es after grows (genvar_item _ _) of = tt
item-keeps es after grows (parameter_item _ _ _ _) of = tt
item-keeps es after grows (assign_item _ _ _) of = tt
item-keeps es after grows (gate_item _ _ _ _) of = tt
item-keeps es after grows (always_item _ _ _) of = tt
item-keeps es after grows (initial_item _ _) of = tt
item-keeps es after grows (instance_item _ _ _ _) of = tt
item-keeps es after grows (generate_item _ _) of = tt
item-keeps es after grows (loop_item _ _ _) of = tt
item-keeps es after grows (if_item _ _ _) of = tt
item-keeps es after grows (if_else_item _ _ _ _) of = tt

copied-keeps : (es after : List Entry) → Grows es after → (x : Copied) → CopiedOf es x → CopiedOf after x
copied-keeps es after grows (written x) of = item-keeps es after grows x of
copied-keeps es after grows (always _ _ body) of = of
copied-keeps es after grows (child _ _) of = of
copied-keeps es after grows (inner block) of = of
copied-keeps es after grows (turn _ _ block) of = of

copies-keep : (es after : List Entry) → Grows es after → (cs : Copies) → CopiesOf es cs → CopiesOf after cs
copies-keep es after grows no_copy of = tt
copies-keep es after grows (copy x rest) of = (copied-keeps es after grows x of.0, copies-keep es after grows rest of.1)

and_copy-of : (es : List Entry) (cs : Copies) (x : Copied) → CopiesOf es cs → CopiedOf es x → CopiesOf es (and_copy cs x)
and_copy-of es no_copy x all one = (one, tt)
and_copy-of es (copy y rest) x all one = (all.0, and_copy-of es rest x all.1 one)

-- ---- the modules of a text, and of the children that stand in a scope
abbrev pub AreWritten : List PlainModule → Type 0
AreWritten units = Every WrittenModule units

abbrev pub ChildOf : Child → Type 0
ChildOf c = WrittenModule c.«module»

pub module-written : (name : List ℕ) (units : List PlainModule) (m : PlainModule) → AreWritten units → module_named name units ≡ Some m → WrittenModule m
module-written name [] m all is = absurd (none-some m is)
module-written name (u ∷ us) m all is = by (same_name u.name.name name) (module-written name us m all.1) is
  where
    by : (same : Bool) → (module_named name us ≡ Some m → WrittenModule m) → (if same then Some u else module_named name us) ≡ Some m → WrittenModule m
    by true rest e = subst WrittenModule (Some-same e) all.0
    by false rest e = rest e

unit-written : (place : Place) (name : Identifier) (m : PlainModule) → AreWritten place.units → unit_of place name ≡ Ok m → WrittenModule m
unit-written place name m all = by (module_named name.name place.units) refl
  where
    by : (o : Option PlainModule) → module_named name.name place.units ≡ o
        → ◌≡◌ {A = Result PlainModule ElabErr} (elim o [ Some m ↦ Ok m | None ↦ Err (fault.UnknownModule name.site.span) ]) (Ok m) → WrittenModule m
    by (Some u) found e = module-written name.name place.units m all (found ∙ ap Some (Ok-same e))
    by None found e = Err-Ok e

children-and_copy : (cs : Copies) (x : Copied) → children (and_copy cs x) ≡ children cs ++ made_by x
children-and_copy no_copy x = append-nil (made_by x)
children-and_copy (copy y rest) x = ap (λ ds. made_by y ++ ds) (children-and_copy rest x) ∙ sym (append_assoc (made_by y) (children rest) (made_by x))

children-of : (cs : Copies) (x : Copied) → Every ChildOf (children cs) → Every ChildOf (made_by x) → Every ChildOf (children (and_copy cs x))
children-of cs x all one = subst (Every ChildOf) (sym (children-and_copy cs x)) (every-append ChildOf (children cs) (made_by x) all one)

-- ---- a run of steps
pub record Good (m : Met) : Type 0 where
  pub apart : AreApart m.names
  pub copies : CopiesOf m.names m.copies
  pub kids : Every ChildOf (children m.copies)

pub record Goes (m n : Met) : Type 0 where
  pub grows : Grows m.names n.names
  pub good : Good n

pub record Runs (directed : List (List ℕ)) (m n : Met) : Type 0 where
  pub goes : Goes m n
  pub ports : Every (IsPort n.names) directed

-- names that are declared, and nothing made
named : (m n : Met) (names : List Entry) → Good m → Declares m.names names → ◌≡◌ {A = Result Met ElabErr} (Ok (with_names m names)) (Ok n)
    → (ports : List (List ℕ)) → Every (IsPort names) ports → Runs ports m n
named m n names good does is ports all =
    ended (Runs ports m) (with_names m names) n is
    (record { goes = record { grows = does.grows; good = record { apart = does.apart good.apart; copies = copies-keep m.names names does.grows m.copies good.copies; kids = good.kids } }; ports = all })

-- names that are declared by an item that stays
stayed : (m n : Met) (names : List Entry) (x : PlainItem) → Good m → Declares m.names names → ItemOf names x
    → ◌≡◌ {A = Result Met ElabErr} (Ok (with_copy (with_names m names) (written x))) (Ok n) → Runs [] m n
stayed m n names x good does of is =
    ended (Runs [] m) (with_copy (with_names m names) (written x)) n is
    (record { goes = record { grows = does.grows; good = record { apart = does.apart good.apart; copies = and_copy-of names m.copies (written x) (copies-keep m.names names does.grows m.copies good.copies) of; kids = children-of m.copies (written x) good.kids tt } }; ports = tt })

-- one more copy, and no name
copied : (m : Met) (left : Left) (x : Copied) → Good m → CopiedOf m.names x → Every ChildOf (made_by x) → Goes m (with_copy (record { names = m.names; copies = m.copies; left = left }) x)
copied m left x good of kids =
    record { grows = same-grows m.names; good = record { apart = good.apart; copies = and_copy-of m.names m.copies x good.copies of; kids = children-of m.copies x good.kids kids } }

-- steps from a place on
goes-on : (m : Met) (step : Met → Result Met ElabErr) → ((a b : Met) → Good a → step a ≡ Ok b → Goes a b) → (a b : Met) → Goes m a → step a ≡ Ok b → Goes m b
goes-on m step goes a b before is = let next = goes a b before.good is in record { grows = then-grows before.grows next.grows; good = next.good }

here : (m : Met) → Good m → Goes m m
here m good = record { grows = same-grows m.names; good = good }

-- ---- module instances
instance-goes : (place : Place) (s : Site) (u : PlainModule) → WrittenModule u → (values : List Given) (i : PlainInstance) (m n : Met) → Good m → instance_of place s u values i m ≡ Ok n → Goes m n
instance-goes place s u unit values i m n good is =
    between (not_deeper place.levels i.name.site.span) _ n (Goes m n) is λ _ _ is.
    between (placed i.name.site.span m.left) _ n (Goes m n) is λ left _ is.
    between (connections_fit i.site.span u i.connections) _ n (Goes m n) is λ _ _ is.
    ended (Goes m) _ n is (copied m left _ good tt (unit, tt))

-- ---- generates
turn_met-goes : (span : Span) (m n : Met) → Good m → turn_met span m ≡ Ok n → Goes m n
turn_met-goes span m n good is =
    between (turned span m.left) _ n (Goes m n) is λ left _ is.
    ended (Goes m) (record { names = m.names; copies = m.copies; left = left }) n is
    (record { grows = same-grows m.names; good = record { apart = good.apart; copies = good.copies; kids = good.kids } })

-- what a body makes
abbrev Makes : (Place → Met → Result Met ElabErr) → Type 0
Makes body = (place : Place) (m n : Met) → AreWritten place.units → Good m → body place m ≡ Ok n → Goes m n

nothing-met : (left : Left) → Good (begins [] left)
nothing-met left = record { apart = tt; copies = tt; kids = tt }

block-goes : (body : Place → Met → Result Met ElabErr) → Makes body → (place : Place) (block : PlainBlock) (m n : Met) → AreWritten place.units → Good m → block_of body place block m ≡ Ok n → Goes m n
block-goes body makes place block m n units good is =
    let own = within place (block_part block) (frames place m) in
    between (body own (begins [] m.left)) _ n (Goes m n) is λ x first is.
    let inside = (makes own (begins [] m.left) x units (nothing-met m.left) first).good in
    ended (Goes m) (ends m x (inner (scope_of own x))) n is (copied m x.left (inner (scope_of own x)) good (inside.apart, inside.copies) inside.kids)

turn-goes : (body : Place → Met → Result Met ElabErr) → Makes body → (place : Place) (variable : Identifier) (block : PlainBlock) (scopes : List (List Entry))
    (value : Const) (m n : Met) → AreWritten place.units → Good m → turn_of body place variable block scopes value m ≡ Ok n → Goes m n
turn-goes body makes place variable block scopes value m n units good is =
    let own = within place (turn_part block (whole.integer value)) (at_turn variable value scopes) in
    between (body own (begins [] m.left)) _ n (Goes m n) is λ x first is.
    let inside = (makes own (begins [] m.left) x units (nothing-met m.left) first).good in
    ended (Goes m) (ends m x (turn variable value (scope_of own x))) n is
    (copied m x.left (turn variable value (scope_of own x)) good (inside.apart, inside.copies) inside.kids)

loop-goes : (body : Place → Met → Result Met ElabErr) → Makes body → (place : Place) (span : Span) (head : PlainHead) (block : PlainBlock) (scopes : List (List Entry))
    (first : Const × Bool) (m n : Met) → AreWritten place.units → Good m → turns most_turns span (turn_met span) (turn_of body place head.variable block scopes) (stepped scopes head) first m ≡ Ok n → Goes m n
loop-goes body makes place span head block scopes first m n units good is =
    turns-keep (Goes m) (λ _. ⊤) span (turn_met span) (turn_of body place head.variable block scopes) (stepped scopes head)
    (goes-on m (turn_met span) (turn_met-goes span))
    (λ value a b _ before e. goes-on m (turn_of body place head.variable block scopes value) (λ c d good e. turn-goes body makes place head.variable block scopes value c d units good e) a b before e)
    (λ value following _ e. tt) most_turns first.0 first.1 m n tt (here m good) is

chosen-goes : (one other : Met → Result Met ElabErr) → ((m n : Met) → Good m → one m ≡ Ok n → Goes m n) → ((m n : Met) → Good m → other m ≡ Ok n → Goes m n)
    → (holds : Bool) (m n : Met) → Good m → chosen holds one other m ≡ Ok n → Goes m n
chosen-goes one other first second true m n good is = first m n good is
chosen-goes one other first second false m n good is = second m n good is

no-ports : {m n : Met} → Goes m n → Runs [] m n
no-ports goes = record { goes = goes; ports = tt }

-- ---- items
mutual
  pub item-runs : (place : Place) (x : PlainItem) (m n : Met) → AreWritten place.units → WrittenItem x → Good m → item place x m ≡ Ok n → Runs (directed_in x) m n
  item-runs place (port_item _ direction kind signed range names) m n units as_written good is =
      between (bounds_if (look_in (frames place m)) range) _ n (Runs (map (λ name. name.name) names) m n) is λ b _ is.
      let s : Signal = record { direction = Some direction; kind = kind; signed = signed; bounds = b } in
      between (each (direction_of (ported place) s) names m.names) _ n (Runs (map (λ name. name.name) names) m n) is λ more second is.
      let made = directions-make (ported place) s refl names m.names more second in
      named m n more good made.does is (map (λ name. name.name) names) (every-map (λ (name : Identifier). name.name) (IsPort more) names made.are)
  item-runs place (net_item s kind signed range delay names) m n units as_written good is =
      between (bounds_if (look_in (frames place m)) range) _ n (Runs [] m n) is λ b _ is.
      let t : Signal = record { direction = None; kind = Some kind; signed = signed; bounds = b } in
      between (each (net_of t) names m.names) _ n (Runs [] m n) is λ more second is.
      let made = nets-make kind t names m.names more as_written second in
      stayed m n more (net_item s kind signed range delay names) good made.does made.are is
  item-runs place (integer_item s names) m n units as_written good is =
      between (each (named_as integer) names m.names) _ n (Runs [] m n) is λ more second is.
      let made = integers-make names m.names more second in
      stayed m n more (integer_item s names) good made.does made.are is
  item-runs place (genvar_item _ names) m n units as_written good is =
      between (each (named_as genvar) names m.names) _ n (Runs [] m n) is λ more second is.
      named m n more good (genvars-make names m.names more second) is [] tt
  item-runs place (parameter_item _ own type_of values) m n units as_written good is =
      between (kind_at (look_in (frames place m)) type_of) _ n (Runs [] m n) is λ kind _ is.
      between (each (parameter_of place own kind) values m.names) _ n (Runs [] m n) is λ more second is.
      named m n more good
      (parameters-do (parameter_of place own kind) (λ x es after e. parameter-does place.outer kind (outside_value place own x.name.name) x.name x.value es after e) values m.names more second)
      is [] tt
  item-runs place (assign_item s delay assignments) m n units as_written good is =
      no-ports (ended (Goes m) (with_copy m (written (assign_item s delay assignments))) n is (copied m m.left (written (assign_item s delay assignments)) good tt tt))
  item-runs place (gate_item s kind delay gates) m n units as_written good is =
      no-ports (ended (Goes m) (with_copy m (written (gate_item s kind delay gates))) n is (copied m m.left (written (gate_item s kind delay gates)) good tt tt))
  item-runs place (initial_item s body) m n units as_written good is =
      no-ports (ended (Goes m) (with_copy m (written (initial_item s body))) n is (copied m m.left (written (initial_item s body)) good tt tt))
  item-runs place (always_item s events body) m n units as_written good is =
      between (unrolled (frames place m) body m.left) _ n (Runs [] m n) is λ x first is.
      no-ports (ended (Goes m) (with_copy (record { names = m.names; copies = m.copies; left = x.1 }) (always s events x.0)) n is
      (copied m x.1 (always s events x.0) good (unrolled-one (frames place m) body m.left x as_written first) tt))
  item-runs place (instance_item s name parameters instances) m n units as_written good is =
      between (unit_of place name) _ n (Runs [] m n) is λ unit known is.
      between (given_at (look_in (frames place m)) unit parameters) _ n (Runs [] m n) is λ values _ is.
      no-ports (each-keeps (Goes m) (instance_of place s unit values)
      (λ i a b before e. goes-on m (instance_of place s unit values i) (λ c d good e. instance-goes place s unit (unit-written place name unit units known) values i c d good e) a b before e)
      instances m n (here m good) is)
  item-runs place (generate_item _ list) m n units as_written good is = items-run place list m n units as_written good is
  item-runs place (loop_item s head body) m n units as_written good is =
      between (loop_genvar (frames place m) head.variable) _ n (Runs [] m n) is λ _ _ is.
      between (begun (frames place m) head) _ n (Runs [] m n) is λ first _ is.
      no-ports (loop-goes (λ own. body_of own body) (λ own a b units good e. body-goes own body a b units as_written good e) place s.span head body (frames place m) first m n units good is)
  item-runs place (if_item _ condition on_true) m n units as_written good is =
      between (holds_at (frames place m) condition) _ n (Runs [] m n) is λ holds _ is.
      no-ports (chosen-goes (block_of (λ own. body_of own on_true) place on_true) (λ same. Ok same)
      (λ a b good e. block-goes (λ own. body_of own on_true) (λ own c d units good e. body-goes own on_true c d units as_written good e) place on_true a b units good e)
      (λ a b good e. ended (Goes a) a b e (here a good)) holds m n good is)
  item-runs place (if_else_item _ condition on_true other) m n units as_written good is =
      between (holds_at (frames place m) condition) _ n (Runs [] m n) is λ holds _ is.
      no-ports (chosen-goes (block_of (λ own. body_of own on_true) place on_true) (block_of (λ own. body_of own other) place other)
      (λ a b good e. block-goes (λ own. body_of own on_true) (λ own c d units good e. body-goes own on_true c d units as_written.0 good e) place on_true a b units good e)
      (λ a b good e. block-goes (λ own. body_of own other) (λ own c d units good e. body-goes own other c d units as_written.1 good e) place other a b units good e) holds m n good is)

  pub items-run : (place : Place) (xs : Items) (m n : Met) → AreWritten place.units → WrittenItems xs → Good m → items place xs m ≡ Ok n → Runs (directed_in_all xs) m n
  items-run place no_items m n units as_written good is = ended (Runs [] m) m n is (record { goes = here m good; ports = tt })
  items-run place (more_items x xs) m n units as_written good is =
      between (item place x m) (items place xs) n (Runs (directed_in x ++ directed_in_all xs) m n) is λ p first is.
      let one = item-runs place x m p units as_written.0 good first in
      let others = items-run place xs p n units as_written.1 one.goes.good is in
      record {
        goes = record { grows = then-grows one.goes.grows others.goes.grows; good = others.goes.good };
        ports = every-append (IsPort n.names) (directed_in x) (directed_in_all xs)
            (every-weaker (IsPort p.names) (IsPort n.names) (λ q one. others.goes.grows.ports q one) (directed_in x) one.ports) others.ports;
      }

  body-goes : (place : Place) (b : PlainBlock) (m n : Met) → AreWritten place.units → WrittenBlock b → Good m → body_of place b m ≡ Ok n → Goes m n
  body-goes place (single _ x) m n units as_written good is = (item-runs place x m n units as_written good is).goes
  body-goes place (several _ _ xs) m n units as_written good is = (items-run place xs m n units as_written good is).goes
